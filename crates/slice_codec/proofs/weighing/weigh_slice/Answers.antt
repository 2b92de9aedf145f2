use Rattle.std.proofs.Common.{refl, sym}
use Rattle.slice_codec.specs.Codings.{setup_of}
use Rattle.slice_codec.proofs.weighing.weigh_slice.Goals as goal

pub returns-clause-weighed : goal.returns-clause-weighed
returns-clause-weighed c =
    let setup = setup_of c.args.coding.now in
    let same = sym c.args.coding.now.scan in
    record {
      y_weighed = c.weigh.ensures.weighed setup refl refl;
      cb_weighed = c.weigh-2.ensures.weighed setup same refl;
      cr_weighed = c.weigh-3.ensures.weighed setup same refl;
    }

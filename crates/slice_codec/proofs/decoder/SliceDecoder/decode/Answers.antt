use Rattle.slice_codec.specs.Views.{as_setup}
use Rattle.slice_codec.specs.laws.SliceLaws.{refused_slices_mean_nothing}
use Rattle.slice_codec.proofs.decoder.SliceDecoder.decode.Goals as goal

pub returns-in-Err-clause-accepted : goal.returns-in-Err-clause-accepted
returns-in-Err-clause-accepted c = λ samples means.
    absurd (refused_slices_mean_nothing (as_setup c.args.self.now.setup) c.args.count c.args.bytes.now c.in-Err.fault samples c.in-Err.ensures.refused means)

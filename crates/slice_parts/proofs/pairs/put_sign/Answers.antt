use Rattle.std.proofs.Common.{◌≡◌, sym, ◌∙◌, arith}
use Rattle.prores_scan.specs.ScaledLevels.{signed_of}
use Rattle.slice_parts.specs.Pairs.{sign_bit}
use Rattle.slice_parts.proofs.PairLemmas.{one_bit}
use Rattle.slice_parts.proofs.NumberLemmas.{signed_is}
use Rattle.slice_parts.proofs.pairs.put_sign.Goals as goal

pub returns-clause-accepted : goal.returns-clause-accepted
returns-clause-accepted c = λ s e. rw e c.put.ensures.accepted

pub returns-clause-spelled : goal.returns-clause-spelled
returns-clause-spelled c =
    let v : sign_bit (signed_of c.args.number) ≡ c.from.result = (signed_is c.args.number c.requires).sign ∙ sym c.from.ensures in
    let b = one_bit c.from.result (omega (arith, c.from.ensures)) in
    λ s e. rw (e, v, sym b) c.put.ensures.put

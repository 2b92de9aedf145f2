use Rattle.frame_codec.proofs.OneRefusalLemmas as laws
use Rattle.frame_codec.proofs.laws.refusals_are_one.Goals as goal

pub returns : goal.returns
returns c =
    let law = c.refusals_are_exact.ensures in
    laws.frame_refusals_are_one (record { none = law.none; one = law.one; frame = law.frame })

use Rattle.std.proofs.Common.{ℕ, List, Option, ap, ◌∙◌}
use Rattle.mxf_metadata_check.specs.inner.Held.{lesser, sets_held}
use Rattle.mxf_metadata_check.proofs.Joined.{all_wrong}
use Rattle.mxf_op1a.specs.Metadata.{SetAt}
use Rattle.mxf_metadata_check.proofs.judging.least_wrong.Goals as goal

pub returns : goal.returns
returns c = λ tags table.
    let all : List SetAt = sets_held c.args.bytes.now c.args.sets.now in
    c.lesser-3.ensures
    ∙ ap (λ (o : Option ℕ). lesser o c.in_ok-clip.clip) (c.lesser-2.ensures ∙ ap (λ (o : Option ℕ). lesser o c.in_ok-file.file) c.lesser.ensures)
    ∙ all_wrong tags all c.least_unsound-unsound.result c.in_ok-material.material c.in_ok-file.file c.in_ok-clip.clip
    (c.least_unsound-unsound.ensures tags all table c.in_ok-firsts.ensures) c.in_ok-material.ensures c.in_ok-file.ensures c.in_ok-clip.ensures

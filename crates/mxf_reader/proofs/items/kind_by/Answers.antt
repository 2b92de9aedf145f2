use Rattle.std.proofs.Common.{ℕ, List, sym, ap, ◌∙◌}
use Rattle.mxf_op1a.specs.Contents.{content_by_key}
use Rattle.mxf_reader.specs.inner.Marks.{kind_of}
use Rattle.mxf_reader.proofs.MarkLemmas.{content_by, content_is_pack, refused_none}
use Rattle.mxf_reader.proofs.items.kind_by.Goals as goal

pub returns-in-Ok : goal.returns-in-Ok
returns-in-Ok c = λ item f. sym (ap kind_of (content_is_pack item c.in-Ok.pack (c.in-Ok.ensures.read item f)))

pub returns-in-Err : goal.returns-in-Err
returns-in-Err c =
    λ item f.
    c.kind_of_key.ensures
    ∙ ap (λ (key : List ℕ). kind_of (content_by_key key)) (sym f.key_is)
    ∙ sym (ap kind_of (content_by item (refused_none item c.in-Err.field-0 (c.in-Err.ensures.refused item f))))

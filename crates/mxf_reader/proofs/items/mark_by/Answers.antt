use Rattle.std.proofs.Common.{List, ℕ, sym, ap, ◌∙◌}
use Rattle.std.specs.Str.{bytes_eq}
use Rattle.mxf_names.specs.declared.keys.TheConstants.{PICTURE_ELEMENT_KEY}
use Rattle.mxf_reader.proofs.items.mark_by.Goals as goal

pub returns-clause-mark : goal.returns-clause-mark
returns-clause-mark g c =
    λ told is item stands key value_at value_len.
    let kind = c.in_ok-kind.ensures.kind told c.args.at is item stands key value_at value_len in
    let picture = c.is_picture_key.ensures ∙ ap (λ (k : List ℕ). bytes_eq k PICTURE_ELEMENT_KEY) (sym key) in
    λ i. record { at = c.args.at; kind = kind i; is_picture = picture i; value_at = value_at i; value_len = value_len i }

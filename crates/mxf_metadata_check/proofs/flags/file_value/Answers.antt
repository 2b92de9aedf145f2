use Rattle.std.proofs.Common.{ℕ, List, ◌∷◌, sym, ap, ◌∙◌}
use Rattle.local_sets.specs.Reads.{items_in}
use Rattle.mxf_metadata.specs.declared.labels.TheConstants.{FILE_SET}
use Rattle.mxf_metadata.specs.declared.tags.TheConstants.{PACKAGE_ID, SOURCE_PACKAGE_ID}
use Rattle.mxf_metadata_reader.specs.References.{first_value}
use Rattle.mxf_metadata_check.specs.declared.outline.Held.{Held}
use Rattle.mxf_metadata_check.specs.inner.Held.{sets_held}
use Rattle.mxf_metadata_check.proofs.Filed.{file_more, file_none, file_one}
use Rattle.mxf_metadata_check.proofs.Numbered.{nth_held}
use Rattle.mxf_op1a.specs.Metadata.{SetAt, all_of_kind, are_same, value_of}
use Rattle.mxf_metadata_check.proofs.flags.file_value.Goals as goal

pub returns-in-None : goal.returns-in-None
returns-in-None c = λ clip.
    file_none (all_of_kind FILE_SET (sets_held c.args.bytes.now c.args.sets.now)) clip (c.in-None.ensures.next c.args.bytes.now)

pub returns-in-None-next_of_kind : goal.returns-in-None-next_of_kind
returns-in-None-next_of_kind c = λ clip.
    let d : Held = record { at = 0; kind = 0; value_at = 0; value_len = 0 } in
    let bytes : List ℕ = c.args.bytes.now in
    let all : List SetAt = sets_held bytes c.args.sets.now in
    let first = c.in-Some.ensures.next bytes in
    let none = c.in-None-next_of_kind.ensures.next bytes in
    file_one (all_of_kind FILE_SET all) first.0 clip (first.2 ∙ ap (λ (xs : List SetAt). first.0 ∷ xs) none)
    ∙ ap (λ (s : SetAt). are_same (value_of PACKAGE_ID s) (value_of SOURCE_PACKAGE_ID clip)) (sym (nth_held bytes c.args.sets.now c.in-Some.k first.0 d first.1))
    ∙ ap (λ (xs : List ℕ). are_same (first_value PACKAGE_ID (items_in xs)) (value_of SOURCE_PACKAGE_ID clip)) (sym c.held_value.ensures)

pub returns-in-Some-next_of_kind : goal.returns-in-Some-next_of_kind
returns-in-Some-next_of_kind c = λ clip.
    let bytes : List ℕ = c.args.bytes.now in
    let all : List SetAt = sets_held bytes c.args.sets.now in
    let first = c.in-Some.ensures.next bytes in
    let second = c.in-Some-next_of_kind.ensures.next bytes in
    file_more (all_of_kind FILE_SET all) first.0 second.0 _ clip (first.2 ∙ ap (λ (xs : List SetAt). first.0 ∷ xs) second.2)

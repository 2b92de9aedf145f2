use Rattle.std.proofs.Common.{ℕ, List, Option, get_or, sym, ap, ◌∙◌, arith}
use Rattle.local_sets.specs.Reads.{items_in}
use Rattle.mxf_metadata_reader.specs.References.{first_value}
use Rattle.mxf_metadata_check.specs.declared.outline.Held.{Held}
use Rattle.mxf_metadata_check.specs.inner.Held.{set_held, sets_held}
use Rattle.mxf_metadata_check.proofs.Numbered.{held_long, held_nth, map_end, map_more}
use Rattle.mxf_metadata.specs.declared.labels.TheConstants.{FILE_SET}
use Rattle.mxf_metadata.specs.declared.tags.TheConstants.{SOURCE_PACKAGE_ID}
use Rattle.mxf_metadata_reader.specs.inner.Places.{value_of}
use Rattle.mxf_op1a.specs.Metadata.{SetAt, all_of_kind, are_same, is_of_file}
use Rattle.mxf_metadata_check.proofs.flags.of_files.Goals as goal

pub loop-k-preserved : goal.loop-k-preserved
loop-k-preserved c =
    let d : Held = record { at = 0; kind = 0; value_at = 0; value_len = 0 } in
    let bytes : List ℕ = c.args.bytes.now in
    let all : List SetAt = sets_held bytes c.args.sets.now in
    let k : ℕ = c.loop-k.k in
    let clip : SetAt = set_held bytes (get_or c.args.sets.now k d) in
    let nth = held_nth bytes c.args.sets.now k d c.loop-k-test.true in
    let file : List ℕ = c.file_value-file.result.now in
    let v = c.is_of_file.ensures
    ∙ ap (λ (xs : List ℕ). are_same (value_of file c.find_item-own.result) (first_value SOURCE_PACKAGE_ID (items_in xs))) c.held_value.ensures
    ∙ ap (λ (o : Option (List ℕ)). are_same o (first_value SOURCE_PACKAGE_ID clip.set.items)) c.find_item-own.ensures.first
    ∙ sym (c.file_value-file.ensures clip) in
    c.in_ok-push.ensures.items
    ∙ map_more (is_of_file (all_of_kind FILE_SET all)) all k clip c.loop-k.flags.items _ nth c.loop-k.invariant v

pub returns : goal.returns
returns c =
    let all : List SetAt = sets_held c.args.bytes.now c.args.sets.now in
    let past = c.loop-k-test.false in
    map_end (is_of_file (all_of_kind FILE_SET all)) all c.loop-k.k c.loop-k.flags.items (omega (arith, held_long c.args.bytes.now c.args.sets.now, past)) c.loop-k.invariant

use Rattle.std.proofs.Common.{◌==◌, ℕ, List, length, get_or, sym, ap, ◌∙◌, arith}
use Rattle.local_sets.specs.Reads.{items_in}
use Rattle.mxf_metadata_reader.specs.References.{first_value}
use Rattle.mxf_metadata_check.specs.declared.outline.Held.{Held}
use Rattle.mxf_metadata_check.specs.inner.Held.{set_held, sets_held}
use Rattle.mxf_metadata_check.proofs.Numbered.{held_long, held_nth, map_end, map_more}
use Rattle.mxf_metadata.specs.declared.labels.TheConstants.{CLIP_SET}
use Rattle.mxf_metadata.specs.declared.tags.TheConstants.{STRUCTURAL_COMPONENTS}
use Rattle.mxf_metadata_check.specs.inner.Chain.{with_ids}
use Rattle.mxf_op1a.specs.Metadata.{SetAt, has_one_clip, ids_in_value}
use Rattle.mxf_metadata_check.proofs.flags.one_clips.Goals as goal

pub loop-k-preserved : goal.loop-k-preserved
loop-k-preserved c =
    let d : Held = record { at = 0; kind = 0; value_at = 0; value_len = 0 } in
    let bytes : List ℕ = c.args.bytes.now in
    let all : List SetAt = sets_held bytes c.args.sets.now in
    let k : ℕ = c.loop-k.k in
    let nth = held_nth bytes c.args.sets.now k d c.loop-k-test.true in
    let v = ap (λ (n : ℕ). n == 1) (c.count_with.ensures bytes c.requires.firsts
    ∙ ap (λ (ids : List (List ℕ)). length (with_ids all CLIP_SET ids))
    (sym c.ids_at-ids.ensures ∙ ap (λ (xs : List ℕ). ids_in_value STRUCTURAL_COMPONENTS (first_value STRUCTURAL_COMPONENTS (items_in xs))) c.held_value.ensures)) in
    c.in_ok-push.ensures.items
    ∙ map_more (has_one_clip all) all k (set_held bytes (get_or c.args.sets.now k d)) c.loop-k.flags.items _ nth c.loop-k.invariant v

pub returns : goal.returns
returns c =
    let all : List SetAt = sets_held c.args.bytes.now c.args.sets.now in
    let past = c.loop-k-test.false in
    map_end (has_one_clip all) all c.loop-k.k c.loop-k.flags.items (omega (arith, held_long c.args.bytes.now c.args.sets.now, past)) c.loop-k.invariant

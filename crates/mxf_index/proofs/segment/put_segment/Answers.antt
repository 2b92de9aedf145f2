use Rattle.std.proofs.Common.{◌≡◌, ℕ, List, [], ◌∷◌, ◌+◌, ◌*◌, ◌++◌, length, map, refl, sym, ap, ◌∙◌, arith}
use Rattle.klv.specs.Items.{klv_head}
use Rattle.klv.specs.laws.Lengths.{length-klv_head}
use Rattle.rec_bytes.specs.Places.{with_bytes}
use Rattle.rec_bytes.specs.Views.{view}
use Rattle.local_sets.specs.Sets.{items_bytes}
use Rattle.mxf_index.specs.Segments.{Segment, closing_items, delta_array, delta_of_picture, entry_array, entry_of_frame, index_segment, opening_items, segment_of, segment_value}
use Rattle.mxf_index.specs.laws.Lengths.{length-id, length-opening, length-array, length-items}
use Rattle.mxf_names.specs.declared.keys.TheConstants.{INDEX_SEGMENT_KEY}
use Rattle.mxf_index.specs.declared.segment.TheConstants.{ITEMS_LEN}
use Rattle.mxf_index.specs.declared.tags.TheConstants.{ENTRY_SIZE}
use Rattle.mxf_index.proofs.WriteLemmas.{five}
use Rattle.mxf_index.proofs.segment.put_segment.Goals as goal

pub returns-clause-written : goal.returns-clause-written
unfolding index_segment
returns-clause-written c =
    let a = c.args in
    let streams : List ℕ = a.streams.now in
    let old : List ℕ = a.out.now in
    let s : Segment = segment_of (view a.cfg.now) a.ids.now a.first streams in
    let len : ℕ = ITEMS_LEN + ENTRY_SIZE * length streams in
    let head = c.put_klv_head_at-opening_at in
    let opening = c.put_opening-deltas_at in
    let deltas = c.put_deltas-entries_at in
    let entries = c.put_entry_array-closing_at in
    let long : length a.ids.now.index ≡ 8 = opening.ensures.sized in
    let size_1 = length-klv_head INDEX_SEGMENT_KEY 3 len refl in
    let size_2 = length-opening s (length-id a.ids.now a.first long) in
    let size_4 = length-array streams in
    let at_1 = head.ensures.behind in
    let at_2 = opening.ensures.behind in
    let at_3 = deltas.ensures.behind in
    let at_4 = entries.ensures.behind in
    five old (klv_head INDEX_SEGMENT_KEY 3 len) (items_bytes (opening_items s)) (delta_array (delta_of_picture ∷ [])) (entry_array (map entry_of_frame streams)) (items_bytes closing_items)
    head.new.out opening.new.out deltas.new.out entries.new.out c.put_closing.new.out head.result opening.result deltas.result entries.result
    (omega (arith, size_1, at_1)) (omega (arith, size_2, at_2)) at_3 (omega (arith, size_4, at_4)) (omega (arith, at_1, at_2, at_3, at_4, c.requires.room))
    head.ensures.written opening.ensures.written deltas.ensures.written entries.ensures.written c.put_closing.ensures.written
    ∙ ap (λ (n : ℕ). with_bytes old 0 (klv_head INDEX_SEGMENT_KEY 3 n ++ segment_value s)) (sym (length-items (view a.cfg.now) a.ids.now a.first streams long))

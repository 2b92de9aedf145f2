use Rattle.std.proofs.Common.{◌≡◌, ◌+◌, ◌-◌, ◌==◌, ◌≤◌, ◌<◌, ℕ, List, Some, None, length, map, filter, drop, get_or, if◌then◌else◌}
use Rattle.std.proofs.Common.{refl, sym, ap, ◌∙◌, arith}
use Rattle.std.proofs.lemmas.List.{length-map}
use Rattle.mxf_index.specs.Reads.{frames_of}
use Rattle.mxf_op1a.specs.Clauses.{broken_9, stream_offsets}
use Rattle.mxf_op1a.specs.Contents.{Placed, is_segment, placed_from}
use Rattle.mxf_op1a.specs.Partitions.{being, file_of, parts}
use Rattle.mxf_op1a.specs.Whole.{StandsIn}
use Rattle.take_disk.specs.laws.TimeLaws.{elapsed_more}
use Rattle.take_layout.specs.declared.place.Place.{Place}
use Rattle.mxf_reader.specs.declared.mark.Mark.{Mark}
use Rattle.mxf_reader.specs.inner.Index.{added, streams_of}
use Rattle.mxf_reader.specs.inner.Marks.{mark_of}
use Rattle.mxf_reader.proofs.BodyStreamLemmas.{element_streams}
use Rattle.mxf_reader.proofs.ItemLemmas.{at_is}
use Rattle.mxf_reader.proofs.SegmentLemmas.{filter_all, left_are, left_few, no_item, segment_breaks, segment_marked}
use Rattle.mxf_reader.proofs.SegmentLemmas.{segment_next, segments_end}
use Rattle.mxf_reader.proofs.index.clause_9.Goals as goal

pub loop-m-preserved : goal.loop-m-preserved
loop-m-preserved g c =
    let before = c.loop-m.invariant in
    let count : ℕ = c.loop-m.count in
    let entries : ℕ = c.in-Some.entries in
    let es : List Place = c.args.file.now.elements.items in
    let left : List Place = c.elements_from.result.now in
    let left_is : left ≡ drop count es = c.elements_from.ensures ∙ ap (drop count) c.deref.ensures.value in
    let step = c.entries_at.ensures in
    record {
      few = left_few es left count entries left_is before.few (rw c.in-Some.is at c.in_ok-more.ensures.few);
      left = λ told is ps each marks.
          let ms : List Mark = c.deref-m-items.result.now in
          let k : ℕ = c.loop-m.m-index in
          let same : ms ≡ map mark_of ps = c.deref-m-items.ensures.value ∙ marks in
          let low : k < length ps = omega (arith, c.loop-m-test.true, ap length same, length-map ps mark_of) in
          let mark = segment_marked told.essence.reads ms ps k same each c.loop-m-test.true in
          let joins : Some entries ≡ added count (drop count (streams_of es)) (frames_of (get_or ps k no_item).item) =
          sym c.in-Some.is ∙ c.in_ok-more.ensures.added told (before.stays.same ∙ is) (get_or ps k no_item) mark
          ∙ ap (λ (xs : List ℕ). added count xs (frames_of (get_or ps k no_item).item)) (left_are es left count left_is) in
          before.left told is ps each marks
          ∙ segment_next c.args.file.now.len count entries (count + entries) k (streams_of es) ps low refl joins;
      faults = c.in_ok-more.ensures.cause ∙ before.faults;
      stays = record { same = step.stays.same ∙ before.stays.same; lengths = λ area. step.stays.lengths area ∙ before.stays.lengths area };
      time = elapsed_more _ _ _ _ _ _ _ _ _ before.time step.time;
    }

pub returns-in-None-clause-broken : goal.returns-in-None-clause-broken
returns-in-None-clause-broken g c =
    λ told is seen kept.
    let before = c.loop-m.invariant in
    let count : ℕ = c.loop-m.count in
    let es : List Place = c.args.file.now.elements.items in
    let left : List Place = c.elements_from.result.now in
    let left_is : left ≡ drop count es = c.elements_from.ensures ∙ ap (drop count) c.deref.ensures.value in
    let len : ℕ = c.args.file.now.len in
    let items : List Placed = placed_from 0 seen.outline.items in
    let ps : List Placed = filter (being is_segment) items in
    let stand = c.items_stand_at_their_places.ensures.stand told.essence.reads seen.outline in
    let each = filter_all (StandsIn told.essence.reads) (being is_segment) items stand in
    let offsets : streams_of es ≡ stream_offsets 0 (file_of (parts len items)).bodies = seen.seen.streams ∙ element_streams len items kept in
    let ms : List Mark = c.deref-m-items.result.now in
    let k : ℕ = c.loop-m.m-index in
    let same : ms ≡ map mark_of ps = c.deref-m-items.ensures.value ∙ seen.seen.segments in
    let low : k < length ps = omega (arith, c.loop-m-test.true, ap length same, length-map ps mark_of) in
    let mark = segment_marked told.essence.reads ms ps k same each c.loop-m-test.true in
    let breaks : None ≡ added count (drop count (streams_of es)) (frames_of (get_or ps k no_item).item) =
    sym c.in-None.is ∙ c.in_ok-more.ensures.added told (before.stays.same ∙ is) (get_or ps k no_item) mark
    ∙ ap (λ (xs : List ℕ). added count xs (frames_of (get_or ps k no_item).item)) (left_are es left count left_is) in
    ap (λ (at : ℕ). Some at) (at_is told.essence.reads _ (get_or ps k no_item) mark)
    ∙ sym (before.left told is ps each seen.seen.segments ∙ segment_breaks len count k (streams_of es) ps low breaks)
    ∙ ap (λ (xs : List ℕ). broken_9 len 0 xs ps) offsets

pub returns-clause-broken : goal.returns-clause-broken
returns-clause-broken g c =
    λ told is seen kept.
    let before = c.loop-m.invariant in
    let count : ℕ = c.loop-m.count in
    let es : List Place = c.args.file.now.elements.items in
    let len : ℕ = c.args.file.now.len in
    let items : List Placed = placed_from 0 seen.outline.items in
    let ps : List Placed = filter (being is_segment) items in
    let stand = c.items_stand_at_their_places.ensures.stand told.essence.reads seen.outline in
    let each = filter_all (StandsIn told.essence.reads) (being is_segment) items stand in
    let offsets : streams_of es ≡ stream_offsets 0 (file_of (parts len items)).bodies = seen.seen.streams ∙ element_streams len items kept in
    let same : c.deref-m-items.result.now ≡ map mark_of ps = c.deref-m-items.ensures.value ∙ seen.seen.segments in
    let high : length ps ≤ c.loop-m.m-index = omega (arith, c.loop-m-test.false, ap length same, length-map ps mark_of) in
    let size = c.len.ensures in
    let total : c.len.result - count ≡ length (streams_of es) - count = omega (arith, length-map es (λ (place : Place). place.stream)) in
    c.end_broken.ensures
    ∙ ap (λ (n : ℕ). if n == 0 then None else Some len) total
    ∙ sym (before.left told is ps each seen.seen.segments ∙ segments_end len count c.loop-m.m-index (streams_of es) ps high)
    ∙ ap (λ (xs : List ℕ). broken_9 len 0 xs ps) offsets

-- What is kept lies inside the file.
use Rattle.std.proofs.Common.{◌≡◌, ℕ, ◌+◌, ◌≤◌, List, [], ◌∷◌, ◌++◌, Option, Some, None, refl, sym, subst, arith}
use Rattle.std.specs.List.{AllByRecursion}
use Rattle.take_layout.specs.declared.place.Place.{Place}
use Rattle.mxf_reader.specs.declared.file.SeenFile.{SeenFile}
use Rattle.mxf_reader.specs.declared.items.Walked.{Walked}
use Rattle.mxf_reader.specs.declared.mark.Kind.{Kind}
use Rattle.mxf_reader.specs.declared.mark.Kind.TheVariants.{Filler, PartitionPack, PrimerPack, MetadataSet, IndexSegment, RandomIndexPack, EssenceElement, Unknown}
use Rattle.mxf_reader.specs.declared.mark.Mark.{Mark}
use Rattle.mxf_reader.specs.declared.part.SeenPart.{SeenPart}
use Rattle.mxf_reader.specs.declared.seen.Seen.{Seen}
use Rattle.mxf_reader.specs.inner.Files.{IsClosed}
use Rattle.mxf_reader.specs.inner.Inside.{IsGoingWithin, IsInside, IsLastInside, IsMarkInside, IsPartInside, IsPlaceInside, IsRunWithin, IsSeenInside}
use Rattle.mxf_reader.specs.inner.Kept.{element_by, element_of, last_by, segment_by, segment_of}
use Rattle.mxf_reader.specs.inner.Parts.{closed_at, closed_one, end_next, first_of, item_next, pack_closes, pack_next, primer_place, sets_end}
use Rattle.mxf_reader.proofs.KeptLemmas.{IsNext}

-- all of these and all of those
all_joined : {A : Type 0} (P : A → Type 0) (xs ys : List A) → AllByRecursion P xs → AllByRecursion P ys → AllByRecursion P (xs ++ ys)
all_joined P [] ys h g = g
all_joined P (x ∷ xs) ys h g = (h.0, all_joined P xs ys h.1 g)

-- all of these are those, where each is
all_so : {A : Type 0} (P Q : A → Type 0) → ((x : A) → P x → Q x) → (xs : List A) → AllByRecursion P xs → AllByRecursion Q xs
all_so P Q f [] h = tt
all_so P Q f (x ∷ xs) h = (f x h.0, all_so P Q f xs h.1)

-- what lies before a place lies before a later one
mark_later : (at end : ℕ) → at ≤ end → (m : Mark) → IsMarkInside at m → IsMarkInside end m
mark_later at end le m h = let last = h.end in record { value = h.value; end = omega arith }

-- the same of a partition
part_later : (at end : ℕ) → at ≤ end → (p : SeenPart) → IsPartInside at p → IsPartInside end p
part_later at end le p h = let last = h.end in record { end = omega arith; metadata = h.metadata }

-- the same of an element
place_later : (at end : ℕ) → at ≤ end → (p : Place) → IsPlaceInside at p → IsPlaceInside end p
place_later at end le p h = omega arith

-- the same of the last item
last_later : (at end : ℕ) → at ≤ end → (o : Option Mark) → IsLastInside at o → IsLastInside end o
last_later at end le None h = tt
last_later at end le (Some m) h = mark_later at end le m h

-- the same of a run
run_later : (at end : ℕ) → at ≤ end → (first until : Option ℕ) → IsRunWithin at first until → IsRunWithin end first until
run_later at end le None until h = h
run_later at end le (Some a) None h = omega arith
run_later at end le (Some a) (Some b) h = (h.0, omega (arith, h.1))

-- a place that may be is this
abbrev IsHere : ℕ → Option ℕ → Type 0
IsHere at None = Unit {0}
IsHere at (Some place) = place ≡ at

-- a primer's place is its own
primer_here : (k : Kind) (at : ℕ) → IsHere at (primer_place k at)
primer_here PrimerPack at = refl
primer_here Filler at = tt
primer_here (PartitionPack pack) at = tt
primer_here MetadataSet at = tt
primer_here IndexSegment at = tt
primer_here RandomIndexPack at = tt
primer_here EssenceElement at = tt
primer_here Unknown at = tt

-- so is that of what ends its sets
sets_here : (k : Kind) (at : ℕ) → IsHere at (sets_end k at)
sets_here PrimerPack at = refl
sets_here Filler at = tt
sets_here (PartitionPack pack) at = refl
sets_here MetadataSet at = tt
sets_here IndexSegment at = refl
sets_here RandomIndexPack at = refl
sets_here EssenceElement at = refl
sets_here Unknown at = refl

-- a run with one more item
run_next : (at end : ℕ) (first until place next : Option ℕ) → at ≤ end → IsRunWithin at first until → IsHere at place → IsHere at next
    → IsRunWithin end (first_of first place) (end_next first until next)
run_next at end None until None next le h p n = refl
run_next at end None until (Some x) next le h p n = omega arith
run_next at end (Some a) None place None le h p n = omega arith
run_next at end (Some a) None place (Some x) le h p n = (omega arith, omega arith)
run_next at end (Some a) (Some b) place next le h p n = (h.0, omega (arith, h.1))

-- the partition that goes on, with one more item
item_inside : (so : Option SeenPart) (m : Mark) (end : ℕ) → m.at ≤ end → IsGoingWithin m.at so → IsGoingWithin end (item_next so m)
item_inside None m end le h = tt
item_inside (Some p) m end le h =
    run_next m.at end p.primer p.primer_end (primer_place m.kind m.at) (sets_end m.kind m.at) le h (primer_here m.kind m.at) (sets_here m.kind m.at)

-- the same by what the item is
going_inside : (k : Kind) (so : Option SeenPart) (m : Mark) (end : ℕ) → m.at ≤ end → IsGoingWithin m.at so → IsGoingWithin end (pack_next k so m)
going_inside (PartitionPack pack) so m end le h = refl
going_inside Filler so m end le h = item_inside so m end le h
going_inside PrimerPack so m end le h = item_inside so m end le h
going_inside MetadataSet so m end le h = item_inside so m end le h
going_inside IndexSegment so m end le h = item_inside so m end le h
going_inside RandomIndexPack so m end le h = item_inside so m end le h
going_inside EssenceElement so m end le h = item_inside so m end le h
going_inside Unknown so m end le h = item_inside so m end le h

-- a partition that ends at a place
ended_inside : (at end : ℕ) (so : Option SeenPart) → at ≤ end → IsGoingWithin at so → AllByRecursion (IsPartInside end) (closed_at end so)
ended_inside at end None le h = tt
ended_inside at end (Some p) le h = (record { end = omega arith; metadata = run_later at end le p.primer p.primer_end h }, tt)

-- the partition that an item ends
closed_inside : (k : Kind) (so : Option SeenPart) (at : ℕ) → IsGoingWithin at so → AllByRecursion (IsPartInside at) (pack_closes k so at)
closed_inside (PartitionPack pack) so at h = ended_inside at at so (omega arith) h
closed_inside Filler so at h = tt
closed_inside PrimerPack so at h = tt
closed_inside MetadataSet so at h = tt
closed_inside IndexSegment so at h = tt
closed_inside RandomIndexPack so at h = tt
closed_inside EssenceElement so at h = tt
closed_inside Unknown so at h = tt

-- what is kept of an element
element_inside : (k : Kind) (so : Option SeenPart) (m : Mark) → AllByRecursion (IsPlaceInside (m.value_at + m.value_len)) (element_by k so m)
element_inside EssenceElement so m = (omega arith, tt)
element_inside Filler so m = tt
element_inside (PartitionPack pack) so m = tt
element_inside PrimerPack so m = tt
element_inside MetadataSet so m = tt
element_inside IndexSegment so m = tt
element_inside RandomIndexPack so m = tt
element_inside Unknown so m = tt

-- an item ends where its value does
mark_inside : (m : Mark) → m.at ≤ m.value_at → IsMarkInside (m.value_at + m.value_len) m
mark_inside m le = record { value = le; end = omega arith }

-- what is kept of a segment
segment_inside : (k : Kind) (m : Mark) → m.at ≤ m.value_at → AllByRecursion (IsMarkInside (m.value_at + m.value_len)) (segment_by k m)
segment_inside IndexSegment m le = (mark_inside m le, tt)
segment_inside Filler m le = tt
segment_inside (PartitionPack pack) m le = tt
segment_inside PrimerPack m le = tt
segment_inside MetadataSet m le = tt
segment_inside RandomIndexPack m le = tt
segment_inside EssenceElement m le = tt
segment_inside Unknown m le = tt

-- what is kept of the last item
last_inside : (k : Kind) (o : Option Mark) (m : Mark) → m.at ≤ m.value_at → IsLastInside m.at o → IsLastInside (m.value_at + m.value_len) (last_by k o m)
last_inside Filler o m le h = last_later m.at (m.value_at + m.value_len) (omega arith) o h
last_inside (PartitionPack pack) o m le h = mark_inside m le
last_inside PrimerPack o m le h = mark_inside m le
last_inside MetadataSet o m le h = mark_inside m le
last_inside IndexSegment o m le h = mark_inside m le
last_inside RandomIndexPack o m le h = mark_inside m le
last_inside EssenceElement o m le h = mark_inside m le
last_inside Unknown o m le h = mark_inside m le

-- nothing is kept yet
pub inside_none : (s : Seen) → s.closed.items ≡ [] → s.going ≡ None → s.elements.items ≡ [] → s.segments.items ≡ [] → s.last ≡ None → IsSeenInside 0 s
inside_none s a b c d e = record {
  closed = subst (AllByRecursion (IsPartInside 0)) (sym a) tt;
  going = subst (IsGoingWithin 0) (sym b) tt;
  elements = subst (AllByRecursion (IsPlaceInside 0)) (sym c) tt;
  segments = subst (AllByRecursion (IsMarkInside 0)) (sym d) tt;
  last = subst (IsLastInside 0) (sym e) tt;
}

-- one more item
pub inside_more : (s t : Seen) (m : Mark) → IsNext s t m → IsSeenInside m.at s → m.at ≤ m.value_at → IsSeenInside (m.value_at + m.value_len) t
inside_more s t m n h le =
    let end : ℕ = m.value_at + m.value_len in
    let later : m.at ≤ end = omega arith in
    record {
      closed = subst (AllByRecursion (IsPartInside end)) (sym n.closed)
          (all_joined (IsPartInside end) s.closed.items (closed_one s.going m)
          (all_so (IsPartInside m.at) (IsPartInside end) (part_later m.at end later) s.closed.items h.closed)
          (all_so (IsPartInside m.at) (IsPartInside end) (part_later m.at end later) (closed_one s.going m) (closed_inside m.kind s.going m.at h.going)));
      going = subst (IsGoingWithin end) (sym n.going) (going_inside m.kind s.going m end later h.going);
      elements = subst (AllByRecursion (IsPlaceInside end)) (sym n.elements)
          (all_joined (IsPlaceInside end) s.elements.items (element_of s.going m)
          (all_so (IsPlaceInside m.at) (IsPlaceInside end) (place_later m.at end later) s.elements.items h.elements)
          (element_inside m.kind s.going m));
      segments = subst (AllByRecursion (IsMarkInside end)) (sym n.segments)
          (all_joined (IsMarkInside end) s.segments.items (segment_of m)
          (all_so (IsMarkInside m.at) (IsMarkInside end) (mark_later m.at end later) s.segments.items h.segments)
          (segment_inside m.kind m le));
      last = subst (IsLastInside end) (sym n.last) (last_inside m.kind s.last m le h.last);
    }

-- the last partition ends with the file
pub inside_all : (w : Walked) (len : ℕ) (file : SeenFile) → IsClosed w len file → IsSeenInside w.stop w.seen → w.stop ≤ len → IsInside len file
inside_all w len file c h le = record {
  len_is = c.len_is;
  parts = subst (AllByRecursion (IsPartInside len)) (sym c.parts)
      (all_joined (IsPartInside len) w.seen.closed.items (closed_at len w.seen.going)
      (all_so (IsPartInside w.stop) (IsPartInside len) (part_later w.stop len le) w.seen.closed.items h.closed)
      (ended_inside w.stop len w.seen.going le h.going));
  elements = subst (AllByRecursion (IsPlaceInside len)) (sym c.elements)
      (all_so (IsPlaceInside w.stop) (IsPlaceInside len) (place_later w.stop len le) w.seen.elements.items h.elements);
  segments = subst (AllByRecursion (IsMarkInside len)) (sym c.segments)
      (all_so (IsMarkInside w.stop) (IsMarkInside len) (mark_later w.stop len le) w.seen.segments.items h.segments);
  last = subst (IsLastInside len) (sym c.last) (last_later w.stop len le w.seen.last h.last);
}

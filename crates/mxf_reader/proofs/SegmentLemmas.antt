-- The index table segments, against the elements.
use Rattle.std.proofs.Common.{◌≡◌, ◌≢◌, inl, inr, ℕ, zero, suc, ◌+◌, ◌-◌, ◌==◌, ◌&&◌, ◌≤◌, ◌<◌, nat_eq, Bool, true, false, if◌then◌else◌}
use Rattle.std.proofs.Common.{List, [], ◌∷◌, ◌++◌, length, map, filter, drop, take, get_or, Option, Some, None, refl, sym, ap, ap₂, ◌∙◌, arith, drop-cons}
use Rattle.std.proofs.lemmas.Bool.{cases_Bool}
use Rattle.std.proofs.lemmas.Bool.Decides.{Decides-eqb}
use Rattle.std.proofs.lemmas.List.{drop_all, drop-drop, drop-map, get_or-map, get_or_append_left, length-drop, length-map}
use Rattle.std.proofs.lemmas.List.{take-append-drop, take_all, take_more}
use Rattle.std.proofs.lemmas.Slice.Eq.{bytes_eq-Decides, starts_is}
use Rattle.std.specs.List.{AllByRecursion, starts_with}
use Rattle.std.specs.Str.{bytes_eq}
use Rattle.klv.specs.Items.{Item, IsItem, spelled}
use Rattle.klv.specs.Reads.{IsItemAt}
use Rattle.mxf_index.specs.Reads.{Frames, HasFault, HasOtherKey, Refuses, frames_in, frames_of, value_fault}
use Rattle.mxf_index.specs.declared.fault.SegmentFault.{SegmentFault}
use Rattle.mxf_index.specs.declared.fault.SegmentFault.TheVariants.{SegmentCut, SegmentField, EntryOrder, Memory}
use Rattle.mxf_names.specs.declared.keys.TheConstants.{INDEX_SEGMENT_KEY}
use Rattle.mxf_op1a.specs.Clauses.{broken_9, entry_count, joins}
use Rattle.mxf_op1a.specs.Contents.{Placed}
use Rattle.mxf_op1a.specs.Whole.{StandsIn}
use Rattle.mxf_reader.specs.declared.mark.Mark.{Mark}
use Rattle.mxf_reader.specs.declared.mark.Kind.TheVariants.{Filler}
use Rattle.mxf_reader.specs.inner.Index.{added, streams_of}
use Rattle.mxf_reader.specs.inner.Items.{IsMarkOf}
use Rattle.mxf_reader.specs.inner.Marks.{mark_of}
use Rattle.take_layout.specs.declared.place.Place.{Place}

-- each of those that keep a test
pub filter_all : {X : Type 0} (P : X → Type 0) (test : X → Bool) (xs : List X) → AllByRecursion P xs → AllByRecursion P (filter test xs)
filter_all P test [] h = tt
filter_all P test (x ∷ xs) h = elim (cases_Bool (test x)) [
  | inl is ↦ rw is (h.0, filter_all P test xs h.1)
  | inr none ↦ rw none (filter_all P test xs h.1)
]

-- one of all
pub one_of_all : {X : Type 0} (P : X → Type 0) (xs : List X) (k : ℕ) (d : X) → AllByRecursion P xs → k < length xs → P (get_or xs k d)
one_of_all P [] k d h low = absurd (omega (arith, low))
one_of_all P (x ∷ xs) zero d h low = h.0
one_of_all P (x ∷ xs) (suc k) d h low = one_of_all P xs k d h.1 (omega (arith, low))

-- an item and what is kept of it, where a place in a list names none
abbrev pub no_item : Placed
no_item = record { at = 0; item = record { key = []; form = 0; value = [] } }

abbrev pub no_mark : Mark
no_mark = record { at = 0; kind = Filler; is_picture = false; value_at = 0; value_len = 0 }

-- one of the segments is kept of one of the items
pub segment_marked : (bytes : List ℕ) (ms : List Mark) (ps : List Placed) (k : ℕ) → ms ≡ map mark_of ps → AllByRecursion (StandsIn bytes) ps
    → k < length ms → IsMarkOf bytes (get_or ms k no_mark) (get_or ps k no_item)
segment_marked bytes ms ps k e each low =
    let len : length ms ≡ length ps = ap length e ∙ length-map ps mark_of in
    record {
      stands = one_of_all (StandsIn bytes) ps k no_item each (omega arith);
      is = ap (λ (xs : List Mark). get_or xs k no_mark) e ∙ get_or-map mark_of ps k no_item no_mark (omega arith);
    }

-- what joins has these parts
added_parts : (b : Bool) (n : ℕ) (more : ℕ) → Some more ≡ (if b then Some n else None) → (b ≡ true) × (more ≡ n)
added_parts true n more e = (refl, cc)
added_parts false n more e = absurd (cc)

added_none : (b : Bool) (n : ℕ) → None ≡ (if b then Some n else None) → b ≡ false
added_none true n e = absurd (cc)
added_none false n e = refl

-- the clause at a segment that joins or not
abbrev at_segment : ℕ → ℕ → List ℕ → Placed → List Placed → Bool → Option ℕ
at_segment len first offsets p ps b =
    if b then broken_9 len (first + entry_count (frames_of p.item)) (drop (entry_count (frames_of p.item)) offsets) ps else Some p.at

-- one segment later
pub segment_next : (len count more next k : ℕ) (offsets : List ℕ) (ps : List Placed) → k < length ps → next ≡ count + more
    → Some more ≡ added count (drop count offsets) (frames_of (get_or ps k no_item).item)
    → broken_9 len count (drop count offsets) (drop k ps) ≡ broken_9 len next (drop next offsets) (drop (k + 1) ps)
unfolding broken_9
segment_next len count more next k offsets ps low sum e =
    let p : Placed = get_or ps k no_item in
    let left : List ℕ = drop count offsets in
    let parts = added_parts (joins count left (frames_of p.item)) (entry_count (frames_of p.item)) more e in
    let later : suc k ≡ k + 1 = omega arith in
    let so_far : count + entry_count (frames_of p.item) ≡ next = omega (arith, parts.1) in
    let dropped : drop (entry_count (frames_of p.item)) left ≡ drop next offsets =
    drop-drop (entry_count (frames_of p.item)) count offsets ∙ ap (λ (n : ℕ). drop n offsets) so_far in
    ap (broken_9 len count left) (drop-cons ps k no_item low)
    ∙ ap (at_segment len count left p (drop (suc k) ps)) parts.0
    ∙ ap₂ (λ (n : ℕ) (xs : List ℕ). broken_9 len n xs (drop (suc k) ps)) so_far dropped
    ∙ ap (λ (n : ℕ). broken_9 len next (drop next offsets) (drop n ps)) later

pub segment_breaks : (len count k : ℕ) (offsets : List ℕ) (ps : List Placed) → k < length ps
    → None ≡ added count (drop count offsets) (frames_of (get_or ps k no_item).item)
    → broken_9 len count (drop count offsets) (drop k ps) ≡ Some (get_or ps k no_item).at
unfolding broken_9
segment_breaks len count k offsets ps low e =
    let p : Placed = get_or ps k no_item in
    let left : List ℕ = drop count offsets in
    ap (broken_9 len count left) (drop-cons ps k no_item low)
    ∙ ap (at_segment len count left p (drop (suc k) ps)) (added_none (joins count left (frames_of p.item)) (entry_count (frames_of p.item)) e)

pub segments_end : (len count k : ℕ) (offsets : List ℕ) (ps : List Placed) → length ps ≤ k
    → broken_9 len count (drop count offsets) (drop k ps) ≡ (if length offsets - count == 0 then None else Some len)
unfolding broken_9
segments_end len count k offsets ps high =
    ap (broken_9 len count (drop count offsets)) (drop_all k ps high)
    ∙ ap (λ (n : ℕ). if n == 0 then None else Some len) (length-drop count offsets)

-- streams with which offsets begin
starts : (offsets streams : List ℕ)
    → (starts_with nat_eq offsets streams ≡ true → offsets ≡ streams ++ drop (length streams) offsets)
    × ((rest : List ℕ) → offsets ≡ streams ++ rest → starts_with nat_eq offsets streams ≡ true)
starts offsets streams = starts_is Decides-eqb offsets streams (starts_with nat_eq offsets streams) refl

-- no item begins another
abbrev pub FirstIsOne : Type 0
FirstIsOne = (a b : Item) (x y : List ℕ) → IsItem a → IsItem b → spelled a ++ x ≡ spelled b ++ y → (a ≡ b) × (x ≡ y)

pub one_item : FirstIsOne → (bytes : List ℕ) (a b : Item) → IsItemAt bytes 0 a → IsItemAt bytes 0 b → a ≡ b
one_item first bytes a b p q = (first a b p.rest q.rest p.is_item q.is_item (sym p.bytes_are ∙ q.bytes_are)).0

other_key : (item : Item) → item.key ≢ INDEX_SEGMENT_KEY → frames_of item ≡ None
unfolding frames_of
other_key item other = elim (cases_Bool (bytes_eq item.key INDEX_SEGMENT_KEY)) [
  | inl is ↦ absurd (other ((bytes_eq-Decides item.key INDEX_SEGMENT_KEY).0 is))
  | inr none ↦ rw none refl
]

no_frames : (b : Bool) (frames : Frames) → (if b && false then Some frames else None) ≡ None
no_frames true frames = refl
no_frames false frames = refl

faulty : (item : Item) (fault : SegmentFault) → value_fault item.value ≡ Some fault → frames_of item ≡ None
unfolding frames_of
faulty item fault e = rw e (no_frames (bytes_eq item.key INDEX_SEGMENT_KEY) (frames_in item.value))

has_fault : FirstIsOne → (bytes : List ℕ) (head : ℕ) (fault : SegmentFault) (item : Item) → IsItemAt bytes 0 item → HasFault bytes head fault
    → frames_of item ≡ None
has_fault first bytes head fault item s h = ap frames_of (one_item first bytes item h.item s h.stands) ∙ faulty h.item fault h.first

has_other : FirstIsOne → (bytes : List ℕ) (item : Item) → IsItemAt bytes 0 item → HasOtherKey bytes → frames_of item ≡ None
has_other first bytes item s h = ap frames_of (one_item first bytes item h.item s h.stands) ∙ other_key h.item h.other

-- what is refused says nothing of frames, unless memory was wanted
pub refused_none : FirstIsOne → (bytes : List ℕ) (fault : SegmentFault) (item : Item) → IsItemAt bytes 0 item → fault ≢ Memory → Refuses bytes fault
    → frames_of item ≡ None
refused_none first bytes Memory item s some refuses = absurd (some refl)
refused_none first bytes (SegmentCut at tag) item s some (inl (p, q, none)) = absurd (none (item, s))
refused_none first bytes (SegmentCut at tag) item s some (inr (head, place, e, h)) = has_fault first bytes head (SegmentCut place tag) item s h
refused_none first bytes (SegmentField at tag) item s some (inl (p, q, other)) = has_other first bytes item s other
refused_none first bytes (SegmentField at tag) item s some (inr (head, place, e, h)) = has_fault first bytes head (SegmentField place tag) item s h
refused_none first bytes (EntryOrder entry) item s some (head, h) = has_fault first bytes head (EntryOrder entry) item s h

-- an element, where a place in a list names none
abbrev pub no_place : Place
no_place = record { at = 0; stream = 0; len = 0 }

stream_at : (es : List Place) (k : ℕ) → k < length es → get_or (streams_of es) k 0 ≡ (get_or es k no_place).stream
stream_at es k low = get_or-map (λ (place : Place). place.stream) es k no_place 0 low

-- another stream
pub begins_other : (es : List Place) (streams : List ℕ) (k : ℕ) → k < length es → k < length streams
    → (get_or es k no_place).stream ≢ get_or streams k 0 → false ≡ starts_with nat_eq (streams_of es) streams
begins_other es streams k low short other = elim (cases_Bool (starts_with nat_eq (streams_of es) streams)) [
  | inl is ↦
      let same : get_or (streams_of es) k 0 ≡ get_or streams k 0 =
      ap (λ (xs : List ℕ). get_or xs k 0) ((starts (streams_of es) streams).0 is)
      ∙ get_or_append_left streams (drop (length streams) (streams_of es)) 0 k short in
      absurd (other (sym (stream_at es k low) ∙ same))
  | inr none ↦ sym none
]

-- one more that is the same
pub begins_more : (es : List Place) (streams : List ℕ) (k : ℕ) → k < length es → k < length streams
    → take k (streams_of es) ≡ take k streams → (get_or es k no_place).stream ≡ get_or streams k 0
    → take (k + 1) (streams_of es) ≡ take (k + 1) streams
begins_more es streams k low short before same =
    take_more (streams_of es) k 0 (omega (arith, length-map es (λ (place : Place). place.stream)))
    ∙ ap₂ (λ (xs : List ℕ) (x : ℕ). xs ++ x ∷ []) before (stream_at es k low ∙ same)
    ∙ sym (take_more streams k 0 short)

-- all of them
pub begins_all : (es : List Place) (streams : List ℕ) (k : ℕ) → length streams ≤ k → take k (streams_of es) ≡ take k streams
    → true ≡ starts_with nat_eq (streams_of es) streams
begins_all es streams k long same =
    sym ((starts (streams_of es) streams).1 (drop k (streams_of es))
    (sym (take-append-drop k (streams_of es)) ∙ ap (λ (xs : List ℕ). xs ++ drop k (streams_of es)) (same ∙ take_all k streams long)))

-- the offsets of the elements that are left
pub left_are : (es left : List Place) (count : ℕ) → left ≡ drop count es → streams_of left ≡ drop count (streams_of es)
left_are es left count e = ap streams_of e ∙ sym (drop-map (λ (place : Place). place.stream) count es)

pub left_few : (es left : List Place) (count more : ℕ) → left ≡ drop count es → count ≤ length es → more ≤ length left → count + more ≤ length es
left_few es left count more e few more_few = omega (arith, ap length e, length-drop count es)

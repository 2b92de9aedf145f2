-- Bytes begin with a segment that says one thing, or break one rule first.
use Rattle.std.proofs.Common.{◌≡◌, inl, inr, ℕ, List, ◌++◌, Bool, true, false, Option, Some, None, is_none, refl, sym, ap, ◌∙◌, ◌&&◌, if◌then◌else◌}
use Rattle.std.proofs.lemmas.Slice.Eq.{bytes_eq-Decides}
use Rattle.std.specs.Str.{bytes_eq}
use Rattle.klv.specs.Items.{Item, IsItem, spelled}
use Rattle.klv.specs.Reads.{IsItemAt}
use Rattle.mxf_names.specs.declared.keys.TheConstants.{INDEX_SEGMENT_KEY}
use Rattle.mxf_index.specs.Reads.{Frames, HasFault, HasOtherKey, IsReadSegment, Refuses, frames_in, frames_of, value_fault}
use Rattle.mxf_index.specs.declared.reading.Segment as read
use Rattle.mxf_index.specs.declared.fault.SegmentFault.{SegmentFault}
use Rattle.mxf_index.specs.declared.fault.SegmentFault.TheVariants.{SegmentCut, SegmentField, EntryOrder, Memory}

-- no item begins another
abbrev pub FirstIsOne : Type 0
FirstIsOne = (a b : Item) (x y : List ℕ) → IsItem a → IsItem b → spelled a ++ x ≡ spelled b ++ y → (a ≡ b) × (x ≡ y)

-- one item stands at a place
one_item : FirstIsOne → (bytes : List ℕ) (a b : Item) → IsItemAt bytes 0 a → IsItemAt bytes 0 b → a ≡ b
one_item first bytes a b p q = (first a b p.rest q.rest p.is_item q.is_item (sym p.bytes_are ∙ q.bytes_are)).0

-- the two tests of an item that says something
tests : (key none : Bool) (found frames : Frames) → (if (key && none) then Some found else None) ≡ Some frames
    → (key ≡ true) × (none ≡ true) × (found ≡ frames)
tests true true found frames e = (refl, refl, cc)
tests true false found frames e = absurd (cc)
tests false none found frames e = absurd (cc)

-- no fault
empty : (x : Option SegmentFault) → is_none x ≡ true → x ≡ None
empty None e = refl
empty (Some fault) e = absurd (cc)

-- what an item is that says something
pub told : (item : Item) (frames : Frames) → frames_of item ≡ Some frames
    → (item.key ≡ INDEX_SEGMENT_KEY) × (value_fault item.value ≡ None) × (frames_in item.value ≡ frames)
unfolding frames_of
told item frames e =
    let t = tests (bytes_eq item.key INDEX_SEGMENT_KEY) (is_none (value_fault item.value)) (frames_in item.value) frames e in
    ((bytes_eq-Decides item.key INDEX_SEGMENT_KEY).0 t.0, empty (value_fault item.value) t.1, t.2)

-- a value that is read breaks no rule
not_fault : FirstIsOne → (bytes : List ℕ) (segment : read.Segment) (head : ℕ) (fault : SegmentFault) → IsReadSegment bytes segment
    → HasFault bytes head fault → ⊥
not_fault first bytes segment head fault r h =
    let same : r.item ≡ h.item = one_item first bytes r.item h.item r.stands h.stands in
    let none : value_fault h.item.value ≡ None = ap (λ (item : Item). value_fault item.value) (sym same) ∙ (told r.item _ r.says).1 in
    let both : Some fault ≡ None = sym h.first ∙ none in
    absurd (cc)

-- nor has another key
not_other : FirstIsOne → (bytes : List ℕ) (segment : read.Segment) → IsReadSegment bytes segment → HasOtherKey bytes → ⊥
not_other first bytes segment r o =
    let same : r.item ≡ o.item = one_item first bytes r.item o.item r.stands o.stands in
    o.other (ap (λ (item : Item). item.key) (sym same) ∙ (told r.item _ r.says).0)

-- bytes that are read are refused for want of memory alone
pub memory_alone : FirstIsOne → (bytes : List ℕ) (segment : read.Segment) (fault : SegmentFault) → IsReadSegment bytes segment
    → Refuses bytes fault → fault ≡ Memory
memory_alone first bytes segment Memory r refuses = refl
memory_alone first bytes segment (SegmentCut at tag) r (inl (p, q, none)) = absurd (none (r.item, r.stands))
memory_alone first bytes segment (SegmentCut at tag) r (inr (head, place, e, h)) = absurd (not_fault first bytes segment head (SegmentCut place tag) r h)
memory_alone first bytes segment (SegmentField at tag) r (inl (p, q, other)) = absurd (not_other first bytes segment r other)
memory_alone first bytes segment (SegmentField at tag) r (inr (head, place, e, h)) = absurd (not_fault first bytes segment head (SegmentField place tag) r h)
memory_alone first bytes segment (EntryOrder entry) r (head, h) = absurd (not_fault first bytes segment head (EntryOrder entry) r h)

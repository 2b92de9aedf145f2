-- The item with which bytes begin, and what is read of it.
use Rattle.std.proofs.Common.{◌≡◌, inl, inr, ℕ, ◌+◌, ◌-◌, ◌≤◌, List, ◌++◌, Bool, not, true, false, Some, None, is_none, length, take, drop}
use Rattle.std.proofs.Common.{refl, sym, ap, ap₂, subst, ◌∙◌, ◌&&◌, arith, append_assoc}
use Rattle.std.proofs.lemmas.List.{drop_at, take_at}
use Rattle.std.proofs.lemmas.Slice.Eq.{bytes_eq-Decides}
use Rattle.std.specs.Str.{bytes_eq}
use Rattle.klv.specs.Items.{Item, klv_head}
use Rattle.klv.specs.Reads.{IsKlvAt}
use Rattle.klv.specs.laws.Lengths.{length-klv_head, length-spelled}
use Rattle.klv.specs.declared.item.Klv.{Klv}
use Rattle.mxf_names.specs.declared.keys.TheConstants.{INDEX_SEGMENT_KEY}
use Rattle.mxf_index.specs.Reads.{HasFault, IsReadSegment, Refuses, frames_in, frames_of, value_fault}
use Rattle.mxf_index.specs.inner.Items.{Breaks, Says, moved}
use Rattle.mxf_index.specs.declared.reading.Segment as read
use Rattle.mxf_index.specs.declared.fault.SegmentFault.{SegmentFault}
use Rattle.mxf_index.specs.declared.fault.SegmentFault.TheVariants.{SegmentCut, SegmentField, EntryOrder, Memory}

-- the value ends where the item does
pub rises : (bytes : List ℕ) (klv : Klv) → IsKlvAt bytes 0 klv → klv.value_at ≤ klv.end
rises bytes klv k =
    omega (arith, k.value_at, k.end, length-spelled k.item k.stands.is_item.key)

-- it is the item's value
pub value_is : (bytes : List ℕ) (klv : Klv) (k : IsKlvAt bytes 0 klv) → take (klv.end - klv.value_at) (drop klv.value_at bytes) ≡ k.item.value
value_is bytes klv k =
    let head : List ℕ = klv_head k.item.key k.item.form (length k.item.value) in
    let value : List ℕ = k.item.value in
    let rest : List ℕ = k.stands.rest in
    let long : length head ≡ 17 + k.item.form = length-klv_head k.item.key k.item.form (length value) k.stands.is_item.key in
    let at : klv.value_at ≡ 17 + k.item.form = omega (arith, k.value_at) in
    let len : klv.end - klv.value_at ≡ length value = omega (arith, k.value_at, k.end, length-spelled k.item k.stands.is_item.key) in
    let parts : bytes ≡ head ++ (value ++ rest) = k.stands.bytes_are ∙ append_assoc head value rest in
    let behind : drop klv.value_at bytes ≡ value ++ rest = ap₂ drop at parts ∙ drop_at head (value ++ rest) (17 + k.item.form) long in
    ap₂ take len behind ∙ take_at value rest (length value) refl

-- an item of the key whose value breaks no rule
kept : (item : Item) → bytes_eq item.key INDEX_SEGMENT_KEY ≡ true → value_fault item.value ≡ None → frames_of item ≡ Some (frames_in item.value)
unfolding frames_of
kept item key none =
    let test : (bytes_eq item.key INDEX_SEGMENT_KEY && is_none (value_fault item.value)) ≡ true = rw (key, none) refl in
    rw test refl

-- what a test that two keys differ has told
same_key : (b : Bool) → not b ≡ false → b ≡ true
same_key true e = refl
same_key false e = absurd (cc)

-- what was read of a value is what the item says
pub says : (bytes : List ℕ) (klv : Klv) (segment : read.Segment) → IsKlvAt bytes 0 klv → not (bytes_eq klv.key INDEX_SEGMENT_KEY) ≡ false
    → Says (take (klv.end - klv.value_at) (drop klv.value_at bytes)) segment → IsReadSegment bytes segment
says bytes klv segment k key said =
    let value = value_is bytes klv k in
    let test : bytes_eq k.item.key INDEX_SEGMENT_KEY ≡ true =
    ap (λ (xs : List ℕ). bytes_eq xs INDEX_SEGMENT_KEY) (sym k.key) ∙ same_key (bytes_eq klv.key INDEX_SEGMENT_KEY) key in
    record {
      item = k.item;
      stands = k.stands;
      says = kept k.item test (ap value_fault (sym value) ∙ said.kept) ∙ ap Some (ap frames_in (sym value) ∙ said.frames);
    }

-- a rule that was broken in a value is the item's
pub breaks : (bytes : List ℕ) (klv : Klv) (fault : SegmentFault) → IsKlvAt bytes 0 klv → not (bytes_eq klv.key INDEX_SEGMENT_KEY) ≡ false
    → value_fault (take (klv.end - klv.value_at) (drop klv.value_at bytes)) ≡ Some fault → HasFault bytes klv.value_at fault
breaks bytes klv fault k key first = record {
  item = k.item;
  stands = k.stands;
  key = sym k.key ∙ (bytes_eq-Decides klv.key INDEX_SEGMENT_KEY).0 (same_key (bytes_eq klv.key INDEX_SEGMENT_KEY) key);
  value_at = omega (arith, k.value_at);
  first = ap value_fault (sym (value_is bytes klv k)) ∙ first;
}

-- and it refuses the bytes
refuses : (bytes : List ℕ) (head : ℕ) (fault : SegmentFault) → HasFault bytes head fault → Refuses bytes (moved head fault)
refuses bytes head Memory h = tt
refuses bytes head (SegmentCut at tag) h = inr (head, at, refl, h)
refuses bytes head (SegmentField at tag) h = inr (head, at, refl, h)
refuses bytes head (EntryOrder entry) h = (head, h)

-- so does want of memory
pub refused : (bytes : List ℕ) (klv : Klv) (fault : SegmentFault) → IsKlvAt bytes 0 klv → not (bytes_eq klv.key INDEX_SEGMENT_KEY) ≡ false
    → Breaks (take (klv.end - klv.value_at) (drop klv.value_at bytes)) fault → Refuses bytes (moved klv.value_at fault)
refused bytes klv fault k key (inl memory) = subst (λ (f : SegmentFault). Refuses bytes (moved klv.value_at f)) (sym memory) tt
refused bytes klv fault k key (inr first) = refuses bytes klv.value_at fault (breaks bytes klv fault k key first)

-- A walk over the heads of items.
use Rattle.std.proofs.Common.{◌≡◌, inl, inr, ℕ, ◌+◌, ◌≤◌, List, [], ◌∷◌, ◌++◌, length, drop, map, Option, Some, None, refl, sym, ap, subst, ◌∙◌, arith, append_assoc, append-nil}
use Rattle.std.proofs.lemmas.List.{length-append, drop-drop, drop_at, drop_all}
use Rattle.std.proofs.lemmas.List.Concat.{flat_map-append}
use Rattle.std.specs.List.{flat_map, AllByRecursion}
use Rattle.klv.specs.Items.{Item, IsItem, spelled}
use Rattle.klv.specs.laws.Lengths.{length-spelled}
use Rattle.klv.specs.Reads.{HasItemAt, IsItemAt}
use Rattle.mxf_op1a.specs.Contents.{placed_from}
use Rattle.mxf_reader.specs.declared.mark.Mark.{Mark}
use Rattle.mxf_reader.specs.declared.part.SeenPart.{SeenPart}
use Rattle.mxf_reader.specs.declared.seen.Seen.{Seen}
use Rattle.mxf_reader.specs.inner.Kept.{IsKept}
use Rattle.mxf_reader.specs.inner.Marks.{mark_of}
use Rattle.mxf_reader.specs.inner.Parts.{IsWithin}
use Rattle.mxf_reader.specs.inner.Walks.{AreWalked, IsMarked, IsPassed, placed}

-- a later place
pub within_later : (at end : ℕ) (so : Option SeenPart) → IsWithin at so → at ≤ end → IsWithin end so
within_later at end None h le = h
within_later at end (Some p) h le = (h.0, omega (arith, h.1, le))

-- the marks of one more item
pub marks_more : (at : ℕ) (items : List Item) (i : Item)
    → map mark_of (placed_from at (items ++ i ∷ [])) ≡ map mark_of (placed_from at items) ++ mark_of (placed (at + length (flat_map spelled items)) i) ∷ []
unfolding placed_from
marks_more at [] i = ap (λ (n : ℕ). mark_of (placed n i) ∷ []) (omega arith)
marks_more at (x ∷ items) i =
    let place : at + length (spelled x) + length (flat_map spelled items) ≡ at + length (spelled x ++ flat_map spelled items) =
    omega (arith, length-append (spelled x) (flat_map spelled items)) in
    ap (λ (ms : List Mark). mark_of (placed at x) ∷ ms)
    (marks_more (at + length (spelled x)) items i
    ∙ ap (λ (n : ℕ). map mark_of (placed_from (at + length (spelled x)) items) ++ mark_of (placed n i) ∷ []) place)

-- each of these and one more
all_more : (items : List Item) (i : Item) → AllByRecursion IsItem items → IsItem i → AllByRecursion IsItem (items ++ i ∷ [])
all_more [] i h is = (is, tt)
all_more (x ∷ items) i h is = (h.0, all_more items i h.1 is)

-- no item yet
pub passed_none : (bytes : List ℕ) (s : Seen) → IsKept s [] → IsPassed bytes 0 s
unfolding placed_from
passed_none bytes s h = record { items = []; each = tt; bytes_are = refl; place = refl; kept = h }

joined : (items : List Item) (i : Item) → flat_map spelled (items ++ i ∷ []) ≡ flat_map spelled items ++ spelled i
joined items i =
    flat_map-append spelled items (i ∷ []) ∙ ap (λ (xs : List ℕ). flat_map spelled items ++ xs) (append-nil (spelled i))

-- the bytes behind an item
behind : (bytes : List ℕ) (at end : ℕ) (item : Item) (s : IsItemAt bytes at item) → end ≡ at + length (spelled item) → drop end bytes ≡ s.rest
behind bytes at end item s e =
    ap (λ (n : ℕ). drop n bytes) e
    ∙ sym (drop-drop (length (spelled item)) at bytes)
    ∙ ap (drop (length (spelled item))) s.bytes_are
    ∙ drop_at (spelled item) s.rest (length (spelled item)) refl

bytes_more : (bytes : List ℕ) (at end : ℕ) (items : List Item) (item : Item) (s : IsItemAt bytes at item) → bytes ≡ flat_map spelled items ++ drop at bytes
    → end ≡ at + length (spelled item) → bytes ≡ flat_map spelled (items ++ item ∷ []) ++ drop end bytes
bytes_more bytes at end items item s before e =
    before
    ∙ ap (λ (xs : List ℕ). flat_map spelled items ++ xs) (s.bytes_are ∙ ap (λ (xs : List ℕ). spelled item ++ xs) (sym (behind bytes at end item s e)))
    ∙ sym (append_assoc (flat_map spelled items) (spelled item) (drop end bytes))
    ∙ ap (λ (xs : List ℕ). xs ++ drop end bytes) (sym (joined items item))

-- where a marked item ends
mark_end : (bytes : List ℕ) (at end : ℕ) (m : Mark) (h : IsMarked bytes at m) → end ≡ m.value_at + m.value_len → end ≡ at + length (spelled h.item)
mark_end bytes at end m h e =
    let value_at : m.value_at ≡ at + (17 + h.item.form) = ap (λ (x : Mark). x.value_at) h.is in
    let value_len : m.value_len ≡ length h.item.value = ap (λ (x : Mark). x.value_len) h.is in
    omega (arith, e, value_at, value_len, length-spelled h.item h.stands.is_item.key)

-- one more item
pub passed_more : (bytes : List ℕ) (at end : ℕ) (s t : Seen) (m : Mark) → IsPassed bytes at s → IsMarked bytes at m → end ≡ m.value_at + m.value_len
    → ((ms : List Mark) → IsKept s ms → IsKept t (ms ++ m ∷ [])) → IsPassed bytes end t
passed_more bytes at end s t m p h e noted =
    let before = p.place in
    let ends : end ≡ at + length (spelled h.item) = mark_end bytes at end m h e in
    let long : end ≡ length (flat_map spelled p.items ++ spelled h.item) = omega (arith, length-append (flat_map spelled p.items) (spelled h.item)) in
    let is : m ≡ mark_of (placed (0 + length (flat_map spelled p.items)) h.item) = h.is ∙ ap (λ (n : ℕ). mark_of (placed n h.item)) (omega arith) in
    record {
      items = p.items ++ h.item ∷ [];
      each = all_more p.items h.item p.each h.stands.is_item;
      bytes_are = bytes_more bytes at end p.items h.item h.stands p.bytes_are ends;
      place = long ∙ ap length (sym (joined p.items h.item));
      kept = subst (λ (ms : List Mark). IsKept t ms)
          (ap (λ (x : Mark). map mark_of (placed_from 0 p.items) ++ x ∷ []) is ∙ sym (marks_more 0 p.items h.item))
          (noted (map mark_of (placed_from 0 p.items)) p.kept);
    }

-- the file ends with the items
pub walked_all : (bytes : List ℕ) (at : ℕ) (s : Seen) → IsPassed bytes at s → length bytes ≤ at → AreWalked bytes (record { seen = s; stop = at })
walked_all bytes at s p past = record {
  outline = record { items = p.items; each = p.each; rest = drop at bytes; bytes_are = p.bytes_are; ends = inl (drop_all at bytes past) };
  stop = p.place;
  kept = p.kept;
}

-- or no item stands behind them
pub walked_part : (bytes : List ℕ) (at : ℕ) (s : Seen) → IsPassed bytes at s → (HasItemAt bytes at → ⊥) → AreWalked bytes (record { seen = s; stop = at })
walked_part bytes at s p none = record {
  outline = record {
    items = p.items;
    each = p.each;
    rest = drop at bytes;
    bytes_are = p.bytes_are;
    ends = inr (λ (h : HasItemAt (drop at bytes) 0). none (h.0, record { is_item = h.1.is_item; rest = h.1.rest; bytes_are = h.1.bytes_are }));
  };
  stop = p.place;
  kept = p.kept;
}

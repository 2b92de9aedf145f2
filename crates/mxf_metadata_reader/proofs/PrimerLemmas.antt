-- The tags of a primer pack's entries, one after the other.
use Rattle.std.proofs.Common.{◌≡◌, inl, inr, ℕ, suc, ◌+◌, ◌-◌, ◌*◌, ◌^◌, ◌<◌, ◌≤◌, ◌==◌, ◌||◌, ◌&&◌, cond, Bool, true, false, List, [], ◌∷◌, ◌++◌}
use Rattle.std.proofs.Common.{length, get_or, take, drop, Some, None, subst, replicate, refl, sym, ap, ap₂, ◌∙◌, arith}
use Rattle.std.proofs.Math.ListN.{set}
use Rattle.std.proofs.lemmas.Bool.{cases_eq, eq-eqb, ne_eqb}
use Rattle.std.proofs.lemmas.List.{drop-drop, length-replicate, get_or-replicate, get_or-set_other, get_or-set_same, length-set}
use Rattle.byteorder.specs.Endian.{big_number}
use Rattle.std.specs.Str.{bytes_eq}
use Rattle.klv.specs.Items.{Item, IsItem, spelled}
use Rattle.klv.specs.Reads.{IsKlvAt}
use Rattle.klv.specs.declared.item.Klv.{Klv}
use Rattle.mxf_names.specs.declared.keys.TheConstants.{PRIMER_KEY}
use Rattle.mxf_metadata.specs.Tags.{is_among}
use Rattle.mxf_metadata_reader.specs.PrimerTags.{entry_tags, is_batch_of, tags_of_primer, value_tags}
use Rattle.mxf_metadata_reader.specs.Reads.{HasPrimer}
use Rattle.mxf_metadata_reader.specs.inner.Primers.{IsPrimer}
use Rattle.mxf_metadata_reader.specs.declared.primer.Primer.{Primer}
use Rattle.mxf_metadata_reader.proofs.OutlineLemmas.{item_value, item_within}
use Rattle.mxf_metadata_reader.specs.inner.Places.{IsTable}

-- a table of which no tag is listed
pub empty_table : (n : ℕ) (table : List Bool) → n ≡ 2 ^ 16 → table ≡ replicate n false → IsTable table []
unfolding is_among
empty_table n table size e = record {
  whole = ap length e ∙ length-replicate n false ∙ size;
  tells = λ tag small. ap (λ (bools : List Bool). get_or bools tag false) e ∙ get_or-replicate n tag false false (omega (arith, size));
}

-- one entry and those behind it
entry_step : (more : ℕ) (bytes : List ℕ) → entry_tags (suc more) bytes ≡ big_number 2 bytes ∷ entry_tags more (drop 18 bytes)
unfolding entry_tags
entry_step more bytes = refl

entry_next : (bytes : List ℕ) (k count : ℕ) → k < count
    → entry_tags (count - k) (drop (18 * k) bytes) ≡ big_number 2 (drop (18 * k) bytes) ∷ entry_tags (count - (k + 1)) (drop (18 * (k + 1)) bytes)
entry_next bytes k count h =
    let more : ℕ = count - (k + 1) in
    let n : count - k ≡ suc more = omega arith in
    let moved : drop 18 (drop (18 * k) bytes) ≡ drop (18 * (k + 1)) bytes = drop-drop 18 (18 * k) bytes ∙ ap (λ (at : ℕ). drop at bytes) (omega arith) in
    ap (λ (m : ℕ). entry_tags m (drop (18 * k) bytes)) n ∙ entry_step more (drop (18 * k) bytes)
    ∙ ap (λ (xs : List ℕ). big_number 2 (drop (18 * k) bytes) ∷ entry_tags more xs) moved

or_true : (b : Bool) → (b || true) ≡ true
or_true true = refl
or_true false = refl

-- a tag more is listed
listed_more : (table : List Bool) (new tag : ℕ) (tags : List ℕ) → new < length table
    → (get_or (set table new true) tag false || is_among tag tags) ≡ (get_or table tag false || is_among tag (new ∷ tags))
unfolding is_among
listed_more table new tag tags h = elim (cases_eq tag new) [
  | inl same ↦
      let t : (tag == new) ≡ true = eq-eqb tag new same in
      let is : get_or (set table new true) tag false ≡ true = ap (λ (k : ℕ). get_or (set table new true) k false) same
      ∙ get_or-set_same table new true false h in
      rw (is, t) (sym (or_true (get_or table tag false)))
  | inr other ↦
      let t : (tag == new) ≡ false = ne_eqb tag new other in
      let is : get_or (set table new true) tag false ≡ get_or table tag false = get_or-set_other table new tag true false other in
      rw (is, t) refl
]

-- what a table tells of the entries that were read, with those behind them
pub record IsTableBefore (table : List Bool) (count k : ℕ) (bytes : List ℕ) : Type 0 where
  pub whole : length table ≡ 2 ^ 16
  pub tells : (tag : ℕ) → tag < 2 ^ 16
      → (get_or table tag false || is_among tag (entry_tags (count - k) (drop (18 * k) bytes))) ≡ is_among tag (entry_tags count bytes)

pub table_before : (table : List Bool) (count : ℕ) (bytes : List ℕ) → IsTable table [] → IsTableBefore table count 0 bytes
unfolding is_among
table_before table count bytes h = record {
  whole = h.whole;
  tells = λ tag small.
      ap (λ (n : ℕ). get_or table tag false || is_among tag (entry_tags n bytes)) (omega arith)
      ∙ ap (λ (b : Bool). b || is_among tag (entry_tags count bytes)) (h.tells tag small);
}

pub table_next : (table : List Bool) (count k new : ℕ) (bytes : List ℕ) → k < count → new < 2 ^ 16 → new ≡ big_number 2 (drop (18 * k) bytes)
    → IsTableBefore table count k bytes → IsTableBefore (set table new true) count (k + 1) bytes
table_next table count k new bytes h small e b =
    let rest : List ℕ = entry_tags (count - (k + 1)) (drop (18 * (k + 1)) bytes) in
    let whole = b.whole in
    record {
      whole = length-set table new true ∙ b.whole;
      tells = λ tag fits.
          listed_more table new tag rest (omega (arith, whole))
          ∙ ap (λ (first : ℕ). get_or table tag false || is_among tag (first ∷ rest)) e
          ∙ ap (λ (tags : List ℕ). get_or table tag false || is_among tag tags) (sym (entry_next bytes k count h))
          ∙ b.tells tag fits;
    }

or_false : (b : Bool) → (b || false) ≡ b
or_false true = refl
or_false false = refl

no_entries : (n tag : ℕ) (bytes : List ℕ) → n ≡ 0 → is_among tag (entry_tags n bytes) ≡ false
unfolding is_among entry_tags
no_entries n tag bytes e = ap (λ (m : ℕ). is_among tag (entry_tags m bytes)) e

pub table_whole : (table : List Bool) (count k : ℕ) (bytes : List ℕ) → count ≤ k → IsTableBefore table count k bytes → IsTable table (entry_tags count bytes)
table_whole table count k bytes h b = record {
  whole = b.whole;
  tells = λ tag small.
      sym (or_false (get_or table tag false))
      ∙ ap (λ (x : Bool). get_or table tag false || x) (sym (no_entries (count - k) tag (drop (18 * k) bytes) (omega arith)))
      ∙ b.tells tag small;
}

-- what a test of an item's key and value says of its tags
tags_true : (item : Item) → (bytes_eq item.key PRIMER_KEY && is_batch_of 18 item.value) ≡ true → tags_of_primer item ≡ Some (value_tags item.value)
tags_true item e = ap (λ (b : Bool). cond b (Some (value_tags item.value)) None) e

tags_false : (item : Item) → (bytes_eq item.key PRIMER_KEY && is_batch_of 18 item.value) ≡ false → tags_of_primer item ≡ None
tags_false item e = ap (λ (b : Bool). cond b (Some (value_tags item.value)) None) e

-- of the item that was read
test_of : (bytes value : List ℕ) (klv : Klv) (h : IsKlvAt bytes 0 klv) → value ≡ take klv.value_len (drop klv.value_at bytes)
    → (bytes_eq klv.key PRIMER_KEY && is_batch_of 18 value) ≡ (bytes_eq h.item.key PRIMER_KEY && is_batch_of 18 h.item.value)
test_of bytes value klv h e = ap₂ (λ (key xs : List ℕ). bytes_eq key PRIMER_KEY && is_batch_of 18 xs) h.key (e ∙ item_value bytes 0 klv h)

-- no primer pack stands at the front
pub primer_not : (law : (a b : Item) (x y : List ℕ) → IsItem a → IsItem b → spelled a ++ x ≡ spelled b ++ y → (a ≡ b) × (x ≡ y))
    (bytes value : List ℕ) (klv : Klv) → IsKlvAt bytes 0 klv → value ≡ take klv.value_len (drop klv.value_at bytes)
    → (bytes_eq klv.key PRIMER_KEY && is_batch_of 18 value) ≡ false → HasPrimer bytes → ⊥
primer_not law bytes value klv h e test p =
    let same = law h.item p.primer h.stands.rest p.stands.rest h.stands.is_item p.stands.is_item (sym h.stands.bytes_are ∙ p.stands.bytes_are) in
    let none : tags_of_primer p.primer ≡ None = ap tags_of_primer (sym same.0) ∙ tags_false h.item (sym (test_of bytes value klv h e) ∙ test) in
    let bad = sym none ∙ p.tags_are in
    absurd (cc)

-- or one does
pub primer_is : (bytes value : List ℕ) (klv : Klv) (primer : Primer) → IsKlvAt bytes 0 klv → value ≡ take klv.value_len (drop klv.value_at bytes)
    → (bytes_eq klv.key PRIMER_KEY && is_batch_of 18 value) ≡ true → IsTable primer.listed.items (value_tags value) → primer.end ≡ klv.end
    → IsPrimer bytes primer
primer_is bytes value klv primer h e test table end =
    let item : Item = h.item in
    let is : value ≡ item.value = e ∙ item_value bytes 0 klv h in
    let inside = item_within bytes 0 klv h (omega arith) in
    let ends = h.end in
    record {
      front = record { primer = item; stands = h.stands; tags = value_tags item.value; tags_are = tags_true item (sym (test_of bytes value klv h e) ∙ test) };
      table = subst (λ (xs : List ℕ). IsTable primer.listed.items (value_tags xs)) is table;
      place = omega (arith, end, ends);
      end = subst (λ (n : ℕ). n ≤ length bytes) (sym end) inside.end;
      rest = ap (λ (n : ℕ). drop n bytes) end ∙ inside.behind;
    }

-- What is read of items is what the relations of items, sets and primer packs say.
use Rattle.std.proofs.Common.{◌≡◌, ℕ, zero, suc, ◌+◌, ◌*◌, ◌≤◌, ◌==◌, ◌&&◌, Bool, true, false, cond, List, [], ◌∷◌, ◌++◌, length, get_or, slice_index}
use Rattle.std.proofs.Common.{take, drop, map, Option, Some, None, refl, sym, ap, ap₂, subst, ◌∙◌, arith, append_assoc, append-nil}
use Rattle.std.proofs.lemmas.Bool.Decides.{Decides-eqb}
use Rattle.std.proofs.lemmas.List.{length-drop, length-take-le, take-append-drop, drop-drop, drop_all}
use Rattle.std.proofs.lemmas.Slice.Eq.{bytes_eq-Decides}
use Rattle.std.proofs.Math.Seq.{drop-cons}
use Rattle.std.specs.List.{flat_map}
use Rattle.std.specs.Str.{bytes_eq}
use Rattle.byteorder.specs.Endian.{big_bytes, big_number}
use Rattle.byteorder.specs.Numbers.{big_from-take}
use Rattle.klv.specs.Items.{Item}
use Rattle.local_sets.specs.Sets.{IsSet, RawItem, set_value}
use Rattle.local_sets.specs.Reads.{items_in, rest_in}
use Rattle.local_sets.specs.laws.Numbers.{AreBytes, bytes_back}
use Rattle.local_sets.specs.laws.Reads.{dropped_bytes, taken_bytes, value_each, value_whole, written_items, written_rest}
use Rattle.mxf_names.specs.Keys.{set_key}
use Rattle.mxf_names.specs.declared.keys.TheConstants.{PRIMER_KEY, SET_KEY_START}
use Rattle.mxf_metadata.specs.Primer.{PrimerEntry, entry_bytes, primer_value}
use Rattle.mxf_metadata_reader.specs.PlacedSets.{ReadSet, is_set_key, read_set, set_of}
use Rattle.mxf_metadata_reader.specs.PrimerTags.{entry_tags, is_batch_of, tags_of_primer, value_tags}
use Rattle.mxf_metadata_reader.specs.Relations.{IsPrimerOf}

-- what an answer has
value_or : {A : Type 0} → A → Option A → A
value_or x None = x
value_or x (Some y) = y

some_same : {A : Type 0} (x y : A) → Some x ≡ Some y → x ≡ y
unfolding value_or
some_same x y e = ap (value_or x) e

-- a choice that was made
chosen : {A : Type 0} (b : Bool) (x y : A) → cond b (Some x) None ≡ Some y → (b ≡ true) × (x ≡ y)
chosen true x y e = (refl, some_same x y e)
chosen false x y e = absurd (cc)

both : (a b : Bool) → (a && b) ≡ true → (a ≡ true) × (b ≡ true)
both true true e = (refl, refl)
both true false e = absurd (cc)
both false b e = absurd (cc)

-- a key of 16 bytes that is one of a set's
key_is : (key : List ℕ) → length key ≡ 16 → is_set_key key ≡ true → key ≡ set_key (slice_index key 14)
key_is key long t =
    let parts = both (bytes_eq (take 14 key) SET_KEY_START) (slice_index key 15 == 0) t in
    let start : take 14 key ≡ SET_KEY_START = (bytes_eq-Decides (take 14 key) SET_KEY_START).0 parts.0 in
    let last : get_or key 15 0 ≡ 0 = (Decides-eqb (get_or key 15 0) 0).0 parts.1 in
    let second : drop 15 key ≡ get_or key 15 0 ∷ drop 16 key = drop-cons key 15 0 (omega arith) in
    let first : drop 14 key ≡ get_or key 14 0 ∷ drop 15 key = drop-cons key 14 0 (omega arith) in
    let none : drop 16 key ≡ [] = drop_all 16 key (omega arith) in
    sym (take-append-drop 14 key)
    ∙ ap₂ (λ (xs ys : List ℕ). xs ++ ys) start
    (first ∙ ap (λ (xs : List ℕ). get_or key 14 0 ∷ xs) (second ∙ ap₂ (λ (n : ℕ) (xs : List ℕ). n ∷ xs) last none))

pub set_is : (item : Item) (set : ReadSet) → length item.key ≡ 16 → AreBytes item.value → set_of item ≡ Some set → set.rest ≡ []
    → IsSet item (set_key set.kind) set.items
set_is item set long are e whole =
    let made : ReadSet = read_set (slice_index item.key 14) item.value in
    let c = chosen (is_set_key item.key) made set e in
    let rest : rest_in item.value ≡ [] = ap (λ (s : ReadSet). s.rest) c.1 ∙ whole in
    let of_made : IsSet item (set_key made.kind) made.items = record {
      keyed = key_is item.key long c.0;
      value =
          value_whole (length item.value) item.value are
          ∙ ap (λ (xs : List ℕ). set_value (items_in item.value) ++ xs) rest ∙ append-nil (set_value (items_in item.value));
      each = value_each (length item.value) item.value are;
    } in
    subst (λ (s : ReadSet). IsSet item (set_key s.kind) s.items) c.1 of_made

pub set_reads : (item : Item) (kind : ℕ) (items : List RawItem) → IsSet item (set_key kind) items
    → set_of item ≡ Some (record { kind = kind; items = items; rest = [] })
set_reads item kind items h =
    let made : List RawItem → List ℕ → ReadSet = λ items rest. record { kind = kind; items = items; rest = rest } in
    ap₂ (λ (key value : List ℕ). cond (is_set_key key) (Some (read_set (slice_index key 14) value)) None) h.keyed h.value
    ∙ ap Some (ap₂ made (written_items items h.each) (written_rest items h.each))

-- the entries in bytes, so many
entries_of : ℕ → List ℕ → List PrimerEntry
entries_of zero bytes = []
entries_of (suc more) bytes = record { tag = big_number 2 bytes; label = take 16 (drop 2 bytes) } ∷ entries_of more (drop 18 bytes)

entry_count : (n : ℕ) (bytes : List ℕ) → length (entries_of n bytes) ≡ n
unfolding entries_of
entry_count zero bytes = refl
entry_count (suc more) bytes = let rest = entry_count more (drop 18 bytes) in omega arith

entries_tags : (n : ℕ) (bytes : List ℕ) → entry_tags n bytes ≡ map (λ (entry : PrimerEntry). entry.tag) (entries_of n bytes)
unfolding entries_of entry_tags
entries_tags zero bytes = refl
entries_tags (suc more) bytes = ap (λ (tags : List ℕ). big_number 2 bytes ∷ tags) (entries_tags more (drop 18 bytes))

-- a number in the first bytes is spelled there
front_is : (n : ℕ) (bytes : List ℕ) → n ≤ length bytes → AreBytes bytes → big_bytes n (big_number n bytes) ≡ take n bytes
front_is n bytes h are =
    ap (big_bytes n) (sym (big_from-take 0 n n bytes (omega arith)))
    ∙ bytes_back n (take n bytes) (length-take-le n bytes h) (taken_bytes n bytes are)

entries_spell : (n : ℕ) (bytes : List ℕ) → length bytes ≡ 18 * n → AreBytes bytes → bytes ≡ flat_map entry_bytes (entries_of n bytes)
unfolding entries_of
entries_spell zero [] h are = refl
entries_spell zero (byte ∷ bytes) h are = absurd (omega arith)
entries_spell (suc more) bytes h are =
    let rest : List ℕ = drop 18 bytes in
    let tag : big_bytes 2 (big_number 2 bytes) ≡ take 2 bytes = front_is 2 bytes (omega arith) are in
    let behind : drop 16 (drop 2 bytes) ≡ rest = drop-drop 16 2 bytes in
    let left : length rest ≡ 18 * more = omega (arith, length-drop 18 bytes) in
    let label : List ℕ = take 16 (drop 2 bytes) in
    sym (take-append-drop 2 bytes)
    ∙ ap₂ (λ (xs ys : List ℕ). xs ++ ys) (sym tag)
    (sym (take-append-drop 16 (drop 2 bytes)) ∙ ap (λ (xs : List ℕ). label ++ xs) (behind ∙ entries_spell more rest left (dropped_bytes 18 bytes are)))
    ∙ sym (append_assoc (big_bytes 2 (big_number 2 bytes)) label (flat_map entry_bytes (entries_of more rest)))

value_spells : (value : List ℕ) → is_batch_of 18 value ≡ true → AreBytes value → value ≡ primer_value (entries_of (big_number 4 value) (drop 8 value))
unfolding primer_value
value_spells value t are =
    let n : ℕ = big_number 4 value in
    let parts = both (length value == 8 + 18 * n) (big_number 4 (drop 4 value) == 18) t in
    let long : length value ≡ 8 + 18 * n = (Decides-eqb (length value) (8 + 18 * n)).0 parts.0 in
    let size : big_number 4 (drop 4 value) ≡ 18 = (Decides-eqb (big_number 4 (drop 4 value)) 18).0 parts.1 in
    let entries : List PrimerEntry = entries_of n (drop 8 value) in
    let count : length entries ≡ n = entry_count n (drop 8 value) in
    let first : take 4 value ≡ big_bytes 4 (length entries) =
    sym (front_is 4 value (omega (arith, long)) are) ∙ ap (big_bytes 4) (sym count) in
    let second : take 4 (drop 4 value) ≡ big_bytes 4 18 =
    sym (front_is 4 (drop 4 value) (omega (arith, long, length-drop 4 value)) (dropped_bytes 4 value are)) ∙ ap (big_bytes 4) size in
    let behind : drop 4 (drop 4 value) ≡ drop 8 value = drop-drop 4 4 value in
    let left : length (drop 8 value) ≡ 18 * n = omega (arith, long, length-drop 8 value) in
    sym (take-append-drop 4 value)
    ∙ ap₂ (λ (xs ys : List ℕ). xs ++ ys) first
    (sym (take-append-drop 4 (drop 4 value))
    ∙ ap₂ (λ (xs ys : List ℕ). xs ++ ys) second (behind ∙ entries_spell n (drop 8 value) left (dropped_bytes 8 value are)))
    ∙ sym (append_assoc (big_bytes 4 (length entries)) (big_bytes 4 18) (flat_map entry_bytes entries))

pub primer_is_of : (item : Item) (tags : List ℕ) → AreBytes item.value → tags_of_primer item ≡ Some tags → IsPrimerOf item tags
primer_is_of item tags are e =
    let c = chosen (bytes_eq item.key PRIMER_KEY && is_batch_of 18 item.value) (value_tags item.value) tags e in
    let parts = both (bytes_eq item.key PRIMER_KEY) (is_batch_of 18 item.value) c.0 in
    record {
      entries = entries_of (big_number 4 item.value) (drop 8 item.value);
      keyed = (bytes_eq-Decides item.key PRIMER_KEY).0 parts.0;
      value = value_spells item.value parts.1 are;
      tags_are = sym c.1 ∙ entries_tags (big_number 4 item.value) (drop 8 item.value);
    }

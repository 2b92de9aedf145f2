-- The metadata sets of a take's file are sound, and each is found by its number.
use Rattle.std.proofs.Common.{◌≡◌, ℕ, ◌+◌, ◌*◌, ◌%◌, ◌^◌, ◌<◌, ◌≤◌, ◌&&◌, Bool, true, false, cond, List, [], ◌∷◌, ◌++◌}
use Rattle.std.proofs.Common.{length, map, take, Option, Some, None, refl, ap, ap₂, ◌∙◌, inl, inr, arith, length-append}
use Rattle.std.specs.Prelude.{nat_lt}
use Rattle.std.specs.Option.{is_some}
use Rattle.std.proofs.lemmas.Nat.{mod-mul-add}
use Rattle.std.proofs.lemmas.Bool.{cases_lt, eq-eqb, le-ltb}
use Rattle.std.proofs.lemmas.List.{take_at, drop_at}
use Rattle.std.specs.List.{flat_map, list_all, AllByRecursion}
use Rattle.std.specs.Str.{bytes_eq}
use Rattle.byteorder.specs.Endian.{big_bytes}
use Rattle.rec_bytes.specs.Configuration.{Fields}
use Rattle.klv.specs.Items.{spelled}
use Rattle.klv.specs.laws.Lengths.{length-spelled}
use Rattle.local_sets.specs.Sets.{RawItem, IsRawItem, raw, item_bytes, items_bytes}
use Rattle.local_sets.specs.Values.{value_bytes, utf16_bytes}
use Rattle.local_sets.specs.laws.Lengths.{IsSized, length-value_bytes}
use Rattle.local_sets.specs.declared.set.Item as typed
use Rattle.local_sets.specs.declared.value.Value.{Value}
use Rattle.local_sets.specs.declared.value.Value.TheVariants.{Byte, Short, Word, Long, Ratio, Duration, Label, Umid, EmptyBatch, BatchOfOne, BatchOfTwo, Text}
use Rattle.mxf_names.specs.Identifiers.{AreIds, set_id}
use Rattle.mxf_names.specs.laws.Lengths.{length-set_id}
use Rattle.mxf_names.specs.declared.ids.Ids.{Ids}
use Rattle.mxf_names.specs.declared.tags.TheConstants.{INSTANCE_ID}
use Rattle.mxf_metadata.specs.Nodes.{is_reference}
use Rattle.mxf_metadata.specs.Metadata.{Set, storage_sets, timecode_track, picture_track, material_sets, file_sets, sets}
use Rattle.mxf_metadata.specs.Sets.{preface, identification, content_storage, essence_container, material_package, file_package, track}
use Rattle.mxf_metadata.specs.Sets.{sequence, timecode, source_clip, descriptor}
use Rattle.mxf_metadata.specs.declared.tags.Size.{Size}
use Rattle.mxf_metadata_reader.specs.References.{first_value, has_id, is_id, ids_in, ids_of_size, names_of}
use Rattle.mxf_metadata_reader.specs.Sizes.{has_size, has_size_if, is_sized, size_of}
use Rattle.mxf_op1a.specs.Metadata.{SetAt, set_with, is_sound_item, is_sound, places_but}
use Rattle.mxf_take_file.specs.Items.{item_of_set}
use Rattle.mxf_take_op1a.proofs.ItemClauses.{bytes_self}
use Rattle.mxf_take_op1a.proofs.MetadataRows.{tags, kind_size, ids_named, Row, AreRows, HasSets, IsSound, rows_from}
use Rattle.mxf_take_op1a.proofs.PlacedLemmas.{bytes_of}
use Rattle.mxf_take_op1a.proofs.SetLemmas.{AreRaw, own_sets, placed_set, none_but}
use Rattle.mxf_take_op1a.proofs.Shapes.{tested}

-- a value has the size of its kind
pub has_kind : (v : Value) → IsSized v → has_size (kind_size v) (value_bytes v) ≡ true
has_kind (Byte number) h = refl
has_kind (Short number) h = refl
has_kind (Word number) h = refl
has_kind (Long number) h = refl
has_kind (Ratio numerator denominator) h = refl
has_kind (Duration None) h = refl
has_kind (Duration (Some count)) h = refl
has_kind (Label bytes) h = eq-eqb (length bytes) 16 h
has_kind (Umid bytes) h = eq-eqb (length bytes) 32 h
has_kind EmptyBatch h = refl
has_kind (BatchOfOne item) h = rw (eq-eqb (length (value_bytes (BatchOfOne item))) 24 (length-value_bytes (BatchOfOne item) h)) refl
has_kind (BatchOfTwo first second) h = rw (eq-eqb (length (value_bytes (BatchOfTwo first second))) 40 (length-value_bytes (BatchOfTwo first second) h)) refl
has_kind (Text letters count) h =
    let even : 2 * count ≡ count * 2 + 0 = omega arith in
    eq-eqb (length (utf16_bytes (take count letters)) % 2) 0
    (ap (λ (n : ℕ). n % 2) (length-value_bytes (Text letters count) h ∙ even) ∙ mod-mul-add count 2 0 (omega arith))

-- and names the identifiers in it
pub ids_are : (v : Value) → IsSized v → ids_of_size (Some (kind_size v)) (value_bytes v) ≡ ids_named v
unfolding ids_in
ids_are (Byte number) h = refl
ids_are (Short number) h = refl
ids_are (Word number) h = refl
ids_are (Long number) h = refl
ids_are (Ratio numerator denominator) h = refl
ids_are (Duration count) h = refl
ids_are (Label bytes) h = refl
ids_are (Umid bytes) h = refl
ids_are EmptyBatch h = refl
ids_are (BatchOfOne item) h = ap (λ (id : List ℕ). id ∷ []) (take_at item [] 16 h)
ids_are (BatchOfTwo first second) h =
    ap₂ (λ (a b : List ℕ). a ∷ b ∷ []) (take_at first (second ++ []) 16 h.0)
    (ap (take 16) (drop_at first (second ++ []) 16 h.0) ∙ take_at second [] 16 h.1)
ids_are (Text letters count) h = refl

and_true : (b : Bool) → (b && true) ≡ b
and_true true = refl
and_true false = refl

-- what an item names
pub names_are : (item : typed.Item) → IsSized item.value → size_of item.tag ≡ Some (kind_size item.value)
    → names_of (raw item) ≡ cond (is_reference item.tag) (ids_named item.value) []
names_are item h size =
    let sized : is_sized item.tag (value_bytes item.value) ≡ true =
    ap (λ (found : Option Size). has_size_if found (value_bytes item.value)) size ∙ has_kind item.value h in
    ap₂ (λ (b : Bool) (found : Option Size). cond (is_reference item.tag && b) (ids_of_size found (value_bytes item.value)) []) sized size
    ∙ ap₂ (λ (b : Bool) (ids : List (List ℕ)). cond b ids []) (and_true (is_reference item.tag)) (ids_are item.value h)

-- so an item is sound
sound_item : (s : List SetAt) (item : typed.Item) → IsSized item.value → Row s item → is_sound_item tags s (raw item) ≡ true
sound_item s item h row =
    let value : List ℕ = value_bytes item.value in
    let sized : is_sized item.tag value ≡ true = ap (λ (size : Option Size). has_size_if size value) row.size ∙ has_kind item.value h in
    let found : list_all (λ id. is_some (set_with s id)) (names_of (raw item)) ≡ true =
    ap (list_all (λ id. is_some (set_with s id))) (names_are item h row.size) ∙ row.named in
    ap₂ (λ (a b : Bool). (a && b) && list_all (λ id. is_some (set_with s id)) (names_of (raw item))) row.among sized ∙ found

sound_items : (s : List SetAt) (items : List typed.Item) → AllByRecursion (λ item. IsSized item.value) items → AreRows s items
    → list_all (is_sound_item tags s) (map raw items) ≡ true
sound_items s [] h rows = refl
sound_items s (item ∷ items) h rows =
    ap₂ (λ (a b : Bool). a && b) (sound_item s item h.0 rows.0) (sound_items s items h.1 rows.1)

sound_sets : (s : List SetAt) (list : List Set) → AllByRecursion (IsSound s) list
    → AllByRecursion (λ set. (at : ℕ) → is_sound tags s (placed_set at set) ≡ true) list
sound_sets s [] h = tt
sound_sets s (set ∷ list) h = (λ at. sound_items s set.items h.0.sized (rows_from s set.items h.0.listed h.0.named), sound_sets s list h.1)

pub none_unsound : (s : List SetAt) (at : ℕ) (list : List Set) → AllByRecursion (IsSound s) list → places_but (is_sound tags s) (own_sets at list) ≡ []
none_unsound s at list h = none_but (is_sound tags s) at list (sound_sets s list h)

-- items have short tags and values
small_from : (n : ℕ) → nat_lt n 65536 ≡ true → n < 2 ^ 16
small_from n h = elim (cases_lt n 65536) [
  | inl below ↦ omega arith
  | inr above ↦ let is : nat_lt n 65536 ≡ false = le-ltb n 65536 (omega arith) in absurd (cc)
]

raw_items : (s : List SetAt) (items : List typed.Item) → AreRows s items → length (items_bytes items) ≤ 4000 → AllByRecursion IsRawItem (map raw items)
raw_items s [] rows h = tt
raw_items s (item ∷ items) rows h =
    let value : List ℕ = value_bytes item.value in
    let whole = length-append (item_bytes item) (items_bytes items) in
    let one = length-append (big_bytes 2 item.tag ++ big_bytes 2 (length value)) value in
    (record { tag = small_from item.tag rows.0.small; fits = omega (arith, h, whole, one) }, raw_items s items rows.1 (omega (arith, h, whole)))

pub raw_sets_are : (s : List SetAt) (list : List Set) → AllByRecursion (IsSound s) list → bytes_of (map item_of_set list) ≤ 4000 → AreRaw list
raw_sets_are s [] h short = tt
raw_sets_are s (set ∷ list) h short =
    let whole = length-append (spelled (item_of_set set)) (flat_map spelled (map item_of_set list)) in
    let one = length-spelled (item_of_set set) refl in
    let rows = rows_from s set.items h.0.listed h.0.named in
    (raw_items s set.items rows (omega (arith, short, whole, one)), raw_sets_are s list h.1 (omega (arith, short, whole)))

-- sets have identifiers with numbers from one on
abbrev pub AreNumbered : Ids → ℕ → List Set → Type 0
AreNumbered ids number [] = Unit {0}
AreNumbered ids number (set ∷ list) = (first_value INSTANCE_ID (map raw set.items) ≡ Some (set_id ids number)) × AreNumbered ids (number + 1) list

pub numbered : (cfg : Fields) (ids : Ids) (frames : Option ℕ) → AreNumbered ids 1 (sets cfg ids frames)
unfolding sets material_sets file_sets storage_sets timecode_track picture_track preface identification content_storage essence_container
    material_package file_package track sequence timecode source_clip descriptor first_value
numbered cfg ids frames =
    (refl, (refl, (refl, (refl, (refl, (refl, (refl, (refl, (refl, (refl, (refl, (refl, (refl, (refl, (refl, (refl, (refl, (refl, (refl, tt)))))))))))))))))))

-- numbers that are the same
abbrev pub same_number : ℕ → ℕ → Bool
same_number m n = bytes_eq (big_bytes 8 m) (big_bytes 8 n)

-- the set with a number
unfoldable pub with_number : ℕ → ℕ → ℕ → List Set → Option SetAt
with_number number k at [] = None
with_number number k at (set ∷ list) =
    cond (same_number number k) (Some (placed_set at set)) (with_number (number + 1) k (at + length (spelled (item_of_set set))) list)

prefix_same : (pre xs ys : List ℕ) → bytes_eq (pre ++ xs) (pre ++ ys) ≡ bytes_eq xs ys
prefix_same [] xs ys = refl
prefix_same (p ∷ pre) xs ys = rw (eq-eqb p p refl) (prefix_same pre xs ys)

has_number : (ids : Ids) (number k : ℕ) (items : List RawItem) → AreIds ids → first_value INSTANCE_ID items ≡ Some (set_id ids number)
    → has_id (set_id ids k) items ≡ same_number number k
has_number ids number k items h e =
    ap (is_id (set_id ids k)) e
    ∙ ap₂ (λ (a b : Bool). a && b) (eq-eqb (length (set_id ids number)) 16 (length-set_id ids number h))
    (prefix_same ids.sets (big_bytes 8 number) (big_bytes 8 k))

pub found_by : (ids : Ids) (number k at : ℕ) (list : List Set) → AreIds ids → AreNumbered ids number list
    → set_with (own_sets at list) (set_id ids k) ≡ with_number number k at list
unfolding own_sets with_number
found_by ids number k at [] h n = refl
found_by ids number k at (set ∷ list) h n =
    let next : ℕ = at + length (spelled (item_of_set set)) in
    ap₂ (λ (b : Bool) (later : Option SetAt). cond b (Some (placed_set at set)) later)
    (has_number ids number k (map raw set.items) h n.0) (found_by ids (number + 1) k next list h n.1)

-- there is one for each number
some_with : (number k at : ℕ) (list : List Set) → number ≤ k → k < number + length list → is_some (with_number number k at list) ≡ true
unfolding with_number
some_with number k at [] low high = absurd (omega arith)
some_with number k at (set ∷ list) low high = elim (tested (same_number number k)) [
  | inl same ↦ rw same refl
  | inr other ↦
      let apart : number ≡ k → ⊥ = λ (e : number ≡ k). let is = ap (same_number number) e
      ∙ other in let self = bytes_self (big_bytes 8 number) in absurd (cc) in
      rw other (some_with (number + 1) k (at + length (spelled (item_of_set set))) list (omega arith) (omega arith))
]

pub has_sets : (cfg : Fields) (ids : Ids) (frames : Option ℕ) (at : ℕ) → AreIds ids → HasSets (own_sets at (sets cfg ids frames)) ids
unfolding sets material_sets file_sets storage_sets timecode_track picture_track
has_sets cfg ids frames at h k low high =
    let list : List Set = sets cfg ids frames in
    let above : 1 ≤ k = elim (cases_lt 0 k) [
      | inl some ↦ omega arith
      | inr none ↦ let is : nat_lt 0 k ≡ false = le-ltb 0 k none in absurd (cc)
    ] in
    let below : k < 20 = elim (cases_lt k 20) [
      | inl few ↦ few
      | inr many ↦ let is : nat_lt k 20 ≡ false = le-ltb k 20 many in absurd (cc)
    ] in
    ap is_some (found_by ids 1 k at list h (numbered cfg ids frames)) ∙ some_with 1 k at list above (omega arith)

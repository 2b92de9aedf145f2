-- The identifiers of sets, as they stand and as numbers.
use Rattle.std.proofs.Common.{◌≡◌, inl, inr, ℕ, zero, suc, ◌+◌, ◌-◌, ◌*◌, ◌/◌, ◌<◌, ◌≤◌, ◌==◌, ◌&&◌, Bool, true, false, cond, List, [], ◌∷◌, length, get_or, take, drop, Option, Some, None, refl, sym, ap, ap₂, subst, ◌∙◌, arith}
use Rattle.std.proofs.lemmas.Bool.{cases_eq, eq-eqb, ne_eqb}
use Rattle.std.proofs.lemmas.List.{drop-drop, drop_all}
use Rattle.std.proofs.lemmas.Slice.Eq.{bytes_eq-Decides}
use Rattle.std.proofs.Math.Seq.{drop-cons}
use Rattle.std.specs.BTreeMap.{BTreeMap, get}
use Rattle.std.specs.List.{AllByRecursion, list_all}
use Rattle.std.specs.Option.{is_some, option_or}
use Rattle.std.specs.Ordering.{nat_cmp}
use Rattle.std.specs.Str.{bytes_eq}
use Rattle.byteorder.specs.Endian.{big_number}
use Rattle.local_sets.specs.Sets.{RawItem}
use Rattle.local_sets.specs.Reads.{first_item, first_items, items_in, item_len}
use Rattle.local_sets.specs.laws.Numbers.{AreBytes, number_one}
use Rattle.local_sets.specs.laws.Reads.{begins, taken_bytes, dropped_bytes}
use Rattle.mxf_names.specs.declared.tags.TheConstants.{INSTANCE_ID}
use Rattle.mxf_metadata_reader.specs.References.{first_value, has_id, ids_in, is_id}
use Rattle.mxf_metadata_reader.specs.inner.Own.{number_is, number_of, own_number}
use Rattle.mxf_metadata_check.specs.declared.outline.Held.{Held}
use Rattle.mxf_metadata_check.specs.inner.Firsts.{TellsFirsts, ids_within, index_from, index_with, is_there, some_if}
use Rattle.mxf_metadata_check.specs.inner.Held.{set_held, sets_held}
use Rattle.mxf_op1a.specs.Metadata.{SetAt, set_with}

-- the values of items that are read of bytes are bytes
values_bytes : (n : ℕ) (value : List ℕ) → AreBytes value → AllByRecursion (λ (item : RawItem). AreBytes item.value) (first_items n value)
unfolding first_items
values_bytes zero value are = tt
values_bytes (suc more) value are =
    elim (first_item value) as (λ (o : Option RawItem). first_item value ≡ o → AllByRecursion (λ (item : RawItem). AreBytes item.value)
    (elim o [ None ↦ [] | Some item ↦ item ∷ first_items more (drop (item_len item) value) ])) [
      | None ↦ λ e. tt
      | Some item ↦ λ e.
          let is = (begins value item e).value in (
            subst AreBytes (sym is) (taken_bytes (length item.value) (drop 4 value) (dropped_bytes 4 value are)),
            values_bytes more (drop (item_len item) value) (dropped_bytes (item_len item) value are),
          )
    ] refl

abbrev AreBytesIf : Option (List ℕ) → Type 0
AreBytesIf None = Unit {0}
AreBytesIf (Some value) = AreBytes value

first_bytes : (tag : ℕ) (items : List RawItem) → AllByRecursion (λ (item : RawItem). AreBytes item.value) items → AreBytesIf (first_value tag items)
unfolding first_value
first_bytes tag [] h = tt
first_bytes tag (item ∷ items) h =
    elim (item.tag == tag) as (λ (b : Bool). AreBytesIf (cond b (Some item.value) (first_value tag items))) [
      | true ↦ h.0
      | false ↦ first_bytes tag items h.1
    ]

-- the test of two lists
eq_true : (xs ys : List ℕ) → xs ≡ ys → bytes_eq xs ys ≡ true
eq_true xs ys e = (bytes_eq-Decides xs ys).1 e

eq_false : (xs ys : List ℕ) → (xs ≡ ys → ⊥) → bytes_eq xs ys ≡ false
eq_false xs ys e =
    elim (bytes_eq xs ys) as (λ (b : Bool). bytes_eq xs ys ≡ b → bytes_eq xs ys ≡ false) [
      | true ↦ λ t. absurd (e ((bytes_eq-Decides xs ys).0 t))
      | false ↦ λ t. t
    ] refl

-- two lists of 16 bytes are one where their numbers are
same_id : (own id : List ℕ) → length own ≡ 16 → length id ≡ 16 → AreBytes own → AreBytes id
    → bytes_eq own id ≡ (big_number 16 id == big_number 16 own)
same_id own id p q a b = elim (cases_eq (big_number 16 id) (big_number 16 own)) [
  | inl same ↦
      let one : own ≡ id = number_one 16 own id p q a b (sym same) in
      eq_true own id one ∙ sym (eq-eqb (big_number 16 id) (big_number 16 own) same)
  | inr other ↦
      eq_false own id (λ (e : own ≡ id). other (ap (big_number 16) (sym e))) ∙ sym (ne_eqb (big_number 16 id) (big_number 16 own) other)
]

-- a set has an identifier where it has its number
id_number : (id : List ℕ) (own : Option (List ℕ)) → length id ≡ 16 → AreBytes id → AreBytesIf own → is_id id own ≡ number_is (big_number 16 id) (number_of own)
id_number id None long are h = refl
id_number id (Some own) long are h = elim (cases_eq (length own) 16) [
  | inl same ↦
      let t : (length own == 16) ≡ true = eq-eqb (length own) 16 same in
      ap (λ (b : Bool). b && bytes_eq own id) t ∙ same_id own id same long h are
      ∙ ap (λ (b : Bool). number_is (big_number 16 id) (cond b (Some (big_number 16 own)) None)) (sym t)
  | inr other ↦
      let t : (length own == 16) ≡ false = ne_eqb (length own) 16 other in
      ap (λ (b : Bool). b && bytes_eq own id) t
      ∙ ap (λ (b : Bool). number_is (big_number 16 id) (cond b (Some (big_number 16 own)) None)) (sym t)
]

has_number : (id value : List ℕ) → length id ≡ 16 → AreBytes id → AreBytes value
    → has_id id (items_in value) ≡ number_is (big_number 16 id) (own_number (items_in value))
has_number id value long are h =
    id_number id (first_value INSTANCE_ID (items_in value)) long are (first_bytes INSTANCE_ID (items_in value) (values_bytes (length value) value h))

-- the first of sets from a place on
index_step : (k : ℕ) (s : SetAt) (sets : List SetAt) (id : List ℕ)
    → index_from k (s ∷ sets) id ≡ option_or (some_if (has_id id s.set.items) k) (index_from (k + 1) sets id)
unfolding index_from
index_step k s sets id = elim (has_id id s.set.items) as (λ (b : Bool). cond b (Some k) (index_from (k + 1) sets id) ≡ option_or (some_if b k) (index_from (k + 1) sets id)) [
  | true ↦ refl
  | false ↦ refl
]

or_turned : (a b c : Option ℕ) → option_or (option_or a b) c ≡ option_or a (option_or b c)
or_turned None b c = refl
or_turned (Some x) b c = refl

or_none : (a : Option ℕ) → option_or a None ≡ a
or_none None = refl
or_none (Some x) = refl

-- what is kept tells, with the sets from a place on, which set has an identifier first
abbrev pub TellsBefore : BTreeMap ℕ ℕ → List ℕ → List Held → ℕ → Type 0
TellsBefore firsts bytes sets k =
    (id : List ℕ) → length id ≡ 16 → AreBytes id
    → option_or (get nat_cmp firsts (big_number 16 id)) (index_from k (sets_held bytes (drop k sets)) id) ≡ index_with (sets_held bytes sets) id

pub tells_none : (firsts : BTreeMap ℕ ℕ) (bytes : List ℕ) (sets : List Held) → ((q : ℕ) → get nat_cmp firsts q ≡ None) → TellsBefore firsts bytes sets 0
tells_none firsts bytes sets none id long are = ap (λ (o : Option ℕ). option_or o (index_from 0 (sets_held bytes sets) id)) (none (big_number 16 id))

pub tells_more : (old new : BTreeMap ℕ ℕ) (bytes value : List ℕ) (sets : List Held) (k : ℕ) (d : Held) → k < length sets → AreBytes bytes
    → value ≡ take (get_or sets k d).value_len (drop (get_or sets k d).value_at bytes)
    → ((q : ℕ) → get nat_cmp new q ≡ option_or (get nat_cmp old q) (some_if (number_is q (own_number (items_in value))) k))
    → TellsBefore old bytes sets k → TellsBefore new bytes sets (k + 1)
tells_more old new bytes value sets k d lt bytes_are e kept h id long are =
    let held : Held = get_or sets k d in
    let q : ℕ = big_number 16 id in
    let next : suc k ≡ k + 1 = omega arith in
    let rest : Option ℕ = index_from (k + 1) (sets_held bytes (drop (k + 1) sets)) id in
    let value_are : AreBytes value =
    subst AreBytes (sym e) (taken_bytes held.value_len (drop held.value_at bytes) (dropped_bytes held.value_at bytes bytes_are)) in
    let has : has_id id (set_held bytes held).set.items ≡ number_is q (own_number (items_in value)) =
    ap (λ (xs : List ℕ). has_id id (items_in xs)) (sym e) ∙ has_number id value long are value_are in
    let behind : index_from k (sets_held bytes (drop k sets)) id ≡ option_or (some_if (number_is q (own_number (items_in value))) k) rest =
    ap (λ (xs : List Held). index_from k (sets_held bytes xs) id) (drop-cons sets k d lt)
    ∙ index_step k (set_held bytes held) (sets_held bytes (drop (suc k) sets)) id
    ∙ ap₂ (λ (b : Bool) (n : ℕ). option_or (some_if b k) (index_from (k + 1) (sets_held bytes (drop n sets)) id)) has next in
    ap (λ (o : Option ℕ). option_or o rest) (kept q)
    ∙ or_turned (get nat_cmp old q) (some_if (number_is q (own_number (items_in value))) k) rest
    ∙ ap (option_or (get nat_cmp old q)) (sym behind)
    ∙ h id long are

none_left : (id bytes : List ℕ) (sets : List Held) (k : ℕ) → length sets ≤ k → index_from k (sets_held bytes (drop k sets)) id ≡ None
unfolding index_from
none_left id bytes sets k past = ap (λ (xs : List Held). index_from k (sets_held bytes xs) id) (drop_all k sets past)

pub tells_all : (firsts : BTreeMap ℕ ℕ) (bytes : List ℕ) (sets : List Held) (k : ℕ) → length sets ≤ k → TellsBefore firsts bytes sets k
    → TellsFirsts firsts (sets_held bytes sets)
tells_all firsts bytes sets k past h id long are =
    sym (or_none (get nat_cmp firsts (big_number 16 id)))
    ∙ ap (option_or (get nat_cmp firsts (big_number 16 id))) (sym (none_left id bytes sets k past))
    ∙ h id long are

-- no set has an identifier of another size
id_not : (id : List ℕ) (own : Option (List ℕ)) → (length id ≡ 16 → ⊥) → is_id id own ≡ false
id_not id None other = refl
id_not id (Some own) other = elim (cases_eq (length own) 16) [
  | inl same ↦
      ap (λ (b : Bool). b && bytes_eq own id) (eq-eqb (length own) 16 same)
      ∙ eq_false own id (λ (e : own ≡ id). other (ap length (sym e) ∙ same))
  | inr differs ↦ ap (λ (b : Bool). b && bytes_eq own id) (ne_eqb (length own) 16 differs)
]

pub index_not : (k : ℕ) (sets : List SetAt) (id : List ℕ) → (length id ≡ 16 → ⊥) → index_from k sets id ≡ None
unfolding index_from
index_not k [] id other = refl
index_not k (s ∷ sets) id other =
    ap (λ (b : Bool). cond b (Some k) (index_from (k + 1) sets id)) (id_not id (first_value INSTANCE_ID s.set.items) other)
    ∙ index_not (k + 1) sets id other

-- a set is there where it has a number
index_there : (k : ℕ) (sets : List SetAt) (id : List ℕ) → is_some (index_from k sets id) ≡ is_there sets id
unfolding index_from
index_there k [] id = refl
index_there k (s ∷ sets) id =
    elim (has_id id s.set.items) as (λ (b : Bool). is_some (cond b (Some k) (index_from (k + 1) sets id)) ≡ is_some (cond b (Some s) (set_with sets id))) [
      | true ↦ refl
      | false ↦ index_there (k + 1) sets id
    ]

pub there_is : (sets : List SetAt) (id : List ℕ) → is_some (index_with sets id) ≡ is_there sets id
there_is sets id = index_there 0 sets id

-- an identifier and those behind it
ids_step : (more : ℕ) (bytes : List ℕ) → ids_in (suc more) bytes ≡ take 16 bytes ∷ ids_in more (drop 16 bytes)
unfolding ids_in
ids_step more bytes = refl

pub ids_next : (bytes : List ℕ) (k count : ℕ) → k < count
    → ids_in (count - k) (drop (16 * k) bytes) ≡ take 16 (drop (16 * k) bytes) ∷ ids_in (count - (k + 1)) (drop (16 * (k + 1)) bytes)
ids_next bytes k count h =
    let more : ℕ = count - (k + 1) in
    let n : count - k ≡ suc more = omega arith in
    let moved : drop 16 (drop (16 * k) bytes) ≡ drop (16 * (k + 1)) bytes = drop-drop 16 (16 * k) bytes ∙ ap (λ (at : ℕ). drop at bytes) (omega arith) in
    ap (λ (m : ℕ). ids_in m (drop (16 * k) bytes)) n ∙ ids_step more (drop (16 * k) bytes)
    ∙ ap (λ (xs : List ℕ). take 16 (drop (16 * k) bytes) ∷ ids_in more xs) moved

pub ids_end : (bytes : List ℕ) (k count : ℕ) → count ≤ k → ids_in (count - k) (drop (16 * k) bytes) ≡ []
unfolding ids_in
ids_end bytes k count past = let none : count - k ≡ 0 = omega arith in ap (λ (n : ℕ). ids_in n (drop (16 * k) bytes)) none

-- a test of each, from one on
abbrev pub there_from : List SetAt → List ℕ → ℕ → ℕ → Bool
there_from sets bytes count k = list_all (is_there sets) (ids_in (count - k) (drop (16 * k) bytes))

pub there_step : (sets : List SetAt) (bytes id : List ℕ) (count k : ℕ) (b : Bool) → k < count → id ≡ take 16 (drop (16 * k) bytes) → is_there sets id ≡ b
    → there_from sets bytes count k ≡ (b && there_from sets bytes count (k + 1))
there_step sets bytes id count k b h e t =
    ap (list_all (is_there sets)) (ids_next bytes k count h)
    ∙ ap (λ (x : Bool). x && there_from sets bytes count (k + 1)) (ap (is_there sets) (sym e) ∙ t)

pub there_end : (sets : List SetAt) (bytes : List ℕ) (count k : ℕ) → count ≤ k → there_from sets bytes count k ≡ true
there_end sets bytes count k past = ap (list_all (is_there sets)) (ids_end bytes k count past)

pub there_whole : (sets : List SetAt) (bytes : List ℕ) → there_from sets bytes (length bytes / 16) 0 ≡ list_all (is_there sets) (ids_within bytes)
there_whole sets bytes = ap (λ (n : ℕ). list_all (is_there sets) (ids_in n bytes)) (omega arith)

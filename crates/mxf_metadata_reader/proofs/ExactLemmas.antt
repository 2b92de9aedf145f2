-- Bytes are metadata in one way at most.
use Rattle.std.proofs.Common.{◌≡◌, inl, inr, ℕ, ◌+◌, ◌<◌, ◌⊎◌, List, [], ◌∷◌, ◌++◌, length, Option, Some, None, refl, sym, ap, ap₂, ◌∙◌, arith}
use Rattle.std.proofs.Common.{append_assoc, length-append}
use Rattle.std.specs.List.{flat_map, AllByRecursion}
use Rattle.klv.specs.Items.{Item, IsItem, klv_head, length_bytes, spelled}
use Rattle.klv.specs.Reads.{HasItemAt}
use Rattle.klv.specs.laws.Lengths.{length-length_bytes}
use Rattle.mxf_metadata_reader.specs.Fields.{fields_of}
use Rattle.mxf_metadata_reader.specs.PlacedSets.{sets_from}
use Rattle.mxf_metadata_reader.specs.PrimerTags.{tags_of_primer}
use Rattle.mxf_metadata_reader.specs.Reads.{HasPrimer, HasFault, IsReadSets, Metadata, Refuses, end_of, fault_of, first_fault, sets_behind}
use Rattle.mxf_metadata_reader.specs.declared.fault.SetFault.{SetFault}
use Rattle.mxf_metadata_reader.specs.declared.fault.SetFault.TheVariants.{Memory, NotPrimer, UnknownTag, SetCut, ItemSize, BrokenReference}
use Rattle.mxf_metadata_reader.specs.declared.fields.Sets.{Sets}

-- a length has bytes
some_length : (item : Item) → 0 < length (length_bytes item.form (length item.value))
some_length item = omega (arith, length-length_bytes item.form (length item.value))

-- an item has bytes
spelled_some : (item : Item) (rest : List ℕ) → 0 < length (spelled item ++ rest)
spelled_some item rest = omega (
  arith,
  some_length item,
  length-append (spelled item) rest,
  length-append (klv_head item.key item.form (length item.value)) item.value,
  length-append item.key (length_bytes item.form (length item.value)),
)

-- where no item begins, none does
none_begins : (item : Item) (rest x : List ℕ) → IsItem item → x ≡ spelled item ++ rest → (x ≡ []) ⊎ (¬ HasItemAt x 0) → ⊥
none_begins item rest x is e f = elim f [
  | inl none ↦ absurd (omega (arith, ap length (sym e ∙ none), spelled_some item rest))
  | inr none ↦ none (item, record { is_item = is; rest = rest; bytes_are = e })
]

-- bytes begin with one list of items up to where none begins
items_one : (law : (a b : Item) (x y : List ℕ) → IsItem a → IsItem b → spelled a ++ x ≡ spelled b ++ y → (a ≡ b) × (x ≡ y))
    (a b : List Item) (x y : List ℕ) → AllByRecursion IsItem a → AllByRecursion IsItem b → flat_map spelled a ++ x ≡ flat_map spelled b ++ y
    → (x ≡ []) ⊎ (¬ HasItemAt x 0) → (y ≡ []) ⊎ (¬ HasItemAt y 0) → (a ≡ b) × (x ≡ y)
items_one law [] [] x y p q e f g = (refl, e)
items_one law [] (j ∷ b) x y p q e f g =
    let begins : x ≡ spelled j ++ (flat_map spelled b ++ y) = e ∙ append_assoc (spelled j) (flat_map spelled b) y in
    absurd (none_begins j (flat_map spelled b ++ y) x q.0 begins f)
items_one law (i ∷ a) [] x y p q e f g =
    let begins : y ≡ spelled i ++ (flat_map spelled a ++ x) = sym e ∙ append_assoc (spelled i) (flat_map spelled a) x in
    absurd (none_begins i (flat_map spelled a ++ x) y p.0 begins g)
items_one law (i ∷ a) (j ∷ b) x y p q e f g =
    let whole : spelled i ++ (flat_map spelled a ++ x) ≡ spelled j ++ (flat_map spelled b ++ y) =
    sym (append_assoc (spelled i) (flat_map spelled a) x) ∙ e ∙ append_assoc (spelled j) (flat_map spelled b) y in
    let one = law i j (flat_map spelled a ++ x) (flat_map spelled b ++ y) p.0 q.0 whole in
    let more = items_one law a b x y p.1 q.1 one.1 f g in
    (ap₂ (λ (first : Item) (items : List Item). first ∷ items) one.0 more.0, more.1)

-- what an answer has
value_or : {A : Type 0} → A → Option A → A
value_or x None = x
value_or x (Some y) = y

-- what some answer is, once
some_one : {A : Type 0} (x y : A) → Some x ≡ Some y → x ≡ y
unfolding value_or
some_one x y e = ap (value_or x) e

-- metadata is one: what it says and what is wrong with it
pub record AreSame {bytes : List ℕ} (a b : Metadata bytes) : Type 0 where
  pub sets : sets_behind a ≡ sets_behind b
  pub fault : first_fault a ≡ first_fault b

pub metadata_one : (law : (a b : Item) (x y : List ℕ) → IsItem a → IsItem b → spelled a ++ x ≡ spelled b ++ y → (a ≡ b) × (x ≡ y))
    (bytes : List ℕ) (a b : Metadata bytes) → AreSame a b
metadata_one law bytes a b =
    let first = law a.front.primer b.front.primer a.front.stands.rest b.front.stands.rest a.front.stands.is_item b.front.stands.is_item
    (sym a.front.stands.bytes_are ∙ b.front.stands.bytes_are) in
    let items = items_one law a.items b.items a.rest b.rest a.behind.each b.behind.each (sym a.behind.bytes_are ∙ first.1
    ∙ b.behind.bytes_are) a.behind.ends b.behind.ends in
    let tags : a.front.tags ≡ b.front.tags = some_one a.front.tags b.front.tags (sym a.front.tags_are ∙ ap tags_of_primer first.0 ∙ b.front.tags_are) in
    let start : length (spelled a.front.primer) ≡ length (spelled b.front.primer) = ap (λ (item : Item). length (spelled item)) first.0 in
    let sets : sets_behind a ≡ sets_behind b = ap₂ sets_from start items.0 in
    let end : end_of a ≡ end_of b = ap₂ (λ (n : ℕ) (xs : List Item). n + length (flat_map spelled xs)) start items.0 in
    record {
      sets = sets;
      fault = λ i. fault_of (tags i) (sets i) (end i) (items.1 i);
    }

-- so it says one thing
pub read_one : (law : (a b : Item) (x y : List ℕ) → IsItem a → IsItem b → spelled a ++ x ≡ spelled b ++ y → (a ≡ b) × (x ≡ y))
    (bytes : List ℕ) (a b : Sets) → IsReadSets bytes a → IsReadSets bytes b → a ≡ b
read_one law bytes a b p q = p.fields ∙ ap fields_of (metadata_one law bytes p.metadata q.metadata).sets ∙ sym q.fields

-- or has one fault
fault_one : (law : (a b : Item) (x y : List ℕ) → IsItem a → IsItem b → spelled a ++ x ≡ spelled b ++ y → (a ≡ b) × (x ≡ y))
    (bytes : List ℕ) (a b : Option SetFault) → HasFault bytes a → HasFault bytes b → a ≡ b
fault_one law bytes a b p q = sym p.1 ∙ (metadata_one law bytes p.0 q.0).fault ∙ q.1

-- a refusal is want of memory, want of a primer pack, or a fault
pub data Cause (bytes : List ℕ) (fault : SetFault) : Type 0 where
  memory : fault ≡ Memory → Cause bytes fault
  primer : fault ≡ NotPrimer → (¬ HasPrimer bytes) → Cause bytes fault
  wrong : HasFault bytes (Some fault) → Cause bytes fault

cause_of : (bytes : List ℕ) (fault : SetFault) → Refuses bytes fault → Cause bytes fault
cause_of bytes Memory r = memory refl
cause_of bytes NotPrimer r = primer refl r
cause_of bytes (UnknownTag at tag) r = wrong r
cause_of bytes (SetCut at tag) r = wrong r
cause_of bytes (ItemSize at tag) r = wrong r
cause_of bytes (BrokenReference at tag) r = wrong r

pub read_or_refused : (law : (a b : Item) (x y : List ℕ) → IsItem a → IsItem b → spelled a ++ x ≡ spelled b ++ y → (a ≡ b) × (x ≡ y))
    (bytes : List ℕ) (sets : Sets) (fault : SetFault) → IsReadSets bytes sets → Refuses bytes fault → fault ≡ Memory
read_or_refused law bytes sets fault p r = elim (cause_of bytes fault r) [
  | memory e ↦ e
  | primer e none ↦ absurd (none p.metadata.front)
  | wrong has ↦ let bad = fault_one law bytes None (Some fault) (p.metadata, p.right) has in absurd (cc)
]

pub refusal_one : (law : (a b : Item) (x y : List ℕ) → IsItem a → IsItem b → spelled a ++ x ≡ spelled b ++ y → (a ≡ b) × (x ≡ y))
    (bytes : List ℕ) (a b : SetFault) → Refuses bytes a → Refuses bytes b → (a ≡ Memory → ⊥) → (b ≡ Memory → ⊥) → a ≡ b
refusal_one law bytes a b p q not_a not_b = elim (cause_of bytes a p) [
  | memory e ↦ absurd (not_a e)
  | primer e none ↦ elim (cause_of bytes b q) [
    | memory f ↦ absurd (not_b f)
    | primer f none_too ↦ e ∙ sym f
    | wrong has ↦ absurd (none has.0.front)
  ]
  | wrong has ↦ elim (cause_of bytes b q) [
    | memory f ↦ absurd (not_b f)
    | primer f none ↦ absurd (none has.0.front)
    | wrong has_too ↦ some_one a b (fault_one law bytes (Some a) (Some b) has has_too)
  ]
]

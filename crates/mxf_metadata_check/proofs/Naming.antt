-- The identifiers that an item names, as they stand in its value.
use Rattle.std.proofs.Common.{◌≡◌, inl, inr, ℕ, ◌+◌, ◌*◌, ◌/◌, ◌==◌, ◌&&◌, Bool, true, false, cond, List, [], ◌∷◌, length, nat_lt, drop, Option, Some, None, refl, sym, ap, subst, ◌∙◌, arith}
use Rattle.std.proofs.lemmas.Bool.{cases_eq, ne_eqb, eqb-true}
use Rattle.std.proofs.lemmas.List.{length-drop, take_all}
use Rattle.byteorder.specs.Endian.{big_number}
use Rattle.local_sets.specs.Sets.{RawItem}
use Rattle.mxf_metadata.specs.Nodes.{is_reference}
use Rattle.mxf_metadata.specs.declared.tags.Size.{Size}
use Rattle.mxf_metadata.specs.declared.tags.Size.TheVariants.{Fixed, Batch, Letters}
use Rattle.mxf_metadata.specs.declared.tags.TheConstants.{CONTENT_STORAGE, IDENTIFICATIONS, PACKAGES, ESSENCE_CONTAINER_DATA, TRACKS, SEQUENCE, STRUCTURAL_COMPONENTS, DESCRIPTOR}
use Rattle.mxf_metadata_reader.specs.PrimerTags.{is_batch_of}
use Rattle.mxf_metadata_reader.specs.References.{ids_in, ids_of_size, names_of}
use Rattle.mxf_metadata_reader.specs.Sizes.{has_size_if, is_sized, size_among, size_of}
use Rattle.mxf_metadata_check.specs.inner.Firsts.{ids_within, is_batch}

-- a size of a name: one identifier or a batch of them
abbrev IsNameSize : Option Size → Type 0
IsNameSize None = ⊥
IsNameSize (Some (Fixed count)) = count ≡ 16
IsNameSize (Some Batch) = Unit {0}
IsNameSize (Some Letters) = ⊥

named_or : (tag other : ℕ) (kinds others : List ℕ) → IsNameSize (size_of other) → (nat_lt 0 (length others) ≡ true → IsNameSize (size_of tag))
    → nat_lt 0 (length (cond (tag == other) kinds others)) ≡ true → IsNameSize (size_of tag)
named_or tag other kinds others is rest h = elim (cases_eq tag other) [
  | inl same ↦ subst (λ (n : ℕ). IsNameSize (size_of n)) (sym same) is
  | inr differs ↦ rest (ap (λ (b : Bool). nat_lt 0 (length (cond b kinds others))) (sym (ne_eqb tag other differs)) ∙ h)
]

abbrev no_kinds : List ℕ
no_kinds = []

name_sized : (tag : ℕ) → is_reference tag ≡ true → IsNameSize (size_of tag)
unfolding size_among
name_sized tag h =
    named_or tag CONTENT_STORAGE _ _ refl
    (named_or tag IDENTIFICATIONS _ _ tt
    (named_or tag PACKAGES _ _ tt
    (named_or tag ESSENCE_CONTAINER_DATA _ _ tt
    (named_or tag TRACKS _ _ tt
    (named_or tag SEQUENCE _ _ refl
    (named_or tag STRUCTURAL_COMPONENTS _ _ tt
    (named_or tag DESCRIPTOR _ no_kinds refl (λ e. absurd (cc))))))))) h

and_first : (a b : Bool) → (a && b) ≡ true → a ≡ true
and_first true b e = refl
and_first false b e = absurd (cc)

and_second : (a b : Bool) → (a && b) ≡ true → b ≡ true
and_second true b e = e
and_second false b e = absurd (cc)

pub not_named : (item : RawItem) → (is_reference item.tag && is_sized item.tag item.value) ≡ false → names_of item ≡ []
not_named item e = ap (λ (b : Bool). cond b (ids_of_size (size_of item.tag) item.value) []) e

names_are : (item : RawItem) → (is_reference item.tag && is_sized item.tag item.value) ≡ true → names_of item ≡ ids_of_size (size_of item.tag) item.value
names_are item e = ap (λ (b : Bool). cond b (ids_of_size (size_of item.tag) item.value) []) e

-- so many whole identifiers
batch_within : (value : List ℕ) → is_batch_of 16 value ≡ true → ids_in (big_number 4 value) (drop 8 value) ≡ ids_within (drop 8 value)
batch_within value e =
    let long : length value ≡ 8 + 16 * big_number 4 value = eqb-true (length value) (8 + 16 * big_number 4 value) (and_first _ _ e) in
    let behind = length-drop 8 value in
    let count : big_number 4 value ≡ length (drop 8 value) / 16 = omega (arith, long, behind) in
    ap (λ (n : ℕ). ids_in n (drop 8 value)) count

one_within : (value : List ℕ) → length value ≡ 16 → value ∷ [] ≡ ids_within value
unfolding ids_in
one_within value long =
    let one : length value / 16 ≡ 1 = omega (arith, long) in
    sym (ap (λ (n : ℕ). ids_in n value) one ∙ ap (λ (xs : List ℕ). xs ∷ []) (take_all 16 value (omega (arith, long))))

by_size : (size : Option Size) (value : List ℕ) → IsNameSize size → has_size_if size value ≡ true → is_batch size ≡ true → ids_of_size size value ≡ ids_within (drop 8 value)
by_size None value is e b = absurd (cc)
by_size (Some (Fixed count)) value is e b = absurd (cc)
by_size (Some Batch) value is e b = batch_within value e
by_size (Some Letters) value is e b = absurd (cc)

by_other : (size : Option Size) (value : List ℕ) → IsNameSize size → has_size_if size value ≡ true → is_batch size ≡ false → ids_of_size size value ≡ ids_within value
by_other None value is e b = absurd is
by_other (Some (Fixed count)) value is e b = one_within value (eqb-true (length value) count e ∙ is)
by_other (Some Batch) value is e b = absurd (cc)
by_other (Some Letters) value is e b = absurd is

pub batch_named : (item : RawItem) → (is_reference item.tag && is_sized item.tag item.value) ≡ true → is_batch (size_of item.tag) ≡ true
    → names_of item ≡ ids_within (drop 8 item.value)
batch_named item e b = names_are item e ∙ by_size (size_of item.tag) item.value (name_sized item.tag (and_first _ _ e)) (and_second _ _ e) b

pub one_named : (item : RawItem) → (is_reference item.tag && is_sized item.tag item.value) ≡ true → is_batch (size_of item.tag) ≡ false
    → names_of item ≡ ids_within item.value
one_named item e b = names_are item e ∙ by_other (size_of item.tag) item.value (name_sized item.tag (and_first _ _ e)) (and_second _ _ e) b

pub none_within : ids_within [] ≡ []
unfolding ids_in
none_within = refl

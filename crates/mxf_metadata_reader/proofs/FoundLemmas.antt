-- The identifiers that an item names, one after the other, and whether sets have them.
use Rattle.std.proofs.Common.{◌≡◌, ℕ, suc, ◌+◌, ◌-◌, ◌*◌, ◌<◌, ◌≤◌, ◌&&◌, Bool, true, false, cond, List, [], ◌∷◌}
use Rattle.std.proofs.Common.{take, drop, Option, Some, None, refl, sym, ap, ◌∙◌, arith}
use Rattle.std.proofs.lemmas.List.{drop-drop}
use Rattle.byteorder.specs.Endian.{big_number}
use Rattle.local_sets.specs.Sets.{RawItem}
use Rattle.mxf_metadata_reader.specs.PlacedSets.{PlacedSet}
use Rattle.mxf_metadata.specs.Nodes.{is_reference}
use Rattle.mxf_metadata.specs.declared.tags.Size.{Size}
use Rattle.mxf_metadata.specs.declared.tags.Size.TheVariants.{Fixed, Batch, Letters}
use Rattle.mxf_metadata_reader.specs.PrimerTags.{is_batch_of}
use Rattle.mxf_metadata_reader.specs.Sizes.{has_size_if, is_sized, size_of}
use Rattle.mxf_metadata_reader.specs.References.{all_found, ids_in, ids_of_size, is_found, names_of}

-- an identifier and those behind it
ids_step : (more : ℕ) (bytes : List ℕ) → ids_in (suc more) bytes ≡ take 16 bytes ∷ ids_in more (drop 16 bytes)
unfolding ids_in
ids_step more bytes = refl

ids_next : (bytes : List ℕ) (k count : ℕ) → k < count
    → ids_in (count - k) (drop (16 * k) bytes) ≡ take 16 (drop (16 * k) bytes) ∷ ids_in (count - (k + 1)) (drop (16 * (k + 1)) bytes)
ids_next bytes k count h =
    let more : ℕ = count - (k + 1) in
    let n : count - k ≡ suc more = omega arith in
    let moved : drop 16 (drop (16 * k) bytes) ≡ drop (16 * (k + 1)) bytes = drop-drop 16 (16 * k) bytes ∙ ap (λ (at : ℕ). drop at bytes) (omega arith) in
    ap (λ (m : ℕ). ids_in m (drop (16 * k) bytes)) n ∙ ids_step more (drop (16 * k) bytes)
    ∙ ap (λ (xs : List ℕ). take 16 (drop (16 * k) bytes) ∷ ids_in more xs) moved

all_step : (sets : List PlacedSet) (id : List ℕ) (ids : List (List ℕ)) → all_found sets (id ∷ ids) ≡ (is_found id sets && all_found sets ids)
unfolding all_found
all_step sets id ids = refl

-- from an identifier on
abbrev pub found_from : List PlacedSet → List ℕ → ℕ → ℕ → Bool
found_from sets bytes count k = all_found sets (ids_in (count - k) (drop (16 * k) bytes))

from_step : (sets : List PlacedSet) (bytes : List ℕ) (count k : ℕ) → k < count
    → found_from sets bytes count k ≡ (is_found (take 16 (drop (16 * k) bytes)) sets && found_from sets bytes count (k + 1))
from_step sets bytes count k h =
    ap (all_found sets) (ids_next bytes k count h) ∙ all_step sets (take 16 (drop (16 * k) bytes)) (ids_in (count - (k + 1)) (drop (16 * (k + 1)) bytes))

pub from_whole : (sets : List PlacedSet) (bytes : List ℕ) (count : ℕ) → all_found sets (ids_in count bytes) ≡ found_from sets bytes count 0
from_whole sets bytes count = ap (λ (n : ℕ). all_found sets (ids_in n bytes)) (omega arith)

pub from_true : (sets : List PlacedSet) (bytes id : List ℕ) (count k : ℕ) → k < count → id ≡ take 16 (drop (16 * k) bytes) → is_found id sets ≡ true
    → found_from sets bytes count k ≡ found_from sets bytes count (k + 1)
from_true sets bytes id count k h e t =
    from_step sets bytes count k h
    ∙ ap (λ (b : Bool). b && found_from sets bytes count (k + 1)) (ap (λ (xs : List ℕ). is_found xs sets) (sym e) ∙ t)

pub from_false : (sets : List PlacedSet) (bytes id : List ℕ) (count k : ℕ) → k < count → id ≡ take 16 (drop (16 * k) bytes) → is_found id sets ≡ false
    → found_from sets bytes count k ≡ false
from_false sets bytes id count k h e t =
    from_step sets bytes count k h
    ∙ ap (λ (b : Bool). b && found_from sets bytes count (k + 1)) (ap (λ (xs : List ℕ). is_found xs sets) (sym e) ∙ t)

pub from_end : (sets : List PlacedSet) (bytes : List ℕ) (count k : ℕ) → count ≤ k → found_from sets bytes count k ≡ true
unfolding all_found ids_in
from_end sets bytes count k past =
    let none : count - k ≡ 0 = omega arith in
    ap (λ (n : ℕ). all_found sets (ids_in n (drop (16 * k) bytes))) none

-- an item names sets, where its tag does and its value has its size
names_are : (item : RawItem) → (is_reference item.tag && is_sized item.tag item.value) ≡ true → names_of item ≡ ids_of_size (size_of item.tag) item.value
names_are item e = ap (λ (b : Bool). cond b (ids_of_size (size_of item.tag) item.value) []) e

names_none : (item : RawItem) → (is_reference item.tag && is_sized item.tag item.value) ≡ false → names_of item ≡ []
names_none item e = ap (λ (b : Bool). cond b (ids_of_size (size_of item.tag) item.value) []) e

pub not_named : (sets : List PlacedSet) (item : RawItem) → (is_reference item.tag && is_sized item.tag item.value) ≡ false
    → all_found sets (names_of item) ≡ true
unfolding all_found
not_named sets item e = ap (all_found sets) (names_none item e)

-- those of a batch, or one
pub batch_named : (sets : List PlacedSet) (item : RawItem) → (is_reference item.tag && is_sized item.tag item.value) ≡ true → size_of item.tag ≡ Some Batch
    → all_found sets (names_of item) ≡ all_found sets (ids_in (big_number 4 item.value) (drop 8 item.value))
batch_named sets item e size = ap (all_found sets) (names_are item e ∙ ap (λ (o : Option Size). ids_of_size o item.value) size)

and_true : (b : Bool) → (b && true) ≡ b
and_true true = refl
and_true false = refl

one_found : (sets : List PlacedSet) (id : List ℕ) → all_found sets (id ∷ []) ≡ is_found id sets
unfolding all_found
one_found sets id = and_true (is_found id sets)

-- a size that isn't a batch's
abbrev pub IsNoBatch : Option Size → Type 0
IsNoBatch None = Unit {0}
IsNoBatch (Some (Fixed count)) = Unit {0}
IsNoBatch (Some Batch) = ⊥
IsNoBatch (Some Letters) = Unit {0}

one_of_size : (size : Option Size) (value : List ℕ) → IsNoBatch size → ids_of_size size value ≡ value ∷ []
one_of_size None value h = refl
one_of_size (Some (Fixed count)) value h = refl
one_of_size (Some Batch) value h = absurd h
one_of_size (Some Letters) value h = refl

pub one_named : (sets : List PlacedSet) (item : RawItem) → (is_reference item.tag && is_sized item.tag item.value) ≡ true → IsNoBatch (size_of item.tag)
    → all_found sets (names_of item) ≡ is_found item.value sets
one_named sets item e size = ap (all_found sets) (names_are item e ∙ one_of_size (size_of item.tag) item.value size) ∙ one_found sets item.value

-- a value of a batch's size is a batch
pub batch_sized : (tag : ℕ) (value : List ℕ) → is_sized tag value ≡ true → size_of tag ≡ Some Batch → is_batch_of 16 value ≡ true
batch_sized tag value e size = ap (λ (o : Option Size). has_size_if o value) (sym size) ∙ e

-- a test whose parts hold
pub and_second : (a b : Bool) → (a && b) ≡ true → b ≡ true
and_second true b e = e
and_second false b e = absurd (cc)

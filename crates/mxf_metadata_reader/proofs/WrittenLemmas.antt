-- The sets that are written, as they are read.
use Rattle.std.proofs.Common.{◌≡◌, inl, inr, ℕ, ◌<◌, ◌%◌, ◌==◌, ◌&&◌, nat_lt, Bool, true, false, cond, List, [], ◌∷◌, ◌++◌, length, take, map, Option}
use Rattle.std.proofs.Common.{Some, None, refl, sym, ap, ap₂, ◌∙◌, arith, length-append}
use Rattle.std.proofs.lemmas.Bool.{cases_lt, eq-eqb, le-ltb}
use Rattle.std.proofs.lemmas.List.{take_at, drop_at}
use Rattle.std.specs.List.{list_all, AllByRecursion}
use Rattle.klv.specs.Items.{IsItem, length_limit}
use Rattle.local_sets.specs.Sets.{IsRawItem, raw, set_item}
use Rattle.local_sets.specs.Values.{value_bytes, batch_bytes}
use Rattle.local_sets.specs.laws.Lengths.{IsSized, items_size, length-items_bytes, length-value_bytes, value_size}
use Rattle.local_sets.specs.declared.set.Item.{Item}
use Rattle.local_sets.specs.declared.value.Value.{Value}
use Rattle.local_sets.specs.declared.value.Value.TheVariants.{Byte, Short, Word, Long, Ratio, Duration, Label, Umid, EmptyBatch, BatchOfOne, BatchOfTwo, Text}
use Rattle.mxf_names.specs.Keys.{set_key}
use Rattle.mxf_metadata.specs.Metadata.{Set}
use Rattle.mxf_metadata.specs.Nodes as nodes
use Rattle.mxf_metadata.specs.Nodes.{ids_at, is_reference, node, references}
use Rattle.mxf_metadata.specs.Tags.{is_among}
use Rattle.mxf_metadata.specs.declared.tags.Size.{Size}
use Rattle.mxf_metadata.specs.declared.tags.Size.TheVariants.{Fixed, Batch, Letters}
use Rattle.mxf_metadata_reader.specs.PrimerTags.{is_batch_of}
use Rattle.mxf_metadata_reader.specs.References.{ids_in, ids_of_size}
use Rattle.mxf_metadata_reader.specs.Sizes.{has_size_if, is_sized, size_of}

-- a value has the size of its tag, by a test that computes
abbrev pub fits : Option Size → Value → Bool
fits None value = true
fits (Some (Fixed count)) value = value_size value == count
fits (Some Letters) value = value_size value % 2 == 0
fits (Some Batch) (Byte number) = false
fits (Some Batch) (Short number) = false
fits (Some Batch) (Word number) = false
fits (Some Batch) (Long number) = false
fits (Some Batch) (Ratio numerator denominator) = false
fits (Some Batch) (Duration count) = false
fits (Some Batch) (Label bytes) = false
fits (Some Batch) (Umid bytes) = false
fits (Some Batch) EmptyBatch = true
fits (Some Batch) (BatchOfOne item) = true
fits (Some Batch) (BatchOfTwo first second) = true
fits (Some Batch) (Text letters count) = false

one_batch : (id : List ℕ) → length id ≡ 16 → is_batch_of 16 (batch_bytes (id ∷ [])) ≡ true
one_batch id h = ap (λ (b : Bool). b && true) (eq-eqb (length (batch_bytes (id ∷ []))) 24 (omega (arith, length-append id [], h)))

two_batch : (a b : List ℕ) → length a ≡ 16 → length b ≡ 16 → is_batch_of 16 (batch_bytes (a ∷ b ∷ [])) ≡ true
two_batch a b g h =
    ap (λ (t : Bool). t && true) (eq-eqb (length (batch_bytes (a ∷ b ∷ []))) 40 (omega (arith, length-append a (b ++ []), length-append b [], g, h)))

fits_sized : (size : Option Size) (value : Value) → IsSized value → fits size value ≡ true → has_size_if size (value_bytes value) ≡ true
fits_sized None value h t = refl
fits_sized (Some (Fixed count)) value h t = ap (λ (n : ℕ). n == count) (length-value_bytes value h) ∙ t
fits_sized (Some Letters) value h t = ap (λ (n : ℕ). n % 2 == 0) (length-value_bytes value h) ∙ t
fits_sized (Some Batch) (Byte number) h t = absurd (cc)
fits_sized (Some Batch) (Short number) h t = absurd (cc)
fits_sized (Some Batch) (Word number) h t = absurd (cc)
fits_sized (Some Batch) (Long number) h t = absurd (cc)
fits_sized (Some Batch) (Ratio numerator denominator) h t = absurd (cc)
fits_sized (Some Batch) (Duration count) h t = absurd (cc)
fits_sized (Some Batch) (Label bytes) h t = absurd (cc)
fits_sized (Some Batch) (Umid bytes) h t = absurd (cc)
fits_sized (Some Batch) EmptyBatch h t = refl
fits_sized (Some Batch) (BatchOfOne item) h t = one_batch item h
fits_sized (Some Batch) (BatchOfTwo first second) h t = two_batch first second h.0 h.1
fits_sized (Some Batch) (Text letters count) h t = absurd (cc)

-- a value names what is in it, by a test that computes
abbrev pub names : Option Size → Value → Bool
names None value = false
names (Some Letters) value = false
names (Some (Fixed size)) (Byte number) = false
names (Some (Fixed size)) (Short number) = false
names (Some (Fixed size)) (Word number) = false
names (Some (Fixed size)) (Long number) = false
names (Some (Fixed size)) (Ratio numerator denominator) = false
names (Some (Fixed size)) (Duration frames) = false
names (Some (Fixed size)) (Label bytes) = true
names (Some (Fixed size)) (Umid bytes) = false
names (Some (Fixed size)) EmptyBatch = false
names (Some (Fixed size)) (BatchOfOne item) = false
names (Some (Fixed size)) (BatchOfTwo first second) = false
names (Some (Fixed size)) (Text letters count) = false
names (Some Batch) (Byte number) = false
names (Some Batch) (Short number) = false
names (Some Batch) (Word number) = false
names (Some Batch) (Long number) = false
names (Some Batch) (Ratio numerator denominator) = false
names (Some Batch) (Duration frames) = false
names (Some Batch) (Label bytes) = false
names (Some Batch) (Umid bytes) = false
names (Some Batch) EmptyBatch = true
names (Some Batch) (BatchOfOne item) = true
names (Some Batch) (BatchOfTwo first second) = true
names (Some Batch) (Text letters count) = false

one_id : (id rest : List ℕ) → length id ≡ 16 → take 16 (id ++ rest) ≡ id
one_id id rest h = take_at id rest 16 h

batch_one : (id : List ℕ) → length id ≡ 16 → ids_of_size (Some Batch) (value_bytes (BatchOfOne id)) ≡ id ∷ []
unfolding ids_in
batch_one id h = ap (λ (xs : List ℕ). xs ∷ []) (one_id id [] h)

batch_two : (a b : List ℕ) → length a ≡ 16 → length b ≡ 16 → ids_of_size (Some Batch) (value_bytes (BatchOfTwo a b)) ≡ a ∷ b ∷ []
unfolding ids_in
batch_two a b g h =
    ap₂ (λ (xs ys : List ℕ). xs ∷ ys ∷ []) (one_id a (b ++ []) g)
    (ap (take 16) (drop_at a (b ++ []) 16 g) ∙ one_id b [] h)

batch_none : ids_of_size (Some Batch) (value_bytes EmptyBatch) ≡ []
unfolding ids_in
batch_none = refl

-- the identifiers in a value are those that are read
named_so : (size : Option Size) (value : Value) → IsSized value → names size value ≡ true → ids_of_size size (value_bytes value) ≡ nodes.ids_in value
named_so None value h t = absurd (cc)
named_so (Some Letters) value h t = absurd (cc)
named_so (Some (Fixed size)) (Byte number) h t = absurd (cc)
named_so (Some (Fixed size)) (Short number) h t = absurd (cc)
named_so (Some (Fixed size)) (Word number) h t = absurd (cc)
named_so (Some (Fixed size)) (Long number) h t = absurd (cc)
named_so (Some (Fixed size)) (Ratio numerator denominator) h t = absurd (cc)
named_so (Some (Fixed size)) (Duration frames) h t = absurd (cc)
named_so (Some (Fixed size)) (Label bytes) h t = refl
named_so (Some (Fixed size)) (Umid bytes) h t = absurd (cc)
named_so (Some (Fixed size)) EmptyBatch h t = absurd (cc)
named_so (Some (Fixed size)) (BatchOfOne item) h t = absurd (cc)
named_so (Some (Fixed size)) (BatchOfTwo first second) h t = absurd (cc)
named_so (Some (Fixed size)) (Text letters count) h t = absurd (cc)
named_so (Some Batch) (Byte number) h t = absurd (cc)
named_so (Some Batch) (Short number) h t = absurd (cc)
named_so (Some Batch) (Word number) h t = absurd (cc)
named_so (Some Batch) (Long number) h t = absurd (cc)
named_so (Some Batch) (Ratio numerator denominator) h t = absurd (cc)
named_so (Some Batch) (Duration frames) h t = absurd (cc)
named_so (Some Batch) (Label bytes) h t = absurd (cc)
named_so (Some Batch) (Umid bytes) h t = absurd (cc)
named_so (Some Batch) EmptyBatch h t = batch_none
named_so (Some Batch) (BatchOfOne item) h t = batch_one item h
named_so (Some Batch) (BatchOfTwo first second) h t = batch_two first second h.0 h.1
named_so (Some Batch) (Text letters count) h t = absurd (cc)

-- what is asked of an item that is written, by a test that computes
abbrev pub item_ok : List ℕ → Item → Bool
item_ok tags item =
    nat_lt item.tag 65536 && (nat_lt (value_size item.value) 65536 && (is_among item.tag tags && (fits (size_of item.tag) item.value
    && cond (is_reference item.tag) (names (size_of item.tag) item.value) true)))

abbrev pub set_ok : List ℕ → Set → Bool
set_ok tags set = list_all (item_ok tags) set.items && nat_lt (items_size set.items) 16777216

abbrev pub all_ok : List ℕ → List Set → Bool
all_ok tags sets = list_all (set_ok tags) sets

both : (a b : Bool) → (a && b) ≡ true → (a ≡ true) × (b ≡ true)
both true true e = (refl, refl)
both true false e = absurd (cc)
both false b e = absurd (cc)

pub small : (n limit : ℕ) → nat_lt n limit ≡ true → n < limit
small n limit t = elim (cases_lt n limit) [
  | inl lt ↦ lt
  | inr ge ↦ let f : nat_lt n limit ≡ false = le-ltb n limit ge in let bad = sym f ∙ t in absurd (cc)
]

-- of an item: it fits, and nothing is wrong with it
pub record IsGood (tags : List ℕ) (item : Item) : Type 0 where
  pub is_raw : IsRawItem (raw item)
  pub known : is_among item.tag tags ≡ true
  pub sized : is_sized item.tag (value_bytes item.value) ≡ true
  pub named : is_reference item.tag ≡ true → ids_of_size (size_of item.tag) (value_bytes item.value) ≡ nodes.ids_in item.value

reference_named : (b : Bool) (size : Option Size) (value : Value) → (cond b (names size value) true) ≡ true → b ≡ true → names size value ≡ true
reference_named true size value t e = t
reference_named false size value t e = absurd (cc)

good_item : (tags : List ℕ) (item : Item) → IsSized item.value → item_ok tags item ≡ true → IsGood tags item
good_item tags item h t =
    let a = both (nat_lt item.tag 65536) _ t in
    let b = both (nat_lt (value_size item.value) 65536) _ a.1 in
    let c = both (is_among item.tag tags) _ b.1 in
    let d = both (fits (size_of item.tag) item.value) _ c.1 in
    let tag = small item.tag 65536 a.0 in
    let len = small (value_size item.value) 65536 b.0 in
    let long = length-value_bytes item.value h in
    record {
      is_raw = record { tag = tag; fits = omega (arith, len, long) };
      known = c.0;
      sized = fits_sized (size_of item.tag) item.value h d.0;
      named = λ e. named_so (size_of item.tag) item.value h (reference_named (is_reference item.tag) (size_of item.tag) item.value d.1 e);
    }

good_items : (tags : List ℕ) (items : List Item) → AllByRecursion (λ (item : Item). IsSized item.value) items → list_all (item_ok tags) items ≡ true
    → AllByRecursion (IsGood tags) items
good_items tags [] h t = tt
good_items tags (item ∷ items) h t =
    let parts = both (item_ok tags item) (list_all (item_ok tags) items) t in
    (good_item tags item h.0 parts.0, good_items tags items h.1 parts.1)

pub good_sets : (tags : List ℕ) (sets : List Set) → AllByRecursion (λ (set : Set). AllByRecursion (λ (item : Item). IsSized item.value) set.items) sets
    → all_ok tags sets ≡ true → AllByRecursion (λ (set : Set). AllByRecursion (IsGood tags) set.items) sets
good_sets tags [] h t = tt
good_sets tags (set ∷ sets) h t =
    let parts = both (set_ok tags set) (all_ok tags sets) t in
    let one = both (list_all (item_ok tags) set.items) (nat_lt (items_size set.items) 16777216) parts.0 in
    (good_items tags set.items h.0 one.0, good_sets tags sets h.1 parts.1)

-- and each is an item of key, length and value
pub each_item : (tags : List ℕ) (sets : List Set) → AllByRecursion (λ (set : Set). AllByRecursion (λ (item : Item). IsSized item.value) set.items) sets
    → all_ok tags sets ≡ true → AllByRecursion IsItem (map (λ (set : Set). set_item (set_key set.kind) set.items) sets)
unfolding length_limit
each_item tags [] h t = tt
each_item tags (set ∷ sets) h t =
    let parts = both (set_ok tags set) (all_ok tags sets) t in
    let one = both (list_all (item_ok tags) set.items) (nat_lt (items_size set.items) 16777216) parts.0 in
    let few = small (items_size set.items) 16777216 one.1 in
    let long = length-items_bytes set.items h.0 in
    (record { key = refl; form = omega arith; fits = omega (arith, few, long) }, each_item tags sets h.1 parts.1)

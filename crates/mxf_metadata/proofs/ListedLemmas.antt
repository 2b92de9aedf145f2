-- A test that the table of tags has an item, which computes.
use Rattle.std.proofs.Common.{◌≡◌, ℕ, suc, ◌==◌, Bool, true, false, List, [], ◌∷◌, map, ◌||◌, ◌&&◌, Some, None, refl, sym, ap, arith, inl, inr, ◌⊎◌, subst}
use Rattle.std.proofs.lemmas.Bool.{eqb-true}
use Rattle.std.specs.List.{AllByRecursion, Contains}
use Rattle.local_sets.specs.Values.{value_bytes}
use Rattle.local_sets.specs.laws.Lengths.{IsSized, length-value_bytes}
use Rattle.local_sets.specs.Sets.{raw}
use Rattle.local_sets.specs.declared.set.Item.{Item}
use Rattle.local_sets.specs.declared.value.Value.{Value}
use Rattle.local_sets.specs.declared.value.Value.TheVariants.{Byte, Short, Word, Long, Ratio, Duration, Label, Umid, EmptyBatch, BatchOfOne, BatchOfTwo, Text}
use Rattle.mxf_metadata.specs.Listed.{HasSize, IsListed}
use Rattle.mxf_metadata.specs.declared.tags.Tag.{Tag}
use Rattle.mxf_metadata.specs.declared.tags.Size.{Size}
use Rattle.mxf_metadata.specs.declared.tags.Size.TheVariants.{Fixed, Batch, Letters}
use Rattle.mxf_metadata.specs.declared.tags.TheConstants.{TAGS}

-- the size of a kind of value
abbrev pub size_of : Value → Size
size_of (Byte number) = Fixed 1
size_of (Short number) = Fixed 2
size_of (Word number) = Fixed 4
size_of (Long number) = Fixed 8
size_of (Ratio numerator denominator) = Fixed 8
size_of (Duration count) = Fixed 8
size_of (Label bytes) = Fixed 16
size_of (Umid bytes) = Fixed 32
size_of EmptyBatch = Batch
size_of (BatchOfOne item) = Batch
size_of (BatchOfTwo first second) = Batch
size_of (Text letters count) = Letters

-- whether two sizes are the same
abbrev pub same_size : Size → Size → Bool
same_size (Fixed m) (Fixed n) = m == n
same_size Batch Batch = true
same_size Letters Letters = true
same_size a b = false

-- whether a table has the item
abbrev pub has_item : Item → List Tag → Bool
has_item item [] = false
has_item item (tag ∷ tags) = (tag.tag == item.tag && same_size tag.size (size_of item.value)) || has_item item tags

-- whether a table has all of these
abbrev pub has_items : List Item → List Tag → Bool
has_items [] tags = true
has_items (item ∷ items) tags = has_item item tags && has_items items tags

-- a value has the size of its kind
pub value_has_size : (v : Value) → IsSized v → HasSize (size_of v) (value_bytes v)
value_has_size (Byte number) h = refl
value_has_size (Short number) h = refl
value_has_size (Word number) h = refl
value_has_size (Long number) h = refl
value_has_size (Ratio numerator denominator) h = refl
value_has_size (Duration None) h = refl
value_has_size (Duration (Some count)) h = refl
value_has_size (Label bytes) h = h
value_has_size (Umid bytes) h = h
value_has_size EmptyBatch h = (0, refl, refl)
value_has_size (BatchOfOne item) h = (1, length-value_bytes (BatchOfOne item) h, refl)
value_has_size (BatchOfTwo first second) h = (2, length-value_bytes (BatchOfTwo first second) h, refl)
value_has_size (Text letters count) h = (count, length-value_bytes (Text letters count) h)

-- one of two tests holds
pick : (a b c : Bool) → ((a && b) || c) ≡ true → ((a ≡ true) × (b ≡ true)) ⊎ (c ≡ true)
pick true true c h = inl (refl, refl)
pick true false c h = inr h
pick false b c h = inr h

-- two tests hold
pub two : (a b : Bool) → (a && b) ≡ true → (a ≡ true) × (b ≡ true)
two true b h = (refl, h)
two false b h = cc

-- the item's entry in a table that has it
record Entry (item : Item) (tags : List Tag) : Type 0 where
  tag : Tag
  among : Contains tags tag
  same : tag.tag ≡ item.tag
  sized : same_size tag.size (size_of item.value) ≡ true

found : (item : Item) (tags : List Tag) → has_item item tags ≡ true → Entry item tags
found item [] h = cc
found item (tag ∷ tags) h =
    elim (pick (tag.tag == item.tag) (same_size tag.size (size_of item.value)) (has_item item tags) h) [
      | inl p ↦ record { tag = tag; among = (0, omega arith, refl); same = eqb-true tag.tag item.tag p.0; sized = p.1 }
      | inr q ↦ (let rest = found item tags q in record { tag = rest.tag; among = (suc rest.among.0, omega (arith, rest.among.1), rest.among.2); same = rest.same; sized = rest.sized })
    ]

-- the same size by the test is the same size
same_is : (a b : Size) → same_size a b ≡ true → a ≡ b
same_is (Fixed m) (Fixed n) h = ap (λ (k : ℕ). Fixed k) (eqb-true m n h)
same_is (Fixed m) Batch h = cc
same_is (Fixed m) Letters h = cc
same_is Batch (Fixed n) h = cc
same_is Batch Batch h = refl
same_is Batch Letters h = cc
same_is Letters (Fixed n) h = cc
same_is Letters Batch h = cc
same_is Letters Letters h = refl

-- an item that the table has is listed
listed : (item : Item) → has_item item TAGS ≡ true → IsSized item.value → IsListed (raw item)
listed item h s =
    let entry = found item TAGS h in
    record {
      tag = entry.tag;
      among = entry.among;
      same = entry.same;
      sized = subst (λ (size : Size). HasSize size (value_bytes item.value)) (sym (same_is entry.tag.size (size_of item.value) entry.sized)) (value_has_size item.value s);
    }

-- so are all items
pub all_listed : (items : List Item) → has_items items TAGS ≡ true → AllByRecursion (λ item. IsSized item.value) items → AllByRecursion IsListed (map raw items)
all_listed [] h s = tt
all_listed (item ∷ items) h s =
    let both = two (has_item item TAGS) (has_items items TAGS) h in
    (listed item both.0 s.0, all_listed items both.1 s.1)

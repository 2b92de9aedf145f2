-- The sets behind a primer pack.
use Rattle.std.proofs.Common.{◌≡◌, ℕ, ◌+◌, ◌||◌, not, Bool, true, false, cond, List, [], ◌∷◌, length, map, filter, take, Option, Some, None, refl, sym, ap, ap₂, ◌∙◌}
use Rattle.std.specs.List.{AllByRecursion}
use Rattle.std.specs.Str.{bytes_eq}
use Rattle.std.proofs.lemmas.Slice.Eq.{bytes_eq-Decides}
use Rattle.klv.specs.Items.{Item, spelled}
use Rattle.mxf_names.specs.declared.keys.TheConstants.{PRIMER_KEY, INDEX_SEGMENT_KEY, RANDOM_INDEX_KEY, PICTURE_ELEMENT_KEY}
use Rattle.mxf_partitions.specs.Reads.{pack_of}
use Rattle.mxf_partitions.specs.declared.partition.Partition.{Partition}
use Rattle.mxf_metadata_reader.specs.PlacedSets.{is_set_key}
use Rattle.mxf_metadata_check.specs.Metadata.{IsSetOrFill}
use Rattle.mxf_metadata_check.specs.inner.Held.{is_set_item, sets_among}
use Rattle.mxf_op1a.specs.Contents.{Content, Placed, content_of, is_fill, is_set, pack_or_other, placed_from}
use Rattle.mxf_op1a.specs.Metadata.{set_at, sets_behind}
use Rattle.mxf_op1a.specs.Partitions.{being, up_to}
use Rattle.mxf_op1a.specs.declared.keys.TheConstants.{FILL_KEY, ELEMENT_KEY_LEN}

-- a set by its key
abbrev set_by : (fill primer set segment index element : Bool) → Content
set_by fill primer set segment index element =
    cond fill Content.Fill (cond primer Content.Primer (cond set Content.Set (cond segment Content.Segment (cond index Content.RandomIndex (cond element Content.Element Content.Other)))))

by_tests : (fill primer set segment index element : Bool) → (fill ≡ true → set ≡ false)
    → (is_set (set_by fill primer set segment index element) || is_fill (set_by fill primer set segment index element)) ≡ true
    → is_set (set_by fill primer set segment index element) ≡ set
by_tests true primer set segment index element apart h = sym (apart refl)
by_tests false true set segment index element apart h = absurd (cc)
by_tests false false true segment index element apart h = refl
by_tests false false false true index element apart h = absurd (cc)
by_tests false false false false true element apart h = absurd (cc)
by_tests false false false false false true apart h = absurd (cc)
by_tests false false false false false false apart h = absurd (cc)

fill_no_set : (key : List ℕ) → bytes_eq key FILL_KEY ≡ true → is_set_key key ≡ false
fill_no_set key e = ap is_set_key ((bytes_eq-Decides key FILL_KEY).0 e)

set_key_is : (pack : Option Partition) (key : List ℕ) → (is_set (pack_or_other pack key) || is_fill (pack_or_other pack key)) ≡ true
    → is_set (pack_or_other pack key) ≡ is_set_key key
set_key_is (Some pack) key h = absurd (cc)
set_key_is None key h =
    by_tests (bytes_eq key FILL_KEY) (bytes_eq key PRIMER_KEY) (is_set_key key) (bytes_eq key INDEX_SEGMENT_KEY) (bytes_eq key RANDOM_INDEX_KEY)
    (bytes_eq (take ELEMENT_KEY_LEN key) (take ELEMENT_KEY_LEN PICTURE_ELEMENT_KEY)) (fill_no_set key) h

pub set_is : (item : Item) → IsSetOrFill item → is_set (content_of item) ≡ is_set_key item.key
unfolding content_of
set_is item h = set_key_is (pack_of item) item.key h

-- none of them ends the metadata
goes_on : (at : ℕ) (items : List Item) → AllByRecursion IsSetOrFill items
    → up_to (λ content. not (is_set content || is_fill content)) (placed_from at items) ≡ placed_from at items
unfolding placed_from up_to
goes_on at [] h = refl
goes_on at (item ∷ items) h =
    let p : Placed = record { at = at; item = item } in
    ap (λ (b : Bool). cond (not b) [] (p ∷ up_to (λ content. not (is_set content || is_fill content)) (placed_from (at + length (spelled item)) items))) h.0
    ∙ ap (λ (ps : List Placed). p ∷ ps) (goes_on (at + length (spelled item)) items h.1)

filters_same : (at : ℕ) (items : List Item) → AllByRecursion IsSetOrFill items
    → filter (being is_set) (placed_from at items) ≡ filter is_set_item (placed_from at items)
unfolding placed_from
filters_same at [] h = refl
filters_same at (item ∷ items) h =
    let p : Placed = record { at = at; item = item } in
    ap₂ (λ (b : Bool) (ps : List Placed). cond b (p ∷ ps) ps) (set_is item h.0) (filters_same (at + length (spelled item)) items h.1)

pub behind_sets : (at : ℕ) (items : List Item) → AllByRecursion IsSetOrFill items → sets_behind (placed_from at items) ≡ sets_among at items
behind_sets at items h =
    ap (λ (ps : List Placed). map set_at (filter (being is_set) ps)) (goes_on at items h) ∙ ap (map set_at) (filters_same at items h)

-- The metadata sets of such a file, as they are read.
use Rattle.std.proofs.Common.{◌≡◌, ℕ, ◌+◌, ◌&&◌, ◌||◌, not, Bool, true, false, cond, List, [], ◌∷◌, ◌++◌, length}
use Rattle.std.proofs.Common.{map, Option, refl, sym, ap, ap₂, ◌∙◌, inl, inr, append-nil}
use Rattle.std.specs.Prelude.{filter}
use Rattle.std.proofs.lemmas.List.Folds.{flat_map-map}
use Rattle.std.specs.List.{flat_map, list_all, AllByRecursion}
use Rattle.std.specs.Str.{bytes_eq}
use Rattle.klv.specs.Items.{Item, spelled}
use Rattle.local_sets.specs.Sets.{RawItem, IsRawItem, raw, raw_bytes, set_value, items_bytes}
use Rattle.local_sets.specs.Reads.{items_in, rest_in}
use Rattle.local_sets.specs.laws.Reads.{written_items, written_rest}
use Rattle.local_sets.specs.Values.{duration_bytes}
use Rattle.local_sets.specs.declared.set.Item as typed
use Rattle.mxf_metadata.specs.Durations.{HaveDuration, durations, has_duration, is_duration}
use Rattle.mxf_metadata.specs.Metadata.{Set, raw_set}
use Rattle.mxf_metadata.specs.RawSets.{RawSet}
use Rattle.mxf_metadata_reader.specs.PlacedSets.{ReadSet, read_set}
use Rattle.mxf_op1a.specs.Contents.{Content, Placed, content_of, placed_from, is_fill, is_primer, is_set}
use Rattle.mxf_op1a.specs.Contents.Content.{Set as SetContent, Segment, RandomIndex}
use Rattle.mxf_op1a.specs.Partitions.{being, from_first, up_to}
use Rattle.mxf_op1a.specs.Metadata.{SetAt, set_at, sets_behind, sets_of, sets_from, lasts, places_but}
use Rattle.mxf_take_file.specs.Items.{item_of_set}
use Rattle.mxf_take_op1a.specs.Take.{raw_of}
use Rattle.mxf_take_op1a.proofs.ItemClauses.{bytes_self, closing_placed, none_going}
use Rattle.mxf_take_op1a.proofs.PlacedLemmas.{placed, bytes_of, AreAll, all_none, all_each, filter_each, from_here, up_past, up_here, up_none}
use Rattle.mxf_take_op1a.proofs.Shapes.{Units, Shape, IsShape, header_part, footer_part, tested}

-- what ends a run of sets
abbrev pub ends_sets : Content → Bool
ends_sets content = not (is_set content || is_fill content)

-- sets before what ends them
sets_before : (at : ℕ) (sets : List Item) (ps : List Placed) → AreAll SetContent sets → up_to ends_sets ps ≡ []
    → sets_behind (placed_from at sets ++ ps) ≡ map set_at (placed_from at sets)
sets_before at sets ps h none =
    ap (λ (qs : List Placed). map set_at (filter (being is_set) qs)) (
    up_past ends_sets at sets ps (all_none ends_sets SetContent sets refl h)
    ∙ ap (λ (qs : List Placed). placed_from at sets ++ qs) none ∙ append-nil (placed_from at sets)
    )
    ∙ ap (map set_at) (filter_each is_set at sets (all_each is_set SetContent sets refl h))

-- what stands behind the footer's sets ends them
last_ends : (at : ℕ) (last : List Item) (p : Placed) → AreAll Segment last → content_of p.item ≡ RandomIndex
    → up_to ends_sets (placed_from at last ++ (p ∷ [])) ≡ []
unfolding placed_from
last_ends at [] p h r = up_here ends_sets p [] (ap ends_sets r)
last_ends at (segment ∷ last) p h r = up_here ends_sets (placed at segment) (placed_from (at + length (spelled segment)) last ++ (p ∷ [])) (ap ends_sets h.0)

-- where the sets of the footer stand
abbrev pub foot_at : Shape → Units → ℕ
foot_at s all = (s.place all + length (spelled s.footer)) + length (spelled s.primer)

-- and those of the header
abbrev pub head_at : Shape → ℕ
head_at s = length (spelled s.header) + length (spelled s.primer)

-- the items behind the footer's primer
abbrev pub foot_rest : Shape → Units → List Placed
foot_rest s all =
    placed_from (foot_at s all) s.foot_sets
    ++ (placed_from (foot_at s all + bytes_of s.foot_sets) s.last ++ (placed (foot_at s all + (bytes_of s.foot_sets + bytes_of s.last)) s.random ∷ []))

-- the items from the primer on
pub footer_from : (s : Shape) (all : Units) (len : ℕ) → IsShape s all → from_first is_primer (footer_part s all len).items
    ≡ placed (s.place all + length (spelled s.footer)) s.primer ∷ foot_rest s all
footer_from s all len h =
    ap (from_first is_primer) (closing_placed s (s.place all + length (spelled s.footer)))
    ∙ from_here is_primer (placed (s.place all + length (spelled s.footer)) s.primer) _ (ap is_primer h.primer_is)

pub header_from : (s : Shape) (all : Units) → IsShape s all → s.due [] ≡ true → from_first is_primer (header_part s all).items
    ≡ placed (length (spelled s.header)) s.primer ∷ (placed_from (head_at s) s.head_sets ++ [])
unfolding placed_from
header_from s all h due =
    ap (λ (ps : List Placed). from_first is_primer (placed_from (length (spelled s.header)) (s.primer ∷ s.head_sets) ++ ps)) (none_going s all due)
    ∙ from_here is_primer (placed (length (spelled s.header)) s.primer) _ (ap is_primer h.primer_is)

pub footer_behind : (s : Shape) (all : Units) → IsShape s all
    → sets_behind (foot_rest s all)
    ≡ map set_at (placed_from (foot_at s all) s.foot_sets)
footer_behind s all h =
    sets_before (foot_at s all) s.foot_sets _ h.foot_sets_are
    (last_ends (foot_at s all + bytes_of s.foot_sets) s.last (placed
    (foot_at s all + (bytes_of s.foot_sets + bytes_of s.last)) s.random) h.last_are h.random_is)

pub header_behind : (s : Shape) (all : Units) → IsShape s all
    → sets_behind (placed_from (head_at s) s.head_sets ++ []) ≡ map set_at (placed_from (head_at s) s.head_sets)
header_behind s all h = sets_before (head_at s) s.head_sets [] h.head_sets_are (up_none ends_sets)

-- the sets of the footer
pub footer_sets : (s : Shape) (all : Units) (len : ℕ) → IsShape s all → sets_of (footer_part s all len) ≡ map set_at (placed_from (foot_at s all) s.foot_sets)
footer_sets s all len h = ap sets_from (footer_from s all len h) ∙ footer_behind s all h

-- a set of ours as it is read
abbrev pub own_set : Set → ReadSet
own_set set = record { kind = set.kind; items = map raw set.items; rest = [] }

abbrev pub placed_set : ℕ → Set → SetAt
placed_set at set = record { at = at; set = own_set set }

-- sets of ours at their places
unfoldable pub own_sets : ℕ → List Set → List SetAt
own_sets at [] = []
own_sets at (set ∷ sets) = placed_set at set ∷ own_sets (at + length (spelled (item_of_set set))) sets

-- their items fit
abbrev pub AreRaw : List Set → Type 0
AreRaw sets = AllByRecursion (λ set. AllByRecursion IsRawItem (map raw set.items)) sets

bytes_of_items : (items : List typed.Item) → items_bytes items ≡ set_value (map raw items)
bytes_of_items items = sym (flat_map-map raw_bytes raw items)

read_own : (set : Set) → AllByRecursion IsRawItem (map raw set.items) → read_set set.kind (items_bytes set.items) ≡ own_set set
read_own set h =
    let e = bytes_of_items set.items in
    ap₂ (λ (items : List RawItem) (rest : List ℕ). record { kind = set.kind; items = items; rest = rest })
    (ap items_in e ∙ written_items (map raw set.items) h) (ap rest_in e ∙ written_rest (map raw set.items) h)

pub read_sets : (at : ℕ) (sets : List Set) → AreRaw sets → map set_at (placed_from at (map item_of_set sets)) ≡ own_sets at sets
unfolding placed_from own_sets
read_sets at [] h = refl
read_sets at (set ∷ sets) h =
    ap₂ (λ (s : ReadSet) (ss : List SetAt). record { at = at; set = s } ∷ ss) (read_own set h.0)
    (read_sets (at + length (spelled (item_of_set set))) sets h.1)

-- two tests that are both kept
pub both : (a b : Bool) → (a && b) ≡ true → (a ≡ true) × (b ≡ true)
both true true k = (refl, refl)
both true false k = absurd (cc)
both false b k = absurd (cc)

-- 8. a set lasts so long where its durations do
lasts_by : (bytes : List ℕ) (items : List RawItem)
    → list_all (λ value. bytes_eq value bytes) (flat_map (λ item. cond (is_duration item.tag) (item.value ∷ []) []) items) ≡ true
    → list_all (λ item. not (is_duration item.tag) || bytes_eq item.value bytes) items ≡ true
lasts_by bytes [] h = refl
lasts_by bytes (item ∷ items) h =
    let others : List (List ℕ) = flat_map (λ item. cond (is_duration item.tag) (item.value ∷ []) []) items in
    elim (tested (is_duration item.tag)) [
      | inl is ↦
          let k : (bytes_eq item.value bytes && list_all (λ value. bytes_eq value bytes) others) ≡ true =
          ap (λ (b : Bool). list_all (λ value. bytes_eq value bytes) (cond b (item.value ∷ []) [] ++ others)) (sym is) ∙ h in
          let p = both (bytes_eq item.value bytes) (list_all (λ value. bytes_eq value bytes) others) k in
          rw (is, p.0) (lasts_by bytes items p.1)
      | inr not_is ↦
          let k : list_all (λ value. bytes_eq value bytes) others ≡ true =
          ap (λ (b : Bool). list_all (λ value. bytes_eq value bytes) (cond b (item.value ∷ []) [] ++ others)) (sym not_is) ∙ h in
          rw not_is (lasts_by bytes items k)
    ]

set_lasts : (bytes : List ℕ) (at : ℕ) (set : Set) → durations (raw_set set) ≡ cond (has_duration set.kind) (bytes ∷ []) []
    → lasts bytes (placed_set at set) ≡ true
set_lasts bytes at set h = lasts_by bytes (map raw set.items)
    (ap (list_all (λ value. bytes_eq value bytes)) h ∙ by (has_duration set.kind))
  where
    by : (b : Bool) → list_all (λ value. bytes_eq value bytes) (cond b (bytes ∷ []) []) ≡ true
    by true = rw (bytes_self bytes) refl
    by false = refl

-- of sets that all keep a test, none is wrong
pub none_but : (test : SetAt → Bool) (at : ℕ) (sets : List Set) → AllByRecursion (λ set. (at : ℕ) → test (placed_set at set) ≡ true) sets
    → places_but test (own_sets at sets) ≡ []
unfolding own_sets
none_but test at [] h = refl
none_but test at (set ∷ sets) h = rw (h.0 at) (none_but test (at + length (spelled (item_of_set set))) sets h.1)

all_last : (frames : Option ℕ) (sets : List Set) → HaveDuration frames (map raw_set sets)
    → AllByRecursion (λ set. (at : ℕ) → lasts (duration_bytes frames) (placed_set at set) ≡ true) sets
all_last frames [] h = tt
all_last frames (set ∷ sets) h = (λ at. set_lasts (duration_bytes frames) at set h.0, all_last frames sets h.1)

pub none_short : (frames : Option ℕ) (at : ℕ) (sets : List Set) → HaveDuration frames (map raw_set sets)
    → places_but (lasts (duration_bytes frames)) (own_sets at sets) ≡ []
none_short frames at sets h = none_but (lasts (duration_bytes frames)) at sets (all_last frames sets h)

-- such sets without their places
pub raw_own : (at : ℕ) (sets : List Set) → map raw_of (own_sets at sets) ≡ map raw_set sets
unfolding own_sets
raw_own at [] = refl
raw_own at (set ∷ sets) = ap (λ (rest : List RawSet). raw_set set ∷ rest) (raw_own (at + length (spelled (item_of_set set))) sets)

-- What partitions are of a file, and where its units are.
use Rattle.std.proofs.Common.{◌≡◌, ◌⊎◌, inl, inr, ℕ, ◌+◌, ◌-◌, ◌≤◌, Bool, true, false, if◌then◌else◌, List, [], ◌∷◌, ◌++◌, length, map, drop, filter}
use Rattle.std.proofs.Common.{refl, sym, ap, ap₂, subst, ◌∙◌, arith, append_assoc, append-nil}
use Rattle.std.proofs.lemmas.List.{length-append, length-map, map-append, nil_from_length}
use Rattle.std.proofs.lemmas.List.Concat.{flat_map-append}
use Rattle.std.proofs.lemmas.Bool.{cases_Bool}
use Rattle.std.specs.List.{flat_map, AllByRecursion, AllZip}
use Rattle.klv.specs.Items.{Item, spelled}
use Rattle.klv.specs.Outline.{Outline}
use Rattle.mxf_partitions.specs.declared.partition.Partition.{Partition}
use Rattle.mxf_op1a.specs.Broken.{item_at, part_at}
use Rattle.mxf_op1a.specs.Contents.{Content, Placed, content_of, is_element, is_pack, placed_from}
use Rattle.mxf_op1a.specs.Contents.Content.{Fill, Pack, Primer, Set, Segment, RandomIndex, Element, Other}
use Rattle.mxf_op1a.specs.Kept.{HoldsElements, Keeps, offsets_in}
use Rattle.mxf_op1a.specs.Op1a.{IsOp1a, units_in}
use Rattle.mxf_op1a.specs.Partitions.{File, Part, all_but_last, being, elements, file_of, from_first, last_of, part_of, parts, place_of, up_to}
use Rattle.mxf_op1a.specs.Whole.{ArePartitions, HasNoPack, IsFileOf, IsPackOf, bodies_of, places_in, values_in}
use Rattle.mxf_op1a.proofs.KeptLemmas.{keeps, keeps_back}
use Rattle.mxf_op1a.proofs.Steps.{each_none}

-- an item is a pack, and begins a partition, or isn't, and doesn't
abbrev pub BeginsOne : Content → Type 0
BeginsOne content =
    ((pack : Partition) × (content ≡ Pack pack))
    ⊎ ((is_pack content ≡ false) × ((len : ℕ) (p : Placed) (ps : List Placed) → part_of len p ps content ≡ []))

begins_one : (content : Content) → BeginsOne content
begins_one (Pack pack) = inl (pack, refl)
begins_one Fill = inr (refl, λ len p ps. refl)
begins_one Primer = inr (refl, λ len p ps. refl)
begins_one Set = inr (refl, λ len p ps. refl)
begins_one Segment = inr (refl, λ len p ps. refl)
begins_one RandomIndex = inr (refl, λ len p ps. refl)
begins_one Element = inr (refl, λ len p ps. refl)
begins_one Other = inr (refl, λ len p ps. refl)

-- the partition that a pack begins
abbrev pub one_part : ℕ → Placed → List Placed → Partition → Part
one_part len p ps pack = record { at = p.at; pack = pack; items = up_to is_pack ps; end = place_of len (from_first is_pack ps) }

part_more : (len : ℕ) (p : Placed) (ps : List Placed) (pack : Partition) → content_of p.item ≡ Pack pack
    → parts len (p ∷ ps) ≡ one_part len p ps pack ∷ parts len ps
unfolding parts
part_more len p ps pack e = ap (λ (c : Content). part_of len p ps c ++ parts len ps) e

part_same : (len : ℕ) (p : Placed) (ps : List Placed) → ((l : ℕ) (q : Placed) (qs : List Placed) → part_of l q qs (content_of p.item) ≡ [])
    → parts len (p ∷ ps) ≡ parts len ps
unfolding parts
part_same len p ps none = ap (λ (here : List Part). here ++ parts len ps) (none len p ps)

no_parts : (len : ℕ) → parts len [] ≡ []
unfolding parts
no_parts len = refl

-- what stands before the first pack
up_none : (p : Placed) (ps : List Placed) (pack : Partition) → content_of p.item ≡ Pack pack → up_to is_pack (p ∷ ps) ≡ []
unfolding up_to
up_none p ps pack e = ap (λ (c : Content). if is_pack c then [] else p ∷ up_to is_pack ps) e

up_more : (p : Placed) (ps : List Placed) → is_pack (content_of p.item) ≡ false → up_to is_pack (p ∷ ps) ≡ p ∷ up_to is_pack ps
unfolding up_to
up_more p ps e = ap (λ (b : Bool). if b then [] else p ∷ up_to is_pack ps) e

up_bare : (items : List Placed) → AllByRecursion (λ p. being is_pack p ≡ false) (up_to is_pack items)
unfolding up_to
up_bare [] = tt
up_bare (p ∷ ps) = elim (cases_Bool (being is_pack p)) [
  | inl is ↦ rw is tt
  | inr bare ↦ rw bare (bare, up_bare ps)
]

-- one of each pack
pack_test : (p : Placed) (ps : List Placed) (b : Bool) → being is_pack p ≡ b
    → filter (being is_pack) (p ∷ ps) ≡ (if b then p ∷ filter (being is_pack) ps else filter (being is_pack) ps)
pack_test p ps b e = ap (λ (t : Bool). if t then p ∷ filter (being is_pack) ps else filter (being is_pack) ps) e

abbrev pub ArePacks : List Placed → List Part → Type 0
ArePacks packs all = AllZip IsPackOf packs all

packs : (len : ℕ) (items : List Placed) → ArePacks (filter (being is_pack) items) (parts len items)
packs len [] = subst (ArePacks []) (sym (no_parts len)) tt
packs len (p ∷ ps) = elim (begins_one (content_of p.item)) [
  | inl f ↦
      let is : being is_pack p ≡ true = ap is_pack f.1 in
      let here : IsPackOf p (one_part len p ps f.0) = record { at = refl; pack = f.1 } in
      subst (λ (qs : List Placed). ArePacks qs (parts len (p ∷ ps))) (sym (pack_test p ps true is))
      (subst (ArePacks (p ∷ filter (being is_pack) ps)) (sym (part_more len p ps f.0 f.1)) (here, packs len ps))
  | inr none ↦
      subst (λ (qs : List Placed). ArePacks qs (parts len (p ∷ ps))) (sym (pack_test p ps false none.0))
      (subst (ArePacks (filter (being is_pack) ps)) (sym (part_same len p ps none.1)) (packs len ps))
]

bare : (len : ℕ) (items : List Placed) → AllByRecursion HasNoPack (parts len items)
bare len [] = subst (AllByRecursion HasNoPack) (sym (no_parts len)) tt
bare len (p ∷ ps) = elim (begins_one (content_of p.item)) [
  | inl f ↦ subst (AllByRecursion HasNoPack) (sym (part_more len p ps f.0 f.1)) (up_bare ps, bare len ps)
  | inr none ↦ subst (AllByRecursion HasNoPack) (sym (part_same len p ps none.1)) (bare len ps)
]

whole : (len : ℕ) (items : List Placed) → map item_at items ≡ map item_at (up_to is_pack items) ++ flat_map places_in (parts len items)
unfolding up_to
whole len [] = sym (ap (flat_map places_in) (no_parts len))
whole len (p ∷ ps) = elim (begins_one (content_of p.item)) [
  | inl f ↦
      ap (λ (ns : List ℕ). p.at ∷ ns) (whole len ps)
      ∙ sym (ap₂ (λ (qs : List Placed) (all : List Part). map item_at qs ++ flat_map places_in all) (up_none p ps f.0 f.1) (part_more len p ps f.0 f.1))
  | inr none ↦
      ap (λ (ns : List ℕ). p.at ∷ ns) (whole len ps)
      ∙ sym (ap₂ (λ (qs : List Placed) (all : List Part). map item_at qs ++ flat_map places_in all) (up_more p ps none.0) (part_same len p ps none.1))
]

-- where the first pack stands
from_pack : (p : Placed) (ps : List Placed) (pack : Partition) → content_of p.item ≡ Pack pack → from_first is_pack (p ∷ ps) ≡ p ∷ ps
unfolding from_first
from_pack p ps pack e = ap (λ (c : Content). if is_pack c then p ∷ ps else from_first is_pack ps) e

from_more : (p : Placed) (ps : List Placed) → is_pack (content_of p.item) ≡ false → from_first is_pack (p ∷ ps) ≡ from_first is_pack ps
unfolding from_first
from_more p ps e = ap (λ (b : Bool). if b then p ∷ ps else from_first is_pack ps) e

-- the places of partitions, and the file's length
abbrev pub bounds : ℕ → List Part → List ℕ
bounds len all = map part_at all ++ len ∷ []

first_bound : (len : ℕ) (items : List Placed) → bounds len (parts len items) ≡ place_of len (from_first is_pack items) ∷ drop 1 (bounds len (parts len items))
unfolding from_first
first_bound len [] = rw (no_parts len) refl
first_bound len (p ∷ ps) = elim (begins_one (content_of p.item)) [
  | inl f ↦
      let all : parts len (p ∷ ps) ≡ one_part len p ps f.0 ∷ parts len ps = part_more len p ps f.0 f.1 in
      ap (bounds len) all
      ∙ sym (ap₂ (λ (qs : List Placed) (xs : List Part). place_of len qs ∷ drop 1 (bounds len xs)) (from_pack p ps f.0 f.1) all)
  | inr none ↦
      let all : parts len (p ∷ ps) ≡ parts len ps = part_same len p ps none.1 in
      ap (bounds len) all ∙ first_bound len ps
      ∙ sym (ap₂ (λ (qs : List Placed) (xs : List Part). place_of len qs ∷ drop 1 (bounds len xs)) (from_more p ps none.0) all)
]

abbrev pub ends_of : List Part → List ℕ
ends_of all = map (λ part. part.end) all

ends : (len : ℕ) (items : List Placed) → ends_of (parts len items) ≡ drop 1 (bounds len (parts len items))
ends len [] = rw (no_parts len) refl
ends len (p ∷ ps) = elim (begins_one (content_of p.item)) [
  | inl f ↦
      let all : parts len (p ∷ ps) ≡ one_part len p ps f.0 ∷ parts len ps = part_more len p ps f.0 f.1 in
      ap ends_of all ∙ ap (λ (ns : List ℕ). place_of len (from_first is_pack ps) ∷ ns) (ends len ps) ∙ sym (first_bound len ps)
      ∙ sym (ap (λ (xs : List Part). drop 1 (bounds len xs)) all)
  | inr none ↦
      let all : parts len (p ∷ ps) ≡ parts len ps = part_same len p ps none.1 in
      ap ends_of all ∙ ends len ps ∙ sym (ap (λ (xs : List Part). drop 1 (bounds len xs)) all)
]

pub are_partitions : (len : ℕ) (items : List Placed) → ArePartitions len items (parts len items)
are_partitions len items = record { packs = packs len items; bare = bare len items; whole = whole len items; ends = ends len items }

-- elements stand before all packs, or in partitions
abbrev pub elements_in : Part → List Placed
elements_in part = elements part.items

element_test : (p : Placed) (ps : List Placed) → elements (p ∷ ps) ≡ (if being is_element p then p ∷ [] else []) ++ elements ps
element_test p ps = elim (cases_Bool (being is_element p)) [
  | inl is ↦ rw is refl
  | inr none ↦ rw none refl
]

no_element : (p : Placed) (ps : List Placed) (pack : Partition) → content_of p.item ≡ Pack pack → elements (p ∷ ps) ≡ elements ps
no_element p ps pack e = element_test p ps ∙ ap (λ (c : Content). (if is_element c then p ∷ [] else []) ++ elements ps) e

all_elements : (len : ℕ) (items : List Placed) → elements items ≡ elements (up_to is_pack items) ++ flat_map elements_in (parts len items)
unfolding up_to
all_elements len [] = sym (ap (flat_map elements_in) (no_parts len))
all_elements len (p ∷ ps) = elim (begins_one (content_of p.item)) [
  | inl f ↦
      no_element p ps f.0 f.1 ∙ all_elements len ps
      ∙ sym (ap₂ (λ (qs : List Placed) (all : List Part). elements qs ++ flat_map elements_in all) (up_none p ps f.0 f.1) (part_more len p ps f.0 f.1))
  | inr none ↦
      let here : List Placed = if being is_element p then p ∷ [] else [] in
      element_test p ps ∙ ap (λ (qs : List Placed). here ++ qs) (all_elements len ps)
      ∙ sym (append_assoc here (elements (up_to is_pack ps)) (flat_map elements_in (parts len ps)))
      ∙ ap (λ (qs : List Placed). qs ++ flat_map elements_in (parts len ps)) (sym (element_test p (up_to is_pack ps)))
      ∙ sym (ap₂ (λ (qs : List Placed) (all : List Part). elements qs ++ flat_map elements_in all) (up_more p ps none.0) (part_same len p ps none.1))
]

-- header, bodies and footer are all partitions
last_behind : (part : Part) (all : List Part) → part ∷ all ≡ all_but_last part all ++ last_of part all ∷ []
unfolding all_but_last last_of
last_behind part [] = refl
last_behind part (next ∷ all) = ap (λ (ps : List Part). part ∷ ps) (last_behind next all)

all_of_file : (all : List Part) → all ≡ (file_of all).header ++ (file_of all).bodies ++ (file_of all).footer
all_of_file [] = refl
all_of_file (header ∷ []) = refl
all_of_file (header ∷ part ∷ all) = ap (λ (ps : List Part). header ∷ ps) (last_behind part all)

-- elements of bodies are all, where the clause on them is kept
held_elements : (len : ℕ) (items : List Placed) → HoldsElements (up_to is_pack items) (file_of (parts len items))
    → elements items ≡ flat_map elements_in (file_of (parts len items)).bodies
held_elements len items h =
    let all : List Part = parts len items in
    let file : File = file_of all in
    let header : flat_map elements_in file.header ≡ [] = each_none elements_in file.header h.header in
    let footer : flat_map elements_in file.footer ≡ [] = each_none elements_in file.footer h.footer in
    all_elements len items
    ∙ ap (λ (qs : List Placed). qs ++ flat_map elements_in all) h.front
    ∙ ap (flat_map elements_in) (all_of_file all)
    ∙ flat_map-append elements_in (file.header ++ file.bodies) file.footer
    ∙ ap₂ (λ (xs ys : List Placed). xs ++ ys) (flat_map-append elements_in file.header file.bodies) footer
    ∙ append-nil (flat_map elements_in file.header ++ flat_map elements_in file.bodies)
    ∙ ap (λ (xs : List Placed). xs ++ flat_map elements_in file.bodies) header

-- and so are the units, each with its offset
abbrev pub value_of_item : Placed → List ℕ
value_of_item p = p.item.value

values_flat : (bodies : List Part) → map value_of_item (flat_map elements_in bodies) ≡ flat_map values_in bodies
values_flat [] = refl
values_flat (body ∷ bodies) =
    map-append value_of_item (elements_in body) (flat_map elements_in bodies) ∙ ap (λ (xs : List (List ℕ)). values_in body ++ xs) (values_flat bodies)

pub units_held : (len : ℕ) (items : List Item) → Keeps len items → units_in items ≡ flat_map values_in (bodies_of len items)
units_held len items k =
    ap (map value_of_item) (held_elements len (placed_from 0 items) k.held) ∙ values_flat (bodies_of len items)

offsets_counted : (bodies : List Part) → length (flat_map offsets_in bodies) ≡ length (flat_map values_in bodies)
offsets_counted [] = refl
offsets_counted (body ∷ bodies) =
    let rest = offsets_counted bodies in
    let offsets = length-append (offsets_in body) (flat_map offsets_in bodies) in
    let values = length-append (values_in body) (flat_map values_in bodies) in
    offsets ∙ ap₂ (λ (m n : ℕ). m + n) (same_count body) rest ∙ sym values
  where
    same_count : (one : Part) → length (offsets_in one) ≡ length (values_in one)
    same_count one = length-map (elements one.items) (λ p. one.pack.body_offset + (p.at - place_of one.end (elements one.items)))
        ∙ sym (length-map (elements one.items) value_of_item)

pub entries_counted : (len : ℕ) (items : List Item) → Keeps len items → length (flat_map offsets_in (bodies_of len items)) ≡ length (units_in items)
entries_counted len items k = offsets_counted (bodies_of len items) ∙ ap (λ (us : List (List ℕ)). length us) (sym (units_held len items k))

-- whole files
nothing_left : (bytes : List ℕ) (o : Outline bytes) → length bytes ≤ length (flat_map spelled o.items) → o.rest ≡ []
nothing_left bytes o whole =
    let all : length bytes ≡ length (flat_map spelled o.items) + length o.rest = ap (λ (xs : List ℕ). length xs) o.bytes_are
    ∙ length-append (flat_map spelled o.items) o.rest in
    nil_from_length o.rest (omega arith)

pub is_file : (bytes : List ℕ) (units : List (List ℕ)) → IsOp1a bytes units → IsFileOf bytes units
is_file bytes units f =
    let o = f.outline in
    let k = keeps (length bytes) o.items f.kept in
    let none : o.rest ≡ [] = nothing_left bytes o k.ends.whole in
    record {
      items = o.items;
      are_items = record {
        bytes_are = o.bytes_are ∙ ap (λ (xs : List ℕ). flat_map spelled o.items ++ xs) none ∙ append-nil (flat_map spelled o.items);
        each = o.each;
      };
      keeps = k;
      units_are = f.units_are ∙ units_held (length bytes) o.items k;
    }

pub is_file_back : (bytes : List ℕ) (units : List (List ℕ)) → IsFileOf bytes units → IsOp1a bytes units
is_file_back bytes units f =
    record {
      outline = record {
        items = f.items;
        each = f.are_items.each;
        rest = [];
        bytes_are = f.are_items.bytes_are ∙ sym (append-nil (flat_map spelled f.items));
        ends = inl refl;
      };
      kept = keeps_back (length bytes) f.items f.keeps;
      units_are = f.units_are ∙ sym (units_held (length bytes) f.items f.keeps);
    }

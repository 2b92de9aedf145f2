-- What is kept of an OP1a file, by what is kept of any.
use Rattle.std.proofs.Common.{◌≡◌, ℕ, zero, suc, ◌+◌, ◌-◌, ◌≤◌, Bool, true, false, if◌then◌else◌, List, [], ◌∷◌, length, map, take, drop, get_or, Some, None, refl, sym, ap, ap₂, ◌∙◌, arith}
use Rattle.std.proofs.lemmas.List.{drop-take, take-take, take_at}
use Rattle.std.specs.List.{AllByRecursion, AllZip, slice_get, flat_map}
use Rattle.mxf_metadata_check.specs.Metadata.{take_id_in}
use Rattle.mxf_op1a.specs.Clauses.{broken_6, stream_offsets}
use Rattle.mxf_op1a.specs.Contents.{Placed, is_element, is_pack, placed_from}
use Rattle.mxf_op1a.specs.Metadata.{sets_of}
use Rattle.mxf_op1a.specs.Op1a.{first_broken, units_in}
use Rattle.mxf_op1a.specs.Partitions.{Part, being, elements, file_of, parts, up_to}
use Rattle.mxf_op1a.specs.Whole.{StandsIn}
use Rattle.take_layout.specs.declared.place.Place.{Place}
use Rattle.mxf_reader.specs.Catalogues.{Contents, IsCatalogueOf, StandsAt}
use Rattle.mxf_reader.specs.declared.file.SeenFile.{SeenFile}
use Rattle.mxf_reader.specs.inner.Files.{IsSeen}
use Rattle.mxf_reader.specs.inner.Seen.{due_with, seen_parts}
use Rattle.mxf_reader.proofs.StandLemmas.{value_stands}
use Rattle.mxf_reader.proofs.BodyStreamLemmas.{element_streams}

-- where an item stands, its value stands behind its head
unit_stands : (bytes : List ℕ) (place : Place) (p : Placed) → StandsIn bytes p → place.at ≡ p.at + (17 + p.item.form) → place.len ≡ length p.item.value
    → StandsAt bytes place p.item.value
unit_stands bytes place p stands at len = record {
  len = len;
  unit_is = ap₂ (λ (n k : ℕ). take n (drop k bytes)) len at ∙ ap (take (length p.item.value)) (value_stands bytes p.at p.item stands)
      ∙ take_at p.item.value stands.rest (length p.item.value) refl;
}

-- so do the values of items at their places
units_stand : (bytes : List ℕ) (kept : List Place) (items : List Placed) → AllByRecursion (StandsIn bytes) items
    → map (λ (e : Place). e.at) kept ≡ map (λ (p : Placed). p.at + (17 + p.item.form)) items
    → map (λ (e : Place). e.len) kept ≡ map (λ (p : Placed). length p.item.value) items
    → AllZip (StandsAt bytes) kept (map (λ (p : Placed). p.item.value) items)
units_stand bytes [] [] stand at len = tt
units_stand bytes [] (p ∷ ps) stand at len = absurd (cc)
units_stand bytes (e ∷ es) [] stand at len = absurd (cc)
units_stand bytes (e ∷ es) (p ∷ ps) stand at len = (
  unit_stands bytes e p stand.0 (ap (λ (ns : List ℕ). get_or ns 0 0) at) (ap (λ (ns : List ℕ). get_or ns 0 0) len),
  units_stand bytes es ps stand.1 (ap (λ (ns : List ℕ). drop 1 ns) at) (ap (λ (ns : List ℕ). drop 1 ns) len),
)

-- what each item keeps, each element keeps
element_by : (P : Placed → Type 0) (b : Bool) (p : Placed) (ps : List Placed) → P p → AllByRecursion P ps → AllByRecursion P (if b then p ∷ ps else ps)
element_by P true p ps h hs = (h, hs)
element_by P false p ps h hs = hs

-- so it is of all elements of items
each_element : (P : Placed → Type 0) (items : List Placed) → AllByRecursion P items → AllByRecursion P (elements items)
each_element P [] h = tt
each_element P (p ∷ ps) h = element_by P (being is_element p) p (elements ps) h.0 (each_element P ps h.1)

-- as many partitions are kept as there are
as_many : (is_first : Bool) (due : ℕ) (all : List Part) → length (seen_parts is_first due all) ≡ length all
unfolding seen_parts
as_many is_first due [] = refl
as_many is_first due (p ∷ ps) = ap (λ (n : ℕ). suc n) (as_many false (due_with is_first due p) ps)

-- a file that breaks no clause is catalogued
pub catalogued : (bytes : List ℕ) (file : SeenFile) (id : List ℕ) (count : ℕ) (seen : IsSeen bytes file)
    → AllByRecursion (StandsIn bytes) (placed_from 0 seen.outline.items)
    → first_broken (length bytes) seen.outline.items ≡ None
    → broken_6 file.len (up_to is_pack (placed_from 0 seen.outline.items)) (file_of (parts file.len (placed_from 0 seen.outline.items))) ≡ None
    → id ≡ take_id_in (flat_map sets_of (file_of (parts file.len (placed_from 0 seen.outline.items))).header)
    → count ≡ length file.parts.items
    → IsCatalogueOf bytes (units_in seen.outline.items)
    (record { places = file.elements.items; take_id = id; bytes = file.len; partitions = count })
catalogued bytes file id count seen stand kept held id_is count_is =
    let placed : List Placed = placed_from 0 seen.outline.items in
    let kept_of = seen.seen in
    record {
      file = record { outline = seen.outline; kept = kept; units_are = refl };
      places = units_stand bytes file.elements.items (elements placed) (each_element (StandsIn bytes) placed stand) kept_of.values kept_of.sizes;
      streams = kept_of.streams ∙ element_streams file.len placed held
          ∙ ap (λ (n : ℕ). stream_offsets 0 (file_of (parts n placed)).bodies) seen.len;
      take_id = id_is ∙ ap (λ (n : ℕ). take_id_in (flat_map sets_of (file_of (parts n placed)).header)) seen.len;
      bytes_are = seen.len;
      partitions = count_is ∙ ap length kept_of.parts ∙ as_many true 0 (parts file.len placed) ∙ ap (λ (n : ℕ). length (parts n placed)) seen.len;
    }

-- the unit at a place
unit_at : (bytes : List ℕ) (places : List Place) (units : List (List ℕ)) (n : ℕ) (place : Place) → AllZip (StandsAt bytes) places units
    → slice_get places n ≡ Some place → slice_get units n ≡ Some (take place.len (drop place.at bytes))
unit_at bytes [] [] n place stand e = absurd (cc)
unit_at bytes [] (u ∷ us) n place stand e = absurd stand
unit_at bytes (p ∷ ps) [] n place stand e = absurd stand
unit_at bytes (p ∷ ps) (u ∷ us) zero place stand e =
    let same : p ≡ place = cc in
    ap (λ (unit : List ℕ). Some unit) (sym stand.0.unit_is) ∙ ap (λ (q : Place). Some (take q.len (drop q.at bytes))) same
unit_at bytes (p ∷ ps) (u ∷ us) (suc n) place stand e = unit_at bytes ps us n place stand.1 e

-- bytes that end inside a file's first ones are read in it
read_inside : (bytes : List ℕ) (whole at len : ℕ) → at + len ≤ whole → take len (drop at (take whole bytes)) ≡ take len (drop at bytes)
read_inside bytes whole at len inside =
    let parted : whole ≡ at + (whole - at) = omega arith in
    ap (λ (n : ℕ). take len (drop at (take n bytes))) parted
    ∙ ap (take len) (drop-take at (whole - at) bytes)
    ∙ take-take len (whole - at) (drop at bytes) (omega arith)

-- the n-th unit of a file with which bytes begin is read at the n-th place
pub unit_read : (bytes : List ℕ) (units : List (List ℕ)) (c : Contents) (n : ℕ) (place : Place) → IsCatalogueOf (take c.bytes bytes) units c
    → slice_get c.places n ≡ Some place → place.at + place.len ≤ c.bytes → slice_get units n ≡ Some (take place.len (drop place.at bytes))
unit_read bytes units c n place is e inside =
    unit_at (take c.bytes bytes) c.places units n place is.places e
    ∙ ap (λ (unit : List ℕ). Some unit) (read_inside bytes c.bytes place.at place.len inside)

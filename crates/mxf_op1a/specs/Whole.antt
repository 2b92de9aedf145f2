-- What partitions are of a file, and where its units are (SMPTE ST 377-1). docs/formats/mxf.md, "What an OP1a file is".
use Rattle.std.specs.Prelude.{◌≡◌, ℕ, false, List, [], ◌∷◌, ◌++◌, length, map, drop, filter}
use Rattle.std.specs.List.{flat_map, AllByRecursion, AllZip}
use Rattle.klv.specs.Items.{AreItems, Item}
use Rattle.klv.specs.Reads.{IsItemAt}
use Rattle.mxf_op1a.specs.Broken.{item_at, part_at}
use Rattle.mxf_op1a.specs.Contents.{Placed, content_of, is_pack, placed_from}
use Rattle.mxf_op1a.specs.Contents.Content.{Pack}
use Rattle.mxf_op1a.specs.Kept.{Keeps}
use Rattle.mxf_op1a.specs.Partitions.{Part, being, elements, file_of, parts, up_to}

-- the bytes from an item's place on begin with it
abbrev pub StandsIn : List ℕ → Placed → Type 0
StandsIn bytes p = IsItemAt bytes p.at p.item

-- an item is the pack of a partition
pub record IsPackOf (p : Placed) (part : Part) : Type 0 where
  pub at : p.at ≡ part.at
  pub pack : content_of p.item ≡ Pack part.pack

-- no item of a partition is a pack
abbrev pub HasNoPack : Part → Type 0
HasNoPack part = AllByRecursion (λ p. being is_pack p ≡ false) part.items

-- the places of a partition's pack and its items
abbrev pub places_in : Part → List ℕ
places_in part = part.at ∷ map item_at part.items

-- the partitions of these items of a file: one of each pack, which with the items before all packs are all items; each ends
-- where the next begins, or the file ends
pub record ArePartitions (len : ℕ) (items : List Placed) (all : List Part) : Type 0 where
  pub packs : AllZip IsPackOf (filter (being is_pack) items) all
  pub bare : AllByRecursion HasNoPack all
  pub whole : map item_at items ≡ map item_at (up_to is_pack items) ++ flat_map places_in all
  pub ends : map (λ part. part.end) all ≡ drop 1 (map part_at all ++ len ∷ [])

-- the bodies of a file of this length with these items
abbrev pub bodies_of : ℕ → List Item → List Part
bodies_of len items = (file_of (parts len (placed_from 0 items))).bodies

-- the values of a body's elements
abbrev pub values_in : Part → List (List ℕ)
values_in body = map (λ p. p.item.value) (elements body.items)

-- the bytes are items that keep the clauses, and the units are the values of the bodies' elements
pub record IsFileOf (bytes : List ℕ) (units : List (List ℕ)) : Type 0 where
  pub items : List Item
  pub are_items : AreItems bytes items
  pub keeps : Keeps (length bytes) items
  pub units_are : units ≡ flat_map values_in (bodies_of (length bytes) items)

-- The metadata of a partition, as they stand in a file (own). Private functions alone cite this.
use Rattle.std.specs.Prelude.{◌≡◌, ◌≤◌, ℕ, ◌+◌, min, max, List, ◌++◌, length, drop, Option, Some, None}
use Rattle.std.specs.List.{flat_map, AllByRecursion}
use Rattle.klv.specs.Items.{IsItem, Item, spelled}
use Rattle.mxf_metadata_check.specs.Metadata.{AreMetadata, behind, least_wrong}
use Rattle.mxf_op1a.specs.Clauses.{first_place, places}
use Rattle.mxf_op1a.specs.Contents.{is_pack, is_primer, is_set, placed_from}
use Rattle.mxf_op1a.specs.Metadata.{least, sets_behind, sets_of, wrong_metadata}
use Rattle.mxf_op1a.specs.Partitions.{Part, from_first, place_of, up_to}
use Rattle.mxf_reader.specs.declared.part.SeenPart.{SeenPart}
use Rattle.mxf_reader.specs.inner.Parts.{place_or}
use Rattle.mxf_reader.specs.inner.Seen.{run_end}

-- where metadata end that begin at a place: where something ends them or the partition ends, and no later than all items
abbrev pub metadata_end : SeenPart → ℕ → ℕ → ℕ
metadata_end p first stop = max (min (place_or p.end p.primer_end) stop) first

-- a partition of a file, whose items are those from a place on up to a pack; all items of the file end at another
pub record LiesIn (bytes : List ℕ) (stop : ℕ) (part : Part) : Type 0 where
  pub from : ℕ
  pub items : List Item
  pub each : AllByRecursion IsItem items
  pub rest : List ℕ
  pub bytes_are : drop from bytes ≡ flat_map spelled items ++ rest
  pub stop_is : stop ≡ from + length (flat_map spelled items)
  pub inside : stop ≤ length bytes
  pub items_are : part.items ≡ up_to is_pack (placed_from from items)
  pub end_is : part.end ≡ place_of (length bytes) (from_first is_pack (placed_from from items))

-- this is kept of a partition of a file
pub record IsPartOf (bytes : List ℕ) (stop : ℕ) (p : SeenPart) (part : Part) : Type 0 where
  pub lies : LiesIn bytes stop part
  pub primer : p.primer ≡ first_place (places (from_first is_primer part.items))
  pub primer_end : p.primer_end ≡ run_end is_set (from_first is_primer part.items)
  pub end : p.end ≡ part.end

-- the bytes are the metadata of a partition, whose first primer stands at a place of the file
pub record HoldsMetadata (bytes : List ℕ) (at : ℕ) (part : Part) : Type 0 where
  pub primer : Item
  pub items : List Item
  pub are : AreMetadata bytes primer items
  pub wrong : (len : ℕ) → least (wrong_metadata len part) ≡ least_wrong at primer items
  pub sets : sets_of part ≡ sets_behind (behind at primer items)

-- the lesser of two places that may be missing
abbrev pub lesser : Option ℕ → Option ℕ → Option ℕ
lesser None other = other
lesser (Some place) None = Some place
lesser (Some place) (Some other) = Some (min place other)

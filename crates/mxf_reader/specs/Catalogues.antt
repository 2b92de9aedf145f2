-- What is kept of an OP1a file (SMPTE ST 377-1, and our own choices). docs/ARCHITECTURE.md, "A file read back".
use Rattle.std.specs.Prelude.{◌≡◌, ◌≤◌, ◌+◌, ℕ, List, length, take, drop, map}
use Rattle.std.specs.List.{AllByRecursion, AllZip, flat_map}
use Rattle.take_layout.specs.declared.place.Place.{Place}
use Rattle.mxf_metadata_check.specs.Metadata.{take_id_in}
use Rattle.mxf_op1a.specs.Clauses.{stream_offsets}
use Rattle.mxf_op1a.specs.Contents.{placed_from}
use Rattle.mxf_op1a.specs.Metadata.{sets_of}
use Rattle.mxf_op1a.specs.Op1a.{IsOp1a, at_place, BreaksFirst}
use Rattle.mxf_op1a.specs.Partitions.{file_of, parts}
use Rattle.mxf_op1a.specs.Whole.{bodies_of}
use Rattle.mxf_reader.specs.declared.fault.CheckFault.{CheckFault}
use Rattle.mxf_reader.specs.declared.fault.CheckFault.TheVariants.{Memory, DiskFault, NotOp1a}

-- what a catalogue keeps: where the units lie, the take's identifier, the file's length and how many partitions it has
pub record Contents : Type 0 where
  pub places : List Place
  pub take_id : List ℕ
  pub bytes : ℕ
  pub partitions : ℕ

-- each unit ends inside the file
abbrev pub LieInside : Contents → Type 0
LieInside c = AllByRecursion (λ (place : Place). place.at + place.len ≤ c.bytes) c.places

-- a unit stands at its place
pub record StandsAt (bytes : List ℕ) (place : Place) (unit : List ℕ) : Type 0 where
  pub len : place.len ≡ length unit
  pub unit_is : take place.len (drop place.at bytes) ≡ unit

-- the bytes are the OP1a file of these units, and this is kept of it
pub record IsCatalogueOf (bytes : List ℕ) (units : List (List ℕ)) (c : Contents) : Type 0 where
  pub file : IsOp1a bytes units
  pub places : AllZip (StandsAt bytes) c.places units
  pub streams : map (λ (place : Place). place.stream) c.places ≡ stream_offsets 0 (bodies_of (length bytes) file.outline.items)
  pub take_id : c.take_id ≡ take_id_in (flat_map sets_of (file_of (parts (length bytes) (placed_from 0 file.outline.items))).header)
  pub bytes_are : c.bytes ≡ length bytes
  pub partitions : c.partitions ≡ length (parts (length bytes) (placed_from 0 file.outline.items))

-- a fault that names a clause names the first that the bytes break, and where
abbrev pub BreaksBy : List ℕ → CheckFault → Type 0
BreaksBy bytes Memory = Unit {0}
BreaksBy bytes (DiskFault faults) = Unit {0}
BreaksBy bytes (NotOp1a clause at) = BreaksFirst bytes (at_place clause at)

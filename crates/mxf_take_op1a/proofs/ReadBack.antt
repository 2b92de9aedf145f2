-- What is written of a take's file is read back.
use Rattle.std.proofs.Common.{◌≡◌, ◌≤◌, Bool, true, false, cond, ℕ, List, length, Option, Some, None, refl}
use Rattle.std.specs.List.{AllByRecursion}
use Rattle.rec_bytes.specs.Configuration.{Fields}
use Rattle.klv.specs.Items.{item_of}
use Rattle.mxf_names.specs.Keys.{set_key}
use Rattle.mxf_names.specs.declared.ids.Ids.{Ids}
use Rattle.mxf_names.specs.declared.keys.TheConstants.{PRIMER_KEY, INDEX_SEGMENT_KEY, RANDOM_INDEX_KEY, PICTURE_ELEMENT_KEY}
use Rattle.mxf_partitions.specs.Partitions.{pack_item}
use Rattle.mxf_partitions.specs.RandomIndex.{random_index_item}
use Rattle.mxf_partitions.specs.Ranges.{IsInRange as PackInRange, IsEntryInRange}
use Rattle.mxf_partitions.specs.Reads.{pack_of, entries_of, has_pack_key, has_pack_size, kind_of, status_of}
use Rattle.mxf_partitions.specs.declared.partition.Partition.{Partition}
use Rattle.mxf_partitions.specs.declared.random_index.PackEntry.{PackEntry}
use Rattle.mxf_partitions.specs.declared.random_index.TheConstants.{MAX_ENTRIES}
use Rattle.mxf_index.specs.Reads.{Frames, AreFrames, frames_of}
use Rattle.mxf_index.specs.Segments.{segment_item, segment_of}

-- frames from one on, by their stream offsets
abbrev pub frames_from : ℕ → List ℕ → Frames
frames_from first streams = record { first = first; streams = streams }

-- packs and segments that are written are read back, and no other items of a take's file are read as packs
pub record ReadBack : Type 0 where
  pub pack : (p : Partition) → PackInRange p → p.label_count ≡ 1 → pack_of (pack_item p) ≡ Some p
  pub index : (entries : List PackEntry) → AllByRecursion IsEntryInRange entries → length entries ≤ MAX_ENTRIES
      → entries_of (random_index_item entries) ≡ Some entries
  pub segment : (cfg : Fields) (ids : Ids) (first : ℕ) (streams : List ℕ) → length ids.index ≡ 8 → AreFrames (frames_from first streams)
      → frames_of (segment_item (segment_of cfg ids first streams)) ≡ Some (frames_from first streams)
  pub primer : (form : ℕ) (value : List ℕ) → pack_of (item_of PRIMER_KEY form value) ≡ None
  pub set : (kind form : ℕ) (value : List ℕ) → pack_of (item_of (set_key kind) form value) ≡ None
  pub index_segment : (form : ℕ) (value : List ℕ) → pack_of (item_of INDEX_SEGMENT_KEY form value) ≡ None
  pub random_index : (form : ℕ) (value : List ℕ) → pack_of (item_of RANDOM_INDEX_KEY form value) ≡ None
  pub element : (form : ℕ) (value : List ℕ) → pack_of (item_of PICTURE_ELEMENT_KEY form value) ≡ None

-- neither way
none_either : (b : Bool) → cond {A = Option Partition} b None None ≡ None
none_either true = refl
none_either false = refl

-- no other key of ours is that of a partition pack
pub primer_no_pack : (form : ℕ) (value : List ℕ) → pack_of (item_of PRIMER_KEY form value) ≡ None
unfolding pack_of has_pack_key kind_of status_of
primer_no_pack form value = none_either (has_pack_size value)

pub random_index_no_pack : (form : ℕ) (value : List ℕ) → pack_of (item_of RANDOM_INDEX_KEY form value) ≡ None
unfolding pack_of has_pack_key kind_of status_of
random_index_no_pack form value = none_either (has_pack_size value)

pub set_no_pack : (kind form : ℕ) (value : List ℕ) → pack_of (item_of (set_key kind) form value) ≡ None
unfolding pack_of has_pack_key
set_no_pack kind form value = refl

pub segment_no_pack : (form : ℕ) (value : List ℕ) → pack_of (item_of INDEX_SEGMENT_KEY form value) ≡ None
unfolding pack_of has_pack_key
segment_no_pack form value = refl

pub element_no_pack : (form : ℕ) (value : List ℕ) → pack_of (item_of PICTURE_ELEMENT_KEY form value) ≡ None
unfolding pack_of has_pack_key
element_no_pack form value = refl

-- The keys of partition packs and of metadata sets (SMPTE ST 377-1). docs/FORMATS.md, "Partition packs", "Metadata".
use Rattle.std.specs.Prelude.{ℕ, List, [], ◌∷◌, ◌++◌}
use Rattle.mxf_names.specs.declared.keys.TheConstants.{PARTITION_KEY_START, SET_KEY_START}
use Rattle.mxf_names.specs.declared.partition_keys.PartitionKind.{PartitionKind}
use Rattle.mxf_names.specs.declared.partition_keys.PartitionKind.TheVariants.{Header, Body, Footer}
use Rattle.mxf_names.specs.declared.partition_keys.PartitionStatus.{PartitionStatus}
use Rattle.mxf_names.specs.declared.partition_keys.PartitionStatus.TheVariants.{OpenIncomplete, ClosedIncomplete, OpenComplete, ClosedComplete}

-- the byte of a kind in the key
abbrev pub kind_byte : PartitionKind → ℕ
kind_byte Header = 2
kind_byte Body = 3
kind_byte Footer = 4

-- the byte of a status in the key
abbrev pub status_byte : PartitionStatus → ℕ
status_byte OpenIncomplete = 1
status_byte ClosedIncomplete = 2
status_byte OpenComplete = 3
status_byte ClosedComplete = 4

-- the key of a partition pack
abbrev pub partition_key : PartitionKind → PartitionStatus → List ℕ
partition_key kind status = PARTITION_KEY_START ++ kind_byte kind ∷ status_byte status ∷ 0 ∷ []

-- the key of the metadata sets of a kind
abbrev pub set_key : ℕ → List ℕ
set_key kind = SET_KEY_START ++ kind ∷ 0 ∷ []

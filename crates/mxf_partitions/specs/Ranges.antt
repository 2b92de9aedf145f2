-- What fields of packs may be: the ranges of their types (own).
use Rattle.std.specs.Prelude.{◌≡◌, ℕ, ◌<◌, ◌^◌, List, length, slice_index}
use Rattle.mxf_partitions.specs.declared.partition.Partition.{Partition}
use Rattle.mxf_partitions.specs.declared.partition.TheConstants.{LABEL_LEN}
use Rattle.mxf_partitions.specs.declared.random_index.PackEntry.{PackEntry}

-- each of them is a byte
abbrev pub AreBytes : List ℕ → Type 0
AreBytes bytes = (k : ℕ) → slice_index bytes k < 256

-- each number of a partition fits its bytes, and a label has 16
pub record IsInRange (p : Partition) : Type 0 where
  pub major : p.major < 256 ^ 2
  pub minor : p.minor < 256 ^ 2
  pub kag : p.kag < 256 ^ 4
  pub this : p.this < 256 ^ 8
  pub previous : p.previous < 256 ^ 8
  pub footer : p.footer < 256 ^ 8
  pub header_bytes : p.header_bytes < 256 ^ 8
  pub index_bytes : p.index_bytes < 256 ^ 8
  pub index_sid : p.index_sid < 256 ^ 4
  pub body_offset : p.body_offset < 256 ^ 8
  pub body_sid : p.body_sid < 256 ^ 4
  pub pattern : length p.pattern ≡ LABEL_LEN
  pub label_count : p.label_count < 256 ^ 4
  pub label : length p.label ≡ LABEL_LEN

-- and so does each of an entry
pub record IsEntryInRange (entry : PackEntry) : Type 0 where
  pub body_sid : entry.body_sid < 256 ^ 4
  pub at : entry.at < 256 ^ 8

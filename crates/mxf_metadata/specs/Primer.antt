-- The primer pack (SMPTE ST 377-1). docs/FORMATS.md, "Metadata".
use Rattle.std.specs.Prelude.{ℕ, List, ◌++◌, length, map}
use Rattle.std.specs.List.{flat_map}
use Rattle.byteorder.specs.Endian.{big_bytes}
use Rattle.klv.specs.Items.{spelled}
use Rattle.mxf_metadata.specs.declared.tags.Tag.{Tag}
use Rattle.mxf_metadata.specs.declared.tags.TheConstants.{TAGS}
use Rattle.mxf_names.specs.declared.keys.TheConstants.{PRIMER_KEY}
use Rattle.mxf_metadata.specs.declared.labels.TheConstants.{TAG_LABEL_HEAD}
use Rattle.mxf_metadata.specs.declared.lengths.TheConstants.{PRIMER_ENTRY_LEN}

-- an entry of a primer pack: a local tag, and the label of what it names
pub record PrimerEntry : Type 0 where
  pub tag : ℕ
  pub label : List ℕ

-- an entry as it is spelled
abbrev pub entry_bytes : PrimerEntry → List ℕ
entry_bytes entry = big_bytes 2 entry.tag ++ entry.label

-- a batch of entries: count, bytes of an entry, entries
unfoldable pub primer_value : List PrimerEntry → List ℕ
primer_value entries = big_bytes 4 (length entries) ++ big_bytes 4 PRIMER_ENTRY_LEN ++ flat_map entry_bytes entries

-- the label of a tag (own): a fixed part, and the tag once more
abbrev pub tag_label : ℕ → List ℕ
tag_label tag = TAG_LABEL_HEAD ++ big_bytes 2 tag

-- our entry of a tag
abbrev pub own_entry : Tag → PrimerEntry
own_entry tag = record { tag = tag.tag; label = tag_label tag.tag }

-- the primer pack of the table of tags
unfoldable pub primer : List ℕ
primer = spelled (record { key = PRIMER_KEY; form = 3; value = primer_value (map own_entry TAGS) })

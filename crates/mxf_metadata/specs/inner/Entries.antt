-- The entries of the primer, by the table of tags (own).
use Rattle.std.specs.Prelude.{ℕ, List}
use Rattle.mxf_metadata.specs.Primer.{own_entry, entry_bytes}
use Rattle.mxf_metadata.specs.declared.tags.Tag.{Tag}

-- a tag's entry as it is spelled
abbrev pub tag_bytes : Tag → List ℕ
tag_bytes tag = entry_bytes (own_entry tag)

-- The tags that a primer pack lists (SMPTE ST 377-1). docs/FORMATS.md, "Metadata".
use Rattle.std.specs.Prelude.{ℕ, zero, suc, ◌+◌, ◌*◌, ◌==◌, ◌&&◌, Bool, List, [], ◌∷◌, length, drop, Option, Some, None, if◌then◌else◌}
use Rattle.std.specs.Str.{bytes_eq}
use Rattle.byteorder.specs.Endian.{big_number}
use Rattle.klv.specs.Items.{Item}
use Rattle.local_sets.specs.declared.value.TheConstants.{BATCH_HEAD_LEN}
use Rattle.mxf_names.specs.declared.keys.TheConstants.{PRIMER_KEY}
use Rattle.mxf_metadata.specs.declared.lengths.TheConstants.{PRIMER_ENTRY_LEN}

-- bytes are a batch of items of a size: count, size, items
abbrev pub is_batch_of : ℕ → List ℕ → Bool
is_batch_of size bytes = length bytes == BATCH_HEAD_LEN + size * big_number 4 bytes && big_number 4 (drop 4 bytes) == size

-- the tags of so many entries: each begins with its tag
unfoldable pub entry_tags : ℕ → List ℕ → List ℕ
entry_tags zero bytes = []
entry_tags (suc more) bytes = big_number 2 bytes ∷ entry_tags more (drop PRIMER_ENTRY_LEN bytes)

-- the tags in a primer pack's value
abbrev pub value_tags : List ℕ → List ℕ
value_tags value = entry_tags (big_number 4 value) (drop BATCH_HEAD_LEN value)

-- the tags that a primer pack lists, none where the item isn't one
abbrev pub tags_of_primer : Item → Option (List ℕ)
tags_of_primer item =
    if bytes_eq item.key PRIMER_KEY && is_batch_of PRIMER_ENTRY_LEN item.value then Some (value_tags item.value) else None

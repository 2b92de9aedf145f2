-- What the table of tags says of the sets (SMPTE ST 377-1). docs/FORMATS.md, "Metadata".
use Rattle.std.specs.Prelude.{◌≡◌, ℕ, ◌+◌, ◌*◌, List, ◌++◌, length, take}
use Rattle.std.specs.List.{Contains, AllByRecursion}
use Rattle.byteorder.specs.Endian.{big_bytes}
use Rattle.local_sets.specs.Sets.{RawItem}
use Rattle.mxf_metadata.specs.RawSets.{RawSet}
use Rattle.mxf_metadata.specs.declared.tags.Tag.{Tag}
use Rattle.mxf_metadata.specs.declared.tags.Size.{Size}
use Rattle.mxf_metadata.specs.declared.tags.Size.TheVariants.{Fixed, Batch, Letters}
use Rattle.mxf_metadata.specs.declared.tags.TheConstants.{TAGS}

-- bytes have a size: so many, or those of a batch of items of 16 bytes, or those of a text
abbrev pub HasSize : Size → List ℕ → Type 0
HasSize (Fixed count) bytes = length bytes ≡ count
HasSize Batch bytes = (count : ℕ) × (length bytes ≡ 8 + 16 * count) × (take 8 bytes ≡ big_bytes 4 count ++ big_bytes 4 16)
HasSize Letters bytes = (letters : ℕ) × (length bytes ≡ 2 * letters)

-- the table has the item's tag, and the value has the size that it says
pub record IsListed (item : RawItem) : Type 0 where
  pub tag : Tag
  pub among : Contains TAGS tag
  pub same : tag.tag ≡ item.tag
  pub sized : HasSize tag.size item.value

-- each item of each set is listed
abbrev pub AreListed : List RawSet → Type 0
AreListed sets = AllByRecursion (λ set. AllByRecursion IsListed set.items) sets

-- The identifier of a set as a number (own).
use Rattle.std.specs.Prelude.{ℕ, ◌==◌, Bool, false, List, length, Option, Some, None, if◌then◌else◌}
use Rattle.byteorder.specs.Endian.{big_number}
use Rattle.local_sets.specs.Sets.{RawItem}
use Rattle.local_sets.specs.declared.value.TheConstants.{ID_LEN}
use Rattle.mxf_names.specs.declared.tags.TheConstants.{INSTANCE_ID}
use Rattle.mxf_metadata_reader.specs.References.{first_value}

-- the number of a value of 16 bytes
abbrev pub number_of : Option (List ℕ) → Option ℕ
number_of None = None
number_of (Some value) = if length value == ID_LEN then Some (big_number 16 value) else None

-- the identifier of a set with these items, as a number
abbrev pub own_number : List RawItem → Option ℕ
own_number items = number_of (first_value INSTANCE_ID items)

-- a number, if there is one, is this
abbrev pub number_is : ℕ → Option ℕ → Bool
number_is q None = false
number_is q (Some number) = q == number

-- Values of the items of a local set (SMPTE ST 336, SMPTE ST 377-1). docs/FORMATS.md, "Local sets".
use Rattle.std.specs.Prelude.{ℕ, List, [], ◌∷◌, ◌++◌, length, take, replicate, Option, Some, None}
use Rattle.std.specs.List.{flat_map}
use Rattle.byteorder.specs.Endian.{big_bytes}
use Rattle.local_sets.specs.declared.value.Value.{Value}
use Rattle.local_sets.specs.declared.value.Value.TheVariants.{Byte, Short, Word, Long, Ratio, Duration, Label, Umid, EmptyBatch, BatchOfOne, BatchOfTwo, Text}

-- a duration: -1 where it isn't known
abbrev pub duration_bytes : Option ℕ → List ℕ
duration_bytes None = replicate 8 0xff
duration_bytes (Some count) = big_bytes 8 count

-- a batch of items of 16 bytes: count, size of an item, items
abbrev pub batch_bytes : List (List ℕ) → List ℕ
batch_bytes items = big_bytes 4 (length items) ++ big_bytes 4 16 ++ flat_map (λ item. item) items

-- letters in UTF-16, high byte first
abbrev pub utf16_bytes : List ℕ → List ℕ
utf16_bytes letters = flat_map (λ letter. big_bytes 2 letter) letters

-- a value as it is spelled
abbrev pub value_bytes : Value → List ℕ
value_bytes (Byte number) = big_bytes 1 number
value_bytes (Short number) = big_bytes 2 number
value_bytes (Word number) = big_bytes 4 number
value_bytes (Long number) = big_bytes 8 number
value_bytes (Ratio numerator denominator) = big_bytes 4 numerator ++ big_bytes 4 denominator
value_bytes (Duration count) = duration_bytes count
value_bytes (Label bytes) = bytes
value_bytes (Umid bytes) = bytes
value_bytes EmptyBatch = batch_bytes []
value_bytes (BatchOfOne item) = batch_bytes (item ∷ [])
value_bytes (BatchOfTwo first second) = batch_bytes (first ∷ second ∷ [])
value_bytes (Text letters count) = utf16_bytes (take count letters)

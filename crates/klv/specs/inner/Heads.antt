-- What the private functions answer, test by test (own).
use Rattle.std.specs.Prelude.{◌≡◌, ℕ, ◌+◌, ◌-◌, ◌==◌, ◌||◌, nat_lt, if◌then◌else◌, List, drop, slice_index, Result, Ok, Err}
use Rattle.byteorder.specs.Endian.{big_number}
use Rattle.klv.specs.declared.head.Head.{Head}
use Rattle.klv.specs.declared.head.KlvFault.{KlvFault}
use Rattle.klv.specs.declared.head.KlvFault.TheVariants.{KeyShort, LengthForm, ValueShort}

-- bytes before a value and bytes of the value
pub record Lengths : Type 0 where
  pub head : ℕ
  pub value : ℕ

-- a head and its value lie within the bytes that are left
abbrev pub fitted : ℕ → ℕ → ℕ → ℕ → Result Lengths KlvFault
fitted head value at left =
    if nat_lt (left - head) value then Err (ValueShort at) else Ok (record { head = head; value = value })

-- the head whose length begins with this byte
unfoldable pub length_at : List ℕ → ℕ → ℕ → ℕ → Result Lengths KlvFault
length_at front at left first =
    if nat_lt first 128 then fitted 17 first at left
    else if (first == 128 || nat_lt 136 first) then Err (LengthForm at)
    else if nat_lt left (17 + (first - 128)) then Err (ValueShort at)
    else fitted (17 + (first - 128)) (big_number (first - 128) (drop 17 front)) at left

-- the head with which bytes begin, of which so many are left
unfoldable pub head_at : List ℕ → ℕ → ℕ → Result Lengths KlvFault
head_at front at left =
    if nat_lt left 16 then Err (KeyShort at)
    else if left == 16 then Err (ValueShort at)
    else length_at front at left (slice_index front 16)

-- the answer is the one that was found
abbrev pub sees : Result Head KlvFault → Result Lengths KlvFault → Type 0
sees (Ok head) found = found ≡ Ok (record { head = head.head_len; value = head.value_len })
sees (Err fault) found = found ≡ Err fault

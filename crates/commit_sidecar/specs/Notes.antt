-- The note of a mark in a commit file, 17 bytes, and which mark may follow which (own). docs/formats/commits.md, "Records".
use Rattle.std.specs.Prelude.{◌≡◌, ◌≤◌, ◌<◌, ◌^◌, ℕ, Bool, false, if◌then◌else◌, List, [], ◌∷◌, ◌++◌, Option, Some, None}
use Rattle.byteorder.specs.Endian.{big_bytes}
use Rattle.take_core.specs.declared.mark.Mark.{Mark}

-- the byte that says whether a mark is closed
abbrev pub closed_byte : Bool → ℕ
closed_byte closed = if closed then 1 else 0

-- the bytes of a mark: its count, its length, and whether it is closed
abbrev pub note_of : Mark → List ℕ
note_of mark = big_bytes 8 mark.count ++ (big_bytes 8 mark.length ++ (closed_byte mark.closed ∷ []))

-- the numbers of a mark have a note
pub record Fits (mark : Mark) : Type 0 where
  pub count : mark.count < 2 ^ 64
  pub length : mark.length < 2 ^ 64

-- a mark behind another: that one isn't closed, and neither number falls
pub record IsLater (mark next : Mark) : Type 0 where
  pub goes_on : mark.closed ≡ false
  pub count : mark.count ≤ next.count
  pub length : mark.length ≤ next.length

-- a mark may stand behind the last one; where there is none, any may
abbrev pub IsAfter : Option Mark → Mark → Type 0
IsAfter None next = Unit {0}
IsAfter (Some mark) next = IsLater mark next

-- a mark that has a note may stand behind the last one
pub record Follows (last : Option Mark) (next : Mark) : Type 0 where
  pub fits : Fits next
  pub after : IsAfter last next

-- behind a last mark, these may stand one by one
abbrev pub Follow : Option Mark → List Mark → Type 0
Follow last [] = Unit {0}
Follow last (mark ∷ marks) = Follows last mark × Follow (Some mark) marks

-- the last of these marks, or the one before them
abbrev pub last_from : Option Mark → List Mark → Option Mark
last_from last [] = last
last_from last (mark ∷ marks) = last_from (Some mark) marks

-- the last of these marks
abbrev pub last_of : List Mark → Option Mark
last_of marks = last_from None marks

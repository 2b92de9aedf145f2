-- Where the clauses of an OP1a file are broken (SMPTE ST 377-1, ST 378). docs/formats/mxf.md, "What an OP1a file is".
use Rattle.std.specs.Prelude.{◌≡◌, ◌≢◌, ◌⊎◌, ℕ, ◌<◌, ◌≤◌, List, [], ◌∷◌, ◌++◌, length, map, Some}
use Rattle.std.specs.List.{flat_map, AllByRecursion}
use Rattle.byteorder.specs.Endian.{big_bytes}
use Rattle.mxf_partitions.specs.Reads.{entries_of}
use Rattle.mxf_index.specs.Reads.{Frames, frames_of}
use Rattle.mxf_op1a.specs.Clauses.{other_elements}
use Rattle.mxf_op1a.specs.Contents.{Placed}
use Rattle.mxf_op1a.specs.Firsts.{IsLast}
use Rattle.mxf_op1a.specs.Kept.{CountsLengths, CountsStream, EndsWithRandomIndex, HasDurations, IndexesElements, IsBody, IsClosedFooter, IsOpenHeader}
use Rattle.mxf_op1a.specs.Kept.{Join, NamesPlaces, entry_of, offsets_in}
use Rattle.mxf_op1a.specs.Metadata.{SetAt, sets_of}
use Rattle.mxf_op1a.specs.Partitions.{File, Part, elements}

-- of a list, the first with which something is no longer kept, and its place
pub record IsBreak {X : Type 0} (Kept : List X → Type 0) (place : X → ℕ) (xs : List X) (at : ℕ) : Type 0 where
  pub before : List X
  pub one : X
  pub behind : List X
  pub xs_are : xs ≡ before ++ one ∷ behind
  pub keeps : Kept before
  pub breaks : ¬ Kept (before ++ one ∷ [])
  pub at_is : at ≡ place one

-- the places of a partition, an item and a set
abbrev pub part_at : Part → ℕ
part_at part = part.at

abbrev pub item_at : Placed → ℕ
item_at p = p.at

abbrev pub set_place : SetAt → ℕ
set_place s = s.at

-- 1. The items don't go on to the file's end, or they do, and the last is no random index pack, which is missing.
abbrev pub BreaksEnd : ℕ → ℕ → List Placed → ℕ → Type 0
BreaksEnd len stop items at =
    ((stop < len) × (at ≡ stop)) ⊎ ((len ≤ stop) × (¬ EndsWithRandomIndex len stop items) × (at ≡ len))

-- 2. The last item has other entries than the partitions'.
pub record BreaksNames (items : List Placed) (all : List Part) (at : ℕ) : Type 0 where
  pub last : Placed
  pub is_last : IsLast items last
  pub breaks : entries_of last.item ≢ Some (map entry_of all)
  pub at_is : at ≡ last.at

-- 3. A pack names another place than its own, or than that of the pack before.
abbrev pub BreaksPlaces : List Part → ℕ → Type 0
BreaksPlaces all at = IsBreak NamesPlaces part_at all at

-- what stands behind the header: bodies, and last a footer
abbrev pub IsDue : Part → List Part → Type 0
IsDue part [] = IsClosedFooter part
IsDue part (next ∷ behind) = IsBody part

-- the first partition is no open and incomplete header, or the only one
pub record BreaksHeader (all : List Part) (at : ℕ) : Type 0 where
  pub first : Part
  pub behind : List Part
  pub all_are : all ≡ first ∷ behind
  pub breaks : ¬ (IsOpenHeader first × (0 < length behind))
  pub at_is : at ≡ first.at

-- a partition behind the header and bodies isn't what is due
pub record BreaksBehind (all : List Part) (at : ℕ) : Type 0 where
  pub header : Part
  pub bodies : List Part
  pub one : Part
  pub behind : List Part
  pub all_are : all ≡ header ∷ (bodies ++ one ∷ behind)
  pub begins : IsOpenHeader header
  pub between : AllByRecursion IsBody bodies
  pub breaks : ¬ IsDue one behind
  pub at_is : at ≡ one.at

-- 4. There are no partitions, or one is of another kind.
abbrev pub BreaksKinds : ℕ → List Part → ℕ → Type 0
BreaksKinds len all at = ((all ≡ []) × (at ≡ len)) ⊎ (BreaksHeader all at ⊎ BreaksBehind all at)

-- 5. A body offset is another sum.
abbrev pub BreaksStream : List Part → ℕ → Type 0
BreaksStream bodies at = IsBreak CountsStream part_at bodies at

-- the elements that stand elsewhere than in bodies, or there with another key
abbrev pub wrong_elements : List Placed → File → List Placed
wrong_elements before file =
    elements before ++ flat_map (λ part. elements part.items) file.header ++ flat_map (λ body. other_elements body.items) file.bodies
    ++ flat_map (λ part. elements part.items) file.footer

-- a partition has elements
abbrev pub HasSome : Part → Type 0
HasSome part = 0 < length (elements part.items)

-- 6. The first such element stands there; or there are none, and a body lacks elements.
abbrev pub BreaksElements : ℕ → List Placed → File → ℕ → Type 0
BreaksElements len before file at =
    ((p : Placed) × (rest : List Placed) × (wrong_elements before file ≡ p ∷ rest) × (at ≡ p.at))
    ⊎ ((wrong_elements before file ≡ []) × (¬ AllByRecursion HasSome file.bodies) × (at ≡ len))

-- 8. A set of the footer has another duration.
abbrev pub BreaksDuration : ℕ → File → ℕ → Type 0
BreaksDuration count file at = IsBreak (AllByRecursion (HasDurations (big_bytes 8 count))) set_place (flat_map sets_of file.footer) at

-- segments join from 0 on, and have the entries of the first elements
pub record BeginsIndex (bodies : List Part) (segments : List Placed) : Type 0 where
  pub frames : List Frames
  pub say : map (λ p. frames_of p.item) segments ≡ map (λ said. Some said) frames
  pub join : Join frames
  pub left : List ℕ
  pub cover : flat_map (λ said. said.streams) frames ++ left ≡ flat_map offsets_in bodies

-- 9. A segment is none, doesn't join, or has other entries; or none does, and entries are missing.
abbrev pub BreaksIndex : ℕ → List Part → List Placed → ℕ → Type 0
BreaksIndex len bodies segments at =
    IsBreak (BeginsIndex bodies) item_at segments at
    ⊎ (BeginsIndex bodies segments × (¬ IndexesElements bodies segments) × (at ≡ len))

-- 10. A pack counts other lengths.
abbrev pub BreaksLengths : List Part → ℕ → Type 0
BreaksLengths all at = IsBreak (AllByRecursion CountsLengths) part_at all at

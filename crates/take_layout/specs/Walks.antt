-- What a look at the bytes of a file from a place on finds (own). docs/ARCHITECTURE.md, "A take's file".
use Rattle.std.specs.Prelude.{◌≡◌, ◌≢◌, ◌≤◌, ◌<◌, ◌+◌, ◌-◌, ◌^◌, ◌⊎◌, ℕ, List, [], ◌∷◌, ◌++◌, length, take, drop}
use Rattle.take_layout.specs.declared.walk.Walk.{Walk}
use Rattle.take_layout.specs.declared.walk.Walk.TheVariants.{Lead, More}
use Rattle.take_layout.specs.Takes.{AreUnits}

-- bytes that begin with the lead of a unit, after any units, and then the unit: the lead is found
abbrev pub FindsWhole : (List ℕ → Type 0) → (List (List ℕ) → ℕ → List ℕ) → ℕ → List ℕ → ℕ → Walk → Type 0
FindsWhole is_unit lead most bytes from walk =
    (units : List (List ℕ)) (unit rest : List ℕ) → AreUnits is_unit most (units ++ unit ∷ [])
    → bytes ≡ lead units (length unit) ++ unit ++ rest
    → from + length (lead units (length unit)) < 2 ^ 64
    → walk ≡ Lead (from + length (lead units (length unit))) (length unit)

-- more bytes than there are, and no more than the lead and its unit have, are needed
pub record Needs (have whole need : ℕ) : Type 0 where
  pub above : have < need
  pub within : need ≤ whole

-- the lead is found already, or more of it and its unit is asked for
abbrev pub FindsOrNeeds : ℕ → List ℕ → List ℕ → ℕ → Walk → Type 0
FindsOrNeeds from lead unit have walk =
    (walk ≡ Lead (from + length lead) (length unit))
    ⊎ ((need : ℕ) × (walk ≡ More need) × Needs have (length lead + length unit) need)

-- bytes that end inside the lead of a unit and the unit
abbrev pub FindsPart : (List ℕ → Type 0) → (List (List ℕ) → ℕ → List ℕ) → ℕ → List ℕ → ℕ → Walk → Type 0
FindsPart is_unit lead most bytes from walk =
    (units : List (List ℕ)) (unit missing : List ℕ) → AreUnits is_unit most (units ++ unit ∷ [])
    → missing ≢ [] → bytes ++ missing ≡ lead units (length unit) ++ unit
    → from + length (lead units (length unit)) < 2 ^ 64
    → FindsOrNeeds from (lead units (length unit)) unit (length bytes) walk

-- the unit of a lead that is found is a unit, whatever its bytes are behind those that are there
abbrev pub FindsUnit : (List ℕ → Type 0) → List ℕ → ℕ → Walk → Type 0
FindsUnit is_unit bytes from walk =
    (unit_at unit_len : ℕ) → walk ≡ Lead unit_at unit_len
    → (from ≤ unit_at) × ((unit : List ℕ) → length unit ≡ unit_len
    → take unit_len (drop (unit_at - from) bytes) ≡ take (length bytes - (unit_at - from)) unit → is_unit unit)

-- where more is asked for, it is more than there is, and no more than the longest lead and so many bytes of its unit
abbrev pub AsksForMore : ℕ → List ℕ → Walk → Type 0
AsksForMore most bytes walk = (need : ℕ) → walk ≡ More need → (length bytes < need) × (need ≤ most + 2 ^ 16)

-- a unit of a length stands at the front of bytes, behind its lead
pub record Stands (is_unit : List ℕ → Type 0) (lead : ℕ → List ℕ) (bytes : List ℕ) (n : ℕ) : Type 0 where
  pub unit : List ℕ
  pub rest : List ℕ
  pub is : is_unit unit
  pub long : length unit ≡ n
  pub bytes_are : bytes ≡ lead n ++ (unit ++ rest)

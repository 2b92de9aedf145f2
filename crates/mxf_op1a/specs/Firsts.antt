-- Which item is the first or the last, and how long a run of items is (own). docs/formats/mxf.md, "What an OP1a file is".
use Rattle.std.specs.Prelude.{◌≡◌, ◌⊎◌, ℕ, ◌-◌, ◌||◌, ⊤, Bool, true, false, List, [], ◌∷◌, ◌++◌}
use Rattle.std.specs.List.{AllByRecursion}
use Rattle.mxf_op1a.specs.Contents.{Content, Placed, is_fill}
use Rattle.mxf_op1a.specs.Partitions.{Part, being, place_of}

-- the first item of a kind, and those behind it
pub record IsFirst (test : Content → Bool) (items : List Placed) (p : Placed) (behind : List Placed) : Type 0 where
  pub before : List Placed
  pub items_are : items ≡ before ++ p ∷ behind
  pub others : AllByRecursion (λ q. being test q ≡ false) before
  pub itself : being test p ≡ true

-- the last item but fill
pub record IsLast (items : List Placed) (p : Placed) : Type 0 where
  pub before : List Placed
  pub behind : List Placed
  pub items_are : items ≡ before ++ p ∷ behind
  pub itself : being is_fill p ≡ false
  pub filled : AllByRecursion (λ q. being is_fill q ≡ true) behind

-- an item goes on with a run: it is of a kind, or fill
abbrev pub goes_on : (Content → Bool) → Placed → Bool
goes_on test p = being test p || being is_fill p

-- the first of items, if there is one, doesn't
abbrev pub EndsRun : (Content → Bool) → List Placed → Type 0
EndsRun test [] = ⊤
EndsRun test (p ∷ ps) = goes_on test p ≡ false

-- the bytes from the first item that begins a run up to the first behind it that doesn't go on with it
pub record IsRun (begins goes : Content → Bool) (part : Part) (len : ℕ) : Type 0 where
  pub first : Placed
  pub run : List Placed
  pub behind : List Placed
  pub is_first : IsFirst begins part.items first (run ++ behind)
  pub on : AllByRecursion (λ p. goes_on goes p ≡ true) run
  pub over : EndsRun goes behind
  pub len_is : len ≡ place_of part.end behind - first.at

-- the length of the first run in a partition, 0 where there is none
abbrev pub CountsRun : (Content → Bool) → (Content → Bool) → Part → ℕ → Type 0
CountsRun begins goes part len = (AllByRecursion (λ p. being begins p ≡ false) part.items × (len ≡ 0)) ⊎ IsRun begins goes part len

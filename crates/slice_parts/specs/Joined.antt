-- Items spelled one behind the other, each in the way that those before it leave (own).
use Rattle.std.specs.Prelude.{◌≡◌, ℕ, List, [], ◌∷◌, ◌++◌}
use Rattle.bit_io.specs.Read.{Reading, Takes}

-- the bits are bits of the first kind, and bits of the second behind them
pub record Split (first second : List ℕ → Type 0) (bits : List ℕ) : Type 0 where
  pub one : List ℕ
  pub rest : List ℕ
  pub head : first one
  pub tail : second rest
  pub joined : bits ≡ one ++ rest

-- the bits are the spellings of the items, where `spells` says how an item is spelled in a state, and `next` what state it leaves
abbrev pub Joined : {S X : Type 0} → (S → List ℕ → X → Type 0) → (S → X → S) → S → List X → List ℕ → Type 0
Joined spells next state [] bits = bits ≡ []
Joined spells next state (item ∷ items) bits = Split (λ one. spells state one item) (Joined spells next (next state item) items) bits

-- the items are spelled at a place, and `here` is behind them
pub record ReadsAll {S X : Type 0} (spells : S → List ℕ → X → Type 0) (next : S → X → S) (state : S) (start here : Reading) (items : List X) : Type 0 where
  pub spelled : List ℕ
  pub coded : Joined spells next state items spelled
  pub taken : Takes start here spelled

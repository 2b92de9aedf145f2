-- A gate that is open.
use Rattle.std.proofs.Common.{◌≡◌, ◌==◌, Bool, false, get_or, ℕ, List, [], ◌∷◌, length, drop, ap, arith}

-- a first byte that is 1
pub gate_open : (rest : List ℕ) (empty : Bool) → empty ≡ (length rest == 0) → empty ≡ false → get_or rest 0 0 ≡ 1 → rest ≡ 1 ∷ drop 1 rest
gate_open [] empty is some gate = absurd (omega (arith, gate))
gate_open (byte ∷ rest) empty is some gate = ap (λ (n : ℕ). n ∷ rest) gate

use Rattle.std.proofs.Common.{◌≡◌, ℤ, pos, negsuc, ℕ, ◌/◌, ◌%◌, ap, arith}
use Rattle.prores_codes.specs.Folded.{folded}

-- an odd number is a negative one, folded
pub unfolds_odd : (n : ℕ) → n % 2 ≡ 1 → folded (negsuc (n / 2)) ≡ n
unfolds_odd n odd = omega arith

pub only_odd : (n : ℕ) (v : ℤ) → n % 2 ≡ 1 → folded v ≡ n → negsuc (n / 2) ≡ v
only_odd n (pos k) odd e = absurd (omega (arith, e))
only_odd n (negsuc k) odd e = ap negsuc (omega (arith, e))

-- Signed numbers as natural ones (RDD 36). docs/FORMATS.md, "Codes".
use Rattle.std.specs.Prelude.{ℕ, suc, ◌-◌, ◌*◌, ℤ, pos, negsuc}

-- v from 0 on becomes 2 v, and v below 0 becomes - 2 v - 1; negsuc k is - (k + 1)
abbrev pub folded : ℤ → ℕ
folded (pos n) = 2 * n
folded (negsuc k) = 2 * suc k - 1

-- A block of one value.
use Rattle.std.proofs.Common.{◌<◌, ℕ, zero, suc, replicate, slice_index, arith}

pub alike : (n value bound k : ℕ) → value < bound → slice_index (replicate n value) k < bound
alike zero value bound k lt = omega (arith, lt)
alike (suc n) value bound zero lt = lt
alike (suc n) value bound (suc k) lt = alike n value bound k lt

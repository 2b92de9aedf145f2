-- How many slices a row of macroblocks has.
use Rattle.std.proofs.Common.{◌≡◌, ℕ, suc, ◌+◌, ◌/◌, ◌%◌, ◌^◌, length, replicate, ap, ◌∙◌}
use Rattle.std.proofs.lemmas.List.{length-append, length-replicate}
use Rattle.picture_plane.specs.Slices.{slice_widths}

-- a row of slices of one macroblock
pub row_least : (m : ℕ) → length (slice_widths 0 m) ≡ m
unfolding slice_widths
row_least m = length-replicate m 1

-- the widest slices, and those of what is left behind them
pub row_more : (log2 m : ℕ) → length (slice_widths (suc log2) m) ≡ m / 2 ^ suc log2 + length (slice_widths log2 (m % 2 ^ suc log2))
unfolding slice_widths
row_more log2 m =
    length-append (replicate (m / 2 ^ suc log2) (2 ^ suc log2)) (slice_widths log2 (m % 2 ^ suc log2))
    ∙ ap (λ n. n + length (slice_widths log2 (m % 2 ^ suc log2))) (length-replicate (m / 2 ^ suc log2) (2 ^ suc log2))

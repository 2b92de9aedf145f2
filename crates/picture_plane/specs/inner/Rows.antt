-- A row of slices from some macroblock on.
use Rattle.std.specs.Prelude.{ℕ, zero, suc, ◌+◌, nat_lt, if◌then◌else◌, List, [], length, sum, take, get_or, Option, Some, None}
use Rattle.picture_plane.specs.Slices.{slice_widths}

-- the n-th slice of these widths, of which the first begins at this macroblock
abbrev pub slice_after : ℕ → List ℕ → ℕ → Option (ℕ × ℕ)
slice_after first widths n = if nat_lt n (length widths) then Some (first + sum (take n widths), get_or widths n 0) else None

-- the widths below 2 ^ log2 that are left when no more of 2 ^ log2 fit
abbrev pub narrower : ℕ → ℕ → List ℕ
narrower zero macroblocks = []
narrower (suc log2) macroblocks = slice_widths log2 macroblocks

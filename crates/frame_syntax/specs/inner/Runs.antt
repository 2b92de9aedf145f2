-- The slices of a coded picture that are left. Private functions alone cite these.
use Rattle.std.specs.Prelude.{ℕ, ◌+◌, ◌*◌, ◌≤◌, List, length, drop, sum}
use Rattle.frame_syntax.specs.Pictures.{Span, slice_sizes, spans_from}
use Rattle.frame_syntax.specs.declared.frame_slices.SliceRun.{SliceRun}
use Rattle.frame_syntax.specs.declared.picture_head.TheConstants.{ENTRY_LEN}

-- their sizes
abbrev pub sizes_in_run : List ℕ → SliceRun → List ℕ
sizes_in_run bytes run = slice_sizes run.left (drop run.entry_at bytes)

-- where they lie
abbrev pub spans_in_run : List ℕ → SliceRun → List Span
spans_in_run bytes run = spans_from run.at (sizes_in_run bytes run)

-- they lie in the bytes, and so do their entries
pub record RunFits (bytes : List ℕ) (run : SliceRun) : Type 0 where
  pub entries : run.entry_at + ENTRY_LEN * run.left ≤ length bytes
  pub slices : run.at + sum (sizes_in_run bytes run) ≤ length bytes

use Rattle.std.proofs.Common.{◌≡◌, ◌<◌, ◌+◌, ◌*◌, ℕ}
use Rattle.prores_scan.specs.Scans.{place_of}
use Rattle.slice_levels.specs.Interleaved.{entry_of}
use Rattle.whole_transform.specs.Sums.{at}
use Rattle.slice_levels.proofs.lanes.put_group.Given as goal

abbrev pub invariant-loop-k : goal.invariant-loop-k
invariant-loop-k l = (lane j : ℕ) → lane < 8 → l.first + lane < l.count → j < l.k
    → at l.lanes (8 * place_of l.scan j + lane) ≡ at l.products (entry_of l.count j (l.first + lane))

use Rattle.std.proofs.Common.{◌≡◌, ◌≤◌, map}
use Rattle.std.specs.List.{range_with_len}
use Rattle.std.specs.Vec.{vec_capacity}
use Rattle.mxf_partitions.specs.Reads.{entry_at}
use Rattle.mxf_partitions.proofs.index_reading.read_entries.Given as goal

abbrev pub invariant-entries : goal.invariant-entries
invariant-entries l = (l.entries.items ≡ map (entry_at l.value) (range_with_len 0 l.k)) × (l.count ≤ vec_capacity l.entries)

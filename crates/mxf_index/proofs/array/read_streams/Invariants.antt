use Rattle.std.proofs.Common.{◌≡◌, ◌≤◌, map}
use Rattle.std.specs.List.{range_with_len}
use Rattle.std.specs.Vec.{vec_len, vec_capacity}
use Rattle.mxf_index.specs.Reads.{stream_in}
use Rattle.mxf_index.proofs.array.read_streams.Given as goal

abbrev pub invariant-entries : goal.invariant-entries
invariant-entries l = record {
  streams : l.streams.items ≡ map (stream_in l.value) (range_with_len 0 l.k);
  len : vec_len l.streams ≡ l.k;
  room : l.count ≤ vec_capacity l.streams;
}

use Rattle.std.proofs.Common.{◌≡◌, ◌+◌}
use Rattle.std.specs.Vec.{vec_len}
use Rattle.slot_pool.specs.Pools.{free_count, live_count}
use Rattle.slice_desk.specs.Desks.{in_count}
use Rattle.slice_desk.proofs.shelf.Shelf.empty.Given as goal

-- the slots of the slices that left are free
abbrev pub invariant-loop : goal.invariant-loop
invariant-loop g l = record {
  free : free_count l.pool + in_count l.places.items ≡ free_count l.fn.pool + in_count l.initial.places.items;
  live : live_count l.pool + in_count l.initial.places.items ≡ live_count l.fn.pool + in_count l.places.items;
  len : vec_len l.places + l.counter ≡ l.end;
}

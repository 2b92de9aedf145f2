use Rattle.std.proofs.Common.{◌≡◌, ◌≤◌, replicate, None}
use Rattle.std.specs.Vec.{vec_capacity}
use Rattle.slice_desk.proofs.shelf.Shelf.new.Given as goal

-- the places so far are empty
abbrev pub invariant-loop : goal.invariant-loop
invariant-loop g l = record {
  empty : l.places.items ≡ replicate l.counter None;
  room : l.count ≤ vec_capacity l.places;
}

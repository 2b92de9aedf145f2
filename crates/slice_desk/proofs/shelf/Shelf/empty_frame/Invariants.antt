use Rattle.slice_desk.specs.Desks.{Frees}
use Rattle.slice_desk.proofs.ShelfLemmas.{IsLeft}
use Rattle.slice_desk.proofs.shelf.Shelf.empty_frame.Given as goal

-- the slices so far have left, and their slots are free
abbrev pub invariant-loop-index : goal.invariant-loop-index
invariant-loop-index g l = record {
  left : IsLeft l.fn.self l.self l.frame l.index l.slices;
  slots : Frees l.fn.pool l.pool l.index;
}

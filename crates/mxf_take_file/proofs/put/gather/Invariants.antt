use Rattle.std.proofs.Common.{◌≡◌, take, drop, map}
use Rattle.take_layout.specs.declared.place.Place.{Place}
use Rattle.mxf_take_file.proofs.put.gather.Given as goal

abbrev pub invariant-loop-k : goal.invariant-loop-k
invariant-loop-k l = take l.k l.streams ≡ map (λ (place : Place). place.stream) (take l.k (drop l.first l.places))

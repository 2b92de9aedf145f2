-- The first of some units.
use Rattle.std.proofs.Common.{◌≤◌, ℕ, List, length, take, min, arith, length-take}
use Rattle.std.proofs.lemmas.List.Elements.{All-take}
use Rattle.take_layout.specs.Takes.{AreUnits}

-- they are units themselves
pub are_first : (is_unit : List ℕ → Type 0) (most count : ℕ) (units : List (List ℕ)) → AreUnits is_unit most units → AreUnits is_unit most (take count units)
are_first is_unit most count units are = record {
  each = All-take is_unit count units are.each;
  few = omega (arith, are.few, length-take count units);
}

-- The lengths of both areas as one function (own).
use Rattle.std.specs.Prelude.{ℕ}
use Rattle.take_disk.specs.declared.area.Area.{Area}
use Rattle.take_disk.specs.declared.area.Area.TheVariants.{Essence, Commits}

-- the lengths of the essence and of the commits
abbrev pub lengths_of : ℕ → ℕ → Area → ℕ
lengths_of essence commits Essence = essence
lengths_of essence commits Commits = commits

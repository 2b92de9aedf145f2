use Rattle.std.proofs.Common.{◌≡◌}
use Rattle.raw_feed.specs.declared.kind.Kind.TheVariants.{Units}
use Rattle.raw_feed.proofs.tests.ending.Given as goal

-- the items are units
abbrev pub invariant-loop : goal.invariant-loop
invariant-loop g l = l.reader.kind ≡ Units

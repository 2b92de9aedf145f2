use Rattle.std.proofs.Common.{◌≡◌, take}
use Rattle.raw_feed.specs.Feeds.{magic}
use Rattle.raw_feed.proofs.head.config_of.Given as goal

-- the bytes of the magic so far are right
abbrev pub invariant-loop-at : goal.invariant-loop-at
invariant-loop-at l = take l.at l.head ≡ take l.at (magic l.fn.kind)

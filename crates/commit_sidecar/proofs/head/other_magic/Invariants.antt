use Rattle.std.proofs.Common.{◌≡◌, ◌≤◌, take, length}
use Rattle.commit_sidecar.specs.declared.head.TheConstants.{MAGIC}
use Rattle.commit_sidecar.proofs.head.other_magic.Given as goal

-- the bytes of the magic so far are there and right
abbrev pub invariant-loop-at : goal.invariant-loop-at
invariant-loop-at l = record {
  same : take l.at l.bytes ≡ take l.at MAGIC;
  there : l.at ≤ length l.bytes;
}

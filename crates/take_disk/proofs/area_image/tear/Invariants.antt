use Rattle.std.proofs.Common.{◌≡◌, ◌≤◌, ◌<◌, ℕ, nat_lt, if◌then◌else◌, List, length, get_or}
use Rattle.take_disk.specs.declared.entry.Entry.{Entry}
use Rattle.take_disk.specs.inner.Redone.{last_touch}
use Rattle.take_disk.proofs.area_image.tear.Given as goal

-- the places so far are torn, and the others as they were
pub record IsTornTo (k synced byte : ℕ) (entries : List Entry) (old now : List ℕ) : Type 0 where
  pub long : length now ≡ length old
  pub torn : (place : ℕ) → place < k → get_or now place 0 ≡ (if nat_lt synced (last_touch place 0 entries) then byte else get_or old place 0)
  pub left : (place : ℕ) → k ≤ place → get_or now place 0 ≡ get_or old place 0

abbrev pub invariant-loop-k : goal.invariant-loop-k
invariant-loop-k l = IsTornTo l.k l.synced l.byte l.entries l.fn.image.items l.image.items

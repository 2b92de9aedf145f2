-- The room that a buffer has for the parts of a take's file (own). docs/ARCHITECTURE.md, "A take's file".
use Rattle.std.specs.Prelude.{◌≤◌, ℕ, length}
use Rattle.rec_bytes.specs.Configuration.{Fields}
use Rattle.take_layout.specs.declared.layout.TakeLayout.{Ghosts}

-- a buffer of this length has room for the head, any lead and any tail
pub record HasRoom {L : Type 0} (layout : Ghosts L) (config : Fields) (room : ℕ) : Type 0 where
  pub head : length (layout.head config) ≤ room
  pub lead : layout.lead_most config ≤ room
  pub tail : layout.tail_most config ≤ room

-- How time goes on over any number of a disk's calls (own). docs/ARCHITECTURE.md, "The disk".
use Rattle.std.specs.Prelude.{◌⊎◌}
use Rattle.take_disk.specs.declared.ticket.Ticket.{Ticket}
use Rattle.take_disk.specs.Held.{Moment, IsBefore, Areas}

-- there is a moment between two from which a crash may leave this
pub record IsLeftBetween (before now : Moment) (since : Moment → Areas → Type 0) (image : Areas) : Type 0 where
  pub moment : Moment
  pub from : IsBefore before moment
  pub to : IsBefore moment now
  pub left : since moment image

-- Time goes on over any number of calls: since an earlier moment a crash may have left what it might have left before, or what
-- it may have left at a moment since then, and nothing else. A ticket that was made stays so.
pub record Elapsed (before now : Moment) (past since : Moment → Areas → Type 0) (made makes : Ticket → Type 0) : Type 0 where
  pub later : IsBefore before now
  pub nothing_else : (moment : Moment) (image : Areas) → IsBefore moment before → since moment image
      → past moment image ⊎ IsLeftBetween before now since image
  pub keeps : (moment : Moment) (image : Areas) → IsBefore moment before → past moment image → since moment image
  pub tickets : (ticket : Ticket) → made ticket → makes ticket

-- The moment that a ticket names, and a ticket for two devices (own). docs/ARCHITECTURE.md, "The disk".
use Rattle.std.specs.Prelude.{◌≡◌, ◌<◌, ◌-◌, ◌^◌, ℕ, Option, Some, None}
use Rattle.take_disk.specs.declared.ticket.Ticket.{Ticket}
use Rattle.take_disk.specs.Held.{Moment, IsBefore}

-- the second number, 0 where there is none
abbrev pub twin_or_0 : Option ℕ → ℕ
twin_or_0 None = 0
twin_or_0 (Some twin) = twin

-- the moment of a ticket
abbrev pub moment_of : Ticket → Moment
moment_of ticket = record { first = ticket.moment; second = twin_or_0 ticket.twin }

-- both numbers are below the last one of 64 bits, which names no moment
pub record IsNamed (ticket : Ticket) : Type 0 where
  pub first : ticket.moment < 2 ^ 64 - 1
  pub second : twin_or_0 ticket.twin < 2 ^ 64 - 1

-- a ticket that names a moment names the one at which it was made, which is a new one
pub record IsMade (before now : Moment) (ticket : Ticket) : Type 0 where
  pub later : IsBefore before (moment_of ticket)
  pub new : before.first < ticket.moment
  pub past : IsBefore (moment_of ticket) now

-- the ticket of the first device alone
abbrev pub first_of : Ticket → Ticket
first_of ticket = record ticket { twin = None }

-- that of the second device alone
abbrev pub second_of : Ticket → ℕ → Ticket
second_of ticket twin = record { area = ticket.area; moment = twin; twin = None }

-- the tickets of both devices make up this one
pub record Joins (ticket first second : Ticket) : Type 0 where
  pub is_first : first ≡ first_of ticket
  pub twin : ticket.twin ≡ Some second.moment
  pub is_second : second ≡ second_of ticket second.moment

-- What a crash may leave while a take is recovered (own). docs/ARCHITECTURE.md, "Recovery".
use Rattle.std.specs.Prelude.{ℕ, List}
use Rattle.rec_bytes.specs.Configuration.{Fields}
use Rattle.take_disk.specs.Calls.{IfTold}
use Rattle.take_disk.specs.declared.disk.TakeDisk.{Ghosts}
use Rattle.take_layout.specs.declared.layout.TakeLayout.{Ghosts as LayoutGhosts}
use Rattle.commit_sidecar.specs.Recovers.{Recovers}
use Rattle.commit_phases.specs.Goes.{Goes, LeavesSafe}
use Rattle.commit_phases.specs.Table.{AllSafe}
use Rattle.recovery.specs.Recoveries.{AreKept, as_read}

-- Where all that a crash may leave at the start is safe for units and an acknowledged number, so is all that it may leave since.
abbrev pub StaysSafe : {L D : Type 0} → LayoutGhosts L → Ghosts D → D → D → Type 0
StaysSafe layout device first now =
    IfTold (device.told first) (λ held. (cfg : Fields) (units : List (List ℕ)) (acked : ℕ) → AllSafe layout cfg units acked held
    → LeavesSafe layout device cfg units acked first now)

-- Where all is kept at the start and the areas are recovered to units, all that a crash may leave since is recovered to these.
abbrev pub StaysOne : {L D : Type 0} → LayoutGhosts L → Ghosts D → D → D → Type 0
StaysOne layout device first now =
    IfTold (device.told first) (λ held. (cfg : Fields) (units : List (List ℕ)) → AreKept held → Recovers layout cfg units (as_read held)
    → Goes device first now (Recovers layout cfg units))

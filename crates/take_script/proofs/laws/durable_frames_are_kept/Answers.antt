use Rattle.std.proofs.Common.{List, ℕ, take}
use Rattle.take_disk.specs.Calls.{IfTold}
use Rattle.take_disk.specs.Held.{Areas}
use Rattle.commit_sidecar.specs.Recovers.{IsSafe}
use Rattle.commit_phases.specs.laws.Told.{told_so}
use Rattle.take_state.specs.Seen.{acked, published}
use Rattle.take_script.proofs.laws.durable_frames_are_kept.Goals as goal

pub returns : goal.returns
returns g c = λ old new all held now image done named told crash left leads.
    let device = g.D.TakeDisk in
    let during = told_so (g.U.TakeUnits.units old.config) _ all crash.during named in
    let safe : IsSafe g.L.TakeLayout old.config (take (published new) all) (acked old) image =
    told_so (device.told old.disk) (λ _. (other : Areas) → device.images_since new.disk (device.moment old.disk) other
    → IsSafe g.L.TakeLayout old.config (take (published new) all) (acked old) other) held during told image left in
    c.acked_units_are_kept.ensures.safe old.config (take (published new) all) (acked old) image done now safe leads

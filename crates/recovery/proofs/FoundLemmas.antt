-- What is found of a take, and what it is closed to.
use Rattle.std.proofs.Common.{◌≡◌, ◌≤◌, ℕ, ◌+◌, Bool, true, false, List, [], ◌∷◌, ◌++◌, length, Option, Some, None, refl, sym, ap, subst}
use Rattle.std.proofs.Common.{◌∙◌, arith, length-append}
use Rattle.rec_bytes.specs.Configuration.{Fields}
use Rattle.rec_bytes.specs.Places.{with_bytes}
use Rattle.take_core.specs.declared.mark.Mark.{Mark}
use Rattle.take_disk.specs.Held.{Areas, Disk}
use Rattle.take_disk.specs.Calls.{IfTold, Steps}
use Rattle.take_disk.specs.declared.disk.TakeDisk.{Ghosts as DeviceGhosts}
use Rattle.take_layout.specs.Growing.{Growing}
use Rattle.take_layout.specs.declared.layout.TakeLayout.{Ghosts}
use Rattle.commit_sidecar.specs.Notes.{note_of, Fits, IsLater, Follows, last_of}
use Rattle.commit_sidecar.specs.Says.{Says, gate_place, said}
use Rattle.commit_sidecar.specs.Recovers.{Recovers, mark_of, file_of}
use Rattle.commit_phases.specs.Layouts.{LaysOut}
use Rattle.commit_phases.specs.Goes.{LeavesSafe}
use Rattle.commit_phases.specs.Table.{IsClosed}
use Rattle.commit_phases.specs.laws.Told.{known, told_so}
use Rattle.commit_phases.specs.laws.Found.{found_open}
use Rattle.essence_walk.specs.Essences.{Names}
use Rattle.recovery.specs.Recoveries.{Closes, WasClosed, as_read, closed_mark}
use Rattle.recovery.specs.inner.Found.{ClosesSafely, IsFound, IsReady, MayClose}

module _ {L : Type 0} (layout : Ghosts L) (file : Growing) (gate : ℕ) (mark : Mark) where
  -- the areas are recovered to the units that are found
  pub recovered : (areas : Areas) → IsFound layout file gate mark areas → (units : List (List ℕ)) → Names layout file.config mark areas.essence units
      → Recovers layout file.config units areas
  recovered areas found units named =
      let names : Names layout file.config (mark_of layout file.config found.marks) areas.essence units =
      subst (λ (m : Mark). Names layout file.config m areas.essence units) found.mark_is named in
      record {
        marks = found.marks;
        says = found.says;
        are_units = names.file.are_units;
        count = names.file.count;
        length_is = names.file.length_is;
        rest = names.file.rest;
        begins = names.file.begins;
        ends = names.ends;
      }

  pub found_recovers : (areas : Areas) (found : IsFound layout file gate mark areas) → Recovers layout file.config found.units areas
  found_recovers areas found = recovered areas found found.units found.names

  -- the mark that counts is open, or closed, as the one that is found
  pub counts : (areas : Areas) (found : IsFound layout file gate mark areas) (closed : Bool) → mark.closed ≡ closed
      → (mark_of layout file.config found.marks).closed ≡ closed
  counts areas found closed is = ap (λ (m : Mark). m.closed) (sym found.mark_is) ∙ is

  -- the length of an open mark is that of the growing file
  pub open_length : (areas : Areas) (found : IsFound layout file gate mark areas) → mark.closed ≡ false
      → mark.length ≡ length (layout.growing file.config found.units)
  open_length areas found goes_on = found.names.file.length_is ∙ ap (λ (b : Bool). length (file_of layout b file.config found.units)) goes_on

  -- so the essence may be closed by the tail of these units
  pub ready_closes : (tail : List ℕ) (held : Disk) → mark.closed ≡ false
      → ((units : List (List ℕ)) → file.places ≡ layout.places_of file.config units → tail ≡ layout.tail file.config units)
      → (ready : IsReady layout file gate mark held)
      → MayClose layout file.config ready.found.units (length ready.found.marks) mark.length tail held
  unfolding found_recovers recovered
  ready_closes tail held goes_on tail_is ready =
      let found = ready.found in record {
        at_end = open_length (as_read held) found goes_on;
        tail_is = tail_is found.units found.lie;
        table = found_open layout file.config found.units held (found_recovers (as_read held) found) (counts (as_read held) found false goes_on)
            ready.essence.each ready.commits.each;
      }

  -- the mark of the closed file may stand behind those that are found
  later : (areas : Areas) (found : IsFound layout file gate mark areas) (next : Mark) → mark.closed ≡ false → mark.count ≤ next.count
      → mark.length ≤ next.length
      → IsLater (said (length (layout.head file.config)) found.marks) next
  later areas found next goes_on count long = subst (λ (m : Mark). IsLater m next) found.mark_is (record { goes_on = goes_on; count = count; length = long })

  -- what is left once both areas are closed
  pub closes : LaysOut layout
      → ((head_len : ℕ) (marks : List Mark) (next : Mark) → Fits next → IsLater (said head_len marks) next → Follows (last_of marks) next)
      → ((commits : List ℕ) (cfg : Fields) (marks : List Mark) (next : Mark) → Says commits cfg marks → Follows (last_of marks) next
      → Says (with_bytes (with_bytes commits (gate_place (length marks) + 1) (note_of next ++ 0 ∷ [])) (gate_place (length marks)) (1 ∷ [])) cfg
      (marks ++ next ∷ []))
      → (tail : List ℕ) (old new : Disk) → mark.closed ≡ false
      → ((units : List (List ℕ)) → file.places ≡ layout.places_of file.config units → tail ≡ layout.tail file.config units)
      → (found : IsFound layout file gate mark (as_read old)) → Fits (closed_mark mark.count (mark.length + length tail))
      → IsClosed layout file.config found.units (length found.marks + 1) new
      → new.commits.reads ≡ with_bytes (with_bytes old.commits.reads (gate + 1)
      (note_of (closed_mark mark.count (mark.length + length tail)) ++ 0 ∷ [])) gate (1 ∷ [])
      → Closes layout mark.count (mark.length + length tail) (as_read old) new
  unfolding found_recovers recovered
  closes laws follow say tail old new goes_on tail_is found fits closed reads =
      let cfg = file.config in let units = found.units in
      let next : Mark = closed_mark mark.count (mark.length + length tail) in
      let follows = follow (length (layout.head cfg)) found.marks next fits (later (as_read old) found next goes_on (omega arith) (omega arith)) in
      let says = say old.commits.reads cfg found.marks next found.says follows in
      let written : new.commits.reads ≡ with_bytes (with_bytes old.commits.reads (gate_place (length found.marks) + 1) (note_of next ++ 0 ∷ []))
      (gate_place (length found.marks)) (1 ∷ []) =
      reads ∙ ap (λ (k : ℕ). with_bytes (with_bytes old.commits.reads (k + 1) (note_of next ++ 0 ∷ [])) k (1 ∷ [])) found.gate_is in
      record {
        cfg = cfg;
        units = units;
        recovers = found_recovers (as_read old) found;
        was_open = counts (as_read old) found false goes_on;
        frames_are = found.names.file.count;
        len_is = omega (
          arith,
          open_length (as_read old) found goes_on,
          ap (length {A = ℕ}) (tail_is units found.lie),
          ap (length {A = ℕ}) (laws.closes cfg units),
          length-append (layout.growing cfg units) (layout.tail cfg units),
        );
        essence = closed.essence;
        commits = subst (λ (bytes : List ℕ). Says bytes cfg (found.marks ++ next ∷ [])) (sym written) says;
        kept = record { essence = closed.essence_kept; commits = closed.commits_kept };
      }

  -- what a closed mark says is there already
  pub was_closed : (held : Disk) → mark.closed ≡ true → IsReady layout file gate mark held → WasClosed layout mark.count mark.length (as_read held) held
  unfolding found_recovers recovered
  was_closed held ended ready =
      let found = ready.found in record {
        cfg = file.config;
        units = found.units;
        recovers = found_recovers (as_read held) found;
        was_closed = counts (as_read held) found true ended;
        frames_are = found.names.file.count;
        len_is = found.names.file.length_is ∙ ap (λ (b : Bool). length (file_of layout b file.config found.units)) ended;
        same = refl;
        kept = record { essence = ready.essence.whole; commits = ready.commits.whole };
      }

  -- the mark that is noted is that of the units' closed file
  noted_mark : (areas : Areas) (found : IsFound layout file gate mark areas) (n : ℕ) (tail : List ℕ) → n ≡ length tail
      → closed_mark mark.count (mark.length + n) ≡ closed_mark (length found.units) (mark.length + length tail)
  noted_mark areas found n tail long = λ i. closed_mark (found.names.file.count i) (mark.length + long i)

  -- the closing of a take that is ready leaves what the answer says
  pub closed_leads : LaysOut layout
      → ((head_len : ℕ) (marks : List Mark) (next : Mark) → Fits next → IsLater (said head_len marks) next → Follows (last_of marks) next)
      → ((commits : List ℕ) (cfg : Fields) (marks : List Mark) (next : Mark) → Says commits cfg marks → Follows (last_of marks) next
      → Says (with_bytes (with_bytes commits (gate_place (length marks) + 1) (note_of next ++ 0 ∷ [])) (gate_place (length marks)) (1 ∷ [])) cfg
      (marks ++ next ∷ []))
      → (tail : List ℕ) (n : ℕ) → n ≡ length tail → mark.closed ≡ false
      → ((units : List (List ℕ)) → file.places ≡ layout.places_of file.config units → tail ≡ layout.tail file.config units)
      → Fits (closed_mark mark.count (mark.length + n)) → (x y : Option Disk) → IfTold x (IsReady layout file gate mark)
      → ((cfg : Fields) (units : List (List ℕ)) (records : ℕ) → IfTold x (MayClose layout cfg units records mark.length tail) → gate ≡ gate_place records
      → closed_mark mark.count (mark.length + n) ≡ closed_mark (length units) (mark.length + length tail) → IfTold y (IsClosed layout cfg units (records + 1)))
      → Steps x y (λ old new. new.commits.reads ≡ with_bytes (with_bytes old.commits.reads (gate + 1)
      (note_of (closed_mark mark.count (mark.length + n)) ++ 0 ∷ [])) gate (1 ∷ []))
      → Steps x y (λ old new. Closes layout mark.count (mark.length + n) (as_read old) new)
  closed_leads laws follow say tail n long goes_on tail_is fits None None ready closed noted = tt
  closed_leads laws follow say tail n long goes_on tail_is fits None (Some new) ready closed noted = absurd noted
  closed_leads laws follow say tail n long goes_on tail_is fits (Some old) None ready closed noted = absurd noted
  closed_leads laws follow say tail n long goes_on tail_is fits (Some old) (Some new) ready closed noted =
      let found = ready.found in
      let may = ready_closes tail old goes_on tail_is ready in
      let is_closed = closed file.config found.units (length found.marks) may found.gate_is (noted_mark (as_read old) found n tail long) in
      let all : mark.length + length tail ≡ mark.length + n = ap (λ (k : ℕ). mark.length + k) (sym long) in
      subst (λ (len : ℕ). Closes layout mark.count len (as_read old) new) all
      (closes laws follow say tail old new goes_on tail_is found (subst (λ (len : ℕ). Fits (closed_mark mark.count len)) (sym all) fits) is_closed
      (subst (λ (len : ℕ). new.commits.reads ≡ with_bytes (with_bytes old.commits.reads (gate + 1) (note_of (closed_mark mark.count len) ++ 0 ∷ [])) gate
      (1 ∷ [])) (sym all) noted))

  -- and all that a crash may leave meanwhile is recovered to what was found
  pub closing_safe : {D : Type 0} (device : DeviceGhosts D) (first now : D) (tail : List ℕ) (n : ℕ) → n ≡ length tail → mark.closed ≡ false
      → ((units : List (List ℕ)) → file.places ≡ layout.places_of file.config units → tail ≡ layout.tail file.config units)
      → IfTold (device.told first) (IsReady layout file gate mark)
      → ((cfg : Fields) (units : List (List ℕ)) (records : ℕ) → IfTold (device.told first) (MayClose layout cfg units records mark.length tail)
      → gate ≡ gate_place records
      → closed_mark mark.count (mark.length + n) ≡ closed_mark (length units) (mark.length + length tail)
      → LeavesSafe layout device cfg units (length units) first now)
      → ClosesSafely layout device file gate mark first now
  closing_safe device first now tail n long goes_on tail_is ready safe = known (device.told first) _ (λ held is found.
      let r = told_so (device.told first) _ held ready is in
      let may = ready_closes tail held goes_on tail_is (record { found = found; essence = r.essence; commits = r.commits }) in
      safe file.config found.units (length found.marks) (subst (λ (x : Option Disk). IfTold x (MayClose layout file.config found.units
      (length found.marks) mark.length tail)) (sym is) may)
      found.gate_is (noted_mark (as_read held) found n tail long))

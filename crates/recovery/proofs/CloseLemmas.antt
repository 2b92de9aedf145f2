-- What each call of a disk keeps while a take is closed.
use Rattle.std.proofs.Common.{◌≡◌, ◌<◌, ◌^◌, ℕ, ◌+◌, Bool, true, false, List, [], ◌∷◌, ◌++◌, length, Option, None, sym, ap, subst}
use Rattle.std.proofs.Common.{◌∙◌, arith, length-append}
use Rattle.rec_bytes.specs.Configuration.{Fields}
use Rattle.rec_bytes.specs.Places.{with_bytes}
use Rattle.take_core.specs.declared.mark.Mark.{Mark}
use Rattle.take_core.specs.declared.commit_phase.CommitPhase.{CommitPhase}
use Rattle.take_core.specs.declared.commit_phase.CommitPhase.TheVariants.{Idle, MarkOut, Marked, NoteOut, Noted, GateOut, Opened}
use Rattle.take_disk.specs.declared.area.Area.TheVariants.{Essence, Commits}
use Rattle.take_disk.specs.declared.disk.TakeDisk.{Ghosts}
use Rattle.take_disk.specs.Held.{Moment, Held, Disk, InArea, Settled, IsPast, in_area}
use Rattle.take_disk.specs.Calls.{IfTold, Steps, CutsIn, Cuts, WritesIn, Writes}
use Rattle.rec_bytes.specs.Ranges.{IsInRange}
use Rattle.take_layout.specs.Takes.{IsTake}
use Rattle.take_layout.specs.declared.layout.TakeLayout.{Ghosts as LayoutGhosts}
use Rattle.take_layout.specs.declared.place.Place.{Place}
use Rattle.commit_sidecar.specs.Notes.{note_of}
use Rattle.commit_sidecar.specs.Recovers.{IsSafe}
use Rattle.commit_sidecar.specs.Says.{gate_place}
use Rattle.commit_phases.specs.Layouts.{LaysOut}
use Rattle.commit_phases.specs.Phases.{IsOut, settled, waits_for}
use Rattle.commit_phases.specs.Table.{Table, AllSafe, IsClosed}
use Rattle.commit_phases.specs.laws.Commits.{note_torn, note_done, gate_torn, gate_done, finished}
use Rattle.commit_phases.specs.laws.Essence.{publish_torn, cut_reads, tail_reads, tail_done}
use Rattle.commit_phases.specs.laws.Runs.{Crashes, Passes, all_left, Run, then}
use Rattle.commit_phases.specs.laws.Safety.{table_safe}
use Rattle.commit_phases.specs.laws.Settling.{sync_done}
use Rattle.commit_phases.specs.laws.Told.{changes, lift, both, with_old, weaker, same_told, through, unchanged}
use Rattle.recovery.specs.Recoveries.{closed_mark}
use Rattle.recovery.specs.inner.Found.{MayClose, MayNote}

-- the essence may be closed, and ends with its growing file
pub record IsCut {L : Type 0} (layout : LayoutGhosts L) (cfg : Fields) (units : List (List ℕ)) (records at : ℕ) (tail : List ℕ) (held : Disk) : Type 0 where
  pub may : MayClose layout cfg units records at tail held
  pub reads : held.essence.reads ≡ layout.growing cfg units

module _ {L : Type 0} (layout : LayoutGhosts L) (laws : LaysOut layout) (cfg : Fields) (units : List (List ℕ)) (records : ℕ) where
  -- the table of a take that is found, all of whose units are acknowledged
  abbrev pub Stands : Bool → CommitPhase → Disk → Type 0
  Stands tail phase held = Table layout cfg units (length units) records tail phase None held

  abbrev pub IsSafeNow : Disk → Type 0
  IsSafeNow held = AllSafe layout cfg units (length units) held

  pub stands_safe : (x : Option Disk) (tail : Bool) (phase : CommitPhase) → IfTold x (Stands tail phase) → IfTold x IsSafeNow
  stands_safe x tail phase t = changes x _ _ t (λ held table. table_safe layout laws cfg units (length units) records tail phase None held table)

  module _ (at : ℕ) (tail : List ℕ) where
    abbrev pub May : Disk → Type 0
    May held = MayClose layout cfg units records at tail held

    pub may_safe : (x : Option Disk) → IfTold x May → IfTold x IsSafeNow
    may_safe x m = stands_safe x false Idle (changes x _ _ m (λ held may. may.table))

    -- a cut to the growing file's length, or a write behind it, leaves what may be closed
    pub cut_torn : (x y : Option Disk) → IfTold x May → Steps x y (CutsIn Essence at) → IfTold y May
    cut_torn x y m steps = lift x y _ _ _ m steps (λ old new may step. record {
      at_end = may.at_end;
      tail_is = may.tail_is;
      table = publish_torn layout laws cfg units (length units) records Idle None at _ (omega (arith, may.at_end)) old new may.table step;
    })

    pub write_torn : (x y : Option Disk) → IfTold x May → Steps x y (WritesIn Essence at (length tail)) → IfTold y May
    write_torn x y m steps = lift x y _ _ _ m steps (λ old new may step. record {
      at_end = may.at_end;
      tail_is = may.tail_is;
      table = publish_torn layout laws cfg units (length units) records Idle None at _ (omega (arith, may.at_end)) old new may.table step;
    })

    -- once it is cut, the essence is the growing file
    pub cut_done : (x y : Option Disk) → IfTold x May → Steps x y (CutsIn Essence at) → Steps x y (Cuts Essence at)
        → IfTold y (IsCut layout cfg units records at tail)
    cut_done x y m torn cut = lift x y _ _ _ m (both x y _ _ torn cut) (λ old new may step. record {
      may = record {
        at_end = may.at_end;
        tail_is = may.tail_is;
        table = publish_torn layout laws cfg units (length units) records Idle None at _ (omega (arith, may.at_end)) old new may.table step.0;
      };
      reads = cut_reads layout laws cfg units (length units) records Idle None at old new may.at_end may.table step.1;
    })

    -- and once the tail is written, the closed one, whose mark is on its way
    pub write_done : (x y : Option Disk) → IfTold x (IsCut layout cfg units records at tail) → Steps x y (WritesIn Essence at (length tail))
        → Steps x y (Writes Essence at tail) → IfTold y (Stands true (MarkOut (closed_mark (length units) (at + length tail))))
    write_done x y c torn wrote = lift x y _ _ _ c (both x y _ _ torn wrote) (λ old new cut step.
        let may = cut.may in
        let table = publish_torn layout laws cfg units (length units) records Idle None at _ (omega (arith, may.at_end)) old new may.table step.0 in
        let reads = tail_reads layout laws cfg units (length units) records at tail old new may.at_end may.tail_is cut.reads step.1 in
        let tail_long : length tail ≡ length (layout.tail cfg units) = ap (length {A = ℕ}) may.tail_is in
        let closes : length (layout.closed cfg units) ≡ length (layout.growing cfg units ++ layout.tail cfg units) = ap (length {A = ℕ})
        (laws.closes cfg units) in
        let long : at + length tail ≡ length (layout.closed cfg units) =
        omega (arith, may.at_end, tail_long, closes, length-append (layout.growing cfg units) (layout.tail cfg units)) in
        tail_done layout laws cfg units (length units) records None (closed_mark (length units) (at + length tail)) new
        (λ i. closed_mark (length units) (long i)) table reads)

  -- a sync settles what waits for it
  pub synced : (phase : CommitPhase) (tail : Bool) (now : Moment) (x y : Option Disk) → IsOut phase
      → IfTold x (λ held. IsPast now (in_area (waits_for phase) held))
      → IfTold x (Stands tail phase) → Steps x y (InArea (waits_for phase) (Settled now)) → IfTold y (Stands tail (settled phase))
  synced phase tail now x y is_out past t steps = lift x y _ _ _ t (with_old x y _ _ past steps) (λ old new table step.
      sync_done layout cfg units (length units) records tail phase None now old new is_out step.0 table step.1)

  module _ (gate : ℕ) (mark : Mark) where
    abbrev pub Noting : Disk → Type 0
    Noting held = MayNote layout cfg units records gate mark held

    pub noting_safe : (x : Option Disk) → IfTold x Noting → IfTold x IsSafeNow
    noting_safe x m = stands_safe x true (Marked mark) (changes x _ _ m (λ held may. may.table))

    -- a write of the note leaves what may be noted
    pub noting_torn : (n : ℕ) (x y : Option Disk) → IfTold x Noting → Steps x y (WritesIn Commits (gate + 1) n) → IfTold y Noting
    noting_torn n x y m steps = lift x y _ _ _ m steps (λ old new may step. record {
      gate_is = may.gate_is;
      table = note_torn layout laws cfg units (length units) records true mark None (gate_place records + 1 + n) old new may.table
          (subst (λ (k : ℕ). WritesIn Commits (k + 1) n old new) may.gate_is step);
    })

    -- and once it is written, it is on its way
    pub noting_done : (bytes : List ℕ) (x y : Option Disk) → bytes ≡ note_of mark ++ 0 ∷ [] → IfTold x Noting
        → Steps x y (WritesIn Commits (gate + 1) (length bytes))
        → Steps x y (Writes Commits (gate + 1) bytes) → IfTold y (λ held. (gate ≡ gate_place records) × Stands true (NoteOut mark) held)
    noting_done bytes x y is m torn wrote = lift x y _ _ _ m (both x y _ _ torn wrote) (λ old new may step. (
      may.gate_is,
      note_done layout laws cfg units (length units) records true mark None old new may.table
          (subst (λ (bs : List ℕ). WritesIn Commits (gate_place records + 1) (length bs) old new) is
          (subst (λ (k : ℕ). WritesIn Commits (k + 1) (length bytes) old new) may.gate_is step.0))
          (subst (λ (bs : List ℕ). Writes Commits (gate_place records + 1) bs old new) is
          (subst (λ (k : ℕ). Writes Commits (k + 1) bytes old new) may.gate_is step.1)),
    ))

    abbrev pub AtGate : CommitPhase → Disk → Type 0
    AtGate phase held = (gate ≡ gate_place records) × Stands true phase held

    pub at_gate_safe : (phase : CommitPhase) (x : Option Disk) → IfTold x (AtGate phase) → IfTold x IsSafeNow
    at_gate_safe phase x t = stands_safe x true phase (changes x _ _ t (λ held both. both.1))

    pub at_gate_synced : (phase : CommitPhase) (now : Moment) (x y : Option Disk) → IsOut phase → IfTold x (λ held. IsPast now (in_area (waits_for phase) held))
        → IfTold x (AtGate phase) → Steps x y (InArea (waits_for phase) (Settled now)) → IfTold y (AtGate (settled phase))
    at_gate_synced phase now x y is_out past t steps = lift x y _ _ _ t (with_old x y _ _ past steps) (λ old new both step. (
      both.0,
      sync_done layout cfg units (length units) records true phase None now old new is_out step.0 both.1 step.1,
    ))

    -- a gate that is being opened is any byte
    pub opening_safe : (x y : Option Disk) → IfTold x (AtGate (Noted mark)) → Steps x y (WritesIn Commits gate 1) → IfTold y IsSafeNow
    opening_safe x y t steps = lift x y _ _ _ t steps (λ old new both step.
        gate_torn layout laws cfg units (length units) records true mark None old new both.1 (subst (λ (k : ℕ). WritesIn Commits k 1 old new) both.0 step))

    pub opening_done : (x y : Option Disk) → IfTold x (AtGate (Noted mark)) → Steps x y (WritesIn Commits gate 1) → Steps x y (Writes Commits gate (1 ∷ []))
        → IfTold y (AtGate (GateOut mark))
    opening_done x y t torn wrote = lift x y _ _ _ t (both x y _ _ torn wrote) (λ old new both step. (
      both.0,
      gate_done layout laws cfg units (length units) records true mark None old new both.1
          (subst (λ (k : ℕ). WritesIn Commits k 1 old new) both.0 step.0)
          (subst (λ (k : ℕ). Writes Commits k (1 ∷ []) old new) both.0 step.1),
    ))

    pub opened_closed : (x : Option Disk) → IfTold x (AtGate (Opened mark)) → IfTold x (IsClosed layout cfg units (records + 1))
    opened_closed x t = changes x _ _ t (λ held both. finished layout laws cfg units (length units) records mark None held both.1)

  module _ {D : Type 0} (device : Ghosts D) (crash : Crashes device) where
    abbrev pub SafeRun : D → D → Type 0
    SafeRun first now = Run device (IsSafe layout cfg units (length units)) first now

    -- a call more, after which all that a crash may leave is safe
    pub safe_then : (first mid new : D) (step : Disk → Disk → Type 0) → SafeRun first mid → Steps (device.told mid) (device.told new) step
        → Passes device mid new
        → IfTold (device.told new) IsSafeNow → SafeRun first new
    safe_then first mid new step run steps time safe =
        then device _ first mid new step run steps time (all_left device crash _ new safe)

    -- one that failed and changed nothing
    pub safe_still : (first mid new : D) → SafeRun first mid → device.told new ≡ device.told mid → Passes device mid new
        → IfTold (device.told mid) IsSafeNow → SafeRun first new
    safe_still first mid new run same time safe =
        safe_then first mid new _ run (unchanged (device.told mid) (device.told new) same) time (same_told (device.told mid) (device.told new) _ same safe)

-- two areas as they are read, by the one that a step concerns
synced_reads : (now : Moment) (old new : Disk) → InArea Commits (Settled now) old new → new.commits.reads ≡ old.commits.reads
synced_reads now old new step = step.changed.reads

-- a note that is written and synced, and then its gate: the commits read just so
pub noted_reads : (gate : ℕ) (note bytes : List ℕ) (first then : Moment) (a b c d e : Option Disk) → bytes ≡ note
    → Steps a b (Writes Commits (gate + 1) bytes) → Steps b c (InArea Commits (Settled first)) → Steps c d (Writes Commits gate (1 ∷ []))
    → Steps d e (InArea Commits (Settled then))
    → Steps a e (λ old new. new.commits.reads ≡ with_bytes (with_bytes old.commits.reads (gate + 1) note) gate (1 ∷ []))
noted_reads gate note bytes first then a b c d e is one two three four =
    let ab = through a b c _ _ one two in
    let ac = through a c d _ _ ab three in
    let ad = through a d e _ _ ac four in
    weaker a e _ _ ad (λ old new step.
    let upto = step.1 in let mid = upto.1 in
    synced_reads then step.0 new step.2
    ∙ upto.2
    ∙ ap (λ (xs : List ℕ). with_bytes xs gate (1 ∷ []))
    (synced_reads first mid.0 upto.0 mid.2 ∙ mid.1 ∙ ap (λ (bs : List ℕ). with_bytes old.commits.reads (gate + 1) bs) is))

-- the tail's end is a place of 64 bits
pub tail_small : {L : Type 0} (layout : LayoutGhosts L) → LaysOut layout → (cfg seen : Fields) (places lying : List Place) (len : ℕ) → seen ≡ cfg
    → lying ≡ places → IsInRange cfg
    → IsTake (layout.is_unit cfg) (layout.places_of cfg) cfg.max_frames places
    → ((units : List (List ℕ)) → lying ≡ layout.places_of seen units → len ≡ length (layout.tail seen units))
    → (at : ℕ) → ((units : List (List ℕ)) → places ≡ layout.places_of cfg units → at ≡ length (layout.growing cfg units)) → at + len < 2 ^ 64
tail_small layout laws cfg seen places lying len cfg_is places_are range lies len_is at at_is =
    let units = lies.units in
    let lie : lying ≡ layout.places_of seen units = places_are ∙ lies.lie ∙ ap (λ (f : Fields). layout.places_of f units) (sym cfg_is) in
    let long : len ≡ length (layout.tail cfg units) = len_is units lie ∙ ap (λ (f : Fields). length (layout.tail f units)) cfg_is in
    let fits : length (layout.closed cfg units) < 2 ^ 64 = laws.fits true cfg units range lies.are_units in
    omega (
      arith,
      fits,
      long,
      ap (length {A = ℕ}) (laws.closes cfg units),
      length-append (layout.growing cfg units) (layout.tail cfg units),
      at_is units lies.lie,
    )

-- a mark that is noted after the essence was closed
pub may_note : {L : Type 0} (layout : LayoutGhosts L) (cfg : Fields) (units : List (List ℕ)) (records gate : ℕ) (mark is : Mark) (x : Option Disk)
    → gate ≡ gate_place records
    → mark ≡ is → IfTold x (Table layout cfg units (length units) records true (Marked is) None) → IfTold x (MayNote layout cfg units records gate mark)
may_note layout cfg units records gate mark is x gate_is mark_is t = changes x _ _ t (λ held table. record {
  gate_is = gate_is;
  table = subst (λ (m : Mark). Table layout cfg units (length units) records true (Marked m) None held) (sym mark_is) table;
})

-- the commits read as they were while the essence was closed
pub noted_after : (reads : List ℕ → List ℕ) (x y z : Option Disk) → Steps x y (λ old new. new.commits ≡ old.commits)
    → Steps y z (λ old new. new.commits.reads ≡ reads old.commits.reads)
    → Steps x z (λ old new. new.commits.reads ≡ reads old.commits.reads)
noted_after reads x y z one two = weaker x z _ _ (through x y z _ _ one two) (λ old new step.
    step.2 ∙ ap (λ (h : Held). reads h.reads) step.1)

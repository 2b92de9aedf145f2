-- The start of a take on an empty disk: both heads are written, and each is kept.
use Rattle.std.proofs.Common.{◌≡◌, ℕ, ◌+◌, ◌≤◌, ◌<◌, max, false, List, [], ◌∷◌, ◌++◌, length, Option, Some, None, Result, Ok, Err, OnOk, refl, sym, ap, ap₂, subst, ◌∙◌, arith, append-nil, ◌*◌}
use Rattle.std.proofs.lemmas.Option.{none-some}
use Rattle.rec_bytes.specs.Configuration.{Fields, Spells, spelling}
use Rattle.rec_bytes.specs.Ranges.{IsInRange}
use Rattle.take_core.specs.Recorded.{Recorded}
use Rattle.take_core.specs.Sound.{IsSound}
use Rattle.take_core.specs.States.{fresh as fresh_state}
use Rattle.take_core.specs.declared.snapshot.Phase.TheVariants as phase
use Rattle.take_core.specs.declared.commit_phase.CommitPhase.TheVariants.{Idle}
use Rattle.take_disk.specs.declared.area.Area.{Area}
use Rattle.take_disk.specs.declared.area.Area.TheVariants.{Essence, Commits}
use Rattle.take_disk.specs.declared.disk.TakeDisk.{Ghosts}
use Rattle.take_disk.specs.Calls.{IfTold, Steps, WritesIn, Writes, Grows}
use Rattle.take_disk.specs.Held.{Moment, Held, Disk, InArea, Settled, IsPast, KeepsPlace}
use Rattle.take_layout.specs.Growing.{Growing}
use Rattle.take_layout.specs.declared.layout.TakeLayout.{Ghosts as LayoutGhosts}
use Rattle.take_layout.specs.declared.place.Place.{Place}
use Rattle.commit_sidecar.specs.Says.{head_of, gate_place}
use Rattle.commit_phases.specs.Layouts.{LaysOut}
use Rattle.commit_phases.specs.Table.{Table}
use Rattle.commit_phases.specs.laws.Found.{fresh}
use Rattle.commit_phases.specs.laws.Lists.{written_end}
use Rattle.commit_phases.specs.laws.Runs.{Pasts, Lengths, all_past, all_long}
use Rattle.commit_phases.specs.laws.Settling.{sync_keeps}
use Rattle.commit_phases.specs.laws.Told.{both, known, through, with_new, lift}
use Rattle.take_state.specs.Stands.{AreFirst}
use Rattle.take_state.specs.inner.Keeping.{Begun, HasLaws, HasRoom, KeepsTake}
use Rattle.take_state.proofs.TakeLemmas.{table_begins, table_safe_told}

-- what follows of an answer that is Ok
pub map_ok : {T E : Type 0} (r : Result T E) (A B : Type 0) → OnOk r A → (A → B) → OnOk r B
map_ok (Ok v) A B a f = f a
map_ok (Err x) A B a f = tt

-- a list without a length is none
none_long : (xs : List ℕ) → length xs ≡ 0 → xs ≡ []
none_long [] e = refl
none_long (x ∷ xs) e = absurd (omega (arith, e))

-- both areas are empty
record Empties (held : Disk) : Type 0 where
  essence : length held.essence.reads ≡ 0
  commits : length held.commits.reads ≡ 0

module _ {L : Type 0} (layout : LayoutGhosts L) (laws : LaysOut layout) (cfg : Fields) where
  -- the four calls one by one, on disks that tell
  begins : (front bytes : List ℕ) (first second : Moment) (o a b c n : Disk) → Spells (spelling cfg) cfg → front ≡ layout.head cfg → bytes ≡ head_of cfg ++ 0 ∷ []
      → Empties o → WritesIn Essence 0 (length front) o a → Writes Essence 0 front o a → IsPast first a.essence
      → InArea Essence (Settled first) a b
      → WritesIn Commits 0 (length bytes) b c → Writes Commits 0 bytes b c → IsPast second c.commits
      → InArea Commits (Settled second) c n
      → Table layout cfg [] 0 0 false Idle None n
  begins front bytes first second o a b c n spells is_head is none torn wrote past sync torn_c wrote_c past_c sync_c =
      let same : n.essence ≡ b.essence = sync_c.same ∙ torn_c.same in
      let other : b.commits ≡ o.commits = sync.same ∙ torn.same in
      let essence : b.essence.reads ≡ layout.head cfg =
      sync.changed.reads ∙ written_end [] front o.essence.reads a.essence.reads 0 (none_long o.essence.reads none.essence) refl wrote ∙ is_head in
      let nothing : b.commits.reads ≡ [] = ap (λ (h : Held). h.reads) other ∙ none_long o.commits.reads none.commits in
      let commits : n.commits.reads ≡ bytes =
      sync_c.changed.reads ∙ written_end [] bytes b.commits.reads c.commits.reads 0 nothing refl wrote_c in
      fresh layout laws cfg n [] [] spells
      (ap (λ (h : Held). h.reads) same ∙ essence ∙ sym (append-nil (layout.head cfg)))
      (commits ∙ is ∙ sym (append-nil (head_of cfg ++ 0 ∷ [])))
      (λ place l. subst (λ (h : Held). KeepsPlace h place) (sym same) (sync_keeps first a.essence b.essence past sync.changed place))
      (λ place l. sync_keeps second c.commits n.commits past_c sync_c.changed place)

  -- so on any disk
  pub begun : {D : Type 0} (device : Ghosts D) → Pasts device → Lengths device → (front bytes : List ℕ) (start wrote synced noted last : D)
      → Spells (spelling cfg) cfg → front ≡ layout.head cfg → bytes ≡ head_of cfg ++ 0 ∷ [] → ((area : Area) → device.length_of start area ≡ 0)
      → Steps (device.told start) (device.told wrote) (WritesIn Essence 0 (length front))
      → Steps (device.told start) (device.told wrote) (Writes Essence 0 front)
      → Steps (device.told wrote) (device.told synced) (InArea Essence (Settled (device.moment wrote)))
      → Steps (device.told synced) (device.told noted) (WritesIn Commits 0 (length bytes))
      → Steps (device.told synced) (device.told noted) (Writes Commits 0 bytes)
      → Steps (device.told noted) (device.told last) (InArea Commits (Settled (device.moment noted)))
      → IfTold (device.told last) (Table layout cfg [] 0 0 false Idle None)
  begun device past long front bytes start wrote synced noted last spells is_head is empty torn written sync torn_c written_c sync_c =
      let empties : IfTold (device.told start) Empties =
      known (device.told start) Empties (λ held e. record {
        essence = sym (long start held Essence e) ∙ empty Essence;
        commits = sym (long start held Commits e) ∙ empty Commits;
      }) in
      let one = with_new (device.told start) (device.told wrote) (λ held. IsPast (device.moment wrote) held.essence) _
      (all_past device past wrote Essence) (both (device.told start) (device.told wrote) _ _ torn written) in
      let two = with_new (device.told synced) (device.told noted) (λ held. IsPast (device.moment noted) held.commits) _
      (all_past device past noted Commits) (both (device.told synced) (device.told noted) _ _ torn_c written_c) in
      let all = through (device.told start) (device.told noted) (device.told last) _ _
      (through (device.told start) (device.told synced) (device.told noted) _ _
      (through (device.told start) (device.told wrote) (device.told synced) _ _ one sync) two) sync_c in
      lift (device.told start) (device.told last) Empties (Table layout cfg [] 0 0 false Idle None) _ empties all (λ o n e s.
      begins front bytes (device.moment wrote) (device.moment noted) o s.1.1.0 s.1.0 s.0 n spells is_head is e
      s.1.1.1.0.0 s.1.1.1.0.1 s.1.1.1.1 s.1.1.2 s.1.2.0.0 s.1.2.0.1 s.1.2.1 s.2)

module _ {L D : Type 0} (layout : LayoutGhosts L) (device : Ghosts D) (named : Fields → Option (List (List ℕ))) (cfg : Fields) where
  -- what is kept of a take to which nothing has happened
  pub kept_fresh : HasLaws layout → IsInRange cfg → layout.places_of cfg [] ≡ [] → IsSound (fresh_state cfg) → (d : D) (file : Growing) (history : Recorded) (buffer : ℕ)
      → file.config ≡ cfg → file.places ≡ [] → cfg.max_frames ≤ file.room → history ≡ record { entries = []; room = 2 * cfg.max_frames + 2 }
      → HasRoom layout cfg buffer → Begun layout device cfg d
      → KeepsTake layout device named (record {
        disk = d;
        file = file;
        history = history;
        records = 0;
        commit = Idle;
        tail = false;
        out = None;
        stop = None;
        buffer = buffer;
      })
  kept_fresh laws ranged none sound d file history buffer config places room is has begun = subst (λ (f : Growing). KeepsTake layout device named (record {
    disk = d;
    file = f;
    history = history;
    records = 0;
    commit = Idle;
    tail = false;
    out = None;
    stop = None;
    buffer = buffer;
  })) (sym file_is) (subst (λ (h : Recorded). KeepsTake layout device named (record {
    disk = d;
    file = record { config = cfg; places = []; room = file.room };
    history = h;
    records = 0;
    commit = Idle;
    tail = false;
    out = None;
    stop = None;
    buffer = buffer;
  })) (sym is) (record {
    laws = laws;
    rooms = record { ranged = ranged; records = refl; stop = refl; places = room; entries = omega arith; buffer = has };
    units = [];
    lie = sym none;
    stands = record {
      sound = sound;
      are_units = record { each = λ k unit l. absurd (omega (arith, l)); few = omega arith };
      sized = λ k unit l. absurd (omega (arith, l));
      counted = refl;
      lengths = refl;
      first = first;
      reaches = omega (arith, begun.essence_len, long);
      begins = table_begins layout device laws.lays_out d cfg [] 0 0 false Idle None begun.table;
      safe = table_safe_told layout device laws.lays_out d cfg [] 0 0 false Idle None begun.table;
    };
    grows = λ going. record {
      essence_len = begun.essence_len ∙ sym long;
      commits_len = omega (arith, begun.commits_len);
      due = tt;
      own = λ ticket e. absurd (none-some ticket e);
      table = begun.table;
    };
    ended = λ e. absurd (not_closed e);
  }))
    where
      long : length (layout.growing cfg []) ≡ length (layout.head cfg)
      long = ap (length {A = ℕ}) (laws.lays_out.starts cfg)

      file_is : file ≡ record { config = cfg; places = []; room = file.room }
      file_is = go file config places
        where
          go : (f : Growing) → f.config ≡ cfg → f.places ≡ [] → f ≡ record { config = cfg; places = []; room = f.room }
          go f a b = ap₂ (λ (c : Fields) (ps : List Place). record { config = c; places = ps; room = f.room }) a b

      first : AreFirst (named cfg) []
      first = go (named cfg)
        where
          go : (o : Option (List (List ℕ))) → AreFirst o []
          go None = tt
          go (Some all) = refl

      not_closed : phase.Growing ≡ phase.Closed → ⊥
      not_closed e = cc

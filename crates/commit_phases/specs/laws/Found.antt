-- The table of phases of a take that begins, and of one that is found (own).
use Rattle.std.proofs.Common.{◌≡◌, ℕ, ◌+◌, ◌≤◌, ◌<◌, Bool, true, false, List, [], ◌∷◌, ◌++◌, length, take, None}
use Rattle.std.proofs.Common.{refl, sym, ap, subst, ◌∙◌, arith, append_assoc, append-nil, take_all, length-take-le, true≢false}
use Rattle.std.proofs.lemmas.Option.{none-some}
use Rattle.rec_bytes.specs.Configuration.{Fields, Spells, spelling}
use Rattle.take_core.specs.declared.commit_phase.CommitPhase.TheVariants.{Idle}
use Rattle.take_disk.specs.Held.{IsBefore, Areas, Disk, KeepsPlace, Leaves}
use Rattle.take_layout.specs.declared.layout.TakeLayout.{Ghosts}
use Rattle.commit_sidecar.specs.Says.{head_of, opened, gate_place}
use Rattle.commit_sidecar.specs.Recovers.{Recovers, IsSafe, file_of, mark_of}
use Rattle.commit_sidecar.proofs.RecoverLemmas.{recovers_one}
use Rattle.commit_phases.specs.Layouts.{LaysOut}
use Rattle.commit_phases.specs.Table.{Table, AllSafe, IsClosed, length_to}
use Rattle.commit_phases.specs.laws.Records.{behind_front}
use Rattle.commit_phases.specs.laws.Safety.{safe_wider}

-- both areas as they are read
abbrev pub read_areas : Disk → Areas
read_areas held = record { essence = held.essence.reads; commits = held.commits.reads }

-- so a crash may leave them
pub reads_leave : (held : Disk) → Leaves held (read_areas held)
reads_leave held = record {
  essence = record { reaches = λ place l kept. l; agrees = λ place l kept. refl; whole = λ kept. refl };
  commits = record { reaches = λ place l kept. l; agrees = λ place l kept. refl; whole = λ kept. refl };
}

-- A take of no units begins: the heads and the first gate are kept.
pub fresh : {L : Type 0} (layout : Ghosts L) → LaysOut layout → (cfg : Fields) (held : Disk) (rest more : List ℕ) → Spells (spelling cfg) cfg
    → held.essence.reads ≡ layout.head cfg ++ rest → held.commits.reads ≡ (head_of cfg ++ 0 ∷ []) ++ more
    → ((place : ℕ) → place < length (layout.head cfg) → KeepsPlace held.essence place)
    → ((place : ℕ) → place < gate_place 0 + 1 → KeepsPlace held.commits place) → Table layout cfg [] 0 0 false Idle None held
fresh layout laws cfg held rest more spells essence commits kept kept_commits =
    let long : length (layout.growing cfg []) ≡ length (layout.head cfg) = ap (length {A = ℕ}) (laws.starts cfg) in
    record {
      is_config = spells;
      are_units = record { each = λ k unit l. absurd (omega (arith, l)); few = omega arith };
      few = omega arith;
      marks = [];
      follow = tt;
      number = refl;
      counts = ap (λ (n : ℕ). record { count = 0; length = n; closed = false }) (sym long);
      gate = 0;
      shut = λ e. omega (arith, e);
      essence_rest = rest;
      essence = essence ∙ ap (λ (xs : List ℕ). xs ++ rest) (sym (laws.starts cfg));
      ends = λ e. absurd (true≢false (sym e));
      commits_rest = more;
      commits = commits;
      due = tt;
      kept = record {
        essence = λ place l. kept place (omega (arith, l, long));
        commits = λ place l b. kept_commits place l;
        whole_essence = λ w. absurd w;
        whole_commits = λ w. absurd w;
      };
      will_keep = λ ticket e. absurd (none-some ticket e);
    }

-- A take that is found by an open mark, and kept: it stands between two commits, and all of its units count as acknowledged.
pub found_open : {L : Type 0} (layout : Ghosts L) (cfg : Fields) (units : List (List ℕ)) (held : Disk) (r : Recovers layout cfg units (read_areas held))
    → (mark_of layout cfg r.marks).closed ≡ false → ((place : ℕ) → KeepsPlace held.essence place) → ((place : ℕ) → KeepsPlace held.commits place)
    → Table layout cfg units (length units) (length r.marks) false Idle None held
found_open layout cfg units held r open_mark kept kept_commits =
    let every : take (length units) units ≡ units = take_all (length units) units (omega arith) in
    let long : (mark_of layout cfg r.marks).length ≡ length_to layout cfg units (length units) =
    r.length_is
    ∙ ap (λ (b : Bool). length (file_of layout b cfg units)) open_mark
    ∙ ap (λ (us : List (List ℕ)). length (layout.growing cfg us)) (sym every) in
    record {
      is_config = r.says.is_config;
      are_units = r.are_units;
      few = omega arith;
      marks = r.marks;
      follow = r.says.follow;
      number = refl;
      counts = λ i. record { count = r.count i; length = long i; closed = open_mark i };
      gate = r.says.gate;
      shut = r.says.shut;
      essence_rest = r.rest;
      essence = r.begins ∙ ap (λ (b : Bool). file_of layout b cfg units ++ r.rest) open_mark;
      ends = λ e. absurd (true≢false (sym e));
      commits_rest = r.says.rest;
      commits = r.says.is
          ∙ sym (append_assoc (head_of cfg) (opened r.marks) (r.says.gate ∷ r.says.rest))
          ∙ sym (behind_front cfg r.marks r.says.gate Idle r.says.rest);
      due = tt;
      kept = record {
        essence = λ place l. kept place;
        commits = λ place l b. kept_commits place;
        whole_essence = λ w. absurd w;
        whole_commits = λ w. absurd w;
      };
      will_keep = λ ticket e. absurd (none-some ticket e);
    }

-- One that is found by a closed mark, and kept, is closed.
pub found_closed : {L : Type 0} (layout : Ghosts L) (cfg : Fields) (units : List (List ℕ)) (held : Disk) (r : Recovers layout cfg units (read_areas held))
    → (mark_of layout cfg r.marks).closed ≡ true → IsBefore held.essence.altered held.essence.synced → IsBefore held.commits.altered held.commits.synced
    → IsClosed layout cfg units (length r.marks) held
found_closed layout cfg units held r closed_mark kept kept_commits =
    let long : (mark_of layout cfg r.marks).length ≡ length (layout.closed cfg units) =
    r.length_is ∙ ap (λ (b : Bool). length (file_of layout b cfg units)) closed_mark in
    record {
      are_units = r.are_units;
      marks = r.marks;
      number = refl;
      says = r.says;
      counts = λ i. record { count = r.count i; length = long i; closed = closed_mark i };
      essence = r.begins
          ∙ ap (λ (b : Bool). file_of layout b cfg units ++ r.rest) closed_mark
          ∙ ap (λ (xs : List ℕ). layout.closed cfg units ++ xs) (r.ends closed_mark)
          ∙ append-nil (layout.closed cfg units);
      essence_kept = kept;
      commits_kept = kept_commits;
    }

-- the units that are found are the first ones of a take, and all that were acknowledged are among them
pub record FoundIn (units found : List (List ℕ)) (acked : ℕ) : Type 0 where
  pub count : ℕ
  pub at_least : acked ≤ count
  pub at_most : count ≤ length units
  pub is : found ≡ take count units

-- Where all that a crash may leave is safe, the areas as they are read are recovered to such units, and to no others.
pub found_first : {L : Type 0} (layout : Ghosts L) → LaysOut layout → (cfg other : Fields) (units found : List (List ℕ)) (acked : ℕ) (held : Disk)
    → AllSafe layout cfg units acked held → Recovers layout other found (read_areas held) → (other ≡ cfg) × FoundIn units found acked
found_first layout laws cfg other units found acked held safe r =
    let here = safe (read_areas held) (reads_leave held) in
    let one = recovers_one layout laws.closes laws.one (read_areas held) other cfg found (take here.count units) r here.recovers in
    (one.0, record { count = here.count; at_least = here.at_least; at_most = here.at_most; is = one.1 })

-- what is recovered to all units that were found is safe of the take
pub found_wider : {L : Type 0} (layout : Ghosts L) (cfg : Fields) (units found : List (List ℕ)) (acked : ℕ) (image : Areas) → FoundIn units found acked
    → IsSafe layout cfg found (length found) image → IsSafe layout cfg units acked image
found_wider layout cfg units found acked image f safe =
    let long : length found ≡ f.count = ap (length {A = List ℕ}) f.is ∙ length-take-le f.count units f.at_most in
    safe_wider layout cfg units f.count (length found) acked image f.at_most (omega (arith, long, f.at_least))
    (subst (λ (us : List (List ℕ)). IsSafe layout cfg us (length found) image) f.is safe)

-- where all units are acknowledged, what is safe is recovered to just these, and the other way round
pub safe_all : {L : Type 0} (layout : Ghosts L) (cfg : Fields) (units : List (List ℕ)) (image : Areas) → IsSafe layout cfg units (length units) image
    → Recovers layout cfg units image
safe_all layout cfg units image safe =
    let count : length units ≤ safe.count = safe.at_least in
    subst (λ (us : List (List ℕ)). Recovers layout cfg us image) (take_all safe.count units count) safe.recovers

pub all_safe : {L : Type 0} (layout : Ghosts L) (cfg : Fields) (units : List (List ℕ)) (image : Areas) → Recovers layout cfg units image
    → IsSafe layout cfg units (length units) image
all_safe layout cfg units image r = record {
  count = length units;
  at_least = omega arith;
  at_most = omega arith;
  recovers = subst (λ (us : List (List ℕ)). Recovers layout cfg us image) (sym (take_all (length units) units (omega arith))) r;
}

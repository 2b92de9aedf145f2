-- What the steps of a commit do to the table of phases (own).
use Rattle.std.proofs.Common.{◌≡◌, ◌≢◌, ◌⊎◌, inl, inr, ℕ, ◌+◌, ◌≤◌, ◌<◌, Bool, true, false, List, [], ◌∷◌, ◌++◌, length, get_or, take, drop, Option, None}
use Rattle.std.proofs.Common.{refl, sym, ap, subst, ◌∙◌, arith, append_assoc}
use Rattle.std.proofs.Common.{append-nil, length-append, take_all, take_at, drop_at, take-append-drop, length-drop}
use Rattle.std.proofs.lemmas.List.{drop_more}
use Rattle.std.proofs.lemmas.Bool.{cases_lt}
use Rattle.std.proofs.lemmas.Option.{none-some}
use Rattle.rec_bytes.specs.Configuration.{Fields, Spells, spelling}
use Rattle.take_core.specs.declared.mark.Mark.{Mark}
use Rattle.take_core.specs.declared.commit_phase.CommitPhase.TheVariants.{Idle, MarkOut, Marked, NoteOut, Noted, GateOut, Opened}
use Rattle.take_disk.specs.declared.area.Area.TheVariants.{Essence, Commits}
use Rattle.take_disk.specs.declared.ticket.Ticket.{Ticket}
use Rattle.take_disk.specs.Held.{IsBefore, Held, Disk, InArea, Changed}
use Rattle.take_disk.specs.Calls.{WritesIn, Writes}
use Rattle.take_disk.specs.Tickets.{moment_of}
use Rattle.take_layout.specs.declared.layout.TakeLayout.{Ghosts}
use Rattle.commit_sidecar.specs.Notes.{note_of}
use Rattle.commit_sidecar.specs.Says.{head_of, opened, gate_place}
use Rattle.commit_sidecar.specs.Recovers.{file_of}
use Rattle.commit_sidecar.specs.laws.Records.{follow-more}
use Rattle.commit_phases.specs.Layouts.{LaysOut}
use Rattle.commit_phases.specs.Phases.{IsDue, commit_bytes}
use Rattle.commit_phases.specs.Table.{Table, AllSafe, IsClosed, length_to}
use Rattle.commit_phases.specs.laws.Kept.{moved, kept_on, essence_later}
use Rattle.commit_phases.specs.laws.Lists.{begins_with}
use Rattle.commit_phases.specs.laws.Moments.{equal_moment}
use Rattle.commit_phases.specs.laws.Records.{front_of, front_long, note_long, behind_front, front_more, counts_more, due_follows}
use Rattle.commit_phases.specs.laws.Safety.{gate_safe, opened_behind}

-- the mark of all units, in the length of their file, is due
pub due_all : {L : Type 0} (layout : Ghosts L) (cfg : Fields) (units : List (List ℕ)) (acked : ℕ) (tail : Bool) (mark : Mark) → acked ≤ length units
    → mark ≡ record { count = length units; length = length (file_of layout tail cfg units); closed = tail } → IsDue layout cfg units acked tail mark
due_all layout cfg units acked tail mark few is = subst (λ (m : Mark). IsDue layout cfg units acked tail m) (sym is) (record {
  at_least = few;
  at_most = omega arith;
  length_is = ap (λ (us : List (List ℕ)). length (file_of layout tail cfg us)) (sym (take_all (length units) units (omega arith)));
  ended = refl;
  all = λ e. refl;
})

-- a place that isn't this one lies before it or behind it
beside : (place at : ℕ) → place ≢ at → (place < at) ⊎ (at + 1 ≤ place)
beside place at other = elim (cases_lt place at) [
  | inl less ↦ inl less
  | inr more ↦ inr (omega (arith, more, other))
]

module _ {L : Type 0} (layout : Ghosts L) (laws : LaysOut layout) (cfg : Fields) (units : List (List ℕ)) (acked records : ℕ) (tail : Bool) (mark : Mark) where
  -- a commit begins: a mark that is due is on its way
  pub begin : (out : Option Ticket) (held : Disk) → IsDue layout cfg units acked tail mark → Table layout cfg units acked records tail Idle out held
      → Table layout cfg units acked records tail (MarkOut mark) None held
  begin out held due t = record {
    is_config = t.is_config;
    are_units = t.are_units;
    few = t.few;
    marks = t.marks;
    follow = t.follow;
    number = t.number;
    counts = t.counts;
    gate = t.gate;
    shut = t.shut;
    essence_rest = t.essence_rest;
    essence = t.essence;
    ends = t.ends;
    commits_rest = t.commits_rest;
    commits = t.commits;
    due = due;
    kept = record { essence = t.kept.essence; commits = t.kept.commits; whole_essence = λ w. absurd w; whole_commits = λ w. absurd w };
    will_keep = λ ticket e. absurd (none-some ticket e);
  }

  -- a write behind the gate that isn't open leaves the table, whatever becomes of its bytes
  pub note_torn : (out : Option Ticket) (to : ℕ) (old new : Disk) → Table layout cfg units acked records tail (Marked mark) out old
      → InArea Commits (Changed (gate_place records + 1) to) old new → Table layout cfg units acked records tail (Marked mark) out new
  note_torn out to old new t step =
      let torn = step.changed in
      let same : new.essence ≡ old.essence = step.same in
      let front : List ℕ = commit_bytes cfg t.marks t.gate (Marked mark) in
      let long : length front ≡ gate_place records + 1 =
      omega (
        arith,
        ap (length {A = ℕ}) (behind_front cfg t.marks t.gate (Marked mark) []),
        length-append front [],
        length-append (front_of cfg t.marks) (t.gate ∷ []),
        front_long cfg t.marks records t.is_config t.number,
      ) in
      let essence_is : old.essence.synced ≡ new.essence.synced = sym (ap (λ (h : Held). h.synced) same) in
      let commits_is : old.commits.synced ≡ new.commits.synced = sym torn.synced in
      record {
        is_config = t.is_config;
        are_units = t.are_units;
        few = t.few;
        marks = t.marks;
        follow = t.follow;
        number = t.number;
        counts = t.counts;
        gate = t.gate;
        shut = t.shut;
        essence_rest = t.essence_rest;
        essence = ap (λ (h : Held). h.reads) same ∙ t.essence;
        ends = t.ends;
        commits_rest = drop (gate_place records + 1) new.commits.reads;
        commits = begins_with new.commits.reads old.commits.reads front t.commits_rest (gate_place records + 1) torn.before t.commits long;
        due = t.due;
        kept = kept_on _ records (Marked mark) old new _ _ new.essence.synced new.commits.synced t.kept
            (λ place l. ap (λ (h : Held). h.touched place) same) (λ place l b. torn.untouched place (inl (omega (arith, l))))
            (λ w. ap (λ (h : Held). h.altered) same) (λ w. absurd w) (equal_moment _ _ essence_is) (equal_moment _ _ commits_is);
        will_keep = λ ticket is named. kept_on _ records (Marked mark) old new _ _ _ _ (t.will_keep ticket is named)
            (λ place l. ap (λ (h : Held). h.touched place) same) (λ place l b. torn.untouched place (inl (omega (arith, l))))
            (λ w. ap (λ (h : Held). h.altered) same) (λ w. absurd w)
            (essence_later Essence (moment_of ticket) _ _ (equal_moment _ _ essence_is)) (equal_moment _ _ commits_is);
      }

  -- Once the note and the next gate stand there, the note is on its way.
  pub note_done : (out : Option Ticket) (old new : Disk) → Table layout cfg units acked records tail (Marked mark) out old
      → WritesIn Commits (gate_place records + 1) (length (note_of mark ++ 0 ∷ [])) old new
      → Writes Commits (gate_place records + 1) (note_of mark ++ 0 ∷ []) old new → Table layout cfg units acked records tail (NoteOut mark) None new
  note_done out old new t step wrote =
      let after = note_torn out _ old new t step in
      let at : ℕ = gate_place records + 1 in
      let note : List ℕ = note_of mark ++ 0 ∷ [] in
      let front : List ℕ = front_of cfg t.marks ++ t.gate ∷ [] in
      let rest : List ℕ = drop (at + length note) old.commits.reads in
      let long : length front ≡ at = omega (arith, length-append (front_of cfg t.marks) (t.gate ∷ []), front_long cfg t.marks records t.is_config t.number) in
      let split : old.commits.reads ≡ front ++ t.commits_rest =
      t.commits ∙ behind_front cfg t.marks t.gate (Marked mark) t.commits_rest ∙ sym (append_assoc (front_of cfg t.marks) (t.gate ∷ []) t.commits_rest) in
      let before : take at old.commits.reads ≡ front = ap (λ (xs : List ℕ). take at xs) split ∙ take_at front t.commits_rest at long in
      record {
        is_config = t.is_config;
        are_units = t.are_units;
        few = t.few;
        marks = t.marks;
        follow = t.follow;
        number = t.number;
        counts = t.counts;
        gate = t.gate;
        shut = t.shut;
        essence_rest = after.essence_rest;
        essence = after.essence;
        ends = after.ends;
        commits_rest = rest;
        commits = wrote
            ∙ ap (λ (xs : List ℕ). (xs ++ note) ++ rest) before
            ∙ ap (λ (xs : List ℕ). xs ++ rest) (append_assoc (front_of cfg t.marks) (t.gate ∷ []) note)
            ∙ ap (λ (xs : List ℕ). xs ++ rest) (append_assoc (head_of cfg) (opened t.marks) (t.gate ∷ note));
        due = t.due;
        kept = record {
          essence = after.kept.essence;
          commits = after.kept.commits;
          whole_essence = after.kept.whole_essence;
          whole_commits = λ w. absurd w;
        };
        will_keep = λ ticket e. absurd (none-some ticket e);
      }

  -- what stands before a gate, and behind it
  gate_parts : (marks : List Mark) → Spells (spelling cfg) cfg → length marks ≡ records → (gate : ℕ) (rest reads : List ℕ)
      → reads ≡ commit_bytes cfg marks gate (Noted mark) ++ rest
      → (take (gate_place records) reads ≡ front_of cfg marks) × (drop (gate_place records + 1) reads ≡ (note_of mark ++ 0 ∷ []) ++ rest)
  gate_parts marks spells number gate rest reads is =
      let at : ℕ = gate_place records in
      let front : List ℕ = front_of cfg marks in
      let back : List ℕ = (note_of mark ++ 0 ∷ []) ++ rest in
      let long : length front ≡ at = front_long cfg marks records spells number in
      let flat : reads ≡ front ++ (gate ∷ back) = is ∙ behind_front cfg marks gate (Noted mark) rest in
      let split : reads ≡ (front ++ gate ∷ []) ++ back = flat ∙ sym (append_assoc front (gate ∷ []) back) in (
        ap (λ (xs : List ℕ). take at xs) flat ∙ take_at front (gate ∷ back) at long,
        ap (λ (xs : List ℕ). drop (at + 1) xs) split ∙ drop_at (front ++ gate ∷ []) back (at + 1) (omega (arith, long, length-append front (gate ∷ []))),
      )

  -- a gate whose opening is cut short is any byte, and each crash leaves what is safe
  pub gate_torn : (out : Option Ticket) (old new : Disk) → Table layout cfg units acked records tail (Noted mark) out old
      → WritesIn Commits (gate_place records) 1 old new → AllSafe layout cfg units acked new
  gate_torn out old new t step image leaves =
      let torn = step.changed in
      let same : new.essence ≡ old.essence = step.same in
      let at : ℕ = gate_place records in
      let parts = gate_parts t.marks t.is_config t.number t.gate t.commits_rest old.commits.reads t.commits in
      let c : List ℕ = new.commits.reads in
      let note : List ℕ = note_of mark ++ 0 ∷ [] in
      let back : drop (at + 1) c ≡ note ++ t.commits_rest = torn.after ∙ parts.1 in
      let long : at < length c =
      omega (arith, ap (length {A = ℕ}) back, length-drop (at + 1) c, length-append note t.commits_rest, note_long mark) in
      let g : ℕ = get_or c at 0 in
      let whole : c ≡ front_of cfg t.marks ++ (g ∷ (note_of mark ++ (0 ∷ t.commits_rest))) =
      sym (take-append-drop at c)
      ∙ ap (λ (xs : List ℕ). xs ++ drop at c) (torn.before ∙ parts.0)
      ∙ ap (λ (xs : List ℕ). front_of cfg t.marks ++ xs) (
      drop_more c at 0 long ∙ ap (λ (xs : List ℕ). g ∷ xs) (back ∙ append_assoc (note_of mark) (0 ∷ []) t.commits_rest)) in
      let synced : IsBefore old.essence.synced new.essence.synced = equal_moment _ _ (sym (ap (λ (h : Held). h.synced) same)) in
      gate_safe layout laws cfg units t.are_units acked records tail t.few t.marks t.is_config t.follow t.number t.counts new image leaves
      mark t.due t.essence_rest (ap (λ (h : Held). h.reads) same ∙ t.essence) t.ends
      (λ place l. moved _ _ _ _ (ap (λ (h : Held). h.touched place) same) (t.kept.essence place l) synced)
      (λ e. moved _ _ _ _ (ap (λ (h : Held). h.altered) same) (t.kept.whole_essence e) synced)
      g t.commits_rest whole
      (λ place l other. moved _ _ _ _ (torn.untouched place (beside place at other)) (t.kept.commits place l tt) (equal_moment _ _ (sym torn.synced)))

  -- and once it is written, it is on its way
  pub gate_done : (out : Option Ticket) (old new : Disk) → Table layout cfg units acked records tail (Noted mark) out old
      → WritesIn Commits (gate_place records) 1 old new → Writes Commits (gate_place records) (1 ∷ []) old new
      → Table layout cfg units acked records tail (GateOut mark) None new
  gate_done out old new t step wrote =
      let torn = step.changed in
      let same : new.essence ≡ old.essence = step.same in
      let at : ℕ = gate_place records in
      let parts = gate_parts t.marks t.is_config t.number t.gate t.commits_rest old.commits.reads t.commits in
      let synced : IsBefore old.essence.synced new.essence.synced = equal_moment _ _ (sym (ap (λ (h : Held). h.synced) same)) in
      record {
        is_config = t.is_config;
        are_units = t.are_units;
        few = t.few;
        marks = t.marks;
        follow = t.follow;
        number = t.number;
        counts = t.counts;
        gate = t.gate;
        shut = t.shut;
        essence_rest = t.essence_rest;
        essence = ap (λ (h : Held). h.reads) same ∙ t.essence;
        ends = t.ends;
        commits_rest = t.commits_rest;
        commits = wrote
            ∙ ap (λ (xs : List ℕ). (xs ++ 1 ∷ []) ++ drop (at + 1) old.commits.reads) parts.0
            ∙ ap (λ (xs : List ℕ). (front_of cfg t.marks ++ 1 ∷ []) ++ xs) parts.1
            ∙ append_assoc (front_of cfg t.marks) (1 ∷ []) ((note_of mark ++ 0 ∷ []) ++ t.commits_rest)
            ∙ sym (behind_front cfg t.marks t.gate (GateOut mark) t.commits_rest);
        due = t.due;
        kept = record {
          essence = λ place l. moved _ _ _ _ (ap (λ (h : Held). h.touched place) same) (t.kept.essence place l) synced;
          commits = λ place l other. moved _ _ _ _ (torn.untouched place (beside place at other)) (t.kept.commits place l tt)
              (equal_moment _ _ (sym torn.synced));
          whole_essence = λ e. moved _ _ _ _ (ap (λ (h : Held). h.altered) same) (t.kept.whole_essence e) synced;
          whole_commits = λ w. absurd w;
        };
        will_keep = λ ticket e. absurd (none-some ticket e);
      }

  -- the records of an open gate say the mark too
  opened_more : (marks : List Mark) (gate : ℕ) (rest reads : List ℕ) → reads ≡ commit_bytes cfg marks gate (Opened mark) ++ rest
      → reads ≡ head_of cfg ++ (opened (marks ++ mark ∷ []) ++ (0 ∷ rest))
  opened_more marks gate rest reads is =
      opened_behind cfg marks gate mark rest reads is
      ∙ front_more cfg marks mark (0 ∷ rest)
      ∙ append_assoc (head_of cfg) (opened (marks ++ mark ∷ [])) (0 ∷ rest)

-- An open gate is kept: the units of its mark are acknowledged.
pub acknowledged : {L : Type 0} (layout : Ghosts L) → LaysOut layout
    → (cfg : Fields) (units : List (List ℕ)) (acked records : ℕ) (mark : Mark) (out : Option Ticket) (held : Disk)
    → Table layout cfg units acked records false (Opened mark) out held → Table layout cfg units mark.count (records + 1) false Idle None held
acknowledged layout laws cfg units acked records mark out held t =
    let long : mark.length ≡ length_to layout cfg units mark.count =
    t.due.length_is ∙ ap (λ (b : Bool). length (file_of layout b cfg (take mark.count units))) t.due.ended in
    record {
      is_config = t.is_config;
      are_units = t.are_units;
      few = t.due.at_most;
      marks = t.marks ++ mark ∷ [];
      follow = follow-more None t.marks mark t.follow (due_follows layout laws cfg units acked false t.marks mark t.is_config t.are_units t.counts t.due);
      number = omega (arith, t.number, length-append t.marks (mark ∷ []));
      counts = counts_more layout cfg t.marks mark ∙ (λ i. record { count = mark.count; length = long i; closed = t.due.ended i });
      gate = 0;
      shut = λ e. omega (arith, e);
      essence_rest = t.essence_rest;
      essence = t.essence;
      ends = t.ends;
      commits_rest = t.commits_rest;
      commits = opened_more layout laws cfg units acked records false mark t.marks t.gate t.commits_rest held.commits.reads t.commits
          ∙ sym (append_assoc (head_of cfg) (opened (t.marks ++ mark ∷ [])) (0 ∷ t.commits_rest))
          ∙ sym (behind_front cfg (t.marks ++ mark ∷ []) 0 Idle t.commits_rest);
      due = tt;
      kept = record {
        essence = λ place l. t.kept.essence place (omega (arith, l, long));
        commits = λ place l b. t.kept.commits place l tt;
        whole_essence = λ w. absurd w;
        whole_commits = λ w. absurd w;
      };
      will_keep = λ ticket e. absurd (none-some ticket e);
    }

-- The open gate of a closed file is kept: the take is closed.
pub finished : {L : Type 0} (layout : Ghosts L) → LaysOut layout
    → (cfg : Fields) (units : List (List ℕ)) (acked records : ℕ) (mark : Mark) (out : Option Ticket) (held : Disk)
    → Table layout cfg units acked records true (Opened mark) out held → IsClosed layout cfg units (records + 1) held
finished layout laws cfg units acked records mark out held t =
    let count : mark.count ≡ length units = t.due.all refl in
    let every : take mark.count units ≡ units = take_all mark.count units (omega (arith, count)) in
    let long : mark.length ≡ length (layout.closed cfg units) =
    t.due.length_is
    ∙ ap (λ (b : Bool). length (file_of layout b cfg (take mark.count units))) t.due.ended
    ∙ ap (λ (us : List (List ℕ)). length (layout.closed cfg us)) every in
    record {
      are_units = t.are_units;
      marks = t.marks ++ mark ∷ [];
      number = omega (arith, t.number, length-append t.marks (mark ∷ []));
      says = record {
        is_config = t.is_config;
        follow = follow-more None t.marks mark t.follow (due_follows layout laws cfg units acked true t.marks mark t.is_config t.are_units t.counts t.due);
        gate = 0;
        shut = λ e. omega (arith, e);
        rest = t.commits_rest;
        is = opened_more layout laws cfg units acked records true mark t.marks t.gate t.commits_rest held.commits.reads t.commits;
      };
      counts = counts_more layout cfg t.marks mark ∙ (λ i. record { count = count i; length = long i; closed = t.due.ended i });
      essence = t.essence ∙ ap (λ (xs : List ℕ). layout.closed cfg units ++ xs) (t.ends refl) ∙ append-nil (layout.closed cfg units);
      essence_kept = t.kept.whole_essence t.due.ended;
      commits_kept = t.kept.whole_commits tt;
    }

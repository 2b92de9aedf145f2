-- What writes of the essence do to the table of phases (own).
use Rattle.std.proofs.Common.{◌≡◌, inl, ℕ, ◌+◌, ◌≤◌, true, false, List, [], ◌∷◌, ◌++◌, length, take, drop, Option, None}
use Rattle.std.proofs.Common.{refl, sym, ap, subst, ◌∙◌, arith, append_assoc, append-nil, length-append, take_all, take-take, take_at, true≢false}
use Rattle.std.proofs.lemmas.List.{take-append-le}
use Rattle.std.proofs.lemmas.Option.{none-some}
use Rattle.rec_bytes.specs.Configuration.{Fields}
use Rattle.take_core.specs.declared.mark.Mark.{Mark}
use Rattle.take_core.specs.declared.commit_phase.CommitPhase.{CommitPhase}
use Rattle.take_core.specs.declared.commit_phase.CommitPhase.TheVariants.{Idle, MarkOut, Marked, NoteOut, Noted, GateOut, Opened}
use Rattle.take_disk.specs.declared.area.Area.TheVariants.{Essence}
use Rattle.take_disk.specs.declared.ticket.Ticket.{Ticket}
use Rattle.take_disk.specs.Held.{Held, Disk, InArea, Changed}
use Rattle.take_disk.specs.Calls.{WritesIn, Writes, Cuts}
use Rattle.take_disk.specs.Tickets.{moment_of}
use Rattle.take_layout.specs.Takes.{AreUnits}
use Rattle.take_layout.specs.declared.layout.TakeLayout.{Ghosts}
use Rattle.commit_sidecar.specs.Recovers.{file_of}
use Rattle.commit_phases.specs.Layouts.{LaysOut}
use Rattle.commit_phases.specs.Phases.{IsDue, Due, IsKept, WillKeep, settled, waits_for}
use Rattle.commit_phases.specs.Table.{Table, length_to}
use Rattle.commit_phases.specs.laws.Kept.{kept_on, essence_later, commits_later, settled_due, not_whole, essence_short}
use Rattle.commit_phases.specs.laws.Lists.{begins_with, written_at, written_end, no_rest}
use Rattle.commit_phases.specs.laws.Moments.{equal_moment}

-- the length of the first units' file, with units behind them
pub length_to_more : {L : Type 0} (layout : Ghosts L) (cfg : Fields) (units more : List (List ℕ)) (count : ℕ) → count ≤ length units
    → length_to layout cfg (units ++ more) count ≡ length_to layout cfg units count
length_to_more layout cfg units more count few = ap (λ (us : List (List ℕ)). length (layout.growing cfg us)) (take-append-le count units more few)

-- a mark that is due stays so, as units come behind
pub more_due_mark : {L : Type 0} (layout : Ghosts L) (cfg : Fields) (units more : List (List ℕ)) (acked : ℕ) (mark : Mark)
    → IsDue layout cfg units acked false mark → IsDue layout cfg (units ++ more) acked false mark
more_due_mark layout cfg units more acked mark due = record {
  at_least = due.at_least;
  at_most = omega (arith, due.at_most, length-append units more);
  length_is = due.length_is ∙ ap (λ (us : List (List ℕ)). length (file_of layout mark.closed cfg us)) (sym (take-append-le mark.count units more due.at_most));
  ended = due.ended;
  all = λ e. absurd (true≢false (sym e));
}

pub more_due : {L : Type 0} (layout : Ghosts L) (cfg : Fields) (units more : List (List ℕ)) (acked : ℕ) (phase : CommitPhase)
    → Due layout cfg units acked false phase → Due layout cfg (units ++ more) acked false phase
more_due layout cfg units more acked Idle due = tt
more_due layout cfg units more acked (MarkOut mark) due = more_due_mark layout cfg units more acked mark due
more_due layout cfg units more acked (Marked mark) due = more_due_mark layout cfg units more acked mark due
more_due layout cfg units more acked (NoteOut mark) due = more_due_mark layout cfg units more acked mark due
more_due layout cfg units more acked (Noted mark) due = more_due_mark layout cfg units more acked mark due
more_due layout cfg units more acked (GateOut mark) due = more_due_mark layout cfg units more acked mark due
more_due layout cfg units more acked (Opened mark) due = more_due_mark layout cfg units more acked mark due

module _ {L : Type 0} (layout : Ghosts L) (laws : LaysOut layout) (cfg : Fields) (units : List (List ℕ)) (acked records : ℕ) where
  -- Before the tail is written, a write of the essence behind the file, or a cut, leaves the table, whether it failed or not:
  -- in each phase, and with a ticket that is out.
  pub publish_torn : (phase : CommitPhase) (out : Option Ticket) (from to : ℕ) → length (layout.growing cfg units) ≤ from → (old new : Disk)
      → Table layout cfg units acked records false phase out old → InArea Essence (Changed from to) old new
      → Table layout cfg units acked records false phase out new
  publish_torn phase out from to past old new t step =
      let torn = step.changed in
      let long : ℕ = length (layout.growing cfg units) in
      let same : new.commits ≡ old.commits = step.same in
      let front : take long new.essence.reads ≡ take long old.essence.reads =
      sym (take-take long from new.essence.reads past)
      ∙ ap (λ (xs : List ℕ). take long xs) torn.before
      ∙ take-take long from old.essence.reads past in
      let short = essence_short layout laws cfg units acked false phase t.due in
      let due_then = settled_due layout cfg units acked false phase t.due in
      let short_then = essence_short layout laws cfg units acked false (settled phase) due_then in
      let essence_is : new.essence.synced ≡ old.essence.synced = torn.synced in
      let commits_is : new.commits.synced ≡ old.commits.synced = ap (λ (h : Held). h.synced) same in
      record {
        is_config = t.is_config;
        are_units = t.are_units;
        few = t.few;
        marks = t.marks;
        follow = t.follow;
        number = t.number;
        counts = t.counts;
        gate = t.gate;
        shut = t.shut;
        essence_rest = drop long new.essence.reads;
        essence = begins_with new.essence.reads old.essence.reads (layout.growing cfg units) t.essence_rest long front t.essence refl;
        ends = λ e. absurd (true≢false (sym e));
        commits_rest = t.commits_rest;
        commits = ap (λ (h : Held). h.reads) same ∙ t.commits;
        due = t.due;
        kept = kept_on _ records phase old new _ _ new.essence.synced new.commits.synced t.kept
            (λ place l. torn.untouched place (inl (omega (arith, l, short, past)))) (λ place l b. ap (λ (h : Held). h.touched place) same)
            (λ w. absurd (not_whole layout cfg units acked phase t.due w)) (λ w. ap (λ (h : Held). h.altered) same)
            (equal_moment _ _ (sym essence_is)) (equal_moment _ _ (sym commits_is));
        will_keep = λ ticket is named. kept_on _ records (settled phase) old new _ _ _ _ (t.will_keep ticket is named)
            (λ place l. torn.untouched place (inl (omega (arith, l, short_then, past)))) (λ place l b. ap (λ (h : Held). h.touched place) same)
            (λ w. absurd (not_whole layout cfg units acked (settled phase) due_then w)) (λ w. ap (λ (h : Held). h.altered) same)
            (essence_later (waits_for phase) (moment_of ticket) _ new.essence.synced (equal_moment _ _ (sym essence_is)))
            (commits_later (waits_for phase) (moment_of ticket) _ new.commits.synced (equal_moment _ _ (sym commits_is)));
      }

  -- Once the file of a unit more stands there, this unit is published.
  pub publish_done : (phase : CommitPhase) (out : Option Ticket) (unit rest : List ℕ) (held : Disk)
      → AreUnits (layout.is_unit cfg) cfg.max_frames (units ++ unit ∷ []) → Table layout cfg units acked records false phase out held
      → held.essence.reads ≡ layout.growing cfg (units ++ unit ∷ []) ++ rest → Table layout cfg (units ++ unit ∷ []) acked records false phase out held
  publish_done phase out unit rest held are t reads =
      let same : length_to layout cfg units acked ≡ length_to layout cfg (units ++ unit ∷ []) acked =
      sym (length_to_more layout cfg units (unit ∷ []) acked t.few) in
      record {
        is_config = t.is_config;
        are_units = are;
        few = omega (arith, t.few, length-append units (unit ∷ []));
        marks = t.marks;
        follow = t.follow;
        number = t.number;
        counts = t.counts ∙ ap (λ (n : ℕ). record { count = acked; length = n; closed = false }) same;
        gate = t.gate;
        shut = t.shut;
        essence_rest = rest;
        essence = reads;
        ends = λ e. absurd (true≢false (sym e));
        commits_rest = t.commits_rest;
        commits = t.commits;
        due = more_due layout cfg units (unit ∷ []) acked phase t.due;
        kept = subst (λ (n : ℕ). IsKept n records phase held held.essence.synced held.commits.synced) same t.kept;
        will_keep = λ ticket is named. subst (λ (n : ℕ). WillKeep n records phase held (moment_of ticket)) same (t.will_keep ticket is named);
      }

  -- the lead of a unit is written behind the file
  pub lead_reads : (phase : CommitPhase) (out : Option Ticket) (at : ℕ) (lead : List ℕ) (old new : Disk) → at ≡ length (layout.growing cfg units)
      → Table layout cfg units acked records false phase out old → Writes Essence at lead old new
      → (more : List ℕ) × (new.essence.reads ≡ (layout.growing cfg units ++ lead) ++ more)
  lead_reads phase out at lead old new place t wrote =
      written_at (layout.growing cfg units) t.essence_rest lead old.essence.reads new.essence.reads at t.essence place wrote

  -- and then the unit
  pub unit_reads : (at : ℕ) (lead unit more : List ℕ) (old new : Disk) → lead ≡ layout.lead cfg units (length unit)
      → at ≡ length (layout.growing cfg units) + length lead → old.essence.reads ≡ (layout.growing cfg units ++ lead) ++ more
      → Writes Essence at unit old new → (rest : List ℕ) × (new.essence.reads ≡ layout.growing cfg (units ++ unit ∷ []) ++ rest)
  unit_reads at lead unit more old new is place reads wrote =
      let front : List ℕ = layout.growing cfg units ++ lead in
      let end : at ≡ length front = omega (arith, place, length-append (layout.growing cfg units) lead) in
      let written = written_at front more unit old.essence.reads new.essence.reads at reads end wrote in
      let grown : front ++ unit ≡ layout.growing cfg (units ++ unit ∷ []) =
      append_assoc (layout.growing cfg units) lead unit
      ∙ ap (λ (xs : List ℕ). layout.growing cfg units ++ (xs ++ unit)) is
      ∙ sym (laws.grows cfg units unit) in
      (written.0, written.1 ∙ ap (λ (xs : List ℕ). xs ++ written.0) grown)

  -- Both writes of a unit: it is published.
  pub published : (phase : CommitPhase) (out : Option Ticket) (at next : ℕ) (lead unit : List ℕ) (old mid new : Disk)
      → AreUnits (layout.is_unit cfg) cfg.max_frames (units ++ unit ∷ []) → at ≡ length (layout.growing cfg units)
      → lead ≡ layout.lead cfg units (length unit) → next ≡ at + length lead → Table layout cfg units acked records false phase out old
      → WritesIn Essence at (length lead) old mid → Writes Essence at lead old mid → WritesIn Essence next (length unit) mid new
      → Writes Essence next unit mid new
      → Table layout cfg (units ++ unit ∷ []) acked records false phase out new
  published phase out at next lead unit old mid new are place is behind t torn wrote torn_next wrote_next =
      let first = lead_reads phase out at lead old mid place t wrote in
      let second = unit_reads next lead unit first.0 mid new is (omega (arith, behind, place)) first.1 wrote_next in
      let between = publish_torn phase out at (at + length lead) (omega (arith, place)) old mid t torn in
      let after = publish_torn phase out next (next + length unit) (omega (arith, behind, place)) mid new between torn_next in
      publish_done phase out unit second.0 new are after second.1

  -- an essence that is no longer than its file reads the file
  pub whole_reads : (phase : CommitPhase) (out : Option Ticket) (held : Disk) → Table layout cfg units acked records false phase out held
      → length held.essence.reads ≤ length (layout.growing cfg units) → held.essence.reads ≡ layout.growing cfg units
  whole_reads phase out held t short = (no_rest (layout.growing cfg units) t.essence_rest held.essence.reads t.essence short).0

  -- so does one that is cut to its length
  pub cut_reads : (phase : CommitPhase) (out : Option Ticket) (len : ℕ) (old new : Disk) → len ≡ length (layout.growing cfg units)
      → Table layout cfg units acked records false phase out old → Cuts Essence len old new → new.essence.reads ≡ layout.growing cfg units
  cut_reads phase out len old new is t cut =
      cut ∙ ap (λ (xs : List ℕ). take len xs) t.essence ∙ take_at (layout.growing cfg units) t.essence_rest len (sym is)

  -- the tail is written behind it
  pub tail_reads : (at : ℕ) (tail : List ℕ) (old new : Disk) → at ≡ length (layout.growing cfg units) → tail ≡ layout.tail cfg units
      → old.essence.reads ≡ layout.growing cfg units → Writes Essence at tail old new → new.essence.reads ≡ layout.closed cfg units
  tail_reads at tail old new place is reads wrote =
      written_end (layout.growing cfg units) tail old.essence.reads new.essence.reads at reads place wrote
      ∙ ap (λ (xs : List ℕ). layout.growing cfg units ++ xs) is
      ∙ sym (laws.closes cfg units)

  -- Once the closed file stands there, its mark is on its way. A tail whose write fails leaves the table, as any write behind
  -- the file does.
  pub tail_done : (out : Option Ticket) (mark : Mark) (held : Disk)
      → mark ≡ record { count = length units; length = length (layout.closed cfg units); closed = true }
      → Table layout cfg units acked records false Idle out held → held.essence.reads ≡ layout.closed cfg units
      → Table layout cfg units acked records true (MarkOut mark) None held
  tail_done out mark held is t reads =
      let every : take (length units) units ≡ units = take_all (length units) units (omega arith) in
      let due : IsDue layout cfg units acked true (record { count = length units; length = length (layout.closed cfg units); closed = true }) =
      record {
        at_least = t.few;
        at_most = omega arith;
        length_is = ap (λ (us : List (List ℕ)). length (layout.closed cfg us)) (sym every);
        ended = refl;
        all = λ e. refl;
      } in
      record {
        is_config = t.is_config;
        are_units = t.are_units;
        few = t.few;
        marks = t.marks;
        follow = t.follow;
        number = t.number;
        counts = t.counts;
        gate = t.gate;
        shut = t.shut;
        essence_rest = [];
        essence = reads ∙ sym (append-nil (layout.closed cfg units));
        ends = λ e. refl;
        commits_rest = t.commits_rest;
        commits = t.commits;
        due = subst (λ (m : Mark). IsDue layout cfg units acked true m) (sym is) due;
        kept = record { essence = t.kept.essence; commits = t.kept.commits; whole_essence = λ w. absurd w; whole_commits = λ w. absurd w };
        will_keep = λ ticket e. absurd (none-some ticket e);
      }

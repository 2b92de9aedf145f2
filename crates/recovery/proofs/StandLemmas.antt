-- What an answer leaves stands, and refusals exclude each other.
use Rattle.std.proofs.Common.{◌≡◌, inl, inr, ℕ, Bool, List, [], ◌∷◌, ◌++◌, length, refl, sym, ap, subst, ◌∙◌, append-nil}
use Rattle.rec_bytes.specs.Configuration.{Fields}
use Rattle.take_core.specs.declared.mark.Mark.{Mark}
use Rattle.take_disk.specs.Held.{Areas, Disk}
use Rattle.take_layout.specs.declared.layout.TakeLayout.{Ghosts}
use Rattle.commit_sidecar.specs.Says.{Says}
use Rattle.commit_sidecar.specs.Recovers.{Recovers, mark_of, file_of}
use Rattle.commit_sidecar.specs.Refusals.{Refuses as RefusesCommits}
use Rattle.commit_sidecar.specs.declared.file.SaidFault.{SaidFault}
use Rattle.commit_sidecar.specs.declared.file.SaidFault.TheVariants as said
use Rattle.commit_phases.specs.laws.Records.{counts_more}
use Rattle.essence_walk.specs.Essences.{Names, IsDamaged}
use Rattle.recovery.specs.Recoveries.{Closes, WasClosed, Leads, IsClosedFor, EssenceIsDamaged, IsRefusal, Refuses, AreKept, as_read, closed_mark}
use Rattle.recovery.specs.declared.answer.Recovered.{Recovered}
use Rattle.recovery.specs.declared.answer.Recovered.TheVariants.{Closed, Already}
use Rattle.recovery.specs.declared.answer.RecoverFault.{RecoverFault}
use Rattle.recovery.specs.declared.answer.RecoverFault.TheVariants.{Memory, NoTake, Damaged, DiskFault}

module _ {L : Type 0} (layout : Ghosts L) where
  -- what was closed now, as it is read
  now_closed : (frames len : ℕ) (was : Areas) (now : Disk) → Closes layout frames len was now → IsClosedFor layout was (Closed frames len) (as_read now)
  now_closed frames len was now c =
      let marks : List Mark = c.recovers.marks ++ closed_mark frames len ∷ [] in
      let mark : mark_of layout c.cfg marks ≡ closed_mark frames len = counts_more layout c.cfg c.recovers.marks (closed_mark frames len) in
      record {
        cfg = c.cfg;
        units = c.units;
        were = c.recovers;
        recovers = record {
          marks = marks;
          says = c.commits;
          are_units = c.recovers.are_units;
          count = ap (λ (m : Mark). m.count) mark ∙ c.frames_are;
          length_is = subst (λ (m : Mark). m.length ≡ length (file_of layout m.closed c.cfg c.units)) (sym mark) c.len_is;
          rest = [];
          begins = c.essence ∙ subst (λ (m : Mark). layout.closed c.cfg c.units ≡ file_of layout m.closed c.cfg c.units ++ []) (sym mark)
              (sym (append-nil (layout.closed c.cfg c.units)));
          ends = λ e. refl;
        };
        mark = mark;
        essence = c.essence;
      }

  -- what was closed before
  before_closed : (frames len : ℕ) (was : Areas) (now : Disk) → WasClosed layout frames len was now → IsClosedFor layout was (Already frames len) was
  before_closed frames len was now c =
      let r = c.recovers in
      let closed = c.was_closed in
      let long : (mark_of layout c.cfg r.marks).length ≡ len = r.length_is ∙ ap (λ (b : Bool). length (file_of layout b c.cfg c.units)) closed ∙ sym c.len_is in
      let count : (mark_of layout c.cfg r.marks).count ≡ frames = r.count ∙ sym c.frames_are in
      record {
        cfg = c.cfg;
        units = c.units;
        were = r;
        recovers = r;
        mark = λ i. record { count = count i; length = long i; closed = closed i };
        essence = r.begins
            ∙ ap (λ (b : Bool). file_of layout b c.cfg c.units ++ r.rest) closed
            ∙ ap (λ (xs : List ℕ). layout.closed c.cfg c.units ++ xs) (r.ends closed)
            ∙ append-nil (layout.closed c.cfg c.units);
      }

  kept_now : (done : Recovered) (was : Areas) (now : Disk) → Leads layout done was now → AreKept now
  kept_now (Closed count len) was now c = c.kept
  kept_now (Already count len) was now c = c.kept

  pub closed_now : (done : Recovered) (was : Areas) (now : Disk) → Leads layout done was now → IsClosedFor layout was done (as_read now)
  closed_now (Closed count len) was now c = now_closed count len was now c
  closed_now (Already count len) was now c =
      subst (λ (areas : Areas). IsClosedFor layout was (Already count len) areas) (sym c.same)
      (before_closed count len was now c)

  -- so is each image
  pub leads_stand : (done : Recovered) (was image : Areas) (now : Disk) → Leads layout done was now → (AreKept now → image ≡ as_read now)
      → IsClosedFor layout was done image
  leads_stand done was image now leads whole =
      subst (λ (areas : Areas). IsClosedFor layout was done areas) (sym (whole (kept_now done was now leads))) (closed_now done was now leads)

  -- the mark that counts names the units that areas are recovered to
  names_of : (areas : Areas) (cfg : Fields) (units : List (List ℕ)) (r : Recovers layout cfg units areas)
      → Names layout cfg (mark_of layout cfg r.marks) areas.essence units
  names_of areas cfg units r = record {
    file = record { are_units = r.are_units; count = r.count; length_is = r.length_is; rest = r.rest; begins = r.begins };
    ends = r.ends;
  }

  module _ (one : (commits : List ℕ) (cfg other : Fields) (marks others : List Mark) → Says commits cfg marks → Says commits other others
      → (cfg ≡ other) × (marks ≡ others))
      (unsaid : (commits : List ℕ) (cfg : Fields) (marks : List Mark) (fault : SaidFault) → Says commits cfg marks → RefusesCommits commits fault → ⊥) where
    -- an essence that is damaged, by the marks that the commits say
    damaged_for : (areas : Areas) (cfg : Fields) (marks : List Mark) (at : ℕ) → Says areas.commits cfg marks → EssenceIsDamaged layout areas at
        → IsDamaged layout cfg (mark_of layout cfg marks) areas.essence at
    damaged_for areas cfg marks at says d =
        let same = one areas.commits d.cfg cfg d.marks marks d.says says in
        subst (λ (ms : List Mark). IsDamaged layout cfg (mark_of layout cfg ms) areas.essence at) same.1
        (subst (λ (f : Fields). IsDamaged layout f (mark_of layout f d.marks) areas.essence at) same.0 d.damaged)

    -- areas that are recovered to units aren't refused
    pub not_refused : ((cfg : Fields) (mark : Mark) (essence : List ℕ) (units : List (List ℕ)) (at : ℕ) → Names layout cfg mark essence units
        → IsDamaged layout cfg mark essence at → ⊥)
        → (areas : Areas) (cfg : Fields) (units : List (List ℕ)) (fault : RecoverFault) → Recovers layout cfg units areas → IsRefusal fault
        → Refuses layout fault areas → ⊥
    not_refused named areas cfg units Memory r is refuses = is
    not_refused named areas cfg units (DiskFault at) r is refuses = is
    not_refused named areas cfg units (NoTake at other) r is refuses = unsaid areas.commits cfg r.marks (said.NoTake at other) r.says refuses
    not_refused named areas cfg units (Damaged at other) r is (inl refuses) = unsaid areas.commits cfg r.marks (said.Damaged at other) r.says refuses
    not_refused named areas cfg units (Damaged at other) r is (inr broken) =
        named cfg (mark_of layout cfg r.marks) areas.essence units at (names_of areas cfg units r) (damaged_for areas cfg r.marks at r.says broken.0)

    -- the fault of a recovery for one of the commits
    abbrev as_fault : SaidFault → RecoverFault
    as_fault (said.NoTake at other) = NoTake at other
    as_fault (said.Damaged at other) = Damaged at other

    -- a refusal is of the commits, or of the essence
    pub refused_once : ((commits : List ℕ) (fault other : SaidFault) → RefusesCommits commits fault → RefusesCommits commits other → fault ≡ other)
        → ((cfg : Fields) (mark : Mark) (essence : List ℕ) (at other : ℕ) → IsDamaged layout cfg mark essence at → IsDamaged layout cfg mark essence other
        → at ≡ other)
        → (areas : Areas) (fault other : RecoverFault) → IsRefusal fault → IsRefusal other → Refuses layout fault areas → Refuses layout other areas
        → fault ≡ other
    refused_once same place areas Memory other is too a b = absurd is
    refused_once same place areas (DiskFault at) other is too a b = absurd is
    refused_once same place areas (NoTake at area) Memory is too a b = absurd too
    refused_once same place areas (NoTake at area) (DiskFault count) is too a b = absurd too
    refused_once same place areas (NoTake at area) (NoTake at2 area2) is too a b =
        ap as_fault
        (same areas.commits (said.NoTake at area) (said.NoTake at2 area2) a b)
    refused_once same place areas (NoTake at area) (Damaged at2 area2) is too a (inl b) =
        ap as_fault
        (same areas.commits (said.NoTake at area) (said.Damaged at2 area2) a b)
    refused_once same place areas (NoTake at area) (Damaged at2 area2) is too a (inr b) =
        absurd
        (unsaid areas.commits b.0.cfg b.0.marks (said.NoTake at area) b.0.says a)
    refused_once same place areas (Damaged at area) Memory is too a b = absurd too
    refused_once same place areas (Damaged at area) (DiskFault count) is too a b = absurd too
    refused_once same place areas (Damaged at area) (NoTake at2 area2) is too (inl a) b =
        ap as_fault
        (same areas.commits (said.Damaged at area) (said.NoTake at2 area2) a b)
    refused_once same place areas (Damaged at area) (NoTake at2 area2) is too (inr a) b =
        absurd
        (unsaid areas.commits a.0.cfg a.0.marks (said.NoTake at2 area2) a.0.says b)
    refused_once same place areas (Damaged at area) (Damaged at2 area2) is too (inl a) (inl b) =
        ap as_fault
        (same areas.commits (said.Damaged at area) (said.Damaged at2 area2) a b)
    refused_once same place areas (Damaged at area) (Damaged at2 area2) is too (inl a) (inr b) =
        absurd
        (unsaid areas.commits b.0.cfg b.0.marks (said.Damaged at area) b.0.says a)
    refused_once same place areas (Damaged at area) (Damaged at2 area2) is too (inr a) (inl b) =
        absurd
        (unsaid areas.commits a.0.cfg a.0.marks (said.Damaged at2 area2) a.0.says b)
    refused_once same place areas (Damaged at area) (Damaged at2 area2) is too (inr a) (inr b) =
        let at_is : at ≡ at2 = place a.0.cfg (mark_of layout a.0.cfg a.0.marks) areas.essence at at2 a.0.damaged
        (damaged_for areas a.0.cfg a.0.marks at2 a.0.says b.0) in
        let area_is : area ≡ area2 = a.1 ∙ sym b.1 in
        λ i. Damaged (at_is i) (area_is i)

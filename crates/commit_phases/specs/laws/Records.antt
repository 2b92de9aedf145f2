-- The open records of a commit file, and the mark that comes behind them (own).
use Rattle.std.proofs.Common.{◌≡◌, ℕ, ◌≤◌, Bool, true, false, List, [], ◌∷◌, ◌++◌}
use Rattle.std.proofs.Common.{length, take, drop, take_all, take-take, take-append-drop, length-take, Option, Some, None}
use Rattle.std.proofs.Common.{refl, sym, ap, subst, ◌∙◌, arith, append_assoc, length-append}
use Rattle.std.proofs.lemmas.List.Elements.{All-take}
use Rattle.rec_bytes.specs.Configuration.{Fields, Spells, spelling}
use Rattle.take_core.specs.declared.mark.Mark.{Mark}
use Rattle.take_core.specs.declared.commit_phase.CommitPhase.{CommitPhase}
use Rattle.take_layout.specs.Takes.{AreUnits}
use Rattle.take_layout.specs.declared.layout.TakeLayout.{Ghosts}
use Rattle.commit_sidecar.specs.Notes.{note_of, Follows, IsLater, IsAfter, last_of}
use Rattle.commit_sidecar.specs.Says.{head_of, opened, gate_place, counting}
use Rattle.commit_sidecar.specs.Recovers.{file_of, mark_of}
use Rattle.commit_sidecar.specs.laws.Records.{length-head, length-note, length-opened, opened-more, last-more}
use Rattle.commit_sidecar.proofs.RangeLemmas.{ranged}
use Rattle.commit_phases.specs.Layouts.{LaysOut}
use Rattle.commit_phases.specs.Phases.{IsDue, commit_bytes, behind_records}
use Rattle.commit_phases.specs.Table.{length_to}

-- what stands before the gate of a phase
abbrev pub front_of : Fields → List Mark → List ℕ
front_of cfg marks = head_of cfg ++ opened marks

pub front_long : (cfg : Fields) (marks : List Mark) (records : ℕ) → Spells (spelling cfg) cfg → length marks ≡ records
    → length (front_of cfg marks) ≡ gate_place records
front_long cfg marks records s number =
    omega (arith, length-append (head_of cfg) (opened marks), length-head cfg s, length-opened marks, number)

pub note_long : (mark : Mark) → length (note_of mark ++ 0 ∷ []) ≡ 18
note_long mark = omega (arith, length-append (note_of mark) (0 ∷ []), length-note mark)

-- the commits of a phase, from the gate on
pub behind_front : (cfg : Fields) (marks : List Mark) (gate : ℕ) (phase : CommitPhase) (rest : List ℕ)
    → commit_bytes cfg marks gate phase ++ rest ≡ front_of cfg marks ++ (behind_records gate phase ++ rest)
behind_front cfg marks gate phase rest =
    ap (λ (xs : List ℕ). xs ++ rest) (sym (append_assoc (head_of cfg) (opened marks) (behind_records gate phase)))
    ∙ append_assoc (front_of cfg marks) (behind_records gate phase) rest

-- an open record more
pub front_more : (cfg : Fields) (marks : List Mark) (mark : Mark) (rest : List ℕ)
    → front_of cfg marks ++ (1 ∷ (note_of mark ++ rest)) ≡ front_of cfg (marks ++ mark ∷ []) ++ rest
front_more cfg marks mark rest =
    append_assoc (head_of cfg) (opened marks) (1 ∷ (note_of mark ++ rest))
    ∙ ap (λ (xs : List ℕ). head_of cfg ++ xs) (sym (opened-more marks mark rest))
    ∙ sym (append_assoc (head_of cfg) (opened (marks ++ mark ∷ [])) rest)

-- the first units of a take are some
pub first_units : {is_unit : List ℕ → Type 0} {most : ℕ} (units : List (List ℕ)) (count : ℕ) → AreUnits is_unit most units
    → AreUnits is_unit most (take count units)
first_units {is_unit} {most} units count are = record {
  each = All-take is_unit count units are.each;
  few = omega (arith, are.few, length-take count units);
}

-- the mark behind others counts
pub counts_more : {L : Type 0} (layout : Ghosts L) (cfg : Fields) (marks : List Mark) (mark : Mark) → mark_of layout cfg (marks ++ mark ∷ []) ≡ mark
counts_more layout cfg marks mark = ap (counting (length (layout.head cfg))) (last-more None marks mark)

-- a later mark than the one that counts may stand behind the last one
after_counting : (head_len : ℕ) (last : Option Mark) (old mark : Mark) → counting head_len last ≡ old → IsLater old mark → IsAfter last mark
after_counting head_len None old mark is later = tt
after_counting head_len (Some m) old mark is later = subst (λ (x : Mark). IsLater x mark) (sym is) later

module _ {L : Type 0} (layout : Ghosts L) (laws : LaysOut layout) (cfg : Fields) where
  -- either file begins with the growing file of the first units
  pub begins_front : (closed : Bool) (units front more : List (List ℕ)) → units ≡ front ++ more
      → (rest : List ℕ) × (file_of layout closed cfg units ≡ layout.growing cfg front ++ rest)
  begins_front false units front more is =
      let begins = laws.begins cfg front more in (begins.0, ap (λ (us : List (List ℕ)). layout.growing cfg us) is ∙ begins.1)
  begins_front true units front more is =
      let begins = laws.begins cfg front more in (
        begins.0 ++ layout.tail cfg units,
        laws.closes cfg units
            ∙ ap (λ (us : List (List ℕ)). layout.growing cfg us ++ layout.tail cfg units) is
            ∙ ap (λ (xs : List ℕ). xs ++ layout.tail cfg units) begins.1
            ∙ append_assoc (layout.growing cfg front) begins.0 (layout.tail cfg units),
      )

  pub begins_whole : (closed : Bool) (units : List (List ℕ)) (count : ℕ)
      → (rest : List ℕ) × (file_of layout closed cfg units ≡ layout.growing cfg (take count units) ++ rest)
  begins_whole closed units count = begins_front closed units (take count units) (drop count units) (sym (take-append-drop count units))

  pub begins_first : (closed : Bool) (units : List (List ℕ)) (count more : ℕ) → count ≤ more
      → (rest : List ℕ) × (file_of layout closed cfg (take more units) ≡ layout.growing cfg (take count units) ++ rest)
  begins_first closed units count more few =
      let front : take count (take more units) ++ drop count (take more units) ≡ take count units ++ drop count (take more units) =
      ap (λ (us : List (List ℕ)). us ++ drop count (take more units)) (take-take count more units few) in
      begins_front closed (take more units) (take count units) (drop count (take more units)) (sym (take-append-drop count (take more units)) ∙ front)

  -- so it is no longer than they are
  pub shorter_whole : (closed : Bool) (units : List (List ℕ)) (count : ℕ) → length_to layout cfg units count ≤ length (file_of layout closed cfg units)
  shorter_whole closed units count =
      let begins = begins_whole closed units count in
      omega (arith, ap (length {A = ℕ}) begins.1, length-append (layout.growing cfg (take count units)) begins.0)

  pub shorter_first : (closed : Bool) (units : List (List ℕ)) (count more : ℕ) → count ≤ more
      → length_to layout cfg units count ≤ length (file_of layout closed cfg (take more units))
  shorter_first closed units count more few =
      let begins = begins_first closed units count more few in
      omega (arith, ap (length {A = ℕ}) begins.1, length-append (layout.growing cfg (take count units)) begins.0)

  -- a mark that is due reaches no less far than what was acknowledged
  pub due_longer : (units : List (List ℕ)) (acked : ℕ) (tail : Bool) (mark : Mark) → IsDue layout cfg units acked tail mark
      → length_to layout cfg units acked ≤ mark.length
  due_longer units acked tail mark due = omega (arith, due.length_is, shorter_first mark.closed units acked mark.count due.at_least)

  -- and no further than the file
  pub due_shorter : (units : List (List ℕ)) (acked : ℕ) (tail : Bool) (mark : Mark) → IsDue layout cfg units acked tail mark
      → mark.length ≤ length (file_of layout tail cfg units)
  due_shorter units acked tail mark due = no_longer mark.closed due.ended due.length_is
    where
      no_longer : (closed : Bool) → closed ≡ tail → mark.length ≡ length (file_of layout closed cfg (take mark.count units))
          → mark.length ≤ length (file_of layout tail cfg units)
      no_longer false ended long = omega (arith, long, shorter_whole tail units mark.count)
      no_longer true ended long =
          let every : take mark.count units ≡ units = take_all mark.count units (omega (arith, due.all (sym ended))) in
          omega (arith, long, ap (λ (us : List (List ℕ)). length (layout.closed cfg us)) every, ap (λ (b : Bool). length (file_of layout b cfg units)) ended)

  -- a mark that is due may stand behind the one that counts
  pub due_follows : (units : List (List ℕ)) (acked : ℕ) (tail : Bool) (marks : List Mark) (mark : Mark) → Spells (spelling cfg) cfg
      → AreUnits (layout.is_unit cfg) cfg.max_frames units
      → mark_of layout cfg marks ≡ record { count = acked; length = length_to layout cfg units acked; closed = false }
      → IsDue layout cfg units acked tail mark → Follows (last_of marks) mark
  due_follows units acked tail marks mark s are counts due =
      let range = ranged cfg s in
      record {
        fits = record {
          count = omega (arith, due.at_most, are.few, range.max_frames.most);
          length = omega (arith, due.length_is, laws.fits mark.closed cfg (take mark.count units) range (first_units units mark.count are));
        };
        after = after_counting (length (layout.head cfg)) (last_of marks) _ mark counts
            (record { goes_on = refl; count = due.at_least; length = due_longer units acked tail mark due });
      }

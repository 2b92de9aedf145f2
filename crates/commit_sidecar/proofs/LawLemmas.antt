-- A commit file says one thing or is refused once, and what is written to it says what it should.
use Rattle.std.proofs.Common.{◌≡◌, inl, inr, ℕ, ◌+◌, List, [], ◌∷◌, ◌++◌, length, take, drop, get_or, Option, None}
use Rattle.std.proofs.Common.{sym, ap, ap₂, ◌∙◌, arith, append_assoc}
use Rattle.std.proofs.lemmas.List.{length-append, take_at, drop_at}
use Rattle.rec_bytes.specs.Configuration.{Fields}
use Rattle.rec_bytes.specs.Places.{with_bytes}
use Rattle.take_core.specs.declared.mark.Mark.{Mark}
use Rattle.commit_sidecar.specs.declared.file.SaidFault.{SaidFault}
use Rattle.commit_sidecar.specs.declared.file.SaidFault.TheVariants.{NoTake, Damaged}
use Rattle.commit_sidecar.specs.Notes.{note_of, last_of, Follows}
use Rattle.commit_sidecar.specs.Refusals.{IsDamaged, Refuses, Breaks}
use Rattle.commit_sidecar.specs.Says.{Says, head_of, opened, gate_place}
use Rattle.commit_sidecar.specs.laws.Records.{length-head, opened-more, length-opened, follow-more}
use Rattle.commit_sidecar.proofs.HeadLemmas.{same_head, no_refusal, one_place}
use Rattle.commit_sidecar.proofs.MarkLemmas.{same_marks, shut_stops, breaks_stop}

-- a file says one configuration and one list of marks
pub says_one : (commits : List ℕ) (cfg other : Fields) (marks others : List Mark) → Says commits cfg marks → Says commits other others
    → (cfg ≡ other) × (marks ≡ others)
says_one commits cfg other marks others s t =
    let heads = same_head cfg other _ _ s.is_config t.is_config (sym s.is ∙ t.is) in
    let records = same_marks None marks others (s.gate ∷ s.rest) (t.gate ∷ t.rest) s.follow t.follow
    (shut_stops (last_of marks) s.gate s.rest s.shut) (shut_stops (last_of others) t.gate t.rest t.shut) heads.1 in
    (heads.0, records.0)

-- a gate that isn't 1 is no break
no_break : (last : Option Mark) (gate : ℕ) (rest bytes : List ℕ) → (gate ≡ 1 → ⊥) → gate ∷ rest ≡ bytes → Breaks last bytes → ⊥
no_break last gate rest bytes shut e (inl none) = omega (arith, ap (length {A = ℕ}) (e ∙ none))
no_break last gate rest bytes shut e (inr broken) = shut (ap (λ (xs : List ℕ). get_or xs 0 0) (e ∙ broken.1))

-- a file that says something isn't refused
pub says_unrefused : (commits : List ℕ) (cfg : Fields) (marks : List Mark) (fault : SaidFault) → Says commits cfg marks → Refuses commits fault → ⊥
says_unrefused commits cfg marks (NoTake at area) s refused = no_refusal commits _ cfg at s.is_config s.is refused.0
says_unrefused commits cfg marks (Damaged at area) s refused =
    let d = refused.0 in
    let heads = same_head cfg d.cfg _ _ s.is_config d.is_config (sym s.is ∙ d.is) in
    let records = same_marks None marks d.marks (s.gate ∷ s.rest) d.rest s.follow d.follow
    (shut_stops (last_of marks) s.gate s.rest s.shut) (breaks_stop (last_of d.marks) d.rest d.breaks) heads.1 in
    no_break (last_of d.marks) s.gate s.rest d.rest s.shut records.1 d.breaks

-- damage has one place
one_damage : (commits : List ℕ) (at other : ℕ) → IsDamaged commits at → IsDamaged commits other → at ≡ other
one_damage commits at other d e =
    let heads = same_head d.cfg e.cfg _ _ d.is_config e.is_config (sym d.is ∙ e.is) in
    let records = same_marks None d.marks e.marks d.rest e.rest d.follow e.follow
    (breaks_stop (last_of d.marks) d.rest d.breaks) (breaks_stop (last_of e.marks) e.rest e.breaks) heads.1 in
    d.place ∙ ap (λ (marks : List Mark). gate_place (length marks)) records.0 ∙ sym e.place

-- a file is refused in one way
pub refused_once : (commits : List ℕ) (fault other : SaidFault) → Refuses commits fault → Refuses commits other → fault ≡ other
refused_once commits (NoTake at area) (NoTake place other) r s = ap₂ NoTake (one_place commits at place r.0 s.0) (r.1 ∙ sym s.1)
refused_once commits (NoTake at area) (Damaged place other) r s = let d = s.0 in absurd (no_refusal commits _ d.cfg at d.is_config d.is r.0)
refused_once commits (Damaged at area) (NoTake place other) r s = let d = r.0 in absurd (no_refusal commits _ d.cfg place d.is_config d.is s.0)
refused_once commits (Damaged at area) (Damaged place other) r s = ap₂ Damaged (one_damage commits at place r.0 s.0) (r.1 ∙ sym s.1)

-- the head and open records end at the place of the next gate
front_long : (commits : List ℕ) (cfg : Fields) (marks : List Mark) → Says commits cfg marks
    → length (head_of cfg ++ opened marks) ≡ gate_place (length marks)
front_long commits cfg marks s =
    omega (arith, length-append (head_of cfg) (opened marks), length-head cfg s.is_config, length-opened marks)

-- what a write behind the gate that isn't open leaves
pub written_behind : (commits : List ℕ) (cfg : Fields) (marks : List Mark) (bytes : List ℕ) (s : Says commits cfg marks)
    → (rest : List ℕ) × (with_bytes commits (gate_place (length marks) + 1) bytes ≡ ((head_of cfg ++ opened marks) ++ s.gate ∷ []) ++ (bytes ++ rest))
written_behind commits cfg marks bytes s =
    let front : List ℕ = head_of cfg ++ opened marks in
    let rest : List ℕ = drop (gate_place (length marks) + 1 + length bytes) commits in
    let long : length (front ++ s.gate ∷ []) ≡ gate_place (length marks) + 1 =
    omega (arith, length-append front (s.gate ∷ []), front_long commits cfg marks s) in
    let split : commits ≡ (front ++ s.gate ∷ []) ++ s.rest =
    s.is ∙ sym (append_assoc (head_of cfg) (opened marks) (s.gate ∷ s.rest)) ∙ sym (append_assoc front (s.gate ∷ []) s.rest) in
    let first : take (gate_place (length marks) + 1) commits ≡ front ++ s.gate ∷ [] =
    ap (λ (xs : List ℕ). take (gate_place (length marks) + 1) xs) split ∙ take_at (front ++ s.gate ∷ []) s.rest (gate_place (length marks) + 1) long in
    (rest, ap (λ (xs : List ℕ). (xs ++ bytes) ++ rest) first ∙ append_assoc (front ++ s.gate ∷ []) bytes rest)

-- so the file says what it said
pub noted_says : (commits : List ℕ) (cfg : Fields) (marks : List Mark) (bytes : List ℕ) → Says commits cfg marks
    → Says (with_bytes commits (gate_place (length marks) + 1) bytes) cfg marks
noted_says commits cfg marks bytes s =
    let written = written_behind commits cfg marks bytes s in
    let front : List ℕ = head_of cfg ++ opened marks in
    record {
      is_config = s.is_config;
      follow = s.follow;
      gate = s.gate;
      shut = s.shut;
      rest = bytes ++ written.0;
      is = written.1 ∙ append_assoc front (s.gate ∷ []) (bytes ++ written.0) ∙ append_assoc (head_of cfg) (opened marks) (s.gate ∷ (bytes ++ written.0));
    }

-- and once the gate of the note is opened it says one mark more
pub opened_says : (commits : List ℕ) (cfg : Fields) (marks : List Mark) (mark : Mark) → Says commits cfg marks → Follows (last_of marks) mark
    → Says (with_bytes (with_bytes commits (gate_place (length marks) + 1) (note_of mark ++ 0 ∷ [])) (gate_place (length marks)) (1 ∷ [])) cfg (marks ++ mark ∷ [])
opened_says commits cfg marks mark s follows =
    let front : List ℕ = head_of cfg ++ opened marks in
    let at : ℕ = gate_place (length marks) in
    let noted : List ℕ = with_bytes commits (at + 1) (note_of mark ++ 0 ∷ []) in
    let written = written_behind commits cfg marks (note_of mark ++ 0 ∷ []) s in
    let behind : List ℕ = (note_of mark ++ 0 ∷ []) ++ written.0 in
    let long : length front ≡ at = front_long commits cfg marks s in
    let gate_long : length (front ++ s.gate ∷ []) ≡ at + 1 = omega (arith, length-append front (s.gate ∷ []), long) in
    let before : take at noted ≡ front =
    ap (λ (xs : List ℕ). take at xs) (written.1 ∙ append_assoc front (s.gate ∷ []) behind) ∙ take_at front (s.gate ∷ behind) at long in
    let after : drop (at + 1) noted ≡ behind = ap (λ (xs : List ℕ). drop (at + 1) xs) written.1 ∙ drop_at (front ++ s.gate ∷ []) behind (at + 1) gate_long in
    let note : behind ≡ note_of mark ++ (0 ∷ written.0) = append_assoc (note_of mark) (0 ∷ []) written.0 in
    let records : opened marks ++ (1 ∷ behind) ≡ opened (marks ++ mark ∷ []) ++ (0 ∷ written.0) =
    ap (λ (xs : List ℕ). opened marks ++ (1 ∷ xs)) note ∙ sym (opened-more marks mark (0 ∷ written.0)) in
    record {
      is_config = s.is_config;
      follow = follow-more None marks mark s.follow follows;
      gate = 0;
      shut = λ z. omega (arith, z);
      rest = written.0;
      is = ap₂ (λ (xs ys : List ℕ). (xs ++ 1 ∷ []) ++ ys) before after
          ∙ append_assoc front (1 ∷ []) behind
          ∙ append_assoc (head_of cfg) (opened marks) (1 ∷ behind)
          ∙ ap (λ (xs : List ℕ). head_of cfg ++ xs) records;
    }

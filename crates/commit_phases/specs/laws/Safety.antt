-- Whatever a crash leaves of a disk that keeps the table of phases is safe (own).
use Rattle.std.proofs.Common.{◌≡◌, ◌≢◌, inl, inr, ℕ, ◌+◌, ◌≤◌, ◌<◌, Bool, true, false, List, [], ◌∷◌, ◌++◌, length, get_or, take, drop, Option, None}
use Rattle.std.proofs.Common.{refl, sym, ap, subst, ◌∙◌, arith, append_assoc, append-nil}
use Rattle.std.proofs.Common.{length-append, take_all, take_at, take-take, take-append-drop, length-take, length-take-le, true≢false}
use Rattle.std.proofs.lemmas.List.{drop_at, drop_more, take-append-le}
use Rattle.std.proofs.lemmas.Bool.{cases_eq}
use Rattle.rec_bytes.specs.Configuration.{Fields, Spells, spelling}
use Rattle.take_core.specs.declared.mark.Mark.{Mark}
use Rattle.take_core.specs.declared.commit_phase.CommitPhase.{CommitPhase}
use Rattle.take_core.specs.declared.commit_phase.CommitPhase.TheVariants.{Idle, MarkOut, Marked, NoteOut, Noted, GateOut, Opened}
use Rattle.take_disk.specs.declared.ticket.Ticket.{Ticket}
use Rattle.take_disk.specs.Held.{IsBefore, Areas, Held, Disk, KeepsPlace, IsImage, Leaves}
use Rattle.take_layout.specs.Takes.{AreUnits}
use Rattle.take_layout.specs.declared.layout.TakeLayout.{Ghosts}
use Rattle.commit_sidecar.specs.Notes.{note_of, Follow}
use Rattle.commit_sidecar.specs.Says.{Says, head_of, opened, gate_place}
use Rattle.commit_sidecar.specs.Recovers.{Recovers, IsSafe, file_of, mark_of}
use Rattle.commit_sidecar.specs.laws.Records.{follow-more}
use Rattle.commit_phases.specs.Layouts.{LaysOut}
use Rattle.commit_phases.specs.Phases.{IsDue, commit_bytes}
use Rattle.commit_phases.specs.Table.{Table, AllSafe, IsClosed, length_to}
use Rattle.commit_phases.specs.laws.Lists.{piece, begins_with}
use Rattle.commit_phases.specs.laws.Records.{front_of, front_long, note_long, behind_front, front_more}
use Rattle.commit_phases.specs.laws.Records.{first_units, counts_more, begins_whole, begins_first, due_longer, due_follows}

-- the front that is kept stands in each image
pub kept_front : (held : Held) (image : List ℕ) → IsImage held image → (n : ℕ) → n ≤ length held.reads
    → ((place : ℕ) → place < n → KeepsPlace held place) → take n image ≡ take n held.reads
kept_front held image is n long kept =
    piece n 0 held.reads image (omega (arith, long))
    (λ place from to. is.reaches place (omega (arith, to, long)) (kept place (omega (arith, to))))
    (λ place from to. is.agrees place (omega (arith, to, long)) (kept place (omega (arith, to))))

pub kept_begins : (held : Held) (image : List ℕ) → IsImage held image → (front rest : List ℕ) → held.reads ≡ front ++ rest
    → ((place : ℕ) → place < length front → KeepsPlace held place) → image ≡ front ++ drop (length front) image
kept_begins held image is front rest reads kept =
    let long : length front ≤ length held.reads = omega (arith, ap (length {A = ℕ}) reads, length-append front rest) in
    begins_with image held.reads front rest (length front) (kept_front held image is (length front) long kept) reads refl

module _ {L : Type 0} (layout : Ghosts L) (laws : LaysOut layout) (cfg : Fields) (units : List (List ℕ))
    (are : AreUnits (layout.is_unit cfg) cfg.max_frames units) where
  -- what commits say and an essence begins with, put together
  recovered : (image : Areas) (marks : List Mark) (mark : Mark) → mark_of layout cfg marks ≡ mark → Says image.commits cfg marks → mark.count ≤ length units
      → mark.length ≡ length (file_of layout mark.closed cfg (take mark.count units)) → (more : List ℕ)
      → image.essence ≡ file_of layout mark.closed cfg (take mark.count units) ++ more → (mark.closed ≡ true → more ≡ [])
      → Recovers layout cfg (take mark.count units) image
  recovered image marks mark is says few long more begins ends = record {
    marks = marks;
    says = says;
    are_units = first_units units mark.count are;
    count = ap (λ (m : Mark). m.count) is ∙ sym (length-take-le mark.count units few);
    length_is = subst (λ (m : Mark). m.length ≡ length (file_of layout m.closed cfg (take mark.count units))) (sym is) long;
    rest = more;
    begins = subst (λ (m : Mark). image.essence ≡ file_of layout m.closed cfg (take mark.count units) ++ more) (sym is) begins;
    ends = subst (λ (m : Mark). m.closed ≡ true → more ≡ []) (sym is) ends;
  }

  -- where the essence is kept to the end of the first units, each image begins with their file
  essence_begins : (held : Held) (image : List ℕ) → IsImage held image → (tail : Bool) (rest : List ℕ) → held.reads ≡ file_of layout tail cfg units ++ rest
      → (count : ℕ) → ((place : ℕ) → place < length_to layout cfg units count → KeepsPlace held place)
      → (more : List ℕ) × (image ≡ layout.growing cfg (take count units) ++ more)
  essence_begins held image is tail rest reads count kept =
      let first : List ℕ = layout.growing cfg (take count units) in
      let front = begins_whole layout laws cfg tail units count in
      let whole : held.reads ≡ first ++ (front.0 ++ rest) = reads ∙ ap (λ (xs : List ℕ). xs ++ rest) front.1 ∙ append_assoc first front.0 rest in
      (drop (length first) image, kept_begins held image is first (front.0 ++ rest) whole kept)

  -- and where it is kept to a mark, with the file of the mark
  mark_begins : (held : Held) (image : List ℕ) → IsImage held image → (tail : Bool) (rest : List ℕ) → held.reads ≡ file_of layout tail cfg units ++ rest
      → (tail ≡ true → rest ≡ []) → (closed : Bool) (count len : ℕ) → closed ≡ tail → (tail ≡ true → count ≡ length units)
      → len ≡ length (file_of layout closed cfg (take count units)) → ((place : ℕ) → place < len → KeepsPlace held place)
      → (closed ≡ true → IsBefore held.altered held.synced)
      → (more : List ℕ) × (image ≡ file_of layout closed cfg (take count units) ++ more) × (closed ≡ true → more ≡ [])
  mark_begins held image is tail rest reads ends false count len ended all long kept whole =
      let begins = essence_begins held image is tail rest reads count (λ place l. kept place (omega (arith, long, l))) in
      (begins.0, begins.1, λ e. absurd (true≢false (sym e)))
  mark_begins held image is tail rest reads ends true count len ended all long kept whole =
      let every : take count units ≡ units = take_all count units (omega (arith, all (sym ended))) in (
        [],
        is.whole (whole refl) ∙ reads
            ∙ ap (λ (xs : List ℕ). file_of layout tail cfg units ++ xs) (ends (sym ended))
            ∙ ap (λ (b : Bool). file_of layout b cfg units ++ []) (sym ended)
            ∙ ap (λ (us : List (List ℕ)). layout.closed cfg us ++ []) (sym every),
        λ e. refl,
      )

  module _ (acked records : ℕ) (tail : Bool) (few : acked ≤ length units) (marks : List Mark) (spells : Spells (spelling cfg) cfg) (follow : Follow None marks)
      (number : length marks ≡ records)
      (counts : mark_of layout cfg marks ≡ record { count = acked; length = length_to layout cfg units acked; closed = false }) where
    -- a gate that isn't 1: the acknowledged units count
    shut_safe : (image : Areas) (gate : ℕ) → gate ≢ 1 → (behind : List ℕ) → image.commits ≡ front_of cfg marks ++ (gate ∷ behind)
        → (more : List ℕ) → image.essence ≡ layout.growing cfg (take acked units) ++ more → IsSafe layout cfg units acked image
    shut_safe image gate shut behind commits more begins = record {
      count = acked;
      at_least = omega arith;
      at_most = few;
      recovers = recovered image marks _ counts
          (record {
            is_config = spells;
            follow = follow;
            gate = gate;
            shut = shut;
            rest = behind;
            is = commits ∙ append_assoc (head_of cfg) (opened marks) (gate ∷ behind);
          })
          few refl more begins (λ e. absurd (true≢false (sym e)));
    }

    -- a gate that is kept, and isn't 1
    before_safe : (held : Disk) (image : Areas) → Leaves held image → (rest : List ℕ) → held.essence.reads ≡ file_of layout tail cfg units ++ rest
        → ((place : ℕ) → place < length_to layout cfg units acked → KeepsPlace held.essence place)
        → (gate : ℕ) → gate ≢ 1 → (behind : List ℕ) → held.commits.reads ≡ front_of cfg marks ++ (gate ∷ behind)
        → ((place : ℕ) → place < gate_place records + 1 → KeepsPlace held.commits place) → IsSafe layout cfg units acked image
    before_safe held image leaves rest reads kept gate shut behind commits kept_commits =
        let begins = essence_begins held.essence image.essence leaves.essence tail rest reads acked kept in
        let front : List ℕ = front_of cfg marks in
        let whole : held.commits.reads ≡ (front ++ (gate ∷ [])) ++ behind = commits ∙ sym (append_assoc front (gate ∷ []) behind) in
        let long : length (front ++ (gate ∷ [])) ≡ gate_place records + 1 =
        omega (arith, front_long cfg marks records spells number, length-append front (gate ∷ [])) in
        let same =
        kept_begins held.commits image.commits leaves.commits (front ++ (gate ∷ [])) behind whole (λ place l. kept_commits place (omega (arith, long, l))) in
        let more : List ℕ = drop (length (front ++ (gate ∷ []))) image.commits in
        shut_safe image gate shut more (same ∙ append_assoc front (gate ∷ []) more) begins.0 begins.1

    -- A gate that is being opened is any byte: either the acknowledged units count or those of the mark.
    pub gate_safe : (held : Disk) (image : Areas) → Leaves held image → (mark : Mark) → IsDue layout cfg units acked tail mark
        → (rest : List ℕ) → held.essence.reads ≡ file_of layout tail cfg units ++ rest → (tail ≡ true → rest ≡ [])
        → ((place : ℕ) → place < mark.length → KeepsPlace held.essence place) → (mark.closed ≡ true → IsBefore held.essence.altered held.essence.synced)
        → (gate : ℕ) (behind : List ℕ) → held.commits.reads ≡ front_of cfg marks ++ (gate ∷ (note_of mark ++ (0 ∷ behind)))
        → ((place : ℕ) → place < gate_place (records + 1) + 1 → place ≢ gate_place records → KeepsPlace held.commits place)
        → IsSafe layout cfg units acked image
    gate_safe held image leaves mark due rest reads ends kept whole gate behind commits kept_commits =
        let c : List ℕ = image.commits in
        let is : IsImage held.commits c = leaves.commits in
        let at : ℕ = gate_place records in
        let note : List ℕ = note_of mark ++ 0 ∷ [] in
        let front : List ℕ = front_of cfg marks in
        let flat : note_of mark ++ (0 ∷ behind) ≡ note ++ behind = sym (append_assoc (note_of mark) (0 ∷ []) behind) in
        let long : length front ≡ at = front_long cfg marks records spells number in
        let size : length note ≡ 18 = note_long mark in
        let split : held.commits.reads ≡ (front ++ (gate ∷ [])) ++ (note ++ behind) =
        commits ∙ ap (λ (xs : List ℕ). front ++ (gate ∷ xs)) flat ∙ sym (append_assoc front (gate ∷ []) (note ++ behind)) in
        let gate_long : length (front ++ (gate ∷ [])) ≡ at + 1 = omega (arith, long, length-append front (gate ∷ [])) in
        let reads_long : length held.commits.reads ≡ at + 19 + length behind =
        omega (arith, ap (length {A = ℕ}) split, length-append (front ++ (gate ∷ [])) (note ++ behind), length-append note behind, size, gate_long) in
        let same : c ≡ front ++ drop (length front) c =
        kept_begins held.commits c is front _ commits (λ place l. kept_commits place (omega (arith, long, l)) (λ e. omega (arith, long, l, e))) in
        let piece_is : take 18 (drop (at + 1) c) ≡ take 18 (drop (at + 1) held.commits.reads) =
        piece 18 (at + 1) held.commits.reads c (omega (arith, reads_long))
        (λ place from to. is.reaches place (omega (arith, reads_long, to)) (kept_commits place (omega (arith, to)) (λ e. omega (arith, from, e))))
        (λ place from to. is.agrees place (omega (arith, reads_long, to)) (kept_commits place (omega (arith, to)) (λ e. omega (arith, from, e)))) in
        let read : drop (at + 1) held.commits.reads ≡ note ++ behind =
        ap (λ (xs : List ℕ). drop (at + 1) xs) split ∙ drop_at (front ++ (gate ∷ [])) (note ++ behind) (at + 1) gate_long in
        let noted : take 18 (drop (at + 1) c) ≡ note = piece_is ∙ ap (λ (xs : List ℕ). take 18 xs) read ∙ take_at note behind 18 size in
        let far : at + 18 < length c = is.reaches (at + 18) (omega (arith, reads_long)) (kept_commits (at + 18) (omega arith) (λ e. omega (arith, e))) in
        let g : ℕ = get_or c at 0 in
        let more : List ℕ = drop 18 (drop (at + 1) c) in
        let back : drop (at + 1) c ≡ note_of mark ++ (0 ∷ more) =
        sym (take-append-drop 18 (drop (at + 1) c)) ∙ ap (λ (xs : List ℕ). xs ++ more) noted ∙ append_assoc (note_of mark) (0 ∷ []) more in
        let gated : drop (length front) c ≡ g ∷ (note_of mark ++ (0 ∷ more)) =
        ap (λ (n : ℕ). drop n c) long ∙ drop_more c at 0 (omega (arith, far)) ∙ ap (λ (xs : List ℕ). g ∷ xs) back in
        let all : c ≡ front ++ (g ∷ (note_of mark ++ (0 ∷ more))) = same ∙ ap (λ (xs : List ℕ). front ++ xs) gated in
        let begins =
        mark_begins held.essence image.essence leaves.essence tail rest reads ends
        mark.closed mark.count mark.length due.ended due.all due.length_is kept whole in
        let first = begins_first layout laws cfg mark.closed units acked mark.count due.at_least in
        elim (cases_eq g 1) [
          | inl open_gate ↦ record {
            count = mark.count;
            at_least = due.at_least;
            at_most = due.at_most;
            recovers = recovered image (marks ++ mark ∷ []) mark (counts_more layout cfg marks mark)
                (record {
                  is_config = spells;
                  follow = follow-more None marks mark follow (due_follows layout laws cfg units acked tail marks mark spells are counts due);
                  gate = 0;
                  shut = λ e. omega (arith, e);
                  rest = more;
                  is = all
                      ∙ ap (λ (n : ℕ). front ++ (n ∷ (note_of mark ++ (0 ∷ more)))) open_gate
                      ∙ front_more cfg marks mark (0 ∷ more)
                      ∙ append_assoc (head_of cfg) (opened (marks ++ mark ∷ [])) (0 ∷ more);
                })
                due.at_most due.length_is begins.0 begins.1 begins.2;
          }
          | inr shut ↦ shut_safe image g shut (note_of mark ++ (0 ∷ more)) all (first.0 ++ begins.0)
              (begins.1 ∙ ap (λ (xs : List ℕ). xs ++ begins.0) first.1 ∙ append_assoc (layout.growing cfg (take acked units)) first.0 begins.0)
        ]

-- an essence that is kept to a mark that is due is kept to what was acknowledged
due_kept : {L : Type 0} (layout : Ghosts L) → LaysOut layout → (cfg : Fields) (units : List (List ℕ)) (acked : ℕ) (tail : Bool) (mark : Mark)
    → IsDue layout cfg units acked tail mark → (held : Held) → ((place : ℕ) → place < mark.length → KeepsPlace held place)
    → (place : ℕ) → place < length_to layout cfg units acked → KeepsPlace held place
due_kept layout laws cfg units acked tail mark due held kept place l = kept place (omega (arith, l, due_longer layout laws cfg units acked tail mark due))

-- what stands behind an open gate
pub opened_behind : (cfg : Fields) (marks : List Mark) (gate : ℕ) (mark : Mark) (rest reads : List ℕ)
    → reads ≡ commit_bytes cfg marks gate (Opened mark) ++ rest
    → reads ≡ front_of cfg marks ++ (1 ∷ (note_of mark ++ (0 ∷ rest)))
opened_behind cfg marks gate mark rest reads is =
    is ∙ behind_front cfg marks gate (Opened mark) rest ∙ ap (λ (xs : List ℕ). front_of cfg marks ++ (1 ∷ xs)) (append_assoc (note_of mark) (0 ∷ []) rest)

-- every crash that the table lets happen is safe
pub table_safe : {L : Type 0} (layout : Ghosts L) → LaysOut layout
    → (cfg : Fields) (units : List (List ℕ)) (acked records : ℕ) (tail : Bool) (phase : CommitPhase)
    (out : Option Ticket) (held : Disk) → Table layout cfg units acked records tail phase out held → AllSafe layout cfg units acked held
table_safe layout laws cfg units acked records tail Idle out held t image leaves =
    before_safe layout laws cfg units t.are_units acked records tail t.few t.marks t.is_config t.follow t.number t.counts held image leaves
    t.essence_rest t.essence t.kept.essence t.gate t.shut t.commits_rest
    (t.commits ∙ behind_front cfg t.marks t.gate Idle t.commits_rest) (λ place l. t.kept.commits place l tt)
table_safe layout laws cfg units acked records tail (MarkOut mark) out held t image leaves =
    before_safe layout laws cfg units t.are_units acked records tail t.few t.marks t.is_config t.follow t.number t.counts held image leaves
    t.essence_rest t.essence t.kept.essence t.gate t.shut t.commits_rest
    (t.commits ∙ behind_front cfg t.marks t.gate (MarkOut mark) t.commits_rest) (λ place l. t.kept.commits place l tt)
table_safe layout laws cfg units acked records tail (Marked mark) out held t image leaves =
    before_safe layout laws cfg units t.are_units acked records tail t.few t.marks t.is_config t.follow t.number t.counts held image leaves
    t.essence_rest t.essence (due_kept layout laws cfg units acked tail mark t.due held.essence t.kept.essence) t.gate t.shut t.commits_rest
    (t.commits ∙ behind_front cfg t.marks t.gate (Marked mark) t.commits_rest) (λ place l. t.kept.commits place l tt)
table_safe layout laws cfg units acked records tail (NoteOut mark) out held t image leaves =
    before_safe layout laws cfg units t.are_units acked records tail t.few t.marks t.is_config t.follow t.number t.counts held image leaves
    t.essence_rest t.essence (due_kept layout laws cfg units acked tail mark t.due held.essence t.kept.essence) t.gate t.shut
    ((note_of mark ++ 0 ∷ []) ++ t.commits_rest)
    (t.commits ∙ behind_front cfg t.marks t.gate (NoteOut mark) t.commits_rest) (λ place l. t.kept.commits place l tt)
table_safe layout laws cfg units acked records tail (Noted mark) out held t image leaves =
    before_safe layout laws cfg units t.are_units acked records tail t.few t.marks t.is_config t.follow t.number t.counts held image leaves
    t.essence_rest t.essence (due_kept layout laws cfg units acked tail mark t.due held.essence t.kept.essence) t.gate t.shut
    ((note_of mark ++ 0 ∷ []) ++ t.commits_rest)
    (t.commits ∙ behind_front cfg t.marks t.gate (Noted mark) t.commits_rest) (λ place l. t.kept.commits place (omega (arith, l)) tt)
table_safe layout laws cfg units acked records tail (GateOut mark) out held t image leaves =
    gate_safe layout laws cfg units t.are_units acked records tail t.few t.marks t.is_config t.follow t.number t.counts held image leaves
    mark t.due t.essence_rest t.essence t.ends t.kept.essence t.kept.whole_essence 1 t.commits_rest
    (opened_behind cfg t.marks t.gate mark t.commits_rest held.commits.reads t.commits) (λ place l other. t.kept.commits place l other)
table_safe layout laws cfg units acked records tail (Opened mark) out held t image leaves =
    gate_safe layout laws cfg units t.are_units acked records tail t.few t.marks t.is_config t.follow t.number t.counts held image leaves
    mark t.due t.essence_rest t.essence t.ends t.kept.essence t.kept.whole_essence 1 t.commits_rest
    (opened_behind cfg t.marks t.gate mark t.commits_rest held.commits.reads t.commits) (λ place l other. t.kept.commits place l tt)

-- a closed take has one image, and is recovered to all of its units
pub closed_recovers : {L : Type 0} (layout : Ghosts L) (cfg : Fields) (units : List (List ℕ)) (records : ℕ) (held : Disk)
    → IsClosed layout cfg units records held
    → (image : Areas) → Leaves held image → Recovers layout cfg units image
closed_recovers layout cfg units records held c image leaves =
    let essence : image.essence ≡ layout.closed cfg units ++ [] =
    leaves.essence.whole c.essence_kept ∙ c.essence ∙ sym (append-nil (layout.closed cfg units)) in
    record {
      marks = c.marks;
      says = subst (λ (xs : List ℕ). Says xs cfg c.marks) (sym (leaves.commits.whole c.commits_kept)) c.says;
      are_units = c.are_units;
      count = ap (λ (m : Mark). m.count) c.counts;
      length_is = subst (λ (m : Mark). m.length ≡ length (file_of layout m.closed cfg units)) (sym c.counts) refl;
      rest = [];
      begins = subst (λ (m : Mark). image.essence ≡ file_of layout m.closed cfg units ++ []) (sym c.counts) essence;
      ends = λ e. refl;
    }

pub closed_safe : {L : Type 0} (layout : Ghosts L) (cfg : Fields) (units : List (List ℕ)) (acked records : ℕ) (held : Disk) → acked ≤ length units
    → IsClosed layout cfg units records held → AllSafe layout cfg units acked held
closed_safe layout cfg units acked records held few c image leaves = record {
  count = length units;
  at_least = few;
  at_most = omega arith;
  recovers = subst (λ (us : List (List ℕ)). Recovers layout cfg us image) (sym (take_all (length units) units (omega arith)))
      (closed_recovers layout cfg units records held c image leaves);
}

-- what is safe of more units, of which fewer were acknowledged, too
pub safe_wider : {L : Type 0} (layout : Ghosts L) (cfg : Fields) (units : List (List ℕ)) (count acked fewer : ℕ) (image : Areas) → count ≤ length units
    → fewer ≤ acked
    → IsSafe layout cfg (take count units) acked image → IsSafe layout cfg units fewer image
safe_wider layout cfg units count acked fewer image few less safe =
    let most : safe.count ≤ count = omega (arith, safe.at_most, length-take count units) in
    record {
      count = safe.count;
      at_least = omega (arith, safe.at_least, less);
      at_most = omega (arith, most, few);
      recovers = subst (λ (us : List (List ℕ)). Recovers layout cfg us image) (take-take safe.count count units most) safe.recovers;
    }

-- the same where units come behind
pub safe_more : {L : Type 0} (layout : Ghosts L) (cfg : Fields) (units more : List (List ℕ)) (acked fewer : ℕ) (image : Areas) → fewer ≤ acked
    → IsSafe layout cfg units acked image → IsSafe layout cfg (units ++ more) fewer image
safe_more layout cfg units more acked fewer image less safe = record {
  count = safe.count;
  at_least = omega (arith, safe.at_least, less);
  at_most = omega (arith, safe.at_most, length-append units more);
  recovers = subst (λ (us : List (List ℕ)). Recovers layout cfg us image) (sym (take-append-le safe.count units more safe.at_most)) safe.recovers;
}

-- What was read of a commit file's records, one by one: proved here, for proofs to cite.
use Rattle.std.proofs.Common.{◌≡◌, ℕ, ◌+◌, ◌≤◌, List, [], ◌∷◌, ◌++◌, length, drop, Option, None, Some}
use Rattle.std.proofs.Common.{refl, sym, ap, subst, ◌∙◌, arith, append_assoc}
use Rattle.std.proofs.lemmas.List.{length-append, drop_at}
use Rattle.rec_bytes.specs.Configuration.{Fields}
use Rattle.take_core.specs.declared.mark.Mark.{Mark}
use Rattle.commit_sidecar.specs.declared.looks.Look.TheVariants.{Shut, Open}
use Rattle.commit_sidecar.specs.Notes.{note_of, last_of, Follows}
use Rattle.commit_sidecar.specs.Refusals.{IsDamaged, Breaks}
use Rattle.commit_sidecar.specs.Says.{Says, head_of, opened, gate_place}
use Rattle.commit_sidecar.specs.Looks.{BeginsHead, HasRead, Sees}
use Rattle.commit_sidecar.specs.laws.Records.{length-head, length-note, opened-more, length-opened, follow-more, last-more}

-- behind the head no record was read
pub begun : (bytes : List ℕ) (cfg : Fields) → BeginsHead bytes cfg → HasRead bytes cfg 72 0 None
begun bytes cfg head = record {
  marks = [];
  is_config = head.is_config;
  follow = tt;
  rest = head.rest;
  is = head.is;
  counted = refl;
  placed = refl;
  ends = refl;
}

-- what was read ends at the place, and what stands there is the rest
pub read_to : (bytes : List ℕ) (cfg : Fields) (at number : ℕ) (last : Option Mark) (read : HasRead bytes cfg at number last)
    → (drop at bytes ≡ read.rest) × (length bytes ≡ at + length read.rest)
read_to bytes cfg at number last read =
    let front : List ℕ = head_of cfg ++ opened read.marks in
    let long : length front ≡ at =
    omega (
      arith,
      length-append (head_of cfg) (opened read.marks),
      length-head cfg read.is_config,
      length-opened read.marks,
      read.counted,
      read.placed,
    ) in
    let split : bytes ≡ front ++ read.rest = read.is ∙ sym (append_assoc (head_of cfg) (opened read.marks) read.rest) in (
      ap (λ (xs : List ℕ). drop at xs) split ∙ drop_at front read.rest at long,
      ap (length {A = ℕ}) split ∙ length-append front read.rest ∙ ap (λ (n : ℕ). n + length read.rest) long,
    )

-- an open record was read
pub read_more : (bytes : List ℕ) (cfg : Fields) (at number : ℕ) (last : Option Mark) (mark : Mark) → HasRead bytes cfg at number last
    → Sees last (drop at bytes) (Open mark) → HasRead bytes cfg (at + 18) (number + 1) (Some mark)
read_more bytes cfg at number last mark read sees =
    let stands : read.rest ≡ 1 ∷ (note_of mark ++ sees.0) = sym (read_to bytes cfg at number last read).0 ∙ sees.1 in
    let follows : Follows (last_of read.marks) mark = subst (λ (o : Option Mark). Follows o mark) read.ends sees.2 in
    record {
      marks = read.marks ++ mark ∷ [];
      is_config = read.is_config;
      follow = follow-more None read.marks mark read.follow follows;
      rest = sees.0;
      is = read.is ∙ ap (λ (xs : List ℕ). head_of cfg ++ xs) (
          ap (λ (xs : List ℕ). opened read.marks ++ xs) stands ∙ sym (opened-more read.marks mark sees.0)
          );
      counted = omega (arith, read.counted, length-append read.marks (mark ∷ []));
      placed = omega (arith, read.placed);
      ends = sym (last-more None read.marks mark);
    }

-- and there were 18 bytes of it
pub room_for : (bytes : List ℕ) (cfg : Fields) (at number : ℕ) (last : Option Mark) (mark : Mark) → HasRead bytes cfg at number last
    → Sees last (drop at bytes) (Open mark) → at + 18 ≤ length bytes
room_for bytes cfg at number last mark read sees =
    let to = read_to bytes cfg at number last read in
    let stands : read.rest ≡ 1 ∷ (note_of mark ++ sees.0) = sym to.0 ∙ sees.1 in
    omega (arith, to.1, ap (length {A = ℕ}) stands, length-append (note_of mark) sees.0, length-note mark)

-- the place is among the bytes
pub read_within : (bytes : List ℕ) (cfg : Fields) (at number : ℕ) (last : Option Mark) → HasRead bytes cfg at number last
    → at ≤ length bytes
read_within bytes cfg at number last read =
    let long = (read_to bytes cfg at number last read).1 in omega (arith, long)

-- a gate that isn't open ends what the file says
pub read_said : (bytes : List ℕ) (cfg : Fields) (at number : ℕ) (last : Option Mark) (read : HasRead bytes cfg at number last)
    → Sees last (drop at bytes) Shut → Says bytes cfg read.marks
read_said bytes cfg at number last read sees =
    let stands : read.rest ≡ sees.0 ∷ sees.1 = sym (read_to bytes cfg at number last read).0 ∙ sees.3 in
    record {
      is_config = read.is_config;
      follow = read.follow;
      gate = sees.0;
      shut = sees.2;
      rest = sees.1;
      is = read.is ∙ ap (λ (xs : List ℕ). head_of cfg ++ (opened read.marks ++ xs)) stands;
    }

-- what is broken there is damaged
pub read_damaged : (bytes : List ℕ) (cfg : Fields) (at number : ℕ) (last : Option Mark) → HasRead bytes cfg at number last
    → Breaks last (drop at bytes) → IsDamaged bytes at
read_damaged bytes cfg at number last read breaks =
    let stands : drop at bytes ≡ read.rest = (read_to bytes cfg at number last read).0 in
    let there : Breaks last read.rest = subst (λ (xs : List ℕ). Breaks last xs) stands breaks in
    record {
      cfg = cfg;
      marks = read.marks;
      is_config = read.is_config;
      follow = read.follow;
      rest = read.rest;
      is = read.is;
      breaks = subst (λ (o : Option Mark). Breaks o read.rest) read.ends there;
      place = read.placed ∙ ap gate_place read.counted;
    }

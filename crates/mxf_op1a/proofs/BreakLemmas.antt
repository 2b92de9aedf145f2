-- The first of a list at which a test fails.
use Rattle.std.proofs.Common.{◌≡◌, ◌↔◌, inl, inr, ℕ, ◌+◌, ◌==◌, ◌&&◌, Bool, true, not, if◌then◌else◌, List, [], ◌∷◌, ◌++◌, map, filter, Option, Some}
use Rattle.std.proofs.Common.{None, refl, sym, ap, ◌∙◌}
use Rattle.std.proofs.lemmas.Bool.{cases_Bool}
use Rattle.std.specs.List.{flat_map, AllByRecursion}
use Rattle.byteorder.specs.Endian.{big_bytes}
use Rattle.mxf_op1a.specs.Partitions.{File, Part, index_len, metadata_len, stream_len}
use Rattle.mxf_op1a.specs.Metadata.{SetAt, lasts, places_but, sets_of}
use Rattle.mxf_op1a.specs.Clauses.{broken_3, broken_5, broken_8, broken_10, first_place}
use Rattle.mxf_op1a.specs.Kept.{CountsLengths, CountsStream, HasDurations, NamesPlaces}
use Rattle.mxf_op1a.specs.Broken.{BreaksDuration, BreaksLengths, BreaksPlaces, BreaksStream, IsBreak, part_at, set_place}
use Rattle.mxf_op1a.proofs.DurationLemmas.{sets_last, sets_last_back}
use Rattle.mxf_op1a.proofs.FirstLemmas.{lengths, lengths_back}
use Rattle.mxf_op1a.proofs.PlaceLemmas.{places, places_back}
use Rattle.mxf_op1a.proofs.Steps.{goes, goes_back}
use Rattle.mxf_op1a.proofs.StreamLemmas.{counts, counts_back}

-- the place where a test first fails, whose state each element moves
module _ {S X : Type 0} (test : S → X → Bool) (next : S → X → S) (place : X → ℕ) where
  abbrev pub first_bad : S → List X → Option ℕ
  first_bad s [] = None
  first_bad s (x ∷ xs) = if test s x then first_bad (next s x) xs else Some (place x)

  -- it is the place of the first that fails
  record IsSplit (s : S) (xs : List X) (at : ℕ) : Type 0 where
    before : List X
    one : X
    behind : List X
    xs_are : xs ≡ before ++ one ∷ behind
    none : first_bad s before ≡ None
    some : ¬ (first_bad s (before ++ one ∷ []) ≡ None)
    at_is : at ≡ place one

  split : (s : S) (xs : List X) (at : ℕ) → first_bad s xs ≡ Some at → IsSplit s xs at
  split s [] at e = absurd (cc)
  split s (x ∷ xs) at e = elim (cases_Bool (test s x)) [
    | inl is ↦
        let rest = split (next s x) xs at (sym (ap (λ (b : Bool). if b then first_bad (next s x) xs else Some (place x)) is) ∙ e) in
        record {
          before = x ∷ rest.before;
          one = rest.one;
          behind = rest.behind;
          xs_are = ap (λ (ys : List X). x ∷ ys) rest.xs_are;
          none = goes_back (test s x) (first_bad (next s x) rest.before) (place x) is rest.none;
          some = λ n. rest.some (goes (test s x) (first_bad (next s x) (rest.before ++ rest.one ∷ [])) (place x) n).1;
          at_is = rest.at_is;
        }
    | inr bad ↦
        let here : Some (place x) ≡ Some at = sym (ap (λ (b : Bool). if b then first_bad (next s x) xs else Some (place x)) bad) ∙ e in
        record {
          before = [];
          one = x;
          behind = xs;
          xs_are = refl;
          none = refl;
          some = λ n. let t : test s x ≡ true = (goes (test s x) None (place x) n).0 in cc;
          at_is = cc;
        }
  ]

  split_back : (s : S) (before behind : List X) (one : X) → first_bad s before ≡ None → ¬ (first_bad s (before ++ one ∷ []) ≡ None)
      → first_bad s (before ++ one ∷ behind) ≡ Some (place one)
  split_back s [] behind one none some = elim (cases_Bool (test s one)) [
    | inl is ↦ absurd (some (goes_back (test s one) None (place one) is refl))
    | inr bad ↦ ap (λ (b : Bool). if b then first_bad (next s one) behind else Some (place one)) bad
  ]
  split_back s (x ∷ before) behind one none some =
      let both = goes (test s x) (first_bad (next s x) before) (place x) none in
      ap (λ (b : Bool). if b then first_bad (next s x) (before ++ one ∷ behind) else Some (place x)) both.0
      ∙ split_back (next s x) before behind one both.1 (λ n. some (goes_back (test s x) (first_bad (next s x) (before ++ one ∷ [])) (place x) both.0 n))

  -- so it is what a clause names whose test this is
  pub breaks : (s : S) (Kept : List X → Type 0) → ((xs : List X) → first_bad s xs ≡ None → Kept xs) → ((xs : List X) → Kept xs → first_bad s xs ≡ None)
      → (xs : List X) (at : ℕ) → first_bad s xs ≡ Some at → IsBreak Kept place xs at
  breaks s Kept keeps kept xs at e =
      let p = split s xs at e in
      record {
        before = p.before;
        one = p.one;
        behind = p.behind;
        xs_are = p.xs_are;
        keeps = keeps p.before p.none;
        breaks = λ k. p.some (kept (p.before ++ p.one ∷ []) k);
        at_is = p.at_is;
      }

  pub breaks_back : (s : S) (Kept : List X → Type 0) → ((xs : List X) → first_bad s xs ≡ None → Kept xs) → ((xs : List X) → Kept xs → first_bad s xs ≡ None)
      → (xs : List X) (at : ℕ) → IsBreak Kept place xs at → first_bad s xs ≡ Some at
  breaks_back s Kept keeps kept xs at b =
      ap (first_bad s) b.xs_are
      ∙ split_back s b.before b.behind b.one (kept b.before b.keeps) (λ n. b.breaks (keeps (b.before ++ b.one ∷ []) n))
      ∙ ap (λ (n : ℕ). Some n) (sym b.at_is)

  -- the same of a clause that goes through a list in this way
  pub breaks_so : (s : S) (F : List X → Option ℕ) → ((xs : List X) → F xs ≡ first_bad s xs) → (Kept : List X → Type 0)
      → ((xs : List X) → F xs ≡ None → Kept xs) → ((xs : List X) → Kept xs → F xs ≡ None)
      → (xs : List X) (at : ℕ) → (F xs ≡ Some at) ↔ IsBreak Kept place xs at
  breaks_so s F same Kept keeps kept xs at =
      let keeps_so = λ (ys : List X) (e : first_bad s ys ≡ None). keeps ys (same ys ∙ e) in
      let kept_so = λ (ys : List X) (k : Kept ys). sym (same ys) ∙ kept ys k in
      (λ e. breaks s Kept keeps_so kept_so xs at (sym (same xs) ∙ e), λ b. same xs ∙ breaks_back s Kept keeps_so kept_so xs at b)

-- 3.
abbrev pub names_place : ℕ → Part → Bool
names_place before part = part.pack.this == part.at && part.pack.previous == before

abbrev pub to_place : ℕ → Part → ℕ
to_place before part = part.at

same_3 : (before : ℕ) (all : List Part) → broken_3 before all ≡ first_bad names_place to_place part_at before all
unfolding broken_3
same_3 before [] = refl
same_3 before (part ∷ all) = ap (λ (o : Option ℕ). if names_place before part then o else Some part.at) (same_3 part.at all)

pub places_break : (all : List Part) (at : ℕ) → (broken_3 0 all ≡ Some at) ↔ BreaksPlaces all at
places_break = breaks_so names_place to_place part_at 0 (broken_3 0) (same_3 0) NamesPlaces places places_back

-- 5.
abbrev pub counts_sum : ℕ → Part → Bool
counts_sum so_far body = body.pack.body_offset == so_far

abbrev pub to_sum : ℕ → Part → ℕ
to_sum so_far body = so_far + stream_len body

same_5 : (so_far : ℕ) (bodies : List Part) → broken_5 so_far bodies ≡ first_bad counts_sum to_sum part_at so_far bodies
unfolding broken_5
same_5 so_far [] = refl
same_5 so_far (body ∷ bodies) = ap (λ (o : Option ℕ). if counts_sum so_far body then o else Some body.at) (same_5 (so_far + stream_len body) bodies)

pub stream_breaks : (bodies : List Part) (at : ℕ) → (broken_5 0 bodies ≡ Some at) ↔ BreaksStream bodies at
stream_breaks = breaks_so counts_sum to_sum part_at 0 (broken_5 0) (same_5 0) CountsStream counts counts_back

-- 8.
abbrev pub set_passes : (SetAt → Bool) → ℕ → SetAt → Bool
set_passes test n s = test s

abbrev pub no_change : {X : Type 0} → ℕ → X → ℕ
no_change n x = n

abbrev pub place_but : (SetAt → Bool) → List SetAt → Option ℕ
place_but test sets = first_place (places_but test sets)

same_8 : (test : SetAt → Bool) (sets : List SetAt) → place_but test sets ≡ first_bad (set_passes test) no_change set_place 0 sets
same_8 test [] = refl
same_8 test (s ∷ sets) = elim (cases_Bool (test s)) [
  | inl is ↦
      ap (λ (b : Bool). first_place (map set_place (if not b then s ∷ filter (λ t. not (test t)) sets else filter (λ t. not (test t)) sets))) is
      ∙ same_8 test sets ∙ sym (ap (λ (b : Bool). if b then first_bad (set_passes test) no_change set_place 0 sets else Some s.at) is)
  | inr bad ↦
      ap (λ (b : Bool). first_place (map set_place (if not b then s ∷ filter (λ t. not (test t)) sets else filter (λ t. not (test t)) sets))) bad
      ∙ sym (ap (λ (b : Bool). if b then first_bad (set_passes test) no_change set_place 0 sets else Some s.at) bad)
]

pub durations_break : (count : ℕ) (file : File) (at : ℕ) → (broken_8 count file ≡ Some at) ↔ BreaksDuration count file at
durations_break count file at =
    let bytes : List ℕ = big_bytes 8 count in
    breaks_so (set_passes (lasts bytes)) no_change set_place 0 (place_but (lasts bytes)) (same_8 (lasts bytes)) (AllByRecursion (HasDurations bytes))
    (sets_last bytes) (sets_last_back bytes) (flat_map sets_of file.footer) at

-- 10.
abbrev pub counts_lengths : ℕ → Part → Bool
counts_lengths n part = part.pack.header_bytes == metadata_len part && part.pack.index_bytes == index_len part

same_10 : (all : List Part) → broken_10 all ≡ first_bad counts_lengths no_change part_at 0 all
unfolding broken_10
same_10 [] = refl
same_10 (part ∷ all) = ap (λ (o : Option ℕ). if counts_lengths 0 part then o else Some part.at) (same_10 all)

pub lengths_break : (all : List Part) (at : ℕ) → (broken_10 all ≡ Some at) ↔ BreaksLengths all at
lengths_break = breaks_so counts_lengths no_change part_at 0 broken_10 same_10 (AllByRecursion CountsLengths) lengths lengths_back

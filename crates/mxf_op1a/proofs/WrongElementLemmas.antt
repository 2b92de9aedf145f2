-- Where the clauses on elements and on index table segments are broken.
use Rattle.std.proofs.Common.{◌≡◌, ◌⊎◌, inl, inr, ℕ, ◌+◌, ◌==◌, nat_eq, Bool, true, false, if◌then◌else◌, List, [], ◌∷◌, ◌++◌, length, map, drop, Option}
use Rattle.std.proofs.Common.{Some, None, refl, sym, ap, ap₂, ◌∙◌, arith}
use Rattle.std.proofs.lemmas.Bool.{and_from, and_parts, cases_Bool, cases_eq, eq-eqb, eqb-true, ne_eqb}
use Rattle.std.proofs.lemmas.List.{append_assoc, drop_at, map-append}
use Rattle.std.specs.List.{flat_map, starts_with, AllByRecursion}
use Rattle.mxf_index.specs.Reads.{Frames, frames_of}
use Rattle.mxf_op1a.specs.Contents.{Placed}
use Rattle.mxf_op1a.specs.Partitions.{File, Part, elements}
use Rattle.mxf_op1a.specs.Clauses.{broken_6, broken_9, entry_count, first_place, joins, lacking, other_elements, places, stream_offsets}
use Rattle.mxf_op1a.specs.Kept.{CountsStream}
use Rattle.mxf_op1a.specs.Broken.{BeginsIndex, BreaksElements, BreaksIndex, HasSome, item_at, wrong_elements}
use Rattle.mxf_op1a.proofs.BreakLemmas.{breaks, breaks_back, first_bad}
use Rattle.mxf_op1a.proofs.IndexLemmas.{JoinFrom, frame_count, indexed, indexed_back, join_less, join_more, join_none, said, starts, streams_of}
use Rattle.mxf_op1a.proofs.Steps.{each_none, each_so, goes, goes_back, none_each}
use Rattle.mxf_op1a.proofs.StreamLemmas.{all_in, lack_in, offsets_are, others_in, some_there, there_some}

-- places of items that are joined
places_flat : (f : Part → List Placed) (parts : List Part) → places (flat_map f parts) ≡ flat_map (λ part. places (f part)) parts
places_flat f [] = refl
places_flat f (part ∷ parts) = map-append item_at (f part) (flat_map f parts) ∙ ap (λ (xs : List ℕ). places (f part) ++ xs) (places_flat f parts)

-- 6. the places of the elements that are wrong
wrong_places : (before : List Placed) (file : File)
    → places (wrong_elements before file)
    ≡ places (elements before) ++ flat_map all_in file.header ++ flat_map others_in file.bodies ++ flat_map all_in file.footer
wrong_places before file =
    let every : Part → List Placed = λ (part : Part). elements part.items in
    let others : Part → List Placed = λ (part : Part). other_elements part.items in
    let front : List Placed = elements before in
    let header : List Placed = flat_map every file.header in
    let bodies : List Placed = flat_map others file.bodies in
    let footer : List Placed = flat_map every file.footer in
    map-append item_at (front ++ header ++ bodies) footer
    ∙ ap (λ (xs : List ℕ). xs ++ places footer) (map-append item_at (front ++ header) bodies)
    ∙ ap (λ (xs : List ℕ). xs ++ places bodies ++ places footer) (map-append item_at front header)
    ∙ (λ i. places front ++ places_flat every file.header i ++ places_flat others file.bodies i ++ places_flat every file.footer i)

-- the first of these, or else the file's length where an element is missing
wrong_or_missing : (len : ℕ) (before : List Placed) (file : File)
    → broken_6 len before file ≡ first_place (places (wrong_elements before file) ++ lacking len file.bodies)
wrong_or_missing len before file = ap (λ (xs : List ℕ). first_place (xs ++ lacking len file.bodies)) (sym (wrong_places before file))

lack_is : (len : ℕ) (bodies : List Part) → (lacking len bodies ≡ []) ⊎ (first_place (lacking len bodies) ≡ Some len)
lack_is len [] = inl refl
lack_is len (body ∷ bodies) = elim (cases_eq (length (elements body.items)) 0) [
  | inl none ↦
      let t : (length (elements body.items) == 0) ≡ true = eq-eqb (length (elements body.items)) 0 none in
      inr (ap (λ (b : Bool). first_place ((if b then len ∷ [] else []) ++ lacking len bodies)) t)
  | inr some ↦
      let t : (length (elements body.items) == 0) ≡ false = ne_eqb (length (elements body.items)) 0 some in
      let same : lacking len (body ∷ bodies) ≡ lacking len bodies = ap (λ (b : Bool). (if b then len ∷ [] else []) ++ lacking len bodies) t in
      elim (lack_is len bodies) [
        | inl all ↦ inl (same ∙ all)
        | inr lack ↦ inr (ap first_place same ∙ lack)
      ]
]

some_in : (len : ℕ) (bodies : List Part) → lacking len bodies ≡ [] → AllByRecursion HasSome bodies
some_in len bodies e = each_so (λ body. lack_in len body ≡ []) HasSome (λ body. some_there (length (elements body.items)) len) bodies
    (none_each (lack_in len) bodies e)

in_some : (len : ℕ) (bodies : List Part) → AllByRecursion HasSome bodies → lacking len bodies ≡ []
in_some len bodies k = each_none (lack_in len) bodies
    (each_so HasSome (λ body. lack_in len body ≡ []) (λ body. there_some (length (elements body.items)) len) bodies k)

elements_by : (len : ℕ) (before : List Placed) (file : File) (at : ℕ) (wrong : List Placed) → wrong_elements before file ≡ wrong
    → first_place (places wrong ++ lacking len file.bodies) ≡ Some at → BreaksElements len before file at
elements_by len before file at (p ∷ rest) is e = inl (p, rest, is, cc)
elements_by len before file at [] is e = elim (lack_is len file.bodies) [
  | inl all ↦ let bad : None ≡ Some at = ap first_place (sym all) ∙ e in absurd (cc)
  | inr lack ↦ inr (
    is,
    (λ k. let none : lacking len file.bodies ≡ [] = in_some len file.bodies k in let bad : None ≡ Some at = ap first_place (sym none) ∙ e in cc),
    cc,
  )
]

pub elements_break : (len : ℕ) (before : List Placed) (file : File) (at : ℕ) → broken_6 len before file ≡ Some at → BreaksElements len before file at
elements_break len before file at e = elements_by len before file at (wrong_elements before file) refl (sym (wrong_or_missing len before file) ∙ e)

pub elements_break_back : (len : ℕ) (before : List Placed) (file : File) (at : ℕ) → BreaksElements len before file at → broken_6 len before file ≡ Some at
elements_break_back len before file at (inl b) =
    wrong_or_missing len before file ∙ ap (λ (ps : List Placed). first_place (places ps ++ lacking len file.bodies)) b.2 ∙ ap (λ (n : ℕ). Some n) (sym b.3)
elements_break_back len before file at (inr b) =
    wrong_or_missing len before file ∙ ap (λ (ps : List Placed). first_place (places ps ++ lacking len file.bodies)) b.0
    ∙ elim (lack_is len file.bodies) [
      | inl all ↦ absurd (b.1 (some_in len file.bodies all))
      | inr lack ↦ lack ∙ ap (λ (n : ℕ). Some n) (sym b.2)
    ]

-- 9. segments as far as they join: the next frame, and the offsets that are left
pub record Due : Type 0 where
  pub first : ℕ
  pub offsets : List ℕ

abbrev pub joins_on : Due → Placed → Bool
joins_on due p = joins due.first due.offsets (frames_of p.item)

abbrev pub to_due : Due → Placed → Due
to_due due p = record { first = due.first + entry_count (frames_of p.item); offsets = drop (entry_count (frames_of p.item)) due.offsets }

abbrev pub first_loose : Due → List Placed → Option ℕ
first_loose = first_bad joins_on to_due item_at

record IsBegun (due : Due) (segments : List Placed) : Type 0 where
  frames : List Frames
  say : map (λ p. frames_of p.item) segments ≡ map (λ said. Some said) frames
  join : JoinFrom due.first frames
  left : List ℕ
  cover : streams_of frames ++ left ≡ due.offsets

-- at a segment that says this
abbrev pub loose_at : Due → Placed → List Placed → Option Frames → Option ℕ
loose_at due p ps o =
    if joins due.first due.offsets o
    then first_loose (record { first = due.first + entry_count o; offsets = drop (entry_count o) due.offsets }) ps
    else Some p.at

begun_more : (due : Due) (p : Placed) (ps : List Placed) (f : Frames) → frames_of p.item ≡ Some f → joins due.first due.offsets (Some f) ≡ true
    → IsBegun (record { first = due.first + frame_count f; offsets = drop (frame_count f) due.offsets }) ps → IsBegun due (p ∷ ps)
begun_more due p ps f is e rest =
    let own = and_parts (f.first == due.first) (starts_with nat_eq due.offsets f.streams) e in
    record {
      frames = f ∷ rest.frames;
      say = ap₂ (λ (x : Option Frames) (xs : List (Option Frames)). x ∷ xs) is rest.say;
      join = join_more due.first f rest.frames (eqb-true f.first due.first own.0) rest.join;
      left = rest.left;
      cover = append_assoc f.streams (streams_of rest.frames) rest.left ∙ ap (λ (xs : List ℕ). f.streams ++ xs) rest.cover
          ∙ sym ((starts due.offsets f.streams).0 own.1);
    }

begun : (due : Due) (segments : List Placed) → first_loose due segments ≡ None → IsBegun due segments
begun due [] e = record { frames = []; say = refl; join = join_none due.first; left = due.offsets; cover = refl }
begun due (p ∷ ps) e = elim (said (frames_of p.item)) [
  | inl none ↦ let bad : Some p.at ≡ None = ap (loose_at due p ps) (sym none) ∙ e in absurd (cc)
  | inr some ↦
      let f : Frames = some.0 in
      let rest : Due = record { first = due.first + frame_count f; offsets = drop (frame_count f) due.offsets } in
      let both = goes (joins due.first due.offsets (Some f)) (first_loose rest ps) p.at (ap (loose_at due p ps) (sym some.1) ∙ e) in
      begun_more due p ps f some.1 both.0 (begun rest ps both.1)
]

begun_back : (due : Due) (segments : List Placed) (frames : List Frames) (left : List ℕ) → map (λ p. frames_of p.item) segments ≡ map (λ said. Some said) frames
    → JoinFrom due.first frames → streams_of frames ++ left ≡ due.offsets → first_loose due segments ≡ None
begun_back due [] frames left say join cover = refl
begun_back due (p ∷ ps) [] left say join cover = absurd (cc)
begun_back due (p ∷ ps) (f ∷ fs) left say join cover =
    let own : frames_of p.item ≡ Some f = cc in
    let rest_say : map (λ p. frames_of p.item) ps ≡ map (λ said. Some said) fs = cc in
    let begins : f.first ≡ due.first = join [] fs f refl ∙ omega arith in
    let whole : f.streams ++ (streams_of fs ++ left) ≡ due.offsets = sym (append_assoc f.streams (streams_of fs) left) ∙ cover in
    let test : joins due.first due.offsets (Some f) ≡ true =
    and_from (f.first == due.first) (starts_with nat_eq due.offsets f.streams) (eq-eqb f.first due.first begins)
    ((starts due.offsets f.streams).1 (streams_of fs ++ left) (sym whole)) in
    let rest : Due = record { first = due.first + frame_count f; offsets = drop (frame_count f) due.offsets } in
    let remains : streams_of fs ++ left ≡ rest.offsets = sym (drop_at f.streams (streams_of fs ++ left) (frame_count f) refl)
    ∙ ap (drop (frame_count f)) whole in
    ap (loose_at due p ps) own
    ∙ goes_back (joins due.first due.offsets (Some f)) (first_loose rest ps) p.at test
    (begun_back rest ps fs left rest_say (join_less due.first f fs join) remains)

-- the clause is broken at the first that doesn't join, or else at the file's length, if at all
abbrev pub IsOrEnds : ℕ → Option ℕ → Option ℕ → Type 0
IsOrEnds len None answer = (answer ≡ None) ⊎ (answer ≡ Some len)
IsOrEnds len (Some at) answer = answer ≡ Some at

or_ends : (len : ℕ) (due : Due) (segments : List Placed) → IsOrEnds len (first_loose due segments) (broken_9 len due.first due.offsets segments)
unfolding broken_9
or_ends len due [] = elim (cases_Bool (length due.offsets == 0)) [
  | inl none ↦ inl (ap (λ (b : Bool). if b then None else Some len) none)
  | inr some ↦ inr (ap (λ (b : Bool). if b then None else Some len) some)
]
or_ends len due (p ∷ ps) = by_test (joins_on due p) (or_ends len (to_due due p) ps)
  where
    by_test : (b : Bool)
        → IsOrEnds len (first_loose (to_due due p) ps)
        (broken_9 len (due.first + entry_count (frames_of p.item)) (drop (entry_count (frames_of p.item)) due.offsets) ps)
        → IsOrEnds len (if b then first_loose (to_due due p) ps else Some p.at)
        (if b then broken_9 len (due.first + entry_count (frames_of p.item)) (drop (entry_count (frames_of p.item)) due.offsets) ps else Some p.at)
    by_test true rest = rest
    by_test false rest = refl

-- at the file's start
module _ (len : ℕ) (bodies : List Part) (counted : CountsStream bodies) where
  abbrev start : Due
  start = record { first = 0; offsets = stream_offsets 0 bodies }

  abbrev answer : List Placed → Option ℕ
  answer segments = broken_9 len 0 (stream_offsets 0 bodies) segments

  begins : (segments : List Placed) → first_loose start segments ≡ None → BeginsIndex bodies segments
  begins segments e =
      let b = begun start segments e in
      record {
        frames = b.frames;
        say = b.say;
        join = λ before behind frames is. b.join before behind frames is ∙ omega arith;
        left = b.left;
        cover = b.cover ∙ offsets_are bodies counted;
      }

  begins_back : (segments : List Placed) → BeginsIndex bodies segments → first_loose start segments ≡ None
  begins_back segments b =
      begun_back start segments b.frames b.left b.say (λ before behind frames is. b.join before behind frames is ∙ omega arith)
      (b.cover ∙ sym (offsets_are bodies counted))

  index_by : (segments : List Placed) (at : ℕ) (loose : Option ℕ) → first_loose start segments ≡ loose → IsOrEnds len loose (answer segments)
      → answer segments ≡ Some at → BreaksIndex len bodies segments at
  index_by segments at (Some place) is so e =
      let same : place ≡ at = cc in
      inl (breaks joins_on to_due item_at start (BeginsIndex bodies) begins begins_back segments at (is ∙ ap (λ (n : ℕ). Some n) same))
  index_by segments at None is (inl none) e = absurd (cc)
  index_by segments at None is (inr ends) e =
      inr (begins segments is, (λ k. let none = indexed_back len bodies segments counted k in cc), cc)

  pub index_breaks : (segments : List Placed) (at : ℕ) → answer segments ≡ Some at → BreaksIndex len bodies segments at
  index_breaks segments at e = index_by segments at (first_loose start segments) refl (or_ends len start segments) e

  index_back_by : (segments : List Placed) (at : ℕ) (loose : Option ℕ) → first_loose start segments ≡ loose → IsOrEnds len loose (answer segments)
      → BreaksIndex len bodies segments at → answer segments ≡ Some at
  index_back_by segments at loose is so (inl b) =
      let here : first_loose start segments ≡ Some at = breaks_back joins_on to_due item_at start (BeginsIndex bodies) begins begins_back segments at b in
      at_loose loose (sym is ∙ here) so
    where
      at_loose : (o : Option ℕ) → o ≡ Some at → IsOrEnds len o (answer segments) → answer segments ≡ Some at
      at_loose None e s = absurd (cc)
      at_loose (Some place) e s = s ∙ e
  index_back_by segments at (Some place) is so (inr b) = let none = begins_back segments b.0 in absurd (cc)
  index_back_by segments at None is (inl none) (inr b) = absurd (b.1 (indexed len bodies segments counted none))
  index_back_by segments at None is (inr ends) (inr b) = ends ∙ ap (λ (n : ℕ). Some n) (sym b.2)

  pub index_breaks_back : (segments : List Placed) (at : ℕ) → BreaksIndex len bodies segments at → answer segments ≡ Some at
  index_breaks_back segments at b = index_back_by segments at (first_loose start segments) refl (or_ends len start segments) b

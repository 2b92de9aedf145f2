-- The clause on index table segments.
use Rattle.std.proofs.Common.{◌≡◌, ◌⊎◌, inl, inr, ℕ, ◌+◌, ◌==◌, nat_eq, true, if◌then◌else◌, List, [], ◌∷◌, ◌++◌, length, map, drop, sum_by, Option}
use Rattle.std.proofs.Common.{Some, None, refl, sym, ap, ap₂, ◌∙◌, arith}
use Rattle.std.proofs.lemmas.Bool.{and_from, and_parts, eq-eqb, eqb-true}
use Rattle.std.proofs.lemmas.Bool.Decides.{Decides-eqb}
use Rattle.std.proofs.lemmas.List.{drop_at, nil_from_length}
use Rattle.std.proofs.lemmas.List.Sums.{sum_by-cons}
use Rattle.std.proofs.lemmas.Slice.Eq.{starts_is}
use Rattle.std.specs.List.{flat_map, starts_with}
use Rattle.mxf_index.specs.Reads.{Frames, frames_of}
use Rattle.mxf_op1a.specs.Contents.{Placed}
use Rattle.mxf_op1a.specs.Partitions.{Part}
use Rattle.mxf_op1a.specs.Clauses.{broken_9, entry_count, joins, stream_offsets}
use Rattle.mxf_op1a.specs.Kept.{CountsStream, IndexesElements}
use Rattle.mxf_op1a.proofs.Steps.{goes, goes_back}
use Rattle.mxf_op1a.proofs.StreamLemmas.{offsets_are}

-- how many frames a segment has
abbrev pub frame_count : Frames → ℕ
frame_count frames = length frames.streams

-- all their offsets
abbrev pub streams_of : List Frames → List ℕ
streams_of frames = flat_map (λ said. said.streams) frames

-- segments that join from a frame on
abbrev pub JoinFrom : ℕ → List Frames → Type 0
JoinFrom first segments =
    (before behind : List Frames) (frames : Frames) → segments ≡ before ++ frames ∷ behind → frames.first ≡ first + sum_by frame_count before

record IsJoined (first : ℕ) (offsets : List ℕ) (segments : List Placed) : Type 0 where
  frames : List Frames
  say : map (λ p. frames_of p.item) segments ≡ map (λ said. Some said) frames
  join : JoinFrom first frames
  cover : streams_of frames ≡ offsets

regroup : (a b c d : ℕ) → d ≡ b + c → a + d ≡ a + b + c
regroup a b c d h = omega arith

pub join_none : (first : ℕ) → JoinFrom first []
join_none first [] behind frames is = absurd (cc)
join_none first (f ∷ before) behind frames is = absurd (cc)

pub join_more : (first : ℕ) (one : Frames) (segments : List Frames) → one.first ≡ first → JoinFrom (first + frame_count one) segments
    → JoinFrom first (one ∷ segments)
join_more first one segments own k [] behind frames is =
    let same : frames ≡ one = cc in
    ap (λ (f : Frames). f.first) same ∙ own ∙ omega arith
join_more first one segments own k (f ∷ before) behind frames is =
    let same : one ≡ f = cc in
    let rest_is : segments ≡ before ++ frames ∷ behind = cc in
    k before behind frames rest_is ∙ ap (λ (g : Frames). first + frame_count g + sum_by frame_count before) same
    ∙ sym (regroup first (frame_count f) (sum_by frame_count before) (sum_by frame_count (f ∷ before)) (sum_by-cons frame_count f before))

pub join_less : (first : ℕ) (one : Frames) (segments : List Frames) → JoinFrom first (one ∷ segments) → JoinFrom (first + frame_count one) segments
join_less first one segments k before behind frames is =
    k (one ∷ before) behind frames (ap (λ (fs : List Frames). one ∷ fs) is)
    ∙ regroup first (frame_count one) (sum_by frame_count before) (sum_by frame_count (one ∷ before)) (sum_by-cons frame_count one before)

-- what a segment says, or nothing
pub said : (o : Option Frames) → (o ≡ None) ⊎ ((f : Frames) × (o ≡ Some f))
said None = inl refl
said (Some f) = inr (f, refl)

pub starts : (offsets streams : List ℕ)
    → (starts_with nat_eq offsets streams ≡ true → offsets ≡ streams ++ drop (length streams) offsets)
    × ((rest : List ℕ) → offsets ≡ streams ++ rest → starts_with nat_eq offsets streams ≡ true)
starts offsets streams = starts_is Decides-eqb offsets streams (starts_with nat_eq offsets streams) refl

-- one segment more
joined_more : (first : ℕ) (offsets : List ℕ) (p : Placed) (ps : List Placed) (f : Frames) → frames_of p.item ≡ Some f → joins first offsets (Some f) ≡ true
    → IsJoined (first + frame_count f) (drop (frame_count f) offsets) ps → IsJoined first offsets (p ∷ ps)
joined_more first offsets p ps f is e rest =
    let own = and_parts (f.first == first) (starts_with nat_eq offsets f.streams) e in
    record {
      frames = f ∷ rest.frames;
      say = ap₂ (λ (x : Option Frames) (xs : List (Option Frames)). x ∷ xs) is rest.say;
      join = join_more first f rest.frames (eqb-true f.first first own.0) rest.join;
      cover = ap (λ (xs : List ℕ). f.streams ++ xs) rest.cover ∙ sym ((starts offsets f.streams).0 own.1);
    }

-- the clause at a segment that says this
abbrev pub at_segment : ℕ → ℕ → List ℕ → Placed → List Placed → Option Frames → Option ℕ
at_segment len first offsets p ps o =
    if joins first offsets o then broken_9 len (first + entry_count o) (drop (entry_count o) offsets) ps else Some p.at

no_offset : (offsets : List ℕ) (len : ℕ) → (if length offsets == 0 then None else Some len) ≡ None → offsets ≡ []
no_offset offsets len e = nil_from_length offsets (eqb-true (length offsets) 0 (goes (length offsets == 0) None len e).0)

joined : (len first : ℕ) (offsets : List ℕ) (segments : List Placed) → broken_9 len first offsets segments ≡ None → IsJoined first offsets segments
unfolding broken_9
joined len first offsets [] e = record { frames = []; say = refl; join = join_none first; cover = sym (no_offset offsets len e) }
joined len first offsets (p ∷ ps) e = elim (said (frames_of p.item)) [
  | inl none ↦ let bad : Some p.at ≡ None = ap (at_segment len first offsets p ps) (sym none) ∙ e in absurd (cc)
  | inr some ↦
      let f : Frames = some.0 in
      let at : at_segment len first offsets p ps (Some f) ≡ None = ap (at_segment len first offsets p ps) (sym some.1) ∙ e in
      let both = goes (joins first offsets (Some f)) (broken_9 len (first + frame_count f) (drop (frame_count f) offsets) ps) p.at at in
      joined_more first offsets p ps f some.1 both.0 (joined len (first + frame_count f) (drop (frame_count f) offsets) ps both.1)
]

joined_back : (len first : ℕ) (offsets : List ℕ) (segments : List Placed) (frames : List Frames)
    → map (λ p. frames_of p.item) segments ≡ map (λ said. Some said) frames
    → JoinFrom first frames → streams_of frames ≡ offsets → broken_9 len first offsets segments ≡ None
unfolding broken_9
joined_back len first offsets [] [] say join cover = goes_back (length offsets == 0) None len (eq-eqb (length offsets) 0 (ap length (sym cover))) refl
joined_back len first offsets [] (f ∷ fs) say join cover = absurd (cc)
joined_back len first offsets (p ∷ ps) [] say join cover = absurd (cc)
joined_back len first offsets (p ∷ ps) (f ∷ fs) say join cover =
    let own : frames_of p.item ≡ Some f = cc in
    let rest_say : map (λ p. frames_of p.item) ps ≡ map (λ said. Some said) fs = cc in
    let begins : f.first ≡ first = join [] fs f refl ∙ omega arith in
    let test : joins first offsets (Some f) ≡ true =
    and_from (f.first == first) (starts_with nat_eq offsets f.streams) (eq-eqb f.first first begins)
    ((starts offsets f.streams).1 (streams_of fs) (sym cover)) in
    let left : streams_of fs ≡ drop (frame_count f) offsets = sym (drop_at f.streams (streams_of fs) (frame_count f) refl) ∙ ap (drop (frame_count f)) cover in
    ap (at_segment len first offsets p ps) own
    ∙ goes_back (joins first offsets (Some f)) (broken_9 len (first + frame_count f) (drop (frame_count f) offsets) ps) p.at test
    (joined_back len (first + frame_count f) (drop (frame_count f) offsets) ps fs rest_say (join_less first f fs join) left)

pub indexed : (len : ℕ) (bodies : List Part) (segments : List Placed) → CountsStream bodies → broken_9 len 0 (stream_offsets 0 bodies) segments ≡ None
    → IndexesElements bodies segments
indexed len bodies segments k e =
    let j = joined len 0 (stream_offsets 0 bodies) segments e in
    record {
      frames = j.frames;
      say = j.say;
      join = λ before behind frames is. j.join before behind frames is ∙ omega arith;
      cover = j.cover ∙ offsets_are bodies k;
    }

pub indexed_back : (len : ℕ) (bodies : List Part) (segments : List Placed) → CountsStream bodies → IndexesElements bodies segments
    → broken_9 len 0 (stream_offsets 0 bodies) segments ≡ None
indexed_back len bodies segments k i =
    joined_back len 0 (stream_offsets 0 bodies) segments i.frames i.say (λ before behind frames is. i.join before behind frames is ∙ omega arith)
    (i.cover ∙ sym (offsets_are bodies k))

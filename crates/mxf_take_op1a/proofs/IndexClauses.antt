-- The clause on index tables holds of such a file.
use Rattle.std.proofs.Common.{◌≡◌, ℕ, ◌+◌, ◌-◌, ◌≤◌, true, false, cond, List, [], ◌∷◌, ◌++◌, length, map, drop, Option, Some, None}
use Rattle.std.proofs.Common.{refl, sym, ap, ap₂, ◌∙◌, inl, inr, arith, append-nil}
use Rattle.std.specs.Prelude.{filter, nat_eq}
use Rattle.std.specs.List.{starts_with}
use Rattle.std.specs.Str.{bytes_eq}
use Rattle.std.proofs.lemmas.Bool.{eq-eqb}
use Rattle.std.proofs.lemmas.List.{drop_at, take_at}
use Rattle.klv.specs.Items.{Item, spelled}
use Rattle.mxf_index.specs.Reads.{Frames, frames_of}
use Rattle.mxf_op1a.specs.Contents.{Placed, content_of, placed_from, is_segment}
use Rattle.mxf_op1a.specs.Contents.Content.{Set, Segment}
use Rattle.mxf_op1a.specs.Partitions.{Part, being, place_of}
use Rattle.mxf_op1a.specs.Clauses.{broken_9, stream_offsets, joins, entry_count}
use Rattle.mxf_take_op1a.proofs.PlacedLemmas.{placed, bytes_of, AreAll, AreNone, all_none, all_each, filter_none, filter_each, filter_append}
use Rattle.mxf_take_op1a.proofs.Shapes.{Units, Shape, IsShape, closing, all_items, going, end_at, segments_at, body, bodies, standing, standing_due}
use Rattle.mxf_take_op1a.proofs.Shapes.{standing_stays, standing_end}
use Rattle.mxf_take_op1a.proofs.Shapes.{tested, going_due, going_stays, end_due, end_stays, bodies_due, bodies_stays, step}
use Rattle.mxf_take_op1a.proofs.PartLemmas.{all_standing}
use Rattle.mxf_take_op1a.proofs.PlaceClauses.{elements_body, end_above, first_end}
use Rattle.mxf_take_op1a.proofs.ItemClauses.{bytes_self, closing_placed, none_going}
use Rattle.mxf_take_op1a.proofs.Says.{CountStream, Covers, CoverOffsets}

-- how much of the essence stream stands before each unit
unfoldable pub offsets_of : (Units → ℕ) → Units → Units → List ℕ
offsets_of stream before [] = []
offsets_of stream before (unit ∷ units) = stream before ∷ offsets_of stream (before ++ unit ∷ []) units

-- the offsets of a body's elements, and those of the bodies behind it
next_offsets : (s : Shape) (all before : Units) (unit : List ℕ) (units : Units) (sum : ℕ) (later : List Part) → IsShape s all
    → stream_offsets sum (body s before unit units ∷ later)
    ≡ (sum + (s.key before - s.key before)) ∷ (map (λ p. sum + (p.at - s.key before)) (going s (before ++ unit ∷ []) units)
    ++ stream_offsets (sum + (end_at s (before ++ unit ∷ []) units - s.key before)) later)
unfolding stream_offsets
next_offsets s all before unit units sum later h =
    let end : ℕ = end_at s (before ++ unit ∷ []) units in
    ap (λ (ps : List Placed). map (λ p. sum + (p.at - place_of end ps)) ps ++ stream_offsets (sum + (end - place_of end ps)) later)
    (elements_body s all before unit units h)

offsets_from : (s : Shape) (all : Units) (n : CountStream s all) (before units : Units) (sum x : ℕ) → IsShape s all
    → sum + s.place before ≡ n.stream before + x → x ≤ s.place before
    → map (λ p. sum + (p.at - x)) (going s before units) ++ stream_offsets (n.stream before + (end_at s before units - s.place before)) (bodies s before units)
    ≡ offsets_of n.stream before units
unfolding going bodies stream_offsets offsets_of
offsets_from s all n before [] sum x h e below = refl
offsets_from s all n before (unit ∷ units) sum x h e below =
    let more : Units = before ++ unit ∷ [] in
    let above = end_above s all more units h in
    let next = h.next before unit in
    let grows = n.more before unit in
    let later : List Part = bodies s more units in
    elim (tested (s.due before)) [
      | inl due ↦
          let end = end_due s before unit units due in
          let start : ℕ = n.stream before + (end_at s before (unit ∷ units) - s.place before) in
          let start_is : start ≡ n.stream before = omega arith in
          let rest = offsets_from s all n more units start (s.key before) h (omega arith) (omega arith) in
          let sum_is : start + (end_at s more units - s.key before) ≡ n.stream more + (end_at s more units - s.place more) = omega arith in
          ap (λ (ps : List Placed). map (λ p. sum + (p.at - x)) ps ++ stream_offsets start (bodies s before (unit ∷ units)))
          (going_due s before unit units due)
          ∙ ap (stream_offsets start) (bodies_due s before unit units due)
          ∙ next_offsets s all before unit units start later h
          ∙ ap₂ (λ (k m : ℕ). k ∷ (map (λ p. start + (p.at - s.key before)) (going s more units) ++ stream_offsets m later)) (omega arith) sum_is
          ∙ ap (λ (ks : List ℕ). n.stream before ∷ ks) rest
      | inr stays ↦
          let end = end_stays s before unit units stays in
          let key = h.stays_key before stays in
          let rest = offsets_from s all n more units sum x h (omega arith) (omega arith) in
          let sum_is : n.stream before + (end_at s before (unit ∷ units) - s.place before)
          ≡ n.stream more + (end_at s more units - s.place more) = omega arith in
          ap₂ (λ (ps : List Placed) (bs : List Part). map (λ p. sum + (p.at - x)) ps
          ++ stream_offsets (n.stream before + (end_at s before (unit ∷ units) - s.place before)) bs)
          (going_stays s before unit units stays) (bodies_stays s before unit units stays)
          ∙ ap₂ (λ (k m : ℕ). k ∷ (map (λ p. sum + (p.at - x)) (going s more units) ++ stream_offsets m later)) (omega arith) sum_is
          ∙ ap (λ (ks : List ℕ). n.stream before ∷ ks) rest
    ]

-- the offsets of all elements
pub offsets_are : (s : Shape) (all : Units) (n : CountStream s all) → IsShape s all → s.due [] ≡ true
    → stream_offsets 0 (bodies s [] all) ≡ offsets_of n.stream [] all
offsets_are s all n h due =
    let starts = n.starts in
    let none : going s [] all ≡ [] = none_going s all due in
    let sum : 0 ≡ n.stream [] + (end_at s [] all - s.place []) = omega (arith, first_end s all due) in
    ap (λ (k : ℕ). stream_offsets k (bodies s [] all)) sum
    ∙ ap (λ (ps : List Placed). map (λ p. 0 + (p.at - s.place [])) ps ++ stream_offsets (n.stream [] + (end_at s [] all - s.place [])) (bodies s [] all))
    (sym none)
    ∙ offsets_from s all n [] all 0 (s.place []) h (omega arith) (omega arith)

-- a segment that starts where the one before ended, and names the next offsets
joins_next : (xs ys : List ℕ) → starts_with nat_eq (xs ++ ys) xs ≡ true
joins_next xs ys = ap (bytes_eq xs) (take_at xs ys (length xs) refl) ∙ bytes_self xs

next_9 : (len first : ℕ) (frames : Frames) (rest : List ℕ) (p : Placed) (ps : List Placed) → frames_of p.item ≡ Some frames → frames.first ≡ first
    → broken_9 len first (frames.streams ++ rest) (p ∷ ps) ≡ broken_9 len (first + length frames.streams) rest ps
unfolding broken_9
next_9 len first frames rest p ps h e =
    let offsets : List ℕ = frames.streams ++ rest in
    ap (λ (found : Option Frames). cond (joins first offsets found) (broken_9 len (first + entry_count found) (drop (entry_count found) offsets) ps)
    (Some p.at)) h
    ∙ rw (eq-eqb frames.first first e, joins_next frames.streams rest) (
    ap (λ (ks : List ℕ). broken_9 len (first + length frames.streams) ks ps) (drop_at frames.streams rest (length frames.streams) refl)
    )

covered : (len at first : ℕ) (items : List Item) (streams rest : List ℕ) (ps : List Placed) → Covers items first streams
    → broken_9 len first (streams ++ rest) (placed_from at items ++ ps) ≡ broken_9 len (first + length streams) rest ps
unfolding placed_from
covered len at first items streams rest ps c = elim c.cases [
  | inl none ↦
      ap₂ (λ (is : List Item) (xs : List ℕ). broken_9 len first (xs ++ rest) (placed_from at is ++ ps)) none.0 none.1
      ∙ ap (λ (k : ℕ). broken_9 len k rest ps) (omega (arith, ap length none.1))
  | inr one ↦
      ap₂ (λ (is : List Item) (xs : List ℕ). broken_9 len first (xs ++ rest) (placed_from at is ++ ps)) one.1 (sym c.streams_are)
      ∙ next_9 len first c.frames rest (placed at one.0) ps one.2 c.first_is
      ∙ ap (λ (xs : List ℕ). broken_9 len (first + length xs) rest ps) c.streams_are
]

-- segments at their places among all items
pub segments_past : (at : ℕ) (items : List Item) (ps : List Placed) → AreNone is_segment items
    → filter (being is_segment) (placed_from at items ++ ps) ≡ filter (being is_segment) ps
segments_past at items ps h =
    filter_append (being is_segment) (placed_from at items) ps
    ∙ ap (λ (qs : List Placed). qs ++ filter (being is_segment) ps) (filter_none is_segment at items h)

pub segments_here : (at : ℕ) (items : List Item) (ps : List Placed) → AreAll Segment items
    → filter (being is_segment) (placed_from at items ++ ps) ≡ placed_from at items ++ filter (being is_segment) ps
segments_here at items ps h =
    filter_append (being is_segment) (placed_from at items) ps
    ∙ ap (λ (qs : List Placed). qs ++ filter (being is_segment) ps) (filter_each is_segment at items (all_each is_segment Segment items refl h))

pub segments_next : (p : Placed) (ps : List Placed) → is_segment (content_of p.item) ≡ false → filter (being is_segment) (p ∷ ps) ≡ filter (being is_segment) ps
segments_next p ps h = rw h refl

pub segments_closing : (s : Shape) (all : Units) (at : ℕ) → IsShape s all
    → filter (being is_segment) (placed_from at (closing s)) ≡ placed_from ((at + length (spelled s.primer)) + bytes_of s.foot_sets) s.last
segments_closing s all at h =
    let next : ℕ = at + length (spelled s.primer) in
    let end : List Placed = placed (next + (bytes_of s.foot_sets + bytes_of s.last)) s.random ∷ [] in
    let segments : List Placed = placed_from (next + bytes_of s.foot_sets) s.last in
    ap (filter (being is_segment)) (closing_placed s at)
    ∙ segments_next (placed at s.primer) (placed_from next s.foot_sets ++ (segments ++ end)) (ap is_segment h.primer_is)
    ∙ segments_past next s.foot_sets (segments ++ end) (all_none is_segment Set s.foot_sets refl h.foot_sets_are)
    ∙ segments_here (next + bytes_of s.foot_sets) s.last end h.last_are
    ∙ ap (λ (ps : List Placed). segments ++ ps) (segments_next (placed (next + (bytes_of s.foot_sets + bytes_of s.last)) s.random) []
    (ap is_segment h.random_is))
    ∙ append-nil segments

none_left : (len first : ℕ) → broken_9 len first [] [] ≡ None
unfolding broken_9
none_left len first = refl

behind_9 : (s : Shape) (all : Units) (offsets : List ℕ) (len : ℕ) (c : CoverOffsets s all offsets) (before units : Units) → IsShape s all
    → before ++ units ≡ all
    → broken_9 len (c.first before) (c.left before) (filter (being is_segment) (standing s before units)) ≡ None
behind_9 s all offsets len c before [] h e =
    let whole : before ≡ all = sym (append-nil before) ∙ e in
    let at : ℕ = s.place all + length (spelled s.footer) in
    let last_at : ℕ = (at + length (spelled s.primer)) + bytes_of s.foot_sets in
    let first : ℕ = c.first all in
    let left : List ℕ = c.left all in
    ap (λ (us : Units). broken_9 len (c.first us) (c.left us) (filter (being is_segment) (standing s us []))) whole
    ∙ ap (λ (ps : List Placed). broken_9 len first left (filter (being is_segment) ps)) (standing_end s all)
    ∙ ap (broken_9 len first left) (
    segments_next (placed (s.place all) s.footer) (placed_from at (closing s)) (ap is_segment h.footer_is) ∙ segments_closing s all at h
    )
    ∙ ap₂ (λ (ks : List ℕ) (ps : List Placed). broken_9 len first ks ps) (sym (append-nil left)) (sym (append-nil (placed_from last_at s.last)))
    ∙ covered len last_at first s.last left [] [] c.last
    ∙ none_left len (first + length left)
behind_9 s all offsets len c before (unit ∷ units) h e =
    let more : Units = before ++ unit ∷ [] in
    let element = placed (s.key before) (s.element unit) in
    let no_element = ap is_segment (h.element_is unit) in
    let rest : List Placed = filter (being is_segment) (standing s more units) in
    let later = behind_9 s all offsets len c more units h (step before unit units all e) in
    elim (tested (s.due before)) [
      | inl due ↦
          let pack = placed (s.place before) (s.pack before) in
          let segments : List Item = s.segments before in
          let at : ℕ = segments_at s before in
          let facts = c.due before unit units e due in
          let kept : filter (being is_segment) (standing s before (unit ∷ units)) ≡ placed_from at segments ++ rest =
          ap (filter (being is_segment)) (standing_due s all before unit units h due)
          ∙ segments_next pack (placed_from at segments ++ (element ∷ standing s more units)) (ap is_segment (h.pack_is before (unit ∷ units) e))
          ∙ segments_here at segments (element ∷ standing s more units) (h.segments_are before)
          ∙ ap (λ (ps : List Placed). placed_from at segments ++ ps) (segments_next element (standing s more units) no_element) in
          ap₂ (λ (ks : List ℕ) (ps : List Placed). broken_9 len (c.first before) ks ps) facts.1 kept
          ∙ covered len at (c.first before) segments (c.streams before) (c.left more) rest (c.covers before (unit ∷ units) e due)
          ∙ ap (λ (k : ℕ). broken_9 len k (c.left more) rest) (sym facts.0)
          ∙ later
      | inr stays ↦
          let facts = c.stays before unit stays in
          ap₂ (λ (ks : List ℕ) (ps : List Placed). broken_9 len (c.first before) ks ps) (sym facts.1) (
          ap (filter (being is_segment)) (standing_stays s all before unit units h stays) ∙ segments_next element (standing s more units) no_element
          )
          ∙ ap (λ (k : ℕ). broken_9 len k (c.left more) rest) (sym facts.0)
          ∙ later
    ]

pub kept_9 : (s : Shape) (all : Units) (len : ℕ) (n : CountStream s all) → CoverOffsets s all (offsets_of n.stream [] all) → IsShape s all → s.due [] ≡ true
    → broken_9 len 0 (stream_offsets 0 (bodies s [] all)) (filter (being is_segment) (placed_from 0 (all_items s all))) ≡ None
kept_9 s all len n c h due =
    let heading : List Item = s.primer ∷ s.head_sets in
    let at : ℕ = length (spelled s.header) in
    let none : AreNone is_segment heading = (ap is_segment h.primer_is, all_none is_segment Set s.head_sets refl h.head_sets_are) in
    let segments : filter (being is_segment) (placed_from 0 (all_items s all)) ≡ filter (being is_segment) (standing s [] all) =
    ap (filter (being is_segment)) (all_standing s all h)
    ∙ segments_next (placed 0 s.header) (placed_from at heading ++ standing s [] all) (ap is_segment h.header_is)
    ∙ segments_past at heading (standing s [] all) none in
    ap₂ (λ (ks : List ℕ) (ps : List Placed). broken_9 len 0 ks ps) (offsets_are s all n h due ∙ sym c.left_starts) segments
    ∙ ap (λ (k : ℕ). broken_9 len k (c.left []) (filter (being is_segment) (standing s [] all))) (sym c.starts)
    ∙ behind_9 s all (offsets_of n.stream [] all) len c [] all h refl

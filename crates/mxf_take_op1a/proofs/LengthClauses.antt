-- The clause on lengths holds of such a file.
use Rattle.std.proofs.Common.{◌≡◌, ℕ, ◌+◌, ◌||◌, not, Bool, true, false, List, [], ◌∷◌, ◌++◌, length, None}
use Rattle.std.proofs.Common.{refl, sym, ap, ◌∙◌, inl, inr, arith}
use Rattle.std.proofs.lemmas.Bool.{eq-eqb}
use Rattle.klv.specs.Items.{Item, spelled}
use Rattle.mxf_op1a.specs.Contents.{Content, Placed, content_of, placed_from, is_fill, is_segment, is_primer, is_set}
use Rattle.mxf_op1a.specs.Contents.Content.{Primer, Set, Segment, RandomIndex, Element}
use Rattle.mxf_op1a.specs.Partitions.{Part, place_of, from_first, run_of, metadata_len, index_len}
use Rattle.mxf_op1a.specs.Clauses.{broken_10}
use Rattle.mxf_take_op1a.proofs.PlacedLemmas.{placed, bytes_of, AreAll, AreNone, AreEach, all_none, all_each}
use Rattle.mxf_take_op1a.proofs.PlacedLemmas.{placed_append, from_past, from_here, from_next, from_none}
use Rattle.mxf_take_op1a.proofs.Shapes.{Units, Shape, IsShape, closing, going, end_at, segments_at, body, bodies, header_part, footer_part}
use Rattle.mxf_take_op1a.proofs.Shapes.{tested, bodies_due, bodies_stays}
use Rattle.mxf_take_op1a.proofs.PartLemmas.{all_parts}
use Rattle.mxf_take_op1a.proofs.PlaceClauses.{first_end}
use Rattle.mxf_take_op1a.proofs.ItemClauses.{none_going}
use Rattle.mxf_take_op1a.proofs.Says.{CountBytes}

-- 10. a run of items ends where the next one stands
stop_at : (goes : Content → Bool) (at : ℕ) (items : List Item) (ps : List Placed) (end : ℕ) → AreEach goes items
    → place_of end (from_first (λ content. not (goes content || is_fill content)) (placed_from at items ++ ps))
    ≡ place_of end (from_first (λ content. not (goes content || is_fill content)) ps)
unfolding placed_from from_first
stop_at goes at [] ps end h = refl
stop_at goes at (item ∷ items) ps end h = rw h.0 (stop_at goes (at + length (spelled item)) items ps end h.1)

-- an item that goes on nothing ends it
stop_here : (goes : Content → Bool) (p : Placed) (ps : List Placed) (end : ℕ) (content : Content) → content_of p.item ≡ content
    → goes content ≡ false → is_fill content ≡ false
    → place_of end (from_first (λ content. not (goes content || is_fill content)) (p ∷ ps)) ≡ p.at
unfolding from_first
stop_here goes p ps end content c g f = rw (c, g, f) refl

stop_none : (goes : Content → Bool) (end : ℕ) → place_of end (from_first (λ content. not (goes content || is_fill content)) []) ≡ end
unfolding from_first
stop_none goes end = refl

-- index tables before an item that is none
index_run : (at : ℕ) (segments : List Item) (p : Placed) (ps : List Placed) (end : ℕ) (content : Content) → AreAll Segment segments
    → content_of p.item ≡ content → is_segment content ≡ false → is_fill content ≡ false → from_first is_segment ps ≡ []
    → p.at ≡ at + bytes_of segments
    → run_of is_segment end (from_first is_segment (placed_from at segments ++ (p ∷ ps))) ≡ bytes_of segments
unfolding placed_from from_first
index_run at [] p ps end content h c g f none e = rw (c, g, none) refl
index_run at (segment ∷ segments) p ps end content h c g f none e =
    let rest : List Placed = placed_from (at + length (spelled segment)) segments ++ (p ∷ ps) in
    let stops : place_of end (from_first (λ content. not (is_segment content || is_fill content)) rest) ≡ p.at =
    stop_at is_segment (at + length (spelled segment)) segments (p ∷ ps) end (all_each is_segment Segment segments refl h.1)
    ∙ stop_here is_segment p ps end content c g f in
    ap (run_of is_segment end) (from_here is_segment (placed at segment) rest (ap is_segment h.0))
    ∙ omega (arith, stops, e)

no_index : (goes : Content → Bool) (end : ℕ) → run_of goes end [] ≡ 0
no_index goes end = refl

-- none of these goes on behind elements
going_past : (s : Shape) (all before units : Units) (test : Content → Bool) → IsShape s all → test Element ≡ false
    → from_first test (going s before units) ≡ []
unfolding going from_first
going_past s all before [] test h e = refl
going_past s all before (unit ∷ units) test h e = elim (tested (s.due before)) [
  | inl due ↦ rw due refl
  | inr stays ↦ rw (stays, ap test (h.element_is unit), e) (going_past s all (before ++ unit ∷ []) units test h e)
]

body_index : (s : Shape) (all before : Units) (unit : List ℕ) (units : Units) → IsShape s all → s.due before ≡ true
    → index_len (body s before unit units) ≡ bytes_of (s.segments before)
body_index s all before unit units h due =
    index_run (segments_at s before) (s.segments before) (placed (s.key before) (s.element unit)) (going s (before ++ unit ∷ []) units)
    (end_at s (before ++ unit ∷ []) units) Element (h.segments_are before) (h.element_is unit) refl refl
    (going_past s all (before ++ unit ∷ []) units is_segment h refl) (h.due_key before due)

body_metadata : (s : Shape) (all before : Units) (unit : List ℕ) (units : Units) → IsShape s all → metadata_len (body s before unit units) ≡ 0
body_metadata s all before unit units h =
    let segments = s.segments before in
    let element = placed (s.key before) (s.element unit) in
    let after : List Placed = going s (before ++ unit ∷ []) units in
    ap (run_of is_set (end_at s (before ++ unit ∷ []) units)) (
    from_past is_primer (segments_at s before) segments (element ∷ after) (all_none is_primer Segment segments refl (h.segments_are before))
    ∙ from_next is_primer element after (ap is_primer (h.element_is unit))
    ∙ going_past s all (before ++ unit ∷ []) units is_primer h refl
    )

-- metadata before what is none
metadata_run : (at : ℕ) (primer : Item) (sets : List Item) (ps : List Placed) (end : ℕ) → content_of primer ≡ Primer → AreAll Set sets
    → place_of end (from_first (λ content. not (is_set content || is_fill content)) ps) ≡ at + bytes_of (primer ∷ sets)
    → run_of is_set end (from_first is_primer (placed_from at (primer ∷ sets) ++ ps)) ≡ bytes_of (primer ∷ sets)
unfolding placed_from
metadata_run at primer sets ps end p h e =
    let rest : List Placed = placed_from (at + length (spelled primer)) sets ++ ps in
    let stops : place_of end (from_first (λ content. not (is_set content || is_fill content)) rest) ≡ at + bytes_of (primer ∷ sets) =
    stop_at is_set (at + length (spelled primer)) sets ps end (all_each is_set Set sets refl h) ∙ e in
    ap (run_of is_set end) (from_here is_primer (placed at primer) rest (ap is_primer p))
    ∙ omega (arith, stops)

header_metadata : (s : Shape) (all : Units) → IsShape s all → s.due [] ≡ true → metadata_len (header_part s all) ≡ bytes_of (s.primer ∷ s.head_sets)
header_metadata s all h due =
    let end : ℕ = end_at s [] all in
    metadata_run (length (spelled s.header)) s.primer s.head_sets (going s [] all) end h.primer_is h.head_sets_are
    (ap (λ (ps : List Placed). place_of end (from_first (λ content. not (is_set content || is_fill content)) ps)) (none_going s all due)
    ∙ stop_none is_set end ∙ first_end s all due ∙ h.starts)

header_index : (s : Shape) (all : Units) → IsShape s all → index_len (header_part s all) ≡ 0
header_index s all h =
    let heading : List Item = s.primer ∷ s.head_sets in
    let none : AreNone is_segment heading = (ap is_segment h.primer_is, all_none is_segment Set s.head_sets refl h.head_sets_are) in
    ap (run_of is_segment (end_at s [] all)) (
    from_past is_segment (length (spelled s.header)) heading (going s [] all) none ∙ going_past s all [] all is_segment h refl
    )

-- what stands behind the sets of the footer ends them
last_stops : (at place end : ℕ) (last : List Item) (random : Item) → AreAll Segment last → content_of random ≡ RandomIndex → place ≡ at + bytes_of last
    → place_of end (from_first (λ content. not (is_set content || is_fill content)) (placed_from at last ++ (placed place random ∷ []))) ≡ at
unfolding placed_from
last_stops at place end [] random k r e = stop_here is_set (placed place random) [] end RandomIndex r refl refl ∙ e ∙ omega arith
last_stops at place end (segment ∷ last) random k r e =
    stop_here is_set (placed at segment) (placed_from (at + length (spelled segment)) last ++ (placed place random ∷ [])) end Segment k.0 refl refl

-- the items behind the footer's pack at their places
closing_runs : (s : Shape) (at next : ℕ) → next ≡ at + bytes_of (s.primer ∷ s.foot_sets)
    → placed_from at (closing s) ≡ placed_from at (s.primer ∷ s.foot_sets) ++ (placed_from next s.last ++ (placed (next + bytes_of s.last) s.random ∷ []))
unfolding placed_from
closing_runs s at next e =
    let sets : List Item = s.primer ∷ s.foot_sets in
    placed_append at sets (s.last ++ (s.random ∷ []))
    ∙ ap (λ (n : ℕ). placed_from at sets ++ placed_from n (s.last ++ (s.random ∷ []))) (sym e)
    ∙ ap (λ (ps : List Placed). placed_from at sets ++ ps) (placed_append next s.last (s.random ∷ []))

footer_metadata : (s : Shape) (all : Units) (len : ℕ) → IsShape s all → metadata_len (footer_part s all len) ≡ bytes_of (s.primer ∷ s.foot_sets)
footer_metadata s all len h =
    let at : ℕ = s.place all + length (spelled s.footer) in
    let next : ℕ = at + bytes_of (s.primer ∷ s.foot_sets) in
    ap (λ (ps : List Placed). run_of is_set len (from_first is_primer ps)) (closing_runs s at next refl)
    ∙ metadata_run at s.primer s.foot_sets (placed_from next s.last ++ (placed (next + bytes_of s.last) s.random ∷ [])) len h.primer_is h.foot_sets_are
    (last_stops next (next + bytes_of s.last) len s.last s.random h.last_are h.random_is refl)

footer_index : (s : Shape) (all : Units) (len : ℕ) → IsShape s all → index_len (footer_part s all len) ≡ bytes_of s.last
footer_index s all len h =
    let at : ℕ = s.place all + length (spelled s.footer) in
    let sets : List Item = s.primer ∷ s.foot_sets in
    let next : ℕ = at + bytes_of sets in
    let none : AreNone is_segment sets = (ap is_segment h.primer_is, all_none is_segment Set s.foot_sets refl h.foot_sets_are) in
    ap (λ (ps : List Placed). run_of is_segment len (from_first is_segment ps)) (closing_runs s at next refl)
    ∙ ap (run_of is_segment len) (from_past is_segment at sets (placed_from next s.last ++ (placed (next + bytes_of s.last) s.random ∷ [])) none)
    ∙ index_run next s.last (placed (next + bytes_of s.last) s.random) [] len RandomIndex h.last_are h.random_is refl refl (from_none is_segment) refl

next_10 : (part : Part) (parts : List Part) → part.pack.header_bytes ≡ metadata_len part → part.pack.index_bytes ≡ index_len part
    → broken_10 (part ∷ parts) ≡ broken_10 parts
unfolding broken_10
next_10 part parts p q = rw (eq-eqb part.pack.header_bytes (metadata_len part) p, eq-eqb part.pack.index_bytes (index_len part) q) refl

behind_10 : (s : Shape) (all : Units) (len : ℕ) (before units : Units) → IsShape s all → CountBytes s all
    → broken_10 (bodies s before units ++ (footer_part s all len ∷ [])) ≡ None
unfolding bodies broken_10
behind_10 s all len before [] h n =
    next_10 (footer_part s all len) [] (n.footer_metadata ∙ sym (footer_metadata s all len h)) (n.footer_index ∙ sym (footer_index s all len h))
behind_10 s all len before (unit ∷ units) h n =
    let footer : List Part = footer_part s all len ∷ [] in
    let later = behind_10 s all len (before ++ unit ∷ []) units h n in
    elim (tested (s.due before)) [
      | inl due ↦
          ap (λ (ps : List Part). broken_10 (ps ++ footer)) (bodies_due s before unit units due)
          ∙ next_10 (body s before unit units) (bodies s (before ++ unit ∷ []) units ++ footer)
          (n.body_metadata before ∙ sym (body_metadata s all before unit units h))
          (n.body_index before ∙ sym (body_index s all before unit units h due))
          ∙ later
      | inr stays ↦ ap (λ (ps : List Part). broken_10 (ps ++ footer)) (bodies_stays s before unit units stays) ∙ later
    ]

pub kept_10 : (s : Shape) (all : Units) (len : ℕ) → IsShape s all → CountBytes s all → s.due [] ≡ true → broken_10 (all_parts s all len) ≡ None
kept_10 s all len h n due =
    next_10 (header_part s all) (bodies s [] all ++ (footer_part s all len ∷ []))
    (n.header_metadata ∙ sym (header_metadata s all h due)) (n.header_index ∙ sym (header_index s all h))
    ∙ behind_10 s all len [] all h n

-- The clauses on places, kinds and the essence stream hold of such a file.
use Rattle.std.proofs.Common.{◌≡◌, ℕ, ◌+◌, ◌-◌, ◌≤◌, true, List, [], ◌∷◌, ◌++◌, None, refl, sym, ap}
use Rattle.std.proofs.Common.{ap₂, subst, ◌∙◌, inl, inr, arith, append-nil}
use Rattle.std.proofs.lemmas.Bool.{eq-eqb}
use Rattle.std.specs.List.{AllByRecursion}
use Rattle.mxf_op1a.specs.Contents.{Placed, placed_from, is_element}
use Rattle.mxf_op1a.specs.Contents.Content.{Segment}
use Rattle.mxf_op1a.specs.Partitions.{Part, being, place_of, elements, stream_len}
use Rattle.mxf_op1a.specs.Clauses.{broken_3, broken_4, broken_behind, broken_5, is_body, is_closed_footer, is_open_header}
use Rattle.mxf_take_op1a.proofs.PlacedLemmas.{placed, all_none, filter_none, filter_append}
use Rattle.mxf_take_op1a.proofs.Shapes.{Units, Shape, IsShape, going, end_at, segments_at, body, bodies, header_part, footer_part}
use Rattle.mxf_take_op1a.proofs.Shapes.{tested, end_due, end_stays, bodies_due, bodies_stays, step}
use Rattle.mxf_take_op1a.proofs.PartLemmas.{all_parts}
use Rattle.mxf_take_op1a.proofs.Says.{NamePlaces, NameKinds, CountStream}

-- 3. a pack that names its place and the one before
next_3 : (before : ℕ) (part : Part) (parts : List Part) → part.pack.this ≡ part.at → part.pack.previous ≡ before
    → broken_3 before (part ∷ parts) ≡ broken_3 part.at parts
unfolding broken_3
next_3 before part parts p q = rw (eq-eqb part.pack.this part.at p, eq-eqb part.pack.previous before q) refl

behind_3 : (s : Shape) (all : Units) (len : ℕ) (n : NamePlaces s all) (before units : Units) → before ++ units ≡ all
    → broken_3 (n.before before) (bodies s before units ++ (footer_part s all len ∷ [])) ≡ None
unfolding bodies broken_3
behind_3 s all len n before [] e =
    let whole : before ≡ all = sym (append-nil before) ∙ e in
    next_3 (n.before before) (footer_part s all len) [] n.footer_this (n.footer_previous ∙ ap n.before (sym whole))
behind_3 s all len n before (unit ∷ units) e =
    let later = behind_3 s all len n (before ++ unit ∷ []) units (step before unit units all e) in
    let footer : List Part = footer_part s all len ∷ [] in
    elim (tested (s.due before)) [
      | inl due ↦
          ap (λ (ps : List Part). broken_3 (n.before before) (ps ++ footer)) (bodies_due s before unit units due)
          ∙ next_3 (n.before before) (body s before unit units) (bodies s (before ++ unit ∷ []) units ++ footer) (n.this before) (n.previous before due)
          ∙ ap (λ (at : ℕ). broken_3 at (bodies s (before ++ unit ∷ []) units ++ footer)) (sym (n.due before unit due))
          ∙ later
      | inr stays ↦
          ap (λ (ps : List Part). broken_3 (n.before before) (ps ++ footer)) (bodies_stays s before unit units stays)
          ∙ ap (λ (at : ℕ). broken_3 at (bodies s (before ++ unit ∷ []) units ++ footer)) (sym (n.stays before unit stays))
          ∙ later
    ]

pub kept_3 : (s : Shape) (all : Units) (len : ℕ) → NamePlaces s all → broken_3 0 (all_parts s all len) ≡ None
kept_3 s all len n =
    let rest : List Part = bodies s [] all ++ (footer_part s all len ∷ []) in
    next_3 0 (header_part s all) rest n.header_this n.header_previous
    ∙ ap (λ (at : ℕ). broken_3 at rest) (sym n.starts)
    ∙ behind_3 s all len n [] all refl

-- 4. bodies and the last partition
behind_bodies : (bodies : List Part) (footer : Part) → AllByRecursion (λ part. is_body part.pack.kind ≡ true) bodies → is_closed_footer footer ≡ true
    → broken_behind (bodies ++ (footer ∷ [])) ≡ None
unfolding broken_behind
behind_bodies [] footer h last = rw last refl
behind_bodies (part ∷ []) footer h last = rw (h.0, last) refl
behind_bodies (part ∷ next ∷ bodies) footer h last = rw h.0 (behind_bodies (next ∷ bodies) footer h.1 last)

all_bodies : (s : Shape) (all : Units) (n : NameKinds s all) (before units : Units)
    → AllByRecursion (λ part. is_body part.pack.kind ≡ true) (bodies s before units)
unfolding bodies
all_bodies s all n before [] = tt
all_bodies s all n before (unit ∷ units) =
    let later = all_bodies s all n (before ++ unit ∷ []) units in
    elim (tested (s.due before)) [
      | inl due ↦
          subst (AllByRecursion (λ (part : Part). is_body part.pack.kind ≡ true)) (sym (bodies_due s before unit units due)) (n.body_is before, later)
      | inr stays ↦
          subst (AllByRecursion (λ (part : Part). is_body part.pack.kind ≡ true)) (sym (bodies_stays s before unit units stays)) later
    ]

header_4 : (len : ℕ) (header : Part) (middle : List Part) (footer : Part) → is_open_header header ≡ true
    → broken_behind (middle ++ (footer ∷ [])) ≡ None → broken_4 len (header ∷ (middle ++ (footer ∷ []))) ≡ None
header_4 len header [] footer h k = rw h k
header_4 len header (part ∷ middle) footer h k = rw h k

pub kept_4 : (s : Shape) (all : Units) (len : ℕ) → NameKinds s all → broken_4 len (all_parts s all len) ≡ None
kept_4 s all len n =
    let opens : is_open_header (header_part s all) ≡ true = rw (n.header_is, n.header_open) refl in
    let closes : is_closed_footer (footer_part s all len) ≡ true =
    rw (n.footer_is, n.footer_closed, eq-eqb s.closes.footer (s.place all) n.footer_named) refl in
    header_4 len (header_part s all) (bodies s [] all) (footer_part s all len) opens
    (behind_bodies (bodies s [] all) (footer_part s all len) (all_bodies s all n [] all) closes)

-- elements alone stand behind an element up to the next pack
pub elements_going : (s : Shape) (all before units : Units) → IsShape s all → elements (going s before units) ≡ going s before units
unfolding going
elements_going s all before [] h = refl
elements_going s all before (unit ∷ units) h = elim (tested (s.due before)) [
  | inl due ↦ rw due refl
  | inr stays ↦ rw (stays, ap is_element (h.element_is unit)) (ap (λ (ps : List Placed). placed (s.key before) (s.element unit) ∷ ps)
      (elements_going s all (before ++ unit ∷ []) units h))
]

pub elements_body : (s : Shape) (all before : Units) (unit : List ℕ) (units : Units) → IsShape s all
    → elements (body s before unit units).items ≡ placed (s.key before) (s.element unit) ∷ going s (before ++ unit ∷ []) units
elements_body s all before unit units h =
    let element = placed (s.key before) (s.element unit) in
    let after : List Placed = going s (before ++ unit ∷ []) units in
    let none = filter_none is_element (segments_at s before) (s.segments before)
    (all_none is_element Segment (s.segments before) refl (h.segments_are before)) in
    let first : elements (element ∷ after) ≡ element ∷ after =
    rw (ap is_element (h.element_is unit)) (ap (λ (ps : List Placed). element ∷ ps) (elements_going s all (before ++ unit ∷ []) units h)) in
    filter_append (being is_element) (placed_from (segments_at s before) (s.segments before)) (element ∷ after)
    ∙ ap₂ (λ (xs ys : List Placed). xs ++ ys) none first

-- the file goes on
key_above : (s : Shape) (all before : Units) → IsShape s all → s.place before ≤ s.key before
key_above s all before h = elim (tested (s.due before)) [
  | inl due ↦ let e = h.due_key before due in omega arith
  | inr stays ↦ let e = h.stays_key before stays in omega arith
]

pub end_above : (s : Shape) (all before units : Units) → IsShape s all → s.place before ≤ end_at s before units
unfolding end_at
end_above s all before [] h = omega arith
end_above s all before (unit ∷ units) h = elim (tested (s.due before)) [
  | inl due ↦ let e = end_due s before unit units due in omega arith
  | inr stays ↦
      let e = end_stays s before unit units stays in
      let later = end_above s all (before ++ unit ∷ []) units h in
      omega (arith, h.next before unit, key_above s all before h)
]

-- what a body adds to the essence stream
pub body_stream : (s : Shape) (all before : Units) (unit : List ℕ) (units : Units) → IsShape s all
    → stream_len (body s before unit units) ≡ end_at s (before ++ unit ∷ []) units - s.key before
body_stream s all before unit units h =
    ap (λ (ps : List Placed). end_at s (before ++ unit ∷ []) units - place_of (end_at s (before ++ unit ∷ []) units) ps)
    (elements_body s all before unit units h)

-- 5.
next_5 : (before : ℕ) (part : Part) (parts : List Part) → part.pack.body_offset ≡ before
    → broken_5 before (part ∷ parts) ≡ broken_5 (before + stream_len part) parts
unfolding broken_5
next_5 before part parts p = rw (eq-eqb part.pack.body_offset before p) refl

behind_5 : (s : Shape) (all : Units) (n : CountStream s all) (before units : Units) (sum : ℕ) → IsShape s all
    → sum ≡ n.stream before + (end_at s before units - s.place before) → broken_5 sum (bodies s before units) ≡ None
unfolding bodies broken_5
behind_5 s all n before [] sum h e = refl
behind_5 s all n before (unit ∷ units) sum h e =
    let above = end_above s all (before ++ unit ∷ []) units h in
    let next = h.next before unit in
    let more = n.more before unit in
    elim (tested (s.due before)) [
      | inl due ↦
          let end = end_due s before unit units due in
          let streams = body_stream s all before unit units h in
          ap (broken_5 sum) (bodies_due s before unit units due)
          ∙ next_5 sum (body s before unit units) (bodies s (before ++ unit ∷ []) units) (n.offset before ∙ omega arith)
          ∙ behind_5 s all n (before ++ unit ∷ []) units (sum + stream_len (body s before unit units)) h (omega arith)
      | inr stays ↦
          let end = end_stays s before unit units stays in
          let key = h.stays_key before stays in
          ap (broken_5 sum) (bodies_stays s before unit units stays)
          ∙ behind_5 s all n (before ++ unit ∷ []) units sum h (omega arith)
    ]

-- the first unit begins a body, or there is none
pub first_end : (s : Shape) (all : Units) → s.due [] ≡ true → end_at s [] all ≡ s.place []
unfolding end_at
first_end s [] due = refl
first_end s (unit ∷ units) due = end_due s [] unit units due

pub kept_5 : (s : Shape) (all : Units) → IsShape s all → CountStream s all → s.due [] ≡ true → broken_5 0 (bodies s [] all) ≡ None
kept_5 s all h n due = behind_5 s all n [] all 0 h (omega (arith, n.starts, first_end s all due))

-- One more item behind others.
use Rattle.std.proofs.Common.{◌≡◌, ℕ, List, [], ◌∷◌, ◌++◌, Option, Some, None, refl, sym, ap, ap₂, ◌∙◌, append_assoc, append-nil}
use Rattle.std.proofs.lemmas.List.Concat.{flat_map-append}
use Rattle.std.specs.List.{flat_map}
use Rattle.mxf_reader.specs.inner.Kept.{IsKept, going, closed, front, front_place, element_of, elements_from, segment_of, last, last_next}
use Rattle.mxf_reader.specs.inner.Parts.{closed_one, first_of, going_next}
use Rattle.mxf_reader.specs.declared.mark.Mark.{Mark}
use Rattle.mxf_reader.specs.declared.part.SeenPart.{SeenPart}
use Rattle.mxf_reader.specs.declared.seen.Seen.{Seen}
use Rattle.take_layout.specs.declared.place.Place.{Place}

pub going_more : (so : Option SeenPart) (ms : List Mark) (m : Mark) → going so (ms ++ m ∷ []) ≡ going_next (going so ms) m
unfolding going
going_more so [] m = refl
going_more so (x ∷ ms) m = going_more (going_next so x) ms m

pub closed_more : (so : Option SeenPart) (ms : List Mark) (m : Mark) → closed so (ms ++ m ∷ []) ≡ closed so ms ++ closed_one (going so ms) m
unfolding closed going
closed_more so [] m = append-nil (closed_one so m)
closed_more so (x ∷ ms) m =
    ap (λ (ps : List SeenPart). closed_one so x ++ ps) (closed_more (going_next so x) ms m)
    ∙ sym (append_assoc (closed_one so x) (closed (going_next so x) ms) (closed_one (going (going_next so x) ms) m))

first_none : (a : Option ℕ) → first_of a None ≡ a
first_none None = refl
first_none (Some x) = refl

pub first_assoc : (a b c : Option ℕ) → first_of a (first_of b c) ≡ first_of (first_of a b) c
first_assoc None b c = refl
first_assoc (Some x) b c = refl

front_more : (so : Option SeenPart) (ms : List Mark) (m : Mark) → front so (ms ++ m ∷ []) ≡ first_of (front so ms) (front_place (going so ms) m)
unfolding front going
front_more so [] m = first_none (front_place so m)
front_more so (x ∷ ms) m =
    ap (first_of (front_place so x)) (front_more (going_next so x) ms m)
    ∙ first_assoc (front_place so x) (front (going_next so x) ms) (front_place (going (going_next so x) ms) m)

elements_more : (so : Option SeenPart) (ms : List Mark) (m : Mark) → elements_from so (ms ++ m ∷ []) ≡ elements_from so ms ++ element_of (going so ms) m
unfolding elements_from going
elements_more so [] m = append-nil (element_of so m)
elements_more so (x ∷ ms) m =
    ap (λ (es : List Place). element_of so x ++ es) (elements_more (going_next so x) ms m)
    ∙ sym (append_assoc (element_of so x) (elements_from (going_next so x) ms) (element_of (going (going_next so x) ms) m))

segments_more : (ms : List Mark) (m : Mark) → flat_map segment_of (ms ++ m ∷ []) ≡ flat_map segment_of ms ++ segment_of m
segments_more ms m = flat_map-append segment_of ms (m ∷ []) ∙ ap (λ (xs : List Mark). flat_map segment_of ms ++ xs) (append-nil (segment_of m))

last_more : (so : Option Mark) (ms : List Mark) (m : Mark) → last so (ms ++ m ∷ []) ≡ last_next (last so ms) m
unfolding last
last_more so [] m = refl
last_more so (x ∷ ms) m = last_more (last_next so x) ms m

-- nothing is kept of no items
pub kept_none : (s : Seen) → s.closed.items ≡ [] → s.going ≡ None → s.front ≡ None → s.elements.items ≡ [] → s.segments.items ≡ [] → s.last ≡ None → IsKept s []
unfolding going closed front elements_from last
kept_none s a b c d e f = record { closed = a; going = b; front = c; elements = d; segments = e; last = f }

-- what is kept has one more item's
pub record IsNext (s t : Seen) (m : Mark) : Type 0 where
  pub closed : t.closed.items ≡ s.closed.items ++ closed_one s.going m
  pub going : t.going ≡ going_next s.going m
  pub front : t.front ≡ first_of s.front (front_place s.going m)
  pub elements : t.elements.items ≡ s.elements.items ++ element_of s.going m
  pub segments : t.segments.items ≡ s.segments.items ++ segment_of m
  pub last : t.last ≡ last_next s.last m

pub kept_more : (s t : Seen) (m : Mark) (ms : List Mark) → IsKept s ms → IsNext s t m → IsKept t (ms ++ m ∷ [])
kept_more s t m ms h n = record {
  closed = n.closed ∙ ap₂ (λ (ps : List SeenPart) (so : Option SeenPart). ps ++ closed_one so m) h.closed h.going ∙ sym (closed_more None ms m);
  going = n.going ∙ ap (λ (so : Option SeenPart). going_next so m) h.going ∙ sym (going_more None ms m);
  front = n.front ∙ ap₂ (λ (o : Option ℕ) (so : Option SeenPart). first_of o (front_place so m)) h.front h.going ∙ sym (front_more None ms m);
  elements = n.elements ∙ ap₂ (λ (es : List Place) (so : Option SeenPart). es ++ element_of so m) h.elements h.going ∙ sym (elements_more None ms m);
  segments = n.segments ∙ ap (λ (xs : List Mark). xs ++ segment_of m) h.segments ∙ sym (segments_more ms m);
  last = n.last ∙ ap (λ (so : Option Mark). last_next so m) h.last ∙ sym (last_more None ms m);
}

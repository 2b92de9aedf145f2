-- What is kept of a whole file, by the definitions of OP1a.
use Rattle.std.proofs.Common.{◌≡◌, ℕ, ◌+◌, true, if◌then◌else◌, List, [], ◌∷◌, ◌++◌, length, filter, map, Option, Some, None, refl, sym, ap, ap₂, ◌∙◌}
use Rattle.std.specs.List.{flat_map}
use Rattle.mxf_op1a.specs.Clauses.{last_item}
use Rattle.mxf_op1a.specs.Contents.{Content, Placed, content_of, is_element, is_fill, is_pack, is_segment, placed_from}
use Rattle.mxf_op1a.specs.Contents.Content.{Fill, Pack, Primer, Set, Segment, RandomIndex, Element, Other}
use Rattle.mxf_op1a.specs.Partitions.{being, elements, parts, up_to}
use Rattle.mxf_reader.specs.declared.file.SeenFile.{SeenFile}
use Rattle.mxf_reader.specs.declared.items.Walked.{Walked}
use Rattle.mxf_reader.specs.declared.mark.Kind.{Kind}
use Rattle.mxf_reader.specs.declared.mark.Kind.TheVariants.{Filler, PartitionPack, PrimerPack, MetadataSet, IndexSegment, RandomIndexPack, EssenceElement, Unknown}
use Rattle.mxf_reader.specs.declared.mark.Mark.{Mark}
use Rattle.mxf_reader.specs.declared.part.SeenPart.{SeenPart}
use Rattle.take_layout.specs.declared.place.Place.{Place}
use Rattle.mxf_reader.specs.inner.Files.{AreSeen, IsClosed, IsSeen, mark_if}
use Rattle.mxf_reader.specs.inner.Kept.{IsKept, element_by, elements_from, front, last, last_by, segment_by, segment_of, seen_element}
use Rattle.mxf_reader.specs.inner.Marks.{kind_of, mark_of}
use Rattle.mxf_reader.specs.inner.Parts.{closed_at, element_place, first_of, fresh, is_first, due_behind, pack_next, with_item, going_next}
use Rattle.mxf_reader.specs.inner.Index.{streams_of}
use Rattle.mxf_reader.specs.inner.Seen.{seen_parts, streams_in}
use Rattle.mxf_reader.specs.inner.Walks.{AreWalked}
use Rattle.mxf_reader.proofs.PartLemmas.{first_at}
use Rattle.mxf_reader.proofs.SeenLemmas.{parts_seen}
use Rattle.mxf_reader.proofs.StreamLemmas.{pushed, streams_seen}

-- behind a pack no element stands before all packs
front_next : (k : Kind) (p : SeenPart) (m : Mark) (ms : List Mark) → ((q : SeenPart) → front (Some q) ms ≡ None) → front (pack_next k (Some p) m) ms ≡ None
front_next (PartitionPack pack) p m ms h = h (fresh (is_first (Some p)) (due_behind (Some p) m.at) m.at pack)
front_next Filler p m ms h = h (with_item p m)
front_next PrimerPack p m ms h = h (with_item p m)
front_next MetadataSet p m ms h = h (with_item p m)
front_next IndexSegment p m ms h = h (with_item p m)
front_next RandomIndexPack p m ms h = h (with_item p m)
front_next EssenceElement p m ms h = h (with_item p m)
front_next Unknown p m ms h = h (with_item p m)

front_some : (ms : List Mark) (p : SeenPart) → front (Some p) ms ≡ None
unfolding front
front_some [] p = refl
front_some (m ∷ ms) p = front_next m.kind p m ms (λ q. front_some ms q)

front_by : (c : Content) (x : Placed) (ms : List Mark) (es : List Placed) → ((q : SeenPart) → front (Some q) ms ≡ None) → front None ms ≡ first_at es
    → first_of (element_place (kind_of c) x.at) (front (pack_next (kind_of c) None (mark_of x)) ms)
    ≡ first_at (if is_pack c then [] else (if is_element c then x ∷ es else es))
front_by (Pack pack) x ms es h e = h (fresh true 0 x.at pack)
front_by Fill x ms es h e = e
front_by Primer x ms es h e = e
front_by Set x ms es h e = e
front_by Segment x ms es h e = e
front_by RandomIndex x ms es h e = e
front_by Element x ms es h e = refl
front_by Other x ms es h e = e

pub front_seen : (ps : List Placed) → front None (map mark_of ps) ≡ first_at (elements (up_to is_pack ps))
unfolding front up_to
front_seen [] = refl
front_seen (x ∷ ps) =
    front_by (content_of x.item) x (map mark_of ps) (elements (up_to is_pack ps)) (λ q. front_some (map mark_of ps) q) (front_seen ps)
    ∙ sym (ap first_at (pushed (being is_pack x) x (up_to is_pack ps)))

last_step : (c : Content) (so : Option Placed) (x : Placed) → last_by (kind_of c) (mark_if so) (mark_of x) ≡ mark_if (if is_fill c then so else Some x)
last_step Fill so x = refl
last_step (Pack pack) so x = refl
last_step Primer so x = refl
last_step Set so x = refl
last_step Segment so x = refl
last_step RandomIndex so x = refl
last_step Element so x = refl
last_step Other so x = refl

pub last_seen : (so : Option Placed) (ps : List Placed) → last (mark_if so) (map mark_of ps) ≡ mark_if (last_item so ps)
unfolding last last_item
last_seen so [] = refl
last_seen so (x ∷ ps) =
    ap (λ (m : Option Mark). last m (map mark_of ps)) (last_step (content_of x.item) so x) ∙ last_seen (if being is_fill x then so else Some x) ps

segment_step : (c : Content) (x : Placed) (ms : List Mark) (ps : List Placed) → ms ≡ map mark_of ps
    → segment_by (kind_of c) (mark_of x) ++ ms ≡ map mark_of (if is_segment c then x ∷ ps else ps)
segment_step Segment x ms ps h = ap (λ (xs : List Mark). mark_of x ∷ xs) h
segment_step Fill x ms ps h = h
segment_step (Pack pack) x ms ps h = h
segment_step Primer x ms ps h = h
segment_step Set x ms ps h = h
segment_step RandomIndex x ms ps h = h
segment_step Element x ms ps h = h
segment_step Other x ms ps h = h

pub segments_seen : (ps : List Placed) → flat_map segment_of (map mark_of ps) ≡ map mark_of (filter (being is_segment) ps)
segments_seen [] = refl
segments_seen (x ∷ ps) =
    segment_step (content_of x.item) x (flat_map segment_of (map mark_of ps)) (filter (being is_segment) ps) (segments_seen ps)

element_step : (f : Place → ℕ) (g : Placed → ℕ) (c : Content) (so : Option SeenPart) (x : Placed) (es : List Place) (ps : List Placed)
    → f (seen_element so (mark_of x)) ≡ g x → map f es ≡ map g ps
    → map f (element_by (kind_of c) so (mark_of x) ++ es) ≡ map g (if is_element c then x ∷ ps else ps)
element_step f g Element so x es ps e h = ap₂ (λ (n : ℕ) (ns : List ℕ). n ∷ ns) e h
element_step f g Fill so x es ps e h = h
element_step f g (Pack pack) so x es ps e h = h
element_step f g Primer so x es ps e h = h
element_step f g Set so x es ps e h = h
element_step f g Segment so x es ps e h = h
element_step f g RandomIndex so x es ps e h = h
element_step f g Other so x es ps e h = h

elements_seen : (f : Place → ℕ) (g : Placed → ℕ) → ((so : Option SeenPart) (x : Placed) → f (seen_element so (mark_of x)) ≡ g x)
    → (so : Option SeenPart) (ps : List Placed) → map f (elements_from so (map mark_of ps)) ≡ map g (elements ps)
unfolding elements_from
elements_seen f g same so [] = refl
elements_seen f g same so (x ∷ ps) =
    element_step f g (content_of x.item) so x (elements_from (going_next so (mark_of x)) (map mark_of ps)) (elements ps) (same so x)
    (elements_seen f g same (going_next so (mark_of x)) ps)

-- what is kept where the walk ends
pub are_seen : (w : Walked) (len : ℕ) (file : SeenFile) (ps : List Placed) → IsClosed w len file → IsKept w.seen (map mark_of ps) → AreSeen ps file
are_seen w len file ps h k = record {
  parts = h.parts ∙ ap₂ (λ (xs : List SeenPart) (so : Option SeenPart). xs ++ closed_at len so) k.closed k.going ∙ parts_seen len ps
      ∙ ap (λ (n : ℕ). seen_parts true 0 (parts n ps)) (sym h.len_is);
  front = h.front ∙ k.front ∙ front_seen ps;
  values = ap (map (λ (e : Place). e.at)) (h.elements ∙ k.elements)
      ∙ elements_seen (λ e. e.at) (λ p. p.at + (17 + p.item.form)) (λ so x. refl) None ps;
  sizes = ap (map (λ (e : Place). e.len)) (h.elements ∙ k.elements)
      ∙ elements_seen (λ e. e.len) (λ p. length p.item.value) (λ so x. refl) None ps;
  streams = ap streams_of (h.elements ∙ k.elements) ∙ streams_seen len ps ∙ ap (λ (n : ℕ). streams_in n ps) (sym h.len_is);
  segments = h.segments ∙ k.segments ∙ segments_seen ps;
  last = h.last ∙ k.last ∙ last_seen None ps;
}

pub is_seen : (bytes : List ℕ) (w : Walked) (len : ℕ) (file : SeenFile) → AreWalked bytes w → IsClosed w len file → len ≡ length bytes → IsSeen bytes file
is_seen bytes w len file a h e = record {
  outline = a.outline;
  stop = h.stop ∙ a.stop;
  len = h.len_is ∙ e;
  seen = are_seen w len file (placed_from 0 a.outline.items) h a.kept;
}

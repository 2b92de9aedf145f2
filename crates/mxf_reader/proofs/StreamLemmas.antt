-- Where the elements that are kept stand in the essence stream, by the definitions of OP1a.
use Rattle.std.proofs.Common.{◌≡◌, ℕ, ◌+◌, ◌-◌, Bool, true, false, if◌then◌else◌, List, [], ◌∷◌, ◌++◌, map, Option, Some, None, refl, sym, ap, ap₂, ◌∙◌, append_assoc, append-nil}
use Rattle.std.proofs.lemmas.List.Elements.{filter-append}
use Rattle.mxf_op1a.specs.Clauses.{offset_in}
use Rattle.mxf_op1a.specs.Contents.{Content, Placed, content_of, is_element, is_pack}
use Rattle.mxf_op1a.specs.Contents.Content.{Fill, Pack, Primer, Set, Segment, RandomIndex, Element, Other}
use Rattle.mxf_op1a.specs.Partitions.{Part, being, elements, from_first, part_of, parts, place_of, up_to}
use Rattle.mxf_partitions.specs.declared.partition.Partition.{Partition}
use Rattle.mxf_reader.specs.declared.mark.Mark.{Mark}
use Rattle.mxf_reader.specs.declared.part.SeenPart.{SeenPart}
use Rattle.mxf_reader.specs.inner.Index.{streams_of}
use Rattle.mxf_reader.specs.inner.Kept.{element_by, elements_from}
use Rattle.mxf_reader.specs.inner.Marks.{kind_of, mark_of}
use Rattle.mxf_reader.specs.inner.Parts.{due_by, fresh, offset_at, pack_next, place_or, with_item}
use Rattle.mxf_reader.specs.inner.Seen.{due_with, part_streams, seen_part, streams_in}
use Rattle.mxf_reader.proofs.PartLemmas.{first_at, item_more, part}
use Rattle.mxf_reader.proofs.SeenLemmas.{due_same}

-- the stream offsets of what is kept behind an item that is this
abbrev streams_by : Content → Option SeenPart → Placed → List Mark → List ℕ
streams_by c so x ms = streams_of (element_by (kind_of c) so (mark_of x) ++ elements_from (pack_next (kind_of c) so (mark_of x)) ms)

-- those of some elements of a partition, and of the partitions behind it
abbrev goes_on : Bool → ℕ → Part → List Placed → List Part → List ℕ
goes_on first due p es ps = map (offset_in p due) es ++ part_streams false (due_with first due p) ps

-- the elements of what may be none
pub pushed : (b : Bool) (x : Placed) (up : List Placed) → elements (if b then [] else x ∷ up) ≡ (if b then [] else elements (x ∷ up))
pushed true x up = refl
pushed false x up = refl

-- the first element, where one stands behind those so far
first_or : (end : ℕ) (es fs : List Placed) (x : Placed) → place_or x.at (first_at es) ≡ place_of end (es ++ x ∷ fs)
first_or end [] fs x = refl
first_or end (e ∷ es) fs x = refl

-- an element among items
elements_with : (before up : List Placed) (x : Placed) → being is_element x ≡ true → elements (before ++ x ∷ up) ≡ elements before ++ x ∷ elements up
elements_with before up x e =
    filter-append (being is_element) before (x ∷ up)
    ∙ ap (λ (b : Bool). elements before ++ (if b then x ∷ elements up else elements up)) e

-- an element's place in the stream
offset_same : (first : Bool) (due at : ℕ) (pack : Partition) (before up : List Placed) (begin end : ℕ) (x : Placed) → being is_element x ≡ true
    → offset_at (seen_part first due (part at pack before begin)) x.at ≡ offset_in (part at pack (before ++ x ∷ up) end) due x
offset_same first due at pack before up begin end x e =
    ap (λ (n : ℕ). due + (x.at - n))
    (first_or end (elements before) (elements up) x ∙ sym (ap (place_of end) (elements_with before up x e)))

-- a pack ends a partition, and the next begins
at_pack : (len : ℕ) (first : Bool) (due at : ℕ) (pack : Partition) (before : List Placed) (begin : ℕ) (x : Placed) (ps : List Placed) (next : Partition)
    → ((d : ℕ) → streams_of (elements_from (Some (seen_part false d (part x.at next [] x.at))) (map mark_of ps))
    ≡ goes_on false d (part x.at next ([] ++ up_to is_pack ps) (place_of len (from_first is_pack ps))) (elements (up_to is_pack ps)) (parts len ps))
    → streams_by (Pack next) (Some (seen_part first due (part at pack before begin))) x (map mark_of ps)
    ≡ goes_on first due (part at pack (before ++ []) x.at) [] (part_of len x ps (Pack next) ++ parts len ps)
unfolding part_streams from_first
at_pack len first due at pack before begin x ps next h =
    let so : SeenPart = seen_part first due (part at pack before begin) in
    let whole : Part = part at pack (before ++ []) x.at in
    let same : due_by first so x.at ≡ due_with first due whole =
    due_same first due at pack before begin x.at ∙ ap (λ (items : List Placed). due_with first due (part at pack items x.at)) (sym (append-nil before)) in
    ap (λ (d : ℕ). streams_of (elements_from (Some (fresh false d x.at next)) (map mark_of ps))) same ∙ h (due_with first due whole)

-- another item is one more of it
at_item : (len : ℕ) (first : Bool) (due at : ℕ) (pack : Partition) (before : List Placed) (begin : ℕ) (x : Placed) (ps : List Placed)
    → streams_of (elements_from (Some (seen_part first due (part at pack (before ++ x ∷ []) begin))) (map mark_of ps))
    ≡ goes_on first due (part at pack ((before ++ x ∷ []) ++ up_to is_pack ps) (place_of len (from_first is_pack ps))) (elements (up_to is_pack ps)) (parts len ps)
    → streams_of (elements_from (Some (with_item (seen_part first due (part at pack before begin)) (mark_of x))) (map mark_of ps))
    ≡ goes_on first due (part at pack (before ++ x ∷ up_to is_pack ps) (place_of len (from_first is_pack ps))) (elements (up_to is_pack ps)) (parts len ps)
at_item len first due at pack before begin x ps h =
    ap (λ (p : SeenPart). streams_of (elements_from (Some p) (map mark_of ps))) (item_more first due at pack before begin x)
    ∙ h
    ∙ ap (λ (items : List Placed). goes_on first due (part at pack items (place_of len (from_first is_pack ps))) (elements (up_to is_pack ps)) (parts len ps))
    (append_assoc before (x ∷ []) (up_to is_pack ps))

-- behind a partition that has some items, as far as the next pack
abbrev behind_part : ℕ → Bool → ℕ → ℕ → Partition → List Placed → Placed → List Placed → List Placed → Content → List ℕ
behind_part len first due at pack before x ps es c =
    goes_on first due
    (part at pack (before ++ (if is_pack c then [] else x ∷ up_to is_pack ps)) (place_of len (if is_pack c then x ∷ ps else from_first is_pack ps)))
    (if is_pack c then [] else (if is_element c then x ∷ es else es))
    (part_of len x ps c ++ parts len ps)

-- what an item adds, by what it is
at_next : (c : Content) (len : ℕ) (first : Bool) (due at : ℕ) (pack : Partition) (before : List Placed) (begin : ℕ) (x : Placed) (ps : List Placed)
    → ((d : ℕ) (next : Partition) → streams_of (elements_from (Some (seen_part false d (part x.at next [] x.at))) (map mark_of ps))
    ≡ goes_on false d (part x.at next ([] ++ up_to is_pack ps) (place_of len (from_first is_pack ps))) (elements (up_to is_pack ps)) (parts len ps))
    → streams_of (elements_from (Some (with_item (seen_part first due (part at pack before begin)) (mark_of x))) (map mark_of ps))
    ≡ goes_on first due (part at pack (before ++ x ∷ up_to is_pack ps) (place_of len (from_first is_pack ps))) (elements (up_to is_pack ps)) (parts len ps)
    → (is_element c ≡ true → offset_at (seen_part first due (part at pack before begin)) x.at
    ≡ offset_in (part at pack (before ++ x ∷ up_to is_pack ps) (place_of len (from_first is_pack ps))) due x)
    → streams_by c (Some (seen_part first due (part at pack before begin))) x (map mark_of ps)
    ≡ behind_part len first due at pack before x ps (elements (up_to is_pack ps)) c
at_next (Pack next) len first due at pack before begin x ps p h o = at_pack len first due at pack before begin x ps next (λ d. p d next)
at_next Fill len first due at pack before begin x ps p h o = h
at_next Primer len first due at pack before begin x ps p h o = h
at_next Set len first due at pack before begin x ps p h o = h
at_next Segment len first due at pack before begin x ps p h o = h
at_next RandomIndex len first due at pack before begin x ps p h o = h
at_next Element len first due at pack before begin x ps p h o = ap₂ (λ (n : ℕ) (ns : List ℕ). n ∷ ns) (o refl) h
at_next Other len first due at pack before begin x ps p h o = h

-- the elements behind a partition that goes on
behind : (len : ℕ) (first : Bool) (due at : ℕ) (pack : Partition) (before : List Placed) (begin : ℕ) (ps : List Placed)
    → streams_of (elements_from (Some (seen_part first due (part at pack before begin))) (map mark_of ps))
    ≡ goes_on first due (part at pack (before ++ up_to is_pack ps) (place_of len (from_first is_pack ps))) (elements (up_to is_pack ps)) (parts len ps)
unfolding elements_from parts up_to from_first part_streams
behind len first due at pack before begin [] = refl
behind len first due at pack before begin (x ∷ ps) =
    let b : Bool = being is_pack x in
    let whole : Part = part at pack (before ++ (if b then [] else x ∷ up_to is_pack ps)) (place_of len (if b then x ∷ ps else from_first is_pack ps)) in
    at_next (content_of x.item) len first due at pack before begin x ps
    (λ d next. behind len false d x.at next [] x.at ps)
    (at_item len first due at pack before begin x ps (behind len first due at pack (before ++ x ∷ []) begin ps))
    (λ e. offset_same first due at pack before (up_to is_pack ps) begin (place_of len (from_first is_pack ps)) x e)
    ∙ ap (λ (es : List Placed). goes_on first due whole es (part_of len x ps (content_of x.item) ++ parts len ps)) (sym (pushed b x (up_to is_pack ps)))

-- the elements of a file, those before all packs at 0
abbrev at_start : List Placed → List Part → List ℕ
at_start es ps = map (λ (p : Placed). 0) es ++ part_streams true 0 ps

-- what an item before all packs adds, by what it is
at_front : (c : Content) (len : ℕ) (x : Placed) (ps : List Placed)
    → ((next : Partition) → streams_of (elements_from (Some (seen_part true 0 (part x.at next [] x.at))) (map mark_of ps))
    ≡ goes_on true 0 (part x.at next ([] ++ up_to is_pack ps) (place_of len (from_first is_pack ps))) (elements (up_to is_pack ps)) (parts len ps))
    → streams_of (elements_from None (map mark_of ps)) ≡ at_start (elements (up_to is_pack ps)) (parts len ps)
    → streams_by c None x (map mark_of ps)
    ≡ at_start (if is_pack c then [] else (if is_element c then x ∷ elements (up_to is_pack ps) else elements (up_to is_pack ps))) (part_of len x ps c ++ parts len ps)
unfolding part_streams from_first
at_front (Pack next) len x ps p h = p next
at_front Fill len x ps p h = h
at_front Primer len x ps p h = h
at_front Set len x ps p h = h
at_front Segment len x ps p h = h
at_front RandomIndex len x ps p h = h
at_front Element len x ps p h = ap (λ (ns : List ℕ). 0 ∷ ns) h
at_front Other len x ps p h = h

-- the elements' places in the stream are those of the file's elements
pub streams_seen : (len : ℕ) (ps : List Placed)
    → streams_of (elements_from None (map mark_of ps)) ≡ streams_in len ps
unfolding elements_from parts up_to part_streams
streams_seen len [] = refl
streams_seen len (x ∷ ps) =
    at_front (content_of x.item) len x ps (λ next. behind len true 0 x.at next [] x.at ps) (streams_seen len ps)
    ∙ ap (λ (es : List Placed). at_start es (part_of len x ps (content_of x.item) ++ parts len ps)) (sym (pushed (being is_pack x) x (up_to is_pack ps)))

-- What is kept of all partitions, by the definitions of OP1a.
use Rattle.std.proofs.Common.{◌≡◌, ℕ, ◌+◌, ◌-◌, Bool, true, false, if◌then◌else◌, List, [], ◌∷◌, ◌++◌, map, Option, Some, None, refl, sym, ap, ap₂, ◌∙◌, append_assoc, append-nil}
use Rattle.mxf_op1a.specs.Clauses.{first_place, places}
use Rattle.mxf_op1a.specs.Contents.{Content, Placed, content_of, is_pack}
use Rattle.mxf_op1a.specs.Contents.Content.{Fill, Pack, Primer, Set, Segment, RandomIndex, Element, Other}
use Rattle.mxf_op1a.specs.Partitions.{Part, elements, from_first, part_of, parts, place_of, up_to}
use Rattle.mxf_partitions.specs.declared.partition.Partition.{Partition}
use Rattle.mxf_reader.specs.declared.mark.Mark.{Mark}
use Rattle.mxf_reader.specs.declared.part.SeenPart.{SeenPart}
use Rattle.mxf_reader.specs.inner.Kept.{closed, going}
use Rattle.mxf_reader.specs.inner.Marks.{kind_of, mark_of}
use Rattle.mxf_reader.specs.inner.Parts.{closed_at, due_by, fresh, pack_closes, pack_next, place_or, with_item}
use Rattle.mxf_reader.specs.inner.Seen.{due_with, seen_part, seen_parts}
use Rattle.mxf_reader.proofs.PartLemmas.{item_more, part}

-- all that is kept of partitions behind items, where the file ends at a place
abbrev kept_behind : ℕ → Option SeenPart → List Mark → List SeenPart
kept_behind len so ms = closed so ms ++ closed_at len (going so ms)

-- the same behind an item that is this
abbrev kept_by : ℕ → Content → Option SeenPart → Placed → List Mark → List SeenPart
kept_by len c so x ms =
    (pack_closes (kind_of c) so x.at ++ closed (pack_next (kind_of c) so (mark_of x)) ms) ++ closed_at len (going (pack_next (kind_of c) so (mark_of x)) ms)

-- a partition with these items and what follows
abbrev and_then : Bool → ℕ → Part → List Part → List SeenPart
and_then first due p ps = seen_part first due p ∷ seen_parts false (due_with first due p) ps

pub place_same : (end : ℕ) (items : List Placed) → place_or end (first_place (places items)) ≡ place_of end items
place_same end [] = refl
place_same end (p ∷ ps) = refl

-- what a partition adds to the essence stream
pub due_same : (first : Bool) (due at : ℕ) (pack : Partition) (items : List Placed) (begin end : ℕ)
    → due_by first (seen_part first due (part at pack items begin)) end ≡ due_with first due (part at pack items end)
due_same true due at pack items begin end = refl
due_same false due at pack items begin end = ap (λ (n : ℕ). due + (end - n)) (place_same end (elements items))

fresh_is : (first : Bool) (due at : ℕ) (pack : Partition) → fresh first due at pack ≡ seen_part first due (part at pack [] at)
unfolding from_first
fresh_is first due at pack = refl

-- what is kept behind a partition that has some items, as far as the next pack
abbrev behind_part : ℕ → Bool → ℕ → ℕ → Partition → List Placed → Placed → List Placed → Content → List SeenPart
behind_part len first due at pack before x ps c =
    and_then first due
    (part at pack (before ++ (if is_pack c then [] else x ∷ up_to is_pack ps)) (place_of len (if is_pack c then x ∷ ps else from_first is_pack ps)))
    (part_of len x ps c ++ parts len ps)

-- a pack ends it, and the next begins
at_pack : (len : ℕ) (first : Bool) (due at : ℕ) (pack : Partition) (before : List Placed) (begin : ℕ) (x : Placed) (ps : List Placed) (next : Partition)
    → ((d : ℕ) → kept_behind len (Some (seen_part false d (part x.at next [] x.at))) (map mark_of ps)
    ≡ and_then false d (part x.at next ([] ++ up_to is_pack ps) (place_of len (from_first is_pack ps))) (parts len ps))
    → kept_by len (Pack next) (Some (seen_part first due (part at pack before begin))) x (map mark_of ps)
    ≡ behind_part len first due at pack before x ps (Pack next)
unfolding seen_parts from_first
at_pack len first due at pack before begin x ps next h =
    let so : SeenPart = seen_part first due (part at pack before begin) in
    let whole : Part = part at pack (before ++ []) x.at in
    let same : due_by first so x.at ≡ due_with first due whole =
    due_same first due at pack before begin x.at ∙ ap (λ (items : List Placed). due_with first due (part at pack items x.at)) (sym (append-nil before)) in
    ap₂ (λ (items : List Placed) (rest : List SeenPart). seen_part first due (part at pack items x.at) ∷ rest) (sym (append-nil before))
    (ap (λ (d : ℕ). kept_behind len (Some (fresh false d x.at next)) (map mark_of ps)) same ∙ h (due_with first due whole))

-- another item is one more of it
at_item : (len : ℕ) (first : Bool) (due at : ℕ) (pack : Partition) (before : List Placed) (begin : ℕ) (x : Placed) (ps : List Placed)
    → kept_behind len (Some (seen_part first due (part at pack (before ++ x ∷ []) begin))) (map mark_of ps)
    ≡ and_then first due (part at pack ((before ++ x ∷ []) ++ up_to is_pack ps) (place_of len (from_first is_pack ps))) (parts len ps)
    → kept_behind len (Some (with_item (seen_part first due (part at pack before begin)) (mark_of x))) (map mark_of ps)
    ≡ and_then first due (part at pack (before ++ x ∷ up_to is_pack ps) (place_of len (from_first is_pack ps))) (parts len ps)
at_item len first due at pack before begin x ps h =
    ap (λ (p : SeenPart). kept_behind len (Some p) (map mark_of ps)) (item_more first due at pack before begin x)
    ∙ h
    ∙ ap (λ (items : List Placed). and_then first due (part at pack items (place_of len (from_first is_pack ps))) (parts len ps))
    (append_assoc before (x ∷ []) (up_to is_pack ps))

at_next : (c : Content) (len : ℕ) (first : Bool) (due at : ℕ) (pack : Partition) (before : List Placed) (begin : ℕ) (x : Placed) (ps : List Placed)
    → ((d : ℕ) (next : Partition) → kept_behind len (Some (seen_part false d (part x.at next [] x.at))) (map mark_of ps)
    ≡ and_then false d (part x.at next ([] ++ up_to is_pack ps) (place_of len (from_first is_pack ps))) (parts len ps))
    → kept_behind len (Some (with_item (seen_part first due (part at pack before begin)) (mark_of x))) (map mark_of ps)
    ≡ and_then first due (part at pack (before ++ x ∷ up_to is_pack ps) (place_of len (from_first is_pack ps))) (parts len ps)
    → kept_by len c (Some (seen_part first due (part at pack before begin))) x (map mark_of ps) ≡ behind_part len first due at pack before x ps c
at_next (Pack next) len first due at pack before begin x ps p h = at_pack len first due at pack before begin x ps next (λ d. p d next)
at_next Fill len first due at pack before begin x ps p h = h
at_next Primer len first due at pack before begin x ps p h = h
at_next Set len first due at pack before begin x ps p h = h
at_next Segment len first due at pack before begin x ps p h = h
at_next RandomIndex len first due at pack before begin x ps p h = h
at_next Element len first due at pack before begin x ps p h = h
at_next Other len first due at pack before begin x ps p h = h

-- what is kept behind a partition that goes on
behind : (len : ℕ) (first : Bool) (due at : ℕ) (pack : Partition) (before : List Placed) (begin : ℕ) (ps : List Placed)
    → kept_behind len (Some (seen_part first due (part at pack before begin))) (map mark_of ps)
    ≡ and_then first due (part at pack (before ++ up_to is_pack ps) (place_of len (from_first is_pack ps))) (parts len ps)
unfolding closed going parts up_to from_first seen_parts
behind len first due at pack before begin [] =
    ap (λ (items : List Placed). seen_part first due (part at pack items len) ∷ []) (sym (append-nil before))
behind len first due at pack before begin (x ∷ ps) =
    at_next (content_of x.item) len first due at pack before begin x ps
    (λ d next. behind len false d x.at next [] x.at ps)
    (at_item len first due at pack before begin x ps (behind len first due at pack (before ++ x ∷ []) begin ps))

at_front : (c : Content) (len : ℕ) (x : Placed) (ps : List Placed)
    → ((next : Partition) → kept_behind len (Some (seen_part true 0 (part x.at next [] x.at))) (map mark_of ps)
    ≡ and_then true 0 (part x.at next ([] ++ up_to is_pack ps) (place_of len (from_first is_pack ps))) (parts len ps))
    → kept_behind len None (map mark_of ps) ≡ seen_parts true 0 (parts len ps)
    → kept_by len c None x (map mark_of ps) ≡ seen_parts true 0 (part_of len x ps c ++ parts len ps)
unfolding seen_parts from_first
at_front (Pack next) len x ps p h = p next
at_front Fill len x ps p h = h
at_front Primer len x ps p h = h
at_front Set len x ps p h = h
at_front Segment len x ps p h = h
at_front RandomIndex len x ps p h = h
at_front Element len x ps p h = h
at_front Other len x ps p h = h

-- what is kept of partitions is that of the file's
pub parts_seen : (len : ℕ) (ps : List Placed) → closed None (map mark_of ps) ++ closed_at len (going None (map mark_of ps)) ≡ seen_parts true 0 (parts len ps)
unfolding closed going parts seen_parts
parts_seen len [] = refl
parts_seen len (x ∷ ps) = at_front (content_of x.item) len x ps (λ next. behind len true 0 x.at next [] x.at ps) (parts_seen len ps)

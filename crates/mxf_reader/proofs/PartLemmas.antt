-- What is kept of a partition, by the definitions of OP1a.
use Rattle.std.proofs.Common.{◌≡◌, ℕ, ◌||◌, not, Bool, true, false, if◌then◌else◌, List, [], ◌∷◌, ◌++◌, filter, Option, Some, None, refl, sym, ap, ◌∙◌}
use Rattle.std.proofs.lemmas.List.Elements.{filter-append}
use Rattle.std.specs.Str.{bytes_eq}
use Rattle.mxf_names.specs.declared.keys.TheConstants.{PICTURE_ELEMENT_KEY}
use Rattle.mxf_op1a.specs.Clauses.{first_place, other_elements, places}
use Rattle.mxf_op1a.specs.Contents.{Content, Placed, content_of, is_element, is_fill, is_primer, is_segment, is_set}
use Rattle.mxf_op1a.specs.Contents.Content.{Fill, Pack, Primer, Set, Segment, RandomIndex, Element, Other}
use Rattle.mxf_op1a.specs.Partitions.{Part, being, elements, from_first}
use Rattle.mxf_partitions.specs.declared.partition.Partition.{Partition}
use Rattle.mxf_reader.specs.inner.Marks.{kind_of, mark_of}
use Rattle.mxf_reader.specs.inner.Parts.{element_place, end_next, first_of, other_place, primer_place, segment_place, segments_end, sets_end, with_item}
use Rattle.mxf_reader.specs.inner.Seen.{run_end, seen_part}
use Rattle.mxf_reader.specs.declared.mark.Kind.{Kind}
use Rattle.mxf_reader.specs.declared.mark.Kind.TheVariants.{Filler, PartitionPack, PrimerPack, MetadataSet, IndexSegment, RandomIndexPack, EssenceElement, Unknown}

-- the place of the first of some items
abbrev pub first_at : List Placed → Option ℕ
first_at items = first_place (places items)

first_joined : (xs ys : List Placed) → first_at (xs ++ ys) ≡ first_of (first_at xs) (first_at ys)
first_joined [] ys = refl
first_joined (x ∷ xs) ys = refl

-- an item that begins the rest or not, before others
from_step : (b : Bool) (x : Placed) (xs ys us vs : List Placed) (o : Option ℕ) → first_at us ≡ first_of (first_at vs) o
    → first_at (if b then x ∷ xs else us) ≡ first_of (first_at (if b then x ∷ ys else vs)) o
from_step true x xs ys us vs o h = refl
from_step false x xs ys us vs o h = h

-- the items from the first that keeps a test, and one more
pub from_more : (test : Content → Bool) (items : List Placed) (p : Placed) (o : Option ℕ) → first_at (from_first test (p ∷ [])) ≡ o
    → first_at (from_first test (items ++ p ∷ [])) ≡ first_of (first_at (from_first test items)) o
unfolding from_first
from_more test [] p o one = one
from_more test (x ∷ items) p o one =
    from_step (being test x) x (items ++ p ∷ []) items (from_first test (items ++ p ∷ [])) (from_first test items) o (from_more test items p o one)

-- an element or not
element_by : (c : Content) (p : Placed) → first_at (if is_element c then p ∷ [] else []) ≡ element_place (kind_of c) p.at
element_by Fill p = refl
element_by (Pack pack) p = refl
element_by Primer p = refl
element_by Set p = refl
element_by Segment p = refl
element_by RandomIndex p = refl
element_by Element p = refl
element_by Other p = refl

element_one : (p : Placed) → first_at (elements (p ∷ [])) ≡ element_place (kind_of (content_of p.item)) p.at
element_one p = element_by (content_of p.item) p

pub element_more : (items : List Placed) (p : Placed)
    → first_at (elements (items ++ p ∷ [])) ≡ first_of (first_at (elements items)) (element_place (kind_of (content_of p.item)) p.at)
element_more items p =
    ap first_at (filter-append (being is_element) items (p ∷ []))
    ∙ first_joined (elements items) (elements (p ∷ []))
    ∙ ap (first_of (first_at (elements items))) (element_one p)

-- one with another key or not
picture_by : (b : Bool) (p : Placed) → first_at (if not b then p ∷ [] else []) ≡ other_place b EssenceElement p.at
picture_by true p = refl
picture_by false p = refl

no_other : (b : Bool) (kind : Kind) (at : ℕ) → element_place kind at ≡ None → None ≡ other_place b kind at
no_other true kind at h = refl
no_other false kind at h = sym h

other_by : (c : Content) (p : Placed)
    → first_at (filter (λ q. not (bytes_eq q.item.key PICTURE_ELEMENT_KEY)) (if is_element c then p ∷ [] else []))
    ≡ other_place (bytes_eq p.item.key PICTURE_ELEMENT_KEY) (kind_of c) p.at
other_by Fill p = no_other (bytes_eq p.item.key PICTURE_ELEMENT_KEY) Filler p.at refl
other_by (Pack pack) p = no_other (bytes_eq p.item.key PICTURE_ELEMENT_KEY) (PartitionPack pack) p.at refl
other_by Primer p = no_other (bytes_eq p.item.key PICTURE_ELEMENT_KEY) PrimerPack p.at refl
other_by Set p = no_other (bytes_eq p.item.key PICTURE_ELEMENT_KEY) MetadataSet p.at refl
other_by Segment p = no_other (bytes_eq p.item.key PICTURE_ELEMENT_KEY) IndexSegment p.at refl
other_by RandomIndex p = no_other (bytes_eq p.item.key PICTURE_ELEMENT_KEY) RandomIndexPack p.at refl
other_by Element p = picture_by (bytes_eq p.item.key PICTURE_ELEMENT_KEY) p
other_by Other p = no_other (bytes_eq p.item.key PICTURE_ELEMENT_KEY) Unknown p.at refl

pub other_more : (items : List Placed) (p : Placed)
    → first_at (other_elements (items ++ p ∷ []))
    ≡ first_of (first_at (other_elements items)) (other_place (bytes_eq p.item.key PICTURE_ELEMENT_KEY) (kind_of (content_of p.item)) p.at)
other_more items p =
    let test : Placed → Bool = λ q. not (bytes_eq q.item.key PICTURE_ELEMENT_KEY) in
    ap (λ (xs : List Placed). first_at (filter test xs)) (filter-append (being is_element) items (p ∷ []))
    ∙ ap first_at (filter-append test (elements items) (elements (p ∷ [])))
    ∙ first_joined (other_elements items) (other_elements (p ∷ []))
    ∙ ap (first_of (first_at (other_elements items))) (other_by (content_of p.item) p)

-- a primer or not, a segment or not
primer_by : (c : Content) (p : Placed) → first_at (if is_primer c then p ∷ [] else []) ≡ primer_place (kind_of c) p.at
primer_by Fill p = refl
primer_by (Pack pack) p = refl
primer_by Primer p = refl
primer_by Set p = refl
primer_by Segment p = refl
primer_by RandomIndex p = refl
primer_by Element p = refl
primer_by Other p = refl

primer_one : (p : Placed) → first_at (from_first is_primer (p ∷ [])) ≡ primer_place (kind_of (content_of p.item)) p.at
unfolding from_first
primer_one p = primer_by (content_of p.item) p

segment_by : (c : Content) (p : Placed) → first_at (if is_segment c then p ∷ [] else []) ≡ segment_place (kind_of c) p.at
segment_by Fill p = refl
segment_by (Pack pack) p = refl
segment_by Primer p = refl
segment_by Set p = refl
segment_by Segment p = refl
segment_by RandomIndex p = refl
segment_by Element p = refl
segment_by Other p = refl

segment_one : (p : Placed) → first_at (from_first is_segment (p ∷ [])) ≡ segment_place (kind_of (content_of p.item)) p.at
unfolding from_first
segment_one p = segment_by (content_of p.item) p

-- what ends a run
sets_by : (c : Content) (p : Placed) → first_at (if not (is_set c || is_fill c) then p ∷ [] else []) ≡ sets_end (kind_of c) p.at
sets_by Fill p = refl
sets_by (Pack pack) p = refl
sets_by Primer p = refl
sets_by Set p = refl
sets_by Segment p = refl
sets_by RandomIndex p = refl
sets_by Element p = refl
sets_by Other p = refl

sets_one : (p : Placed) → first_at (from_first (λ content. not (is_set content || is_fill content)) (p ∷ [])) ≡ sets_end (kind_of (content_of p.item)) p.at
unfolding from_first
sets_one p = sets_by (content_of p.item) p

segments_by : (c : Content) (p : Placed) → first_at (if not (is_segment c || is_fill c) then p ∷ [] else []) ≡ segments_end (kind_of c) p.at
segments_by Fill p = refl
segments_by (Pack pack) p = refl
segments_by Primer p = refl
segments_by Set p = refl
segments_by Segment p = refl
segments_by RandomIndex p = refl
segments_by Element p = refl
segments_by Other p = refl

segments_one : (p : Placed)
    → first_at (from_first (λ content. not (is_segment content || is_fill content)) (p ∷ [])) ≡ segments_end (kind_of (content_of p.item)) p.at
unfolding from_first
segments_one p = segments_by (content_of p.item) p

end_first : (at : ℕ) (e o : Option ℕ) → end_next (Some at) e o ≡ first_of e o
end_first at None o = refl
end_first at (Some end) o = refl

run_one : (b : Bool) (goes : Content → Bool) (p : Placed) → run_end goes (if b then p ∷ [] else []) ≡ None
unfolding from_first
run_one true goes p = refl
run_one false goes p = refl

end_step : (b : Bool) (goes : Content → Bool) (x : Placed) (xs ys us vs : List Placed) (o : Option ℕ)
    → run_end goes (x ∷ xs) ≡ first_of (run_end goes (x ∷ ys)) o → run_end goes us ≡ end_next (first_at vs) (run_end goes vs) o
    → run_end goes (if b then x ∷ xs else us) ≡ end_next (first_at (if b then x ∷ ys else vs)) (run_end goes (if b then x ∷ ys else vs)) o
end_step true goes x xs ys us vs o head h = head ∙ sym (end_first x.at (run_end goes (x ∷ ys)) o)
end_step false goes x xs ys us vs o head h = h

-- where a run ends, with one more item
end_more : (goes test : Content → Bool) (items : List Placed) (p : Placed) (o : Option ℕ)
    → first_at (from_first (λ content. not (goes content || is_fill content)) (p ∷ [])) ≡ o
    → run_end goes (from_first test (items ++ p ∷ [])) ≡ end_next (first_at (from_first test items)) (run_end goes (from_first test items)) o
unfolding from_first
end_more goes test [] p o one = run_one (being test p) goes p
end_more goes test (x ∷ items) p o one =
    end_step (being test x) goes x (items ++ p ∷ []) items (from_first test (items ++ p ∷ [])) (from_first test items) o
    (from_more (λ content. not (goes content || is_fill content)) items p o one)
    (end_more goes test items p o one)

-- a partition
abbrev pub part : ℕ → Partition → List Placed → ℕ → Part
part at pack items end = record { at = at; pack = pack; items = items; end = end }

-- what is kept of it with one more item
pub item_more : (first : Bool) (due at : ℕ) (pack : Partition) (items : List Placed) (end : ℕ) (p : Placed)
    → with_item (seen_part first due (part at pack items end)) (mark_of p) ≡ seen_part first due (part at pack (items ++ p ∷ []) end)
item_more first due at pack items end p =
    let element = sym (element_more items p) in
    let other = sym (other_more items p) in
    let primer = sym (from_more is_primer items p (primer_place (kind_of (content_of p.item)) p.at) (primer_one p)) in
    let primer_end = sym (end_more is_set is_primer items p (sets_end (kind_of (content_of p.item)) p.at) (sets_one p)) in
    let segment = sym (from_more is_segment items p (segment_place (kind_of (content_of p.item)) p.at) (segment_one p)) in
    let segment_end = sym (end_more is_segment is_segment items p (segments_end (kind_of (content_of p.item)) p.at) (segments_one p)) in
    λ i. record {
      at = at;
      pack = pack;
      is_first = first;
      due = due;
      element = element i;
      other = other i;
      primer = primer i;
      primer_end = primer_end i;
      segment = segment i;
      segment_end = segment_end i;
      end = end;
    }

-- The places of elements in the essence stream, where elements stand only in bodies.
use Rattle.std.proofs.Common.{◌≡◌, ℕ, ◌+◌, true, false, List, [], ◌∷◌, ◌++◌, map, None, refl, ap, ap₂, ◌∙◌}
use Rattle.std.specs.List.{flat_map}
use Rattle.mxf_op1a.specs.Clauses.{broken_6, first_place, lacking, offset_in, other_elements, places, stream_offsets}
use Rattle.mxf_op1a.specs.Contents.{Placed, is_pack}
use Rattle.mxf_op1a.specs.Partitions.{File, Part, all_but_last, elements, file_of, last_of, parts, stream_len, up_to}
use Rattle.mxf_reader.specs.inner.Seen.{part_streams, streams_in}

-- no first place, no places
no_place : (places : List ℕ) → first_place places ≡ None → places ≡ []
no_place [] e = refl
no_place (place ∷ places) e = absurd (cc)

-- where nothing is joined, both parts are empty
both_empty : (xs ys : List ℕ) → xs ++ ys ≡ [] → (xs ≡ []) × (ys ≡ [])
both_empty [] ys e = (refl, e)
both_empty (x ∷ xs) ys e = absurd (cc)

-- no places, no items
no_items : (items : List Placed) → places items ≡ [] → items ≡ []
no_items [] e = refl
no_items (p ∷ ps) e = absurd (cc)

-- the places of partitions' elements
abbrev all_places : List Part → List ℕ
all_places all = flat_map (λ part. places (elements part.items)) all

-- no elements stand before all packs, in the header or in the footer
record StandInBodies (front : List Placed) (file : File) : Type 0 where
  none_before : elements front ≡ []
  none_in_header : all_places file.header ≡ []
  none_in_footer : all_places file.footer ≡ []

-- so it is where clause 6 is kept
stand_in_bodies : (len : ℕ) (front : List Placed) (file : File) → broken_6 len front file ≡ None → StandInBodies front file
stand_in_bodies len front file e =
    let before : List ℕ = places (elements front) in
    let header : List ℕ = all_places file.header in
    let others : List ℕ = flat_map (λ body. places (other_elements body.items)) file.bodies in
    let footer : List ℕ = all_places file.footer in
    let all = both_empty (before ++ header ++ others ++ footer) (lacking len file.bodies) (no_place _ e) in
    let most = both_empty (before ++ header ++ others) footer all.0 in
    let first = both_empty before header (both_empty (before ++ header) others most.0).0 in
    record { none_before = no_items (elements front) first.0; none_in_header = first.1; none_in_footer = most.1 }

-- one partition has none
one_empty : (part : Part) → all_places (part ∷ []) ≡ [] → elements part.items ≡ []
one_empty part e = no_items (elements part.items) (both_empty (places (elements part.items)) [] e).0

-- the streams of the bodies, where the footer has no elements
body_streams : (due : ℕ) (part : Part) (rest : List Part) → elements (last_of part rest).items ≡ []
    → part_streams false due (part ∷ rest) ≡ stream_offsets due (all_but_last part rest)
unfolding part_streams last_of all_but_last stream_offsets
body_streams due part [] e = ap (λ (items : List Placed). map (offset_in part due) items ++ []) e
body_streams due part (next ∷ rest) e =
    ap (λ (offsets : List ℕ). map (offset_in part due) (elements part.items) ++ offsets) (body_streams (due + stream_len part) next rest e)

-- the streams of all partitions, where neither header nor footer has elements
file_streams : (all : List Part) → all_places (file_of all).header ≡ [] → all_places (file_of all).footer ≡ []
    → part_streams true 0 all ≡ stream_offsets 0 (file_of all).bodies
unfolding part_streams stream_offsets
file_streams [] header footer = refl
file_streams (first ∷ []) header footer = ap (λ (items : List Placed). map (offset_in first 0) items ++ []) (one_empty first header)
file_streams (first ∷ next ∷ rest) header footer =
    ap₂ (λ (items : List Placed) (offsets : List ℕ). map (offset_in first 0) items ++ offsets) (one_empty first header)
    (body_streams 0 next rest (one_empty (last_of next rest) footer))

-- the streams of all elements are those of the bodies'
pub element_streams : (len : ℕ) (items : List Placed) → broken_6 len (up_to is_pack items) (file_of (parts len items)) ≡ None
    → streams_in len items ≡ stream_offsets 0 (file_of (parts len items)).bodies
element_streams len items e =
    let all : List Part = parts len items in
    let stand = stand_in_bodies len (up_to is_pack items) (file_of all) e in
    ap (λ (before : List Placed). map (λ p. 0) before ++ part_streams true 0 all) stand.none_before ∙ file_streams all stand.none_in_header stand.none_in_footer

-- What packs, index entries and places name stands where they say.
use Rattle.std.proofs.Common.{◌≡◌, ℕ, ◌+◌, ◌-◌, ◌*◌, ◌%◌, ◌<◌, ◌≤◌, List, [], ◌∷◌, ◌++◌}
use Rattle.std.proofs.Common.{length, take, drop, map, get_or, refl, sym, ap, ap₂, ◌∙◌, arith, append_assoc, append-nil}
use Rattle.std.specs.List.{range_with_len}
use Rattle.std.proofs.lemmas.Bool.{ne_eqb}
use Rattle.std.proofs.lemmas.List.{length-append, take_all, drop_at}
use Rattle.std.proofs.lemmas.List.Concat.{flat_map-append}
use Rattle.rec_bytes.specs.Configuration.{Fields}
use Rattle.rec_bytes.specs.Ranges.{IsInRange}
use Rattle.klv.specs.Items.{klv_head}
use Rattle.mxf_names.specs.Picture.{picture_element}
use Rattle.mxf_names.specs.declared.keys.TheConstants.{PICTURE_ELEMENT_KEY}
use Rattle.mxf_take_file.specs.Essence.{essence, offsets_behind, stream_offsets}
use Rattle.mxf_take_file.specs.Extents.{extents, file_len, body_count}
use Rattle.mxf_take_file.specs.Layout.{growing, lead, lead_of, start_of}
use Rattle.mxf_take_file.specs.Packs.{body_pack, footer_pack, pack_entries, entry}
use Rattle.mxf_names.specs.declared.streams.TheConstants.{ESSENCE_STREAM}
use Rattle.mxf_partitions.specs.declared.random_index.PackEntry.{PackEntry}
use Rattle.mxf_take_file.specs.laws.Joins.{last_is}
use Rattle.mxf_take_file.specs.laws.Lengths.{length_head}
use Rattle.mxf_take_file.specs.laws.Parts.{growing_len}

-- the extents end where the growing file does
end_is : (cfg : Fields) (units : List (List ℕ)) → IsInRange cfg → file_len cfg.part (take (length units) units) ≡ length (growing cfg units)
end_is cfg units h = ap (file_len cfg.part) (take_all (length units) units (omega arith)) ∙ sym (growing_len cfg units h)

-- a body partition's pack stands where it says
pub body_this : (cfg : Fields) (units : List (List ℕ)) → IsInRange cfg → (body_pack cfg (extents cfg.part units)).this ≡ length (growing cfg units)
unfolding body_pack
body_this cfg units h = end_is cfg units h

-- so does the footer's, which names itself
pub footer_this : (cfg : Fields) (units : List (List ℕ)) → IsInRange cfg
    → ((footer_pack cfg (extents cfg.part units)).this ≡ length (growing cfg units))
    × ((footer_pack cfg (extents cfg.part units)).footer ≡ length (growing cfg units))
unfolding footer_pack
footer_this cfg units h = (end_is cfg units h, end_is cfg units h)

-- a body partition's pack names the one part units before
pub body_previous : (cfg : Fields) (units : List (List ℕ)) → IsInRange cfg → cfg.part ≤ length units
    → (body_pack cfg (extents cfg.part units)).previous ≡ length (growing cfg (take (length units - cfg.part) units))
unfolding body_pack
body_previous cfg units h some =
    let least = h.part.least in
    let units_are : length units ≡ 0 → ⊥ = λ (q : length units ≡ 0). omega arith in
    rw (ne_eqb (length units) 0 units_are) (sym (growing_len cfg (take (length units - cfg.part) units) h))

-- so does the footer's the one of the last units
pub footer_previous : (cfg : Fields) (units : List (List ℕ)) (first : ℕ) → IsInRange cfg → first % cfg.part ≡ 0 → first < length units
    → length units ≤ first + cfg.part
    → (footer_pack cfg (extents cfg.part units)).previous ≡ length (growing cfg (take first units))
unfolding footer_pack
footer_previous cfg units first h even below above =
    let units_are : length units ≡ 0 → ⊥ = λ (q : length units ≡ 0). omega arith in
    let is : (body_count cfg.part (length units) - 1) * cfg.part ≡ first = last_is cfg.part (length units) first h.part.least even below above in
    rw (ne_eqb (length units) 0 units_are, is) (sym (growing_len cfg (take first units) h))

-- the first body partition's pack names the header's
pub body_first : (cfg : Fields) → (body_pack cfg (extents cfg.part [])).previous ≡ 0
unfolding body_pack
body_first cfg = refl

-- a body partition's pack stands behind so many bytes of essence
pub body_offset_is : (cfg : Fields) (units : List (List ℕ)) → (body_pack cfg (extents cfg.part units)).body_offset ≡ length (essence units)
unfolding body_pack
body_offset_is cfg units = refl

-- where there are no units it names the header's
pub footer_first : (cfg : Fields) → (footer_pack cfg (extents cfg.part [])).previous ≡ 0
unfolding footer_pack
footer_first cfg = refl

-- the random index pack names the header at 0, each body partition where the file of the units before it ends, and the footer
-- where the growing file ends
pub entries_are : (cfg : Fields) (units : List (List ℕ)) → IsInRange cfg
    → pack_entries cfg (extents cfg.part units)
    ≡ entry 0 0 ∷ map (λ n. entry ESSENCE_STREAM (length (growing cfg (take (n * cfg.part) units)))) (range_with_len 0 (body_count cfg.part (length units)))
    ++ entry 0 (length (growing cfg units)) ∷ []
unfolding pack_entries
entries_are cfg units h =
    let ends : (k : ℕ) → file_len cfg.part (take k units) ≡ length (growing cfg (take k units)) = λ k. sym (growing_len cfg (take k units) h) in
    let bodies : (k first : ℕ) → map (λ n. entry ESSENCE_STREAM (file_len cfg.part (take (n * cfg.part) units))) (range_with_len first k)
    ≡ map (λ n. entry ESSENCE_STREAM (length (growing cfg (take (n * cfg.part) units)))) (range_with_len first k) =
    λ k first. ap (λ (at : ℕ → ℕ). map (λ n. entry ESSENCE_STREAM (at (n * cfg.part))) (range_with_len first k)) (λ i n. ends n i) in
    ap₂ (λ (middle : List PackEntry) (last : ℕ). entry 0 0 ∷ middle ++ entry 0 last ∷ []) (bodies (body_count cfg.part (length units)) 0) (end_is cfg units h)

-- an element stands at its stream offset in the essence stream
pub element_stands : (units : List (List ℕ)) (unit : List ℕ) (more : List (List ℕ))
    → drop (length (essence units)) (essence (units ++ unit ∷ more)) ≡ picture_element unit ++ essence more
element_stands units unit more =
    ap (λ (bytes : List ℕ). drop (length (essence units)) bytes) (flat_map-append picture_element units (unit ∷ more))
    ∙ drop_at (essence units) (picture_element unit ++ essence more) (length (essence units)) refl

-- the offset of a unit behind others
offset_behind : (before units : List (List ℕ)) (unit : List ℕ) (more : List (List ℕ))
    → get_or (offsets_behind before (units ++ unit ∷ more)) (length units) 0 ≡ length (essence (before ++ units))
unfolding offsets_behind
offset_behind before [] unit more = ap (λ (us : List (List ℕ)). length (essence us)) (sym (append-nil before))
offset_behind before (first ∷ units) unit more =
    offset_behind (before ++ first ∷ []) units unit more ∙ ap (λ (us : List (List ℕ)). length (essence us)) (append_assoc before (first ∷ []) units)

-- that offset is the one in the index
pub offset_is : (units : List (List ℕ)) (unit : List ℕ) (more : List (List ℕ))
    → get_or (stream_offsets (units ++ unit ∷ more)) (length units) 0 ≡ length (essence units)
offset_is units unit more = offset_behind [] units unit more

-- the element's key and length stand in the 24 bytes before a unit's place
pub key_before : (cfg : Fields) (units : List (List ℕ)) (n : ℕ)
    → drop (length (growing cfg units ++ lead cfg units n) - 24) (growing cfg units ++ lead cfg units n) ≡ klv_head PICTURE_ELEMENT_KEY 7 n
unfolding lead_of
key_before cfg units n =
    let front : List ℕ = growing cfg units ++ start_of cfg (extents cfg.part units) in
    let last : List ℕ = klv_head PICTURE_ELEMENT_KEY 7 n in
    let parts : growing cfg units ++ lead cfg units n ≡ front ++ last = sym (append_assoc (growing cfg units) (start_of cfg (extents cfg.part units)) last) in
    let long : length (front ++ last) - 24 ≡ length front = omega (arith, length-append front last, length_head n) in
    ap (λ (bytes : List ℕ). drop (length bytes - 24) bytes) parts ∙ ap (λ (k : ℕ). drop k (front ++ last)) long ∙ drop_at front last (length front) refl

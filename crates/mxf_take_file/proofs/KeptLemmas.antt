-- What the last of the places tells.
use Rattle.std.proofs.Common.{◌≡◌, ℕ, ◌+◌, ◌-◌, ◌<◌, ◌≤◌, zero, suc, List, [], ◌∷◌, length, take, get_or, refl, sym, ap, ◌∙◌, arith}
use Rattle.std.proofs.lemmas.List.{take_all}
use Rattle.take_layout.specs.declared.place.Place.{Place}
use Rattle.mxf_take_file.specs.inner.Kept.{end_behind, total_behind}
use Rattle.mxf_take_file.specs.declared.lead.TheConstants.{HEADER_LEN}

-- the end of the first units is that of the last of them
pub end_of_last : (places : List Place) (end n : ℕ) (d : Place) → n < length places → end_behind end (take (n + 1) places) ≡ (get_or places n d).at + (get_or places n d).len
unfolding end_behind
end_of_last [] end n d h = absurd (omega arith)
end_of_last (place ∷ places) end zero d h = refl
end_of_last (place ∷ places) end (suc n) d h =
    let e : suc n + 1 ≡ suc (n + 1) = omega arith in
    ap (λ (k : ℕ). end_behind end (take k (place ∷ places))) e ∙ end_of_last places (place.at + place.len) n d (omega arith)

-- so is the essence stream's
total_of_last : (places : List Place) (total n : ℕ) (d : Place) → n < length places → total_behind total (take (n + 1) places) ≡ (get_or places n d).stream + (24 + (get_or places n d).len)
unfolding total_behind
total_of_last [] total n d h = absurd (omega arith)
total_of_last (place ∷ places) total zero d h = refl
total_of_last (place ∷ places) total (suc n) d h =
    let e : suc n + 1 ≡ suc (n + 1) = omega arith in
    ap (λ (k : ℕ). total_behind total (take k (place ∷ places))) e ∙ total_of_last places (place.stream + (24 + place.len)) n d (omega arith)

-- that of all units
pub total_of_all : (places : List Place) (d : Place) → 0 < length places
    → total_behind 0 places ≡ (get_or places (length places - 1) d).stream + (24 + (get_or places (length places - 1) d).len)
total_of_all places d h =
    let last : length places ≤ length places - 1 + 1 = omega arith in
    ap (λ (ps : List Place). total_behind 0 ps) (sym (take_all (length places - 1 + 1) places last)) ∙ total_of_last places 0 (length places - 1) d (omega arith)

-- where the first so many units end, of which there are some
pub end_of_some : (places : List Place) (count : ℕ) (d : Place) → (count ≡ 0 → ⊥) → count ≤ length places
    → (get_or places (count - 1) d).at + (get_or places (count - 1) d).len ≡ end_behind HEADER_LEN (take count places)
end_of_some places count d some h =
    let e : count - 1 + 1 ≡ count = omega arith in
    sym (end_of_last places HEADER_LEN (count - 1) d (omega arith)) ∙ ap (λ (n : ℕ). end_behind HEADER_LEN (take n places)) e

-- where none of them end
pub end_of_none : (places : List Place) (count : ℕ) → count ≡ 0 → HEADER_LEN ≡ end_behind HEADER_LEN (take count places)
unfolding end_behind
end_of_none places count none = rw none refl

-- the essence stream of no units
pub total_of_none : (places : List Place) → length places ≡ 0 → 0 ≡ total_behind 0 places
unfolding total_behind
total_of_none [] h = refl
total_of_none (place ∷ places) h = absurd (omega arith)

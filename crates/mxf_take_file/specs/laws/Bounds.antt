-- Bounds on what the layout writes and on the places that are kept.
use Rattle.std.proofs.Common.{◌≡◌, ℕ, ◌+◌, ◌-◌, ◌*◌, ◌%◌, ◌^◌, ◌≤◌, zero, suc, List, [], ◌∷◌, ◌++◌, length, sym, ap, subst, ◌∙◌, inl, inr, arith}
use Rattle.std.specs.List.{All, AllByRecursion}
use Rattle.std.proofs.lemmas.List.Elements.{All-from_recursion, recursion_from_All}
use Rattle.std.proofs.lemmas.Bool.{cases_eq, ne_eqb, eq-eqb}
use Rattle.std.proofs.lemmas.List.{length-append}
use Rattle.rec_bytes.specs.Configuration.{Fields}
use Rattle.rec_bytes.specs.Ranges.{IsInRange}
use Rattle.take_layout.specs.Takes.{IsTake}
use Rattle.take_layout.specs.declared.place.Place.{Place}
use Rattle.mxf_take_file.specs.Essence.{essence}
use Rattle.mxf_take_file.specs.Extents.{extents, body_count, segment_bytes}
use Rattle.take_layout.specs.Grown.{grown, lying_behind}
use Rattle.mxf_take_file.specs.inner.Kept.{IsSmall, AreSmall}
use Rattle.mxf_take_file.specs.Layout.{head, lead, lead_most, tail, tail_most, places_of, is_unit}
use Rattle.mxf_take_file.specs.Segments.{segment_size, last_first}
use Rattle.mxf_take_file.specs.laws.Counts.{count_few, count_grows, last_few}
use Rattle.mxf_take_file.specs.laws.Lengths.{partition_len, essence_more}
use Rattle.take_layout.specs.laws.Grown.{grown_more, grown_none, lying_count}
use Rattle.mxf_take_file.specs.laws.Units.{essence_len}
use Rattle.mxf_take_file.specs.laws.Parts.{extents_whole, lead_len_is, tail_len_is, head_len_is}

-- a body partition has at most a pack and a whole segment
partition_most : (part n : ℕ) → partition_len part n ≤ 124 + segment_bytes part
partition_most part n = elim (cases_eq (n % part) 0) [
  | inl even ↦ elim (cases_eq n 0) [
    | inl none ↦ rw (eq-eqb (n % part) 0 even, eq-eqb n 0 none) (omega arith)
    | inr some ↦ rw (eq-eqb (n % part) 0 even, ne_eqb n 0 some) (omega arith)
  ]
  | inr stays ↦ rw (ne_eqb (n % part) 0 stays) (omega arith)
]

-- a segment has at most as many bytes as one of more entries
segment_most : (n most : ℕ) → n ≤ most → segment_size n ≤ segment_bytes most
segment_most zero most h = omega arith
segment_most (suc n) most h = let p : suc n ≡ 0 → ⊥ = λ (q : suc n ≡ 0). omega arith in rw (ne_eqb (suc n) 0 p) (omega arith)

-- a lead has at most the room that is stated
pub lead_fits : (cfg : Fields) (units : List (List ℕ)) (n : ℕ) → IsInRange cfg → length (lead cfg units n) ≤ lead_most cfg
lead_fits cfg units n h =
    omega (arith, lead_len_is cfg (extents cfg.part units) n (extents_whole cfg.part units) h.part.least, partition_most cfg.part (length units))

-- so has a tail
pub tail_fits : (cfg : Fields) (units : List (List ℕ)) → IsInRange cfg → length units ≤ cfg.max_frames → length (tail cfg units) ≤ tail_most cfg
tail_fits cfg units h few =
    let more : length units + (cfg.max_frames - length units) ≡ cfg.max_frames = omega arith in
    let grows : body_count cfg.part (length units) ≤ body_count cfg.part cfg.max_frames =
    subst (λ (n : ℕ). body_count cfg.part (length units) ≤ body_count cfg.part n) more
    (count_grows cfg.part (length units) (cfg.max_frames - length units) h.part.least) in
    omega (
      arith,
      tail_len_is cfg (extents cfg.part units) (extents_whole cfg.part units) h,
      grows,
      segment_most (length units - last_first cfg (extents cfg.part units)) cfg.part (last_few cfg.part (length units) h.part.least),
    )

-- the rooms are small
pub rooms_fit : (cfg : Fields) → IsInRange cfg → (lead_most cfg ≤ 2 ^ 32) × (tail_most cfg ≤ 2 ^ 32)
rooms_fit cfg h =
    let part = h.part.most in let frames = h.max_frames.most in
    (omega arith, omega (arith, count_few cfg.part cfg.max_frames h.part.least))

-- a head has bytes, and not many
pub head_fits : (cfg : Fields) → IsInRange cfg → (1 ≤ length (head cfg)) × (length (head cfg) ≤ 2 ^ 32)
head_fits cfg h = let long = head_len_is cfg h in (omega arith, omega arith)

-- the places of units behind others are small
lying_small : (head : List ℕ) (lead : List (List ℕ) → ℕ → List ℕ) (before units : List (List ℕ))
    → ((us : List (List ℕ)) (n : ℕ) → length (lead us n) ≤ 2 ^ 20) → length before + length units ≤ 1000000
    → AllByRecursion (λ (unit : List ℕ). length unit ≤ 2 ^ 28) units
    → length (grown head lead before) ≤ 4096 + length before * 2 ^ 29 → length (essence before) ≤ length before * 2 ^ 29
    → AllByRecursion IsSmall (lying_behind essence_len head lead before units)
unfolding lying_behind
lying_small head lead before [] leads few each file stream = tt
lying_small head lead before (unit ∷ units) leads few each file stream =
    let one = leads before (length unit) in
    let small : length unit ≤ 2 ^ 28 = each.0 in
    let long : length (before ++ unit ∷ []) ≡ length before + 1 = length-append before (unit ∷ []) in
    let at : length (grown head lead before ++ lead before (length unit)) ≡ length (grown head lead before) + length (lead before (length unit)) =
    length-append (grown head lead before) (lead before (length unit)) in
    let next : length (grown head lead (before ++ unit ∷ [])) ≡ length (grown head lead before) + (length (lead before (length unit)) + length unit) =
    ap length (grown_more head lead before unit) ∙ length-append (grown head lead before) (lead before (length unit) ++ unit)
    ∙ ap (λ (n : ℕ). length (grown head lead before) + n) (length-append (lead before (length unit)) unit) in
    let further = essence_more before unit in (
      record { file = omega arith; stream = omega arith },
      lying_small head lead (before ++ unit ∷ []) units leads (omega arith) each.1 (omega arith) (omega arith),
    )

-- the growing file of no units is the head
grown_none_len : (cfg : Fields) → IsInRange cfg → length (grown (head cfg) (lead cfg) []) ≡ 3289
grown_none_len cfg h = ap length (grown_none (head cfg) (lead cfg)) ∙ head_len_is cfg h

-- the places of a take are small
pub take_is_small : (cfg : Fields) (most : ℕ) (places : List Place) → IsInRange cfg → most ≤ cfg.max_frames → IsTake (is_unit cfg) (places_of cfg) most places
    → AreSmall places
take_is_small cfg most places h few t =
    let units : List (List ℕ) = t.units in
    let part = h.part.most in
    let frames = h.max_frames.most in
    let leads : (us : List (List ℕ)) (n : ℕ) → length (lead cfg us n) ≤ 2 ^ 20 = λ us n. omega (arith, lead_fits cfg us n h) in
    let count = t.are_units.few in
    let start : length (grown (head cfg) (lead cfg) []) ≤ 4096 + 0 * 2 ^ 29 = omega (arith, grown_none_len cfg h) in
    let small = lying_small (head cfg) (lead cfg) [] units leads (omega arith)
    (recursion_from_All (λ (unit : List ℕ). length unit ≤ 2 ^ 28) units t.are_units.each) start (omega arith) in
    record {
      each = subst (λ (ps : List Place). All IsSmall ps) (sym t.lie) (All-from_recursion IsSmall (places_of cfg units) small);
      few = omega (arith, ap length t.lie, lying_count essence_len (head cfg) (lead cfg) [] units);
    }

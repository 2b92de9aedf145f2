-- The numbers of a take's file are small.
use Rattle.std.proofs.Common.{◌≡◌, ℕ, zero, suc, ◌+◌, ◌-◌, ◌*◌, ◌^◌, ◌<◌, ◌≤◌, List, [], ◌∷◌, ◌++◌, length, drop}
use Rattle.std.proofs.Common.{take, get_or, sym, ap, subst, inl, inr, arith, append_assoc, append-nil, length-append}
use Rattle.std.proofs.lemmas.Bool.{cases_eq, eq-eqb, ne_eqb}
use Rattle.std.proofs.lemmas.Nat.{mul-le}
use Rattle.std.proofs.lemmas.List.{get_or-drop}
use Rattle.std.proofs.lemmas.List.{length-drop}
use Rattle.std.proofs.lemmas.List.Concat.{flat_map-append}
use Rattle.std.specs.List.{AllByRecursion}
use Rattle.mxf_names.specs.Picture.{picture_element}
use Rattle.mxf_index.specs.Reads.{AreFrames}
use Rattle.mxf_take_file.specs.laws.Parts.{offsets_are}
use Rattle.mxf_take_op1a.proofs.ReadBack.{frames_from}
use Rattle.rec_bytes.specs.Configuration.{Fields}
use Rattle.rec_bytes.specs.Ranges.{IsInRange}
use Rattle.mxf_take_file.specs.Essence.{essence, offsets_behind, stream_offsets}
use Rattle.mxf_take_file.specs.Extents.{file_len, body_count, segment_bytes}
use Rattle.mxf_take_file.specs.Segments.{segment_size}
use Rattle.mxf_take_file.specs.laws.Counts.{count_few}
use Rattle.mxf_take_file.specs.laws.Lengths.{essence_more}
use Rattle.mxf_take_op1a.proofs.Shapes.{Units}

-- units that a take may have
pub record AreSmall (units : Units) : Type 0 where
  pub each : AllByRecursion (λ unit. length unit ≤ 2 ^ 28) units
  pub few : length units ≤ 1000000

pub each_front : {X : Type 0} (P : X → Type 0) (xs ys : List X) → AllByRecursion P (xs ++ ys) → AllByRecursion P xs
each_front P [] ys h = tt
each_front P (x ∷ xs) ys h = (h.0, each_front P xs ys h.1)

pub each_join : {X : Type 0} (P : X → Type 0) (xs ys : List X) → AllByRecursion P xs → AllByRecursion P ys → AllByRecursion P (xs ++ ys)
each_join P [] ys h k = k
each_join P (x ∷ xs) ys h k = (h.0, each_join P xs ys h.1 k)

each_take : {X : Type 0} (P : X → Type 0) (n : ℕ) (xs : List X) → AllByRecursion P xs → AllByRecursion P (take n xs)
each_take P zero xs h = tt
each_take P (suc n) [] h = tt
each_take P (suc n) (x ∷ xs) h = (h.0, each_take P n xs h.1)

pub each_drop : {X : Type 0} (P : X → Type 0) (n : ℕ) (xs : List X) → AllByRecursion P xs → AllByRecursion P (drop n xs)
each_drop P zero xs h = h
each_drop P (suc n) [] h = tt
each_drop P (suc n) (x ∷ xs) h = each_drop P n xs h.1

taken_few : {X : Type 0} (n : ℕ) (xs : List X) → length (take n xs) ≤ length xs
taken_few zero xs = omega arith
taken_few (suc n) [] = omega arith
taken_few (suc n) (x ∷ xs) = omega (arith, taken_few n xs)

pub small_take : (n : ℕ) (units : Units) → AreSmall units → AreSmall (take n units)
small_take n units h = record {
  each = each_take (λ (unit : List ℕ). length unit ≤ 2 ^ 28) n units h.each;
  few = omega (arith, h.few, taken_few n units);
}

pub small_front : (all before rest : Units) → before ++ rest ≡ all → AreSmall all → AreSmall before
small_front all before rest e h = record {
  each = each_front (λ (unit : List ℕ). length unit ≤ 2 ^ 28) before rest (subst (AllByRecursion (λ (unit : List ℕ). length unit ≤ 2 ^ 28)) (sym e) h.each);
  few = omega (arith, h.few, ap length e, length-append before rest);
}

-- elements behind others
essence_behind : (before units : Units) → AllByRecursion (λ unit. length unit ≤ 2 ^ 28) units
    → length (essence (before ++ units)) ≤ length (essence before) + length units * 2 ^ 29
essence_behind before [] h = omega (arith, ap (λ (us : Units). length (essence us)) (append-nil before))
essence_behind before (unit ∷ units) h =
    let one : length unit ≤ 2 ^ 28 = h.0 in
    omega (
      arith,
      one,
      essence_more before unit,
      essence_behind (before ++ unit ∷ []) units h.1,
      ap (λ (us : Units). length (essence us)) (append_assoc before (unit ∷ []) units),
    )

pub essence_small : (units : Units) → AreSmall units → length (essence units) ≤ 2 ^ 52
essence_small units h = omega (arith, h.few, essence_behind [] units h.each)

-- the growing file of units
pub file_small : (cfg : Fields) (units : Units) → IsInRange cfg → AreSmall units → file_len cfg.part units ≤ 2 ^ 56
file_small cfg units h small =
    let part = h.part.most in
    let few = small.few in
    let count = count_few cfg.part (length units) h.part.least in
    let segments : (body_count cfg.part (length units) - 1) * segment_bytes cfg.part ≤ 1000000 * 30000 =
    mul-le (body_count cfg.part (length units) - 1) (segment_bytes cfg.part) 1000000 30000 (omega arith) (omega arith) in
    omega (arith, segments, count, few, essence_small units small)

-- a segment of few entries
pub segment_small : (n : ℕ) → n ≤ 2000 → segment_size n ≤ 30000
segment_small n h = elim (cases_eq n 0) [
  | inl none ↦ rw (eq-eqb n 0 none) (omega arith)
  | inr some ↦ rw (ne_eqb n 0 some) (omega arith)
]

-- units behind others have no less
essence_front : (xs ys : Units) → length (essence xs) ≤ length (essence (xs ++ ys))
essence_front xs ys = omega (arith, ap length (flat_map-append picture_element xs ys), length-append (essence xs) (essence ys))

-- stream offsets are small, and rise
offsets_fit : (before units : Units) → length (essence (before ++ units)) ≤ 2 ^ 52 → AllByRecursion (λ stream. stream < 2 ^ 64) (offsets_behind before units)
unfolding offsets_behind
offsets_fit before [] h = tt
offsets_fit before (unit ∷ units) h =
    let whole : (before ++ unit ∷ []) ++ units ≡ before ++ (unit ∷ units) = append_assoc before (unit ∷ []) units in
    let more : length (essence ((before ++ unit ∷ []) ++ units)) ≤ 2 ^ 52 = omega (arith, h, ap (λ (us : Units). length (essence us)) whole) in
    (omega (arith, h, essence_front before (unit ∷ units)), offsets_fit (before ++ unit ∷ []) units more)

offsets_rise : (before units : Units) (k : ℕ) → k + 1 < length (offsets_behind before units)
    → get_or (offsets_behind before units) k 0 < get_or (offsets_behind before units) (k + 1) 0
unfolding offsets_behind
offsets_rise before [] k h = absurd (omega arith)
offsets_rise before (unit ∷ []) k h = absurd (omega arith)
offsets_rise before (unit ∷ next ∷ units) zero h = omega (arith, essence_more before unit)
offsets_rise before (unit ∷ next ∷ units) (suc k) h =
    let later = offsets_rise (before ++ unit ∷ []) (next ∷ units) k (omega arith) in
    let place : suc k + 1 ≡ suc (k + 1) = omega arith in
    omega (arith, later, ap (λ (n : ℕ). get_or (offsets_behind before (unit ∷ next ∷ units)) n 0) place)

-- the frames of a segment of a take
pub are_frames : (units : Units) (first : ℕ) → AreSmall units → first ≤ length units → length units ≤ first + 2000
    → AreFrames (frames_from first (drop first (stream_offsets units)))
are_frames units first small within few =
    let streams : List ℕ = stream_offsets units in
    record {
      number = omega (arith, small.few, within);
      few = omega (arith, length-drop first streams, offsets_are units, few);
      fit = each_drop (λ (stream : ℕ). stream < 2 ^ 64) first streams (offsets_fit [] units (essence_small units small));
      rise = λ k h.
          let long : first + k + 1 < length streams = omega (arith, length-drop first streams) in
          let one = get_or-drop first streams k 0 in
          let two = get_or-drop first streams (k + 1) 0 in
          let same : first + k + 1 ≡ first + (k + 1) = omega arith in
          omega (arith, offsets_rise [] units (first + k) long, one, two, ap (λ (n : ℕ). get_or streams n 0) same);
    }

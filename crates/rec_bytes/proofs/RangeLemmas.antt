-- The ranges that a configuration's rules give.
use Rattle.std.proofs.Common.{◌≡◌, ◌≢◌, ◌<◌, ◌^◌, length, ◌%◌, ℕ, List, [], ◌∷◌, Bool, true, zero, suc, get_or, refl, nat_le, inl, inr, ◌==◌, ◌&&◌, ◌||◌}
use Rattle.std.proofs.lemmas.Bool.{and_parts, or_cases, leb-true, eqb-true}
use Rattle.std.specs.List.{list_all}
use Rattle.rec_bytes.specs.Configuration.{Fields, field_rules, picture_rules, coding_rules, take_rules, is_config, within, is_even}
use Rattle.rec_bytes.specs.Ranges.{IsWithin, IsInRange}
use Rattle.rec_bytes.specs.declared.config_fields.TheConstants.{MAX_WIDTH, MAX_HEIGHT, MAX_INTERLACE, MAX_RATE, MAX_ASPECT, MAX_LOG2, MAX_INDEX, MAX_WEIGHTS}
use Rattle.rec_bytes.specs.declared.config_fields.TheConstants.{MAX_CODING, MAX_DROP, MAX_BUDGET, MAX_PART, MAX_FRAMES, MAX_LAG}

-- the rule at a place in a list of rules that are all kept
at_each : (rules : List (ℕ × Bool)) (n : ℕ) → list_all (λ (rule : ℕ × Bool). rule.1) rules ≡ true → (get_or rules n (0, true)).1 ≡ true
at_each [] n h = refl
at_each (rule ∷ rules) zero h = (and_parts rule.1 (list_all (λ (r : ℕ × Bool). r.1) rules) h).0
at_each (rule ∷ rules) (suc n) h = at_each rules n (and_parts rule.1 (list_all (λ (r : ℕ × Bool). r.1) rules) h).1

-- the n-th rule of a configuration
one : (f : Fields) (n : ℕ) → is_config f ≡ true → (get_or (field_rules f) n (0, true)).1 ≡ true
unfolding is_config
one f n h = at_each (field_rules f) n h

-- a test of a range
is_within : (low n high : ℕ) → within low n high ≡ true → IsWithin low n high
is_within low n high h =
    let parts : (nat_le low n ≡ true) × (nat_le n high ≡ true) = and_parts (nat_le low n) (nat_le n high) h in
    record { least = leb-true low n parts.0; most = leb-true n high parts.1 }

-- a test of a height
even_where : (mode height : ℕ) → (mode == 0 || is_even height) ≡ true → mode ≢ 0 → height % 2 ≡ 0
even_where mode height h some = elim (or_cases (mode == 0) (is_even height) h) [
  | inl progressive ↦ absurd (some (eqb-true mode 0 progressive))
  | inr even ↦ eqb-true (height % 2) 0 even
]

-- a configuration's fields are in their ranges
pub in_range : (f : Fields) → is_config f ≡ true → f.start < 2 ^ 32 → length f.take_id ≡ 16 → length f.encoder ≡ 4 → IsInRange f
unfolding field_rules picture_rules coding_rules take_rules
in_range f h start take_id encoder =
    let width_kept : (within 2 f.width MAX_WIDTH && is_even f.width) ≡ true = one f 0 h in
    let height_kept : (within 1 f.height MAX_HEIGHT && (f.interlace == 0 || is_even f.height)) ≡ true = one f 1 h in
    let interlace_kept : (nat_le f.interlace MAX_INTERLACE) ≡ true = one f 2 h in
    let rate_kept : (within 1 f.rate MAX_RATE) ≡ true = one f 3 h in
    let aspect_kept : (nat_le f.aspect MAX_ASPECT) ≡ true = one f 4 h in
    let log2_kept : (nat_le f.log2 MAX_LOG2) ≡ true = one f 5 h in
    let qmin_kept : (within 1 f.qmin MAX_INDEX) ≡ true = one f 6 h in
    let qmax_kept : (within f.qmin f.qmax MAX_INDEX) ≡ true = one f 7 h in
    let weights_kept : (nat_le f.weights MAX_WEIGHTS) ≡ true = one f 8 h in
    let coding_kept : (nat_le f.coding MAX_CODING) ≡ true = one f 9 h in
    let drop_kept : (nat_le f.drop MAX_DROP) ≡ true = one f 10 h in
    let budget_kept : (within 1 f.budget MAX_BUDGET) ≡ true = one f 11 h in
    let part_kept : (within 1 f.part MAX_PART) ≡ true = one f 12 h in
    let max_frames_kept : (within 1 f.max_frames MAX_FRAMES) ≡ true = one f 13 h in
    let lag_kept : (within 1 f.lag MAX_LAG) ≡ true = one f 14 h in
    let width_parts = and_parts (within 2 f.width MAX_WIDTH) (is_even f.width) width_kept in
    let height_parts = and_parts (within 1 f.height MAX_HEIGHT) (f.interlace == 0 || is_even f.height) height_kept in
    record {
      width = is_within 2 f.width MAX_WIDTH width_parts.0;
      width_even = eqb-true (f.width % 2) 0 width_parts.1;
      height = is_within 1 f.height MAX_HEIGHT height_parts.0;
      height_even = even_where f.interlace f.height height_parts.1;
      interlace = leb-true f.interlace MAX_INTERLACE interlace_kept;
      rate = is_within 1 f.rate MAX_RATE rate_kept;
      aspect = leb-true f.aspect MAX_ASPECT aspect_kept;
      log2 = leb-true f.log2 MAX_LOG2 log2_kept;
      qmin = is_within 1 f.qmin MAX_INDEX qmin_kept;
      qmax = is_within f.qmin f.qmax MAX_INDEX qmax_kept;
      weights = leb-true f.weights MAX_WEIGHTS weights_kept;
      coding = leb-true f.coding MAX_CODING coding_kept;
      drop = leb-true f.drop MAX_DROP drop_kept;
      budget = is_within 1 f.budget MAX_BUDGET budget_kept;
      part = is_within 1 f.part MAX_PART part_kept;
      max_frames = is_within 1 f.max_frames MAX_FRAMES max_frames_kept;
      lag = is_within 1 f.lag MAX_LAG lag_kept;
      start = start;
      take_id = take_id;
      encoder = encoder;
    }

-- One of eight blocks that stand side by side.
use Rattle.std.proofs.Common.{◌≡◌, ℕ, ◌+◌, ◌-◌, ◌*◌, ◌<◌, ◌≤◌, sym, ap, ◌∙◌, arith, ℤ, pos, List, map, slice_index}
use Rattle.std.specs.List.{range_with_len}
use Rattle.std.proofs.lemmas.List.FromFn.{get_or-map-range_with_len}
use Rattle.prores_scan.specs.declared.scans.Scan.{Scan}
use Rattle.prores_scan.specs.Scans.{place_of}
use Rattle.whole_transform.specs.Sums.{at}
use Rattle.whole_transform.specs.Transform.{IsInverseOfEach, cell, lane_cell, sample, inverse_sum}
use Rattle.slice_levels.specs.Interleaved.{entry_of}
use Rattle.slice_levels.specs.Rebuilt.{IsInverseOf}
use Rattle.slice_levels.specs.laws.PlaceLaws.{place_below}
use Rattle.slice_levels.specs.laws.SumLaws.{inverse_ext}

-- the numbers of one lane in raster order
abbrev pub lane_of : List ℤ → ℕ → List ℤ
lane_of lanes lane = map (λ p. at lanes (8 * p + lane)) (range_with_len 0 64)

at-lane_of : (lanes : List ℤ) (lane p : ℕ) → p < 64 → at (lane_of lanes lane) p ≡ at lanes (8 * p + lane)
at-lane_of lanes lane p lt = get_or-map-range_with_len (λ p. at lanes (8 * p + lane)) 0 64 p p (pos 0) lt (omega arith)

-- a sample by its row and column
lane_sample : (samples : List ℤ) (lane y x : ℕ) (block : List ℕ) → at samples (8 * (8 * y + x) + lane) ≡ pos (slice_index block (8 * y + x))
    → lane_cell samples lane y x ≡ pos (slice_index block (8 * y + x))
lane_sample samples lane y x block e =
    let place : 64 * y + (8 * x + lane) ≡ 8 * (8 * y + x) + lane = omega arith in
    ap (at samples) place ∙ e

-- the block of a lane's samples is that of its products
pub inverse_of_lane : (scan : Scan) (count b lane : ℕ) (products lanes samples : List ℤ) (block : List ℕ)
    → lane < 8 → IsInverseOfEach lanes samples
    → ((k : ℕ) → k < 64 → at lanes (8 * place_of scan k + lane) ≡ at products (entry_of count k b))
    → ((p : ℕ) → p < 64 → at samples (8 * p + lane) ≡ pos (slice_index block p))
    → IsInverseOf scan count products b block
inverse_of_lane scan count b lane products lanes samples block lane_lt each put taken = record {
  raster = lane_of lanes lane;
  ordered = λ k lt. at-lane_of lanes lane (place_of scan k) (place_below scan k lt) ∙ put k lt;
  inverse = λ y x y_lt x_lt.
      let there = lane_sample samples lane y x block (taken (8 * y + x) (omega arith)) in
      let given = each lane y x lane_lt y_lt x_lt in
      let value : slice_index block (8 * y + x) ≡ sample (inverse_sum (lane_cell lanes lane) y x) = cc in
      value ∙ ap sample (inverse_ext (lane_cell lanes lane) (cell (lane_of lanes lane)) y x
      (λ v u v_lt u_lt. let place : 64 * v + (8 * u + lane) ≡ 8 * (8 * v + u) + lane = omega arith in
      ap (at lanes) place ∙ sym (at-lane_of lanes lane (8 * v + u) (omega arith))));
}

-- the same, where the blocks of a group are counted from the first of them
pub inverse_of_group : (scan : Scan) (count first b : ℕ) (products lanes samples : List ℤ) (block : List ℕ)
    → first ≤ b → b < first + 8 → b < count → IsInverseOfEach lanes samples
    → ((lane k : ℕ) → lane < 8 → first + lane < count → k < 64
    → at lanes (8 * place_of scan k + lane) ≡ at products (entry_of count k (first + lane)))
    → ((p : ℕ) → p < 64 → at samples (8 * p + (b - first)) ≡ pos (slice_index block p))
    → IsInverseOf scan count products b block
inverse_of_group scan count first b products lanes samples block le lt within each put taken =
    let e : first + (b - first) ≡ b = omega arith in
    inverse_of_lane scan count b (b - first) products lanes samples block (omega arith) each
    (λ k k_lt. put (b - first) k (omega arith) (omega arith) k_lt ∙ ap (λ (n : ℕ). at products (entry_of count k n)) e) taken

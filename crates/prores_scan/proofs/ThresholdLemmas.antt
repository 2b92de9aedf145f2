-- Lemmas on specs/Thresholds.antt.
use Rattle.std.proofs.Common.{◌≡◌, ◌↔◌, ℕ, ◌+◌, ◌-◌, ◌*◌, ◌%◌, ◌^◌, ◌<◌, ◌≤◌, List, Bool, true, false, cond, leb, length, map, replicate, refl, sym, ap, ◌∙◌, arith, w16}
use Rattle.std.specs.Prelude.{min, slice_index}
use Rattle.std.specs.Int.{bit_at}
use Rattle.std.specs.Simd.Lanes.{zip2, chunk, mask_l, top}
use Rattle.std.proofs.lemmas.Bool.{leb-true, leb-false}
use Rattle.std.proofs.lemmas.List.{get_or-map, length-map}
use Rattle.std.proofs.lemmas.Simd.{bit_mask_l, tops_compared, zip2_splat_left, mask_l-mod, length-chunk, get_or-chunk}
use Rattle.prores_scan.specs.Thresholds.{IsThreshold}
use Rattle.prores_scan.specs.laws.HalfStepLaws.{reached_size}

-- the least half steps of a level's size, or a number above all half steps
pub threshold_is : (size scale half_steps : ℕ) → 1 ≤ size → 1 ≤ scale
    → half_steps ≡ min ((2 * size - 1) * (2 * scale)) 65535 → IsThreshold size scale half_steps
threshold_is size scale half_steps one more e g weight some short =
    let test = reached_size g weight scale size some more one in (
      λ h. omega (arith, e, test.0 h),
      λ h. test.1 (omega (arith, e, short, h)),
    )

-- the mask of a comparison of a vector with a splat that comes first
splat_mask : (xs : List ℕ) (x : ℕ) → length xs ≡ 64
    → mask_l (map (top 15) (zip2 (λ a b. cond (leb a b) 65535 0) (replicate 64 x) xs)) % 2 ^ 64 ≡ mask_l (map (λ y. leb x y) xs)
splat_mask xs x long =
    ap (λ ms. mask_l ms % 2 ^ 64) (tops_compared w16 leb (replicate 64 x) xs ∙ zip2_splat_left leb x 64 xs long)
    ∙ mask_l-mod (map (λ y. leb x y) xs) 64 (omega (arith, length-map xs (λ y. leb x y)))

-- a bit of 1 tells that a test holds
bit_tells : (x y : ℕ) (b : Bool) → leb x y ≡ b → (cond {A = ℕ} b 1 0 ≡ 1) ↔ (x ≤ y)
bit_tells x y true e = (λ h. leb-true x y e, λ h. refl)
bit_tells x y false e = (λ h. absurd (omega arith), λ h. omega (arith, leb-false x y e))

-- what the code compares, 64 entries at once
pub reached_is : (xs : List ℕ) (at x : ℕ) → at + 64 ≤ length xs → (k : ℕ) → k < 64
    → (bit_at (mask_l (map (top 15) (zip2 (λ a b. cond (leb a b) 65535 0) (replicate 64 x) (chunk at 64 xs))) % 2 ^ 64) k ≡ 1) ↔ (x ≤ slice_index xs (at + k))
reached_is xs at x room k lt =
    let test = λ (y : ℕ). leb x y in
    let entries = chunk at 64 xs in
    let long = length-chunk at 64 xs room in
    let bit : bit_at (mask_l (map (top 15) (zip2 (λ a b. cond (leb a b) 65535 0) (replicate 64 x) entries)) % 2 ^ 64) k ≡ cond (leb x (slice_index xs (at + k))) 1 0 =
    ap (λ m. bit_at m k) (splat_mask entries x long)
    ∙ (bit_mask_l (map test entries) k
    ∙ ap (λ b. cond b 1 0) (get_or-map test entries k 0 false (omega (arith, long)) ∙ ap test (get_or-chunk at 64 xs k 0 lt))) in
    let tells = bit_tells x (slice_index xs (at + k)) _ refl in
    (λ h. tells.0 (sym bit ∙ h), λ h. bit ∙ tells.1 h)

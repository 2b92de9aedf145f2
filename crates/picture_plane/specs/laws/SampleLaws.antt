-- Laws of the samples of a slice: proved here, for proofs to cite.
use Rattle.std.proofs.Common.{ℕ, ◌+◌, ◌<◌, ◌≤◌, List, [], length, sym, ap, ◌∙◌, arith, get_or, inl, inr, subst}
use Rattle.std.specs.Prelude.{replicate}
use Rattle.std.proofs.lemmas.Bool.{cases_lt}
use Rattle.std.proofs.lemmas.List.{length-replicate, get_or-replicate, get_or_past}
use Rattle.picture_plane.specs.Blocks.{AreSamples, blocks_of, first_block}
use Rattle.picture_plane.specs.declared.planes.Plane.{Plane}
use Rattle.picture_plane.specs.declared.planes.Plane.TheVariants.{Y, Cb, Cr}

zero_is_small : (n k : ℕ) → get_or (replicate n 0) k 0 < 1024
zero_is_small n k =
    elim (cases_lt k n) [
      | inl lt ↦ subst (λ (x : ℕ). x < 1024) (sym (get_or-replicate {A = ℕ} n k 0 0 lt)) (omega arith)
      | inr ge ↦ subst (λ (x : ℕ). x < 1024) (sym (get_or_past (replicate n 0) k 0 (omega (arith, length-replicate {A = ℕ} n 0)))) (omega arith)
    ]

-- zeros are samples
pub zeros_are_samples : AreSamples (replicate 64 (replicate 64 0))
zeros_are_samples =
    let block : List ℕ = replicate 64 0 in
    record {
      blocks = length-replicate 64 block;
      whole = λ n h. ap length (get_or-replicate 64 n block [] h) ∙ length-replicate {A = ℕ} 64 0;
      small = λ n k. elim (cases_lt n 64) [
        | inl lt ↦ subst (λ (xs : List ℕ). get_or xs k 0 < 1024) (sym (get_or-replicate 64 n block [] lt)) (zero_is_small 64 k)
        | inr ge ↦ subst (λ (xs : List ℕ). get_or xs k 0 < 1024) (sym (get_or_past (replicate 64 block) n [] (omega (arith, length-replicate 64 block)))) (omega arith)
      ];
    }

-- the blocks of a slice are among the 64
pub block_within : (plane : Plane) (count block : ℕ) → count ≤ 8 → block < blocks_of plane count → first_block plane + block < 64
block_within Y count block h b = omega arith
block_within Cb count block h b = omega arith
block_within Cr count block h b = omega arith

use Rattle.std.proofs.Common.{◌/◌, ◌%◌, ◌-◌, ◌*◌, ◌≡◌, ℕ, arith, subst}
use Rattle.std.proofs.lemmas.List.{length-set}
use Rattle.prores_codes.specs.Pairs.{IsPair}
use Rattle.prores_codes.proofs.PairLemmas.{pairs_more}
use Rattle.prores_codes.proofs.pairs.Pairs.new.Goals as goal

pub loop-k-preserved : goal.loop-k-preserved
loop-k-preserved c =
    let k = c.loop-k.k in
    let row : 128 * (k / 128) ≡ k - k % 128 = omega arith in
    let P : ℕ → Type 0 = λ n. IsPair n (k / 16 % 8) (k % 16) c.pair_of.result in (
      omega (arith, c.loop-k.invariant.0, length-set c.loop-k.pairs k c.pair_of.result),
      pairs_more c.loop-k.pairs k c.pair_of.result (omega (arith, c.loop-k.invariant.0)) c.loop-k.invariant.1 (subst P row c.pair_of.ensures),
    )

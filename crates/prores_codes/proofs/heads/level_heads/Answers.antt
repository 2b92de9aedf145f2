use Rattle.std.proofs.Common.{◌-◌, ◌*◌, ◌/◌, ◌%◌, ◌≡◌, ℕ, arith, subst}
use Rattle.std.proofs.lemmas.List.{length-set}
use Rattle.prores_codes.specs.Heads.{IsLevelHead}
use Rattle.prores_codes.proofs.HeadLemmas.{level_heads_more}
use Rattle.prores_codes.proofs.heads.level_heads.Goals as goal

pub loop-k-preserved : goal.loop-k-preserved
loop-k-preserved c =
    let k = c.loop-k.k in
    let row : 512 * (k / 512) ≡ k - k % 512 = omega arith in
    let P : ℕ → Type 0 = λ n. IsLevelHead n (k % 512) c.level_head.result in (
      omega (arith, c.loop-k.invariant.0, length-set c.loop-k.heads k c.level_head.result),
      level_heads_more c.loop-k.heads k c.level_head.result (omega (arith, c.loop-k.invariant.0)) c.loop-k.invariant.1 (subst P row c.level_head.ensures),
    )

use Rattle.std.proofs.Common.{◌≡◌, ◌∙◌, ℕ, length, ap, arith}
use Rattle.take_commands.proofs.LineLemmas.{length-identifier}
use Rattle.take_commands.proofs.line.identified.Goals as goal

pub joined-requires-clause-short : goal.joined-requires-clause-short
joined-requires-clause-short c =
    let long : length c.encode_lower.result.now ≡ 36 = ap (length {A = ℕ}) c.encode_lower.ensures.text ∙ length-identifier c.hyphenated.result in
    omega arith

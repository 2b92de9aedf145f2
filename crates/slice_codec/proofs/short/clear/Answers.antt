use Rattle.std.proofs.Common.{◌≡◌, ◌-◌, ◌/◌, ◌++◌, ℕ, ℤ, List, length, take, drop, pos, replicate, arith, ap, ◌∙◌}
use Rattle.std.proofs.lemmas.List.{length-take-le, length-drop, length-replicate, replicate-append-replicate}
use Rattle.slice_codec.proofs.DecodedLemmas.{two_parts, two_rest}
use Rattle.slice_codec.proofs.short.clear.Goals as goal

pub returns : goal.returns
returns c =
    let old : List ℤ = c.args.levels.now in
    let n : ℕ = length c.args.levels.now / 2 in
    let front : List ℤ = c.put_zeros.new.levels in
    let back : List ℤ = c.put_zeros-2.new.levels in
    let short : length (take n old) ≡ n = length-take-le n old (omega arith) in
    let long : length front ≡ n = ap length c.put_zeros.ensures ∙ length-replicate (length (take n old)) (pos 0) ∙ short in
    let rest : length (take (length (front ++ drop n old) - n) (drop n (front ++ drop n old))) ≡ length old - n = ap length (two_rest n front old long) ∙ length-drop n old in
    two_parts n front back old long
    ∙ rw (c.put_zeros.ensures, c.put_zeros-2.ensures, short, rest, replicate-append-replicate n (length old - n) (pos 0)) (ap (λ (k : ℕ). replicate k (pos 0)) (omega (arith, short)))

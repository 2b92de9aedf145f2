use Rattle.std.proofs.Common.{◌≡◌, ◌+◌, ◌-◌, ◌*◌, ◌%◌, ◌^◌, arith}
use Rattle.std.proofs.lemmas.Nat.{one_shl}
use Rattle.std.specs.Int.Count.{count_leading_zeros}
use Rattle.prores_scan.proofs.ReciprocalLemmas.{shift_is, reciprocal_is}
use Rattle.prores_scan.proofs.reciprocals.Reciprocal.new.Goals as goal

pub overflow_cast-factor : goal.overflow_cast-factor
overflow_cast-factor c =
    let d = c.args.divisor in
    let shift = shift_is d c.requires.0 c.requires.1 in
    let whole : 1 * 2 ^ (16 + (15 - count_leading_zeros 16 (d - 1))) % 2 ^ 32 ≡ 2 ^ (16 + (15 - count_leading_zeros 16 (d - 1))) = one_shl (16 + (15 - count_leading_zeros 16 (d - 1))) 32 (omega (arith, shift.short)) in
    rw (c.from.ensures, c.from-2.ensures, whole) (record { fits = (reciprocal_is d (15 - count_leading_zeros 16 (d - 1)) c.requires.0 c.requires.1 shift).1 })

pub invariant_of-result : goal.invariant_of-result
invariant_of-result c =
    let d = c.args.divisor in
    let shift = shift_is d c.requires.0 c.requires.1 in
    let whole : 1 * 2 ^ (16 + (15 - count_leading_zeros 16 (d - 1))) % 2 ^ 32 ≡ 2 ^ (16 + (15 - count_leading_zeros 16 (d - 1))) = one_shl (16 + (15 - count_leading_zeros 16 (d - 1))) 32 (omega (arith, shift.short)) in
    rw (c.from.ensures, c.from-2.ensures, whole) (record { exact = (reciprocal_is d (15 - count_leading_zeros 16 (d - 1)) c.requires.0 c.requires.1 shift).0 })

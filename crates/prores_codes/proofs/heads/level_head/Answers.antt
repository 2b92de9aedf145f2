use Rattle.std.proofs.Common.{◌≡◌, ◌≤◌, ℤ, to_z, of_z, w8, arith}
use Rattle.std.proofs.lemmas.Int.{to_z-of_z, fits_signed_from_abs}
use Rattle.std.specs.Int.RustNames.{unsigned_abs}
use Rattle.prores_codes.proofs.HeadLemmas.{level_head_is}
use Rattle.prores_codes.proofs.heads.level_head.Goals as goal

pub returns : goal.returns
returns c =
    let found = c.level_in-found in
    let level : ℤ = c.signed.result in
    let small : unsigned_abs level ≤ 64 = omega (arith, c.signed.ensures.size, found.ensures.small) in
    let same : to_z w8 (of_z w8 level) ≡ level = to_z-of_z w8 level (fits_signed_from_abs w8 level (omega (arith, small))) in
    rw same (level_head_is c.args.class c.args.nine found.result.size found.result.number _ found.ensures.size found.ensures.found
    c.marked.ensures.small c.marked.ensures.marked c.signed.ensures.size c.signed.ensures.sign c.level_row.ensures)

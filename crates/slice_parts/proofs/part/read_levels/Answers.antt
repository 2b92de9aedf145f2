use Rattle.std.proofs.Common.{◌≡◌, ◌-◌, ◌+◌, ◌*◌, ◌++◌, ℕ, ℤ, List, length, take, drop, ap, ◌∙◌, arith}
use Rattle.std.proofs.lemmas.List.{length-take-le, length-drop}
use Rattle.std.proofs.lemmas.Result.{err_from_is_err_and}
use Rattle.bit_io.specs.Bits.{bits_of}
use Rattle.slice_parts.proofs.PartLemmas.{zero_rest, behind_dc, at_first_bit, part_stands, others_break}
use Rattle.slice_parts.proofs.part.read_levels.Goals as goal

pub read_pairs-requires : goal.read_pairs-requires
read_pairs-requires c =
    let n : ℕ = c.args.blocks in
    let old : List ℤ = c.args.out.now in
    let dc : List ℤ = c.read_dc.new.out in
    let long : length dc ≡ n = c.in_ok-read_dc.ensures.long ∙ length-take-le n old (omega (arith, c.requires.long)) in
    record { zeros = rw (behind_dc n dc old long) (zero_rest n old c.requires.zeros) }

pub returns-in_err-read_pairs-clause-refused : goal.returns-in_err-read_pairs-clause-refused
returns-in_err-read_pairs-clause-refused c =
    let n : ℕ = c.args.blocks in
    let old : List ℤ = c.args.out.now in
    let dc : List ℤ = c.read_dc.new.out in
    let long : length dc ≡ n = c.in_ok-read_dc.ensures.long ∙ length-take-le n old (omega (arith, c.requires.long)) in
    let bits : List ℕ = bits_of c.args.bytes.now in
    let first = at_first_bit c.new-bits.result bits c.new-bits.ensures.first c.new-bits.ensures.all in
    let others : length (take (length (dc ++ drop n old) - n) (drop n (dc ++ drop n old))) ≡ 63 * n = omega (arith, ap length (behind_dc n dc old long), length-drop n old, c.requires.long) in
    let p = err_from_is_err_and c.from_residual-in_err-read_pairs.result c.from_residual-in_err-read_pairs.ensures.1 in
    rw (p.1, p.2) (others_break n (length (take (length (dc ++ drop n old) - n) (drop n (dc ++ drop n old)))) bits c.new-bits.result c.read_dc.new.bits dc c.in_err-read_pairs.field-0.0 first long others c.in_ok-read_dc.ensures.read c.in_err-read_pairs.ensures.refused)

pub returns-clause-read : goal.returns-clause-read
returns-clause-read c =
    let n : ℕ = c.args.blocks in
    let old : List ℤ = c.args.out.now in
    let dc : List ℤ = c.read_dc.new.out in
    let long : length dc ≡ n = c.in_ok-read_dc.ensures.long ∙ length-take-le n old (omega (arith, c.requires.long)) in
    let others : length dc + length c.read_pairs.new.out ≡ 64 * n = omega (arith, ap length (behind_dc n dc old long), length-drop n old, c.requires.long, c.in_ok-read_pairs.ensures.long, long) in
    part_stands n (bits_of c.args.bytes.now) c.new-bits.result c.read_dc.new.bits dc c.read_pairs.new.out old c.new-bits.ensures.all long others c.in_ok-read_dc.ensures.read c.in_ok-read_pairs.ensures.read

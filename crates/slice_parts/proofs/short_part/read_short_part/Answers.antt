use Rattle.std.proofs.Common.{◌≡◌, ◌+◌, ◌*◌, ℕ, ℤ, List, length, ap, ◌∙◌, arith, rules}
use Rattle.std.proofs.lemmas.List.{length-take-le, length-drop}
use Rattle.bit_io.specs.Bits.{bits_of}
use Rattle.slice_parts.proofs.PartLemmas.{zero_rest, behind_dc, part_stands}
use Rattle.slice_parts.proofs.short_part.read_short_part.Goals as goal

pub read_short_pairs-requires : goal.read_short_pairs-requires
read_short_pairs-requires c =
    let n : ℕ = c.args.blocks in
    let old : List ℤ = c.args.out.now in
    let dc : List ℤ = c.read_short_dc.new.out in
    let long : length dc ≡ n = c.read_short_dc.ensures.long ∙ length-take-le n old (omega (arith, c.requires.long)) in
    record { zeros = rw (behind_dc n dc old long) (zero_rest n old c.requires.zeros) }

pub returns-clause-read : goal.returns-clause-read
returns-clause-read c = λ yes.
    let n : ℕ = c.args.blocks in
    let old : List ℤ = c.args.out.now in
    let dc : List ℤ = c.read_short_dc.new.out in
    let long : length dc ≡ n = c.read_short_dc.ensures.long ∙ length-take-le n old (omega (arith, c.requires.long)) in
    let others : length dc + length c.read_short_pairs.new.out ≡ 64 * n = omega (arith, ap length (behind_dc n dc old long), length-drop n old, c.requires.long, c.read_short_pairs.ensures.long, long) in
    part_stands n (bits_of c.args.bytes.now) c.new-bits.result c.read_short_dc.new.bits dc c.read_short_pairs.new.out old c.new-bits.ensures.all long others
    (c.read_short_dc.ensures.read (search rules)) (c.read_short_pairs.ensures.read yes)

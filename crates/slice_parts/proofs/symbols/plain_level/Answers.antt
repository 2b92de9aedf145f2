use Rattle.std.proofs.Common.{rules, w64, FitsSigned}
use Rattle.std.proofs.lemmas.Int.{to_z-of_z}
use Rattle.prores_codes.specs.Choices.{level_parameters}
use Rattle.slice_parts.proofs.HeadLemmas.{level_reads}
use Rattle.slice_parts.proofs.symbols.plain_level.Goals as goal

pub returns-clause-read : goal.returns-clause-read
returns-clause-read c =
    let fits : FitsSigned w64 c.level_of.result = search rules in
    let s = rw c.level_code.ensures at c.in_ok-size_less_one.ensures.read in
    simp to_z-of_z (level_reads (level_parameters c.args.size_less_one) c.args.bits.now c.read_number.new.bits c.read_sign.new.bits c.in_ok-size_less_one.size_less_one c.in_ok-sign.sign c.level_of.result
    s c.in_ok-sign.ensures.read c.level_of.ensures.size c.level_of.ensures.sign c.level_of.ensures.some)

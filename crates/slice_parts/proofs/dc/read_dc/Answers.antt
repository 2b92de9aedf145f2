use Rattle.std.proofs.Common.{◌-ℤ◌, [], ◌∙◌, rules, arith, w64, FitsSigned, to_z}
use Rattle.std.proofs.lemmas.Int.{to_z-of_z, ints}
use Rattle.std.proofs.lemmas.List.{length-set}
use Rattle.std.proofs.lemmas.Result.{err_from_is_err_and}
use Rattle.slice_parts.specs.Dc.{DcSpells, dc_next}
use Rattle.slice_parts.specs.Dc.DcState.{First}
use Rattle.slice_parts.proofs.ReadsLemmas.{reads_none}
use Rattle.slice_parts.proofs.DcLemmas.{dc_reads_first, dc_reads_more}
use Rattle.slice_parts.proofs.dc.read_dc.Goals as goal

pub returns-in_err-level-clause-refused : goal.returns-in_err-level-clause-refused
returns-in_err-level-clause-refused c =
    let p = err_from_is_err_and c.from_residual.result c.from_residual.ensures.1 in
    rw (p.1, p.2) (record { levels = []; here = c.args.bits.now; few = omega (arith, c.requires.some); read = reads_none DcSpells dc_next First c.args.bits.now; none = c.in_err-level.ensures.refused })

pub loop-k-init : goal.loop-k-init
loop-k-init c =
    let fits : FitsSigned w64 c.in_ok-level.level = search rules in
    let r = dc_reads_first c.args.bits.now c.get_first.new.bits c.args.out.now c.in_ok-level.level c.requires.some c.in_ok-level.ensures.read in
    simp to_z-of_z (record { long = length-set c.args.out.now 0 c.in_ok-level.level; near = c.in_ok-level.ensures.near; state = r.0; read = r.1 })

pub loop-k-preserved : goal.loop-k-preserved
loop-k-preserved c =
    let k = c.in_ok-next.ensures in
    let next = c.in_ok-next.next in
    let level = to_z w64 c.loop-k.level-bits in
    let fits : FitsSigned w64 c.in_ok-next.next = search rules in
    let fd : FitsSigned w64 (c.in_ok-next.next -ℤ to_z w64 c.loop-k.level-bits) = search rules in
    let r = dc_reads_more c.args.bits.now c.loop-k.bits c.get_level.new.bits c.loop-k.out c.loop-k.k level (to_z w64 c.loop-k.difference-bits) next (omega arith) c.loop-k.invariant.state c.loop-k.invariant.read k.read in
    simp to_z-of_z (record { long = length-set c.loop-k.out c.loop-k.k next ∙ c.loop-k.invariant.long; near = omega (arith, ints, k.near, c.loop-k.invariant.near); state = r.0; read = r.1 })

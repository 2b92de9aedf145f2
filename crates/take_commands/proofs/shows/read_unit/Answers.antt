use Rattle.std.proofs.Common.{inr, ◌∙◌, arith}
use Rattle.take_disk.specs.declared.area.Area.TheVariants.{Essence}
use Rattle.take_commands.specs.Shows.{Shows}
use Rattle.take_commands.proofs.CauseLemmas.{check_cause}
use Rattle.take_commands.proofs.ShowLemmas.{answers_check, answers_unit, has_unit}
use Rattle.take_commands.proofs.shows.read_unit.Goals as goal

pub unit-requires : goal.unit-requires
unit-requires g c = let bytes = c.in-Ok.ensures.bytes in let same = c.in-Ok.ensures.stays.lengths Essence in omega arith

pub returns-in-Err-clause-refused : goal.returns-in-Err-clause-refused
returns-in-Err-clause-refused g c =
    answers_check (Shows c.args.number) (g.D.TakeDisk.told c.args.disk.now) c.in-Err.fault c.check_fault.result c.check_fault.ensures
    (λ bytes written status r. inr r) c.in-Err.ensures.refused

pub returns-in-Err-clause-cause : goal.returns-in-Err-clause-cause
returns-in-Err-clause-cause g c = check_cause _ _ c.in-Err.fault c.check_fault.result c.check_fault.ensures c.in-Err.ensures.cause

pub returns-in-Ok-unit-clause-unit : goal.returns-in-Ok-unit-clause-unit
returns-in-Ok-unit-clause-unit g c =
    λ told is.
    let v = c.in-Ok.ensures.read told is in
    has_unit told.essence.reads v.0 c.in-Ok.catalogue c.args.number c.in-Ok-unit.unit.items v.1
    (c.in-Ok-unit.ensures.read told (c.in-Ok.ensures.stays.same ∙ is))

pub returns-clause-refused : goal.returns-clause-refused
returns-clause-refused g c =
    answers_unit (g.D.TakeDisk.told c.args.disk.now) c.in-Ok.catalogue c.args.number (g.D.TakeDisk.fault_count c.read.new.disk)
    (g.D.TakeDisk.fault_count c.unit.new.disk) c.in-Err-unit.fault c.unit_fault.result c.unit_fault.ensures c.in-Ok.ensures.read c.in-Err-unit.ensures.cause

use Rattle.std.proofs.Common.{◌≡◌, refl, sym, ◌∙◌, arith, true, false}
use Rattle.slice_parts.proofs.WroteLemmas.{never}
use Rattle.slice_parts.proofs.PadLemmas.{padded, used_is, room_of_empty}
use Rattle.slice_parts.proofs.part.write_by.Goals as goal

pub returns-in-Err-clause-accepted : goal.returns-in-Err-clause-accepted
returns-in-Err-clause-accepted c = λ s is.
    let free = room_of_empty c.new-writer.result c.args.out.now c.new-writer.ensures.empty c.new-writer.ensures.lent in
    ((λ (e : false ≡ true). absurd (never e)), λ fits. (c.in-Err.ensures.accepted s is).1 (omega (arith, fits, free)))

pub returns-in-Ok-clause-accepted : goal.returns-in-Ok-clause-accepted
returns-in-Ok-clause-accepted c = λ s is.
    let free = room_of_empty c.new-writer.result c.args.out.now c.new-writer.ensures.empty c.new-writer.ensures.lent in
    ((λ _. omega (arith, (c.in-Ok.ensures.accepted s is).0 refl, free)), (λ _. refl))

pub returns-in-Ok-clause-within : goal.returns-in-Ok-clause-within
returns-in-Ok-clause-within c =
    let same : c.new-arg-1.given ≡ c.put_part.new.out.out.ghost_name = sym (c.in-Ok.ensures.same_reference ∙ c.new-writer.ensures.same_reference) in
    rw (c.out-1.given.1.1 same) c.pad.ensures.within

pub returns-in-Ok-clause-used : goal.returns-in-Ok-clause-used
returns-in-Ok-clause-used c = λ s is.
    used_is c.new-writer.result c.put_part.new.out c.pad.result c.pad.new.self.0 s c.new-writer.ensures.empty (c.in-Ok.ensures.spelled s is) c.pad.ensures

pub returns-in-Ok-clause-written : goal.returns-in-Ok-clause-written
returns-in-Ok-clause-written c = λ s is.
    let same : c.new-arg-1.given ≡ c.put_part.new.out.out.ghost_name = sym (c.in-Ok.ensures.same_reference ∙ c.new-writer.ensures.same_reference) in
    rw (c.out-1.given.1.1 same) (padded c.new-writer.result c.put_part.new.out c.pad.result c.pad.new.self.0 s c.new-writer.ensures.empty (c.in-Ok.ensures.spelled s is) c.pad.ensures)

use Rattle.std.proofs.Common.{Some, None, set, ap, ◌∙◌}
use Rattle.slot_pool.proofs.LinkLemmas.{set_set}
use Rattle.slot_pool.proofs.pool.link_in.Goals as goal

pub returns-clause-linked : goal.returns-clause-linked
returns-clause-linked g c =
    let slots = c.args.owner.now.slots in let place = c.args.place in let s = c.set_link.new.self in let out = c.slot_out-slot in (
      s.bytes,
      c.set_link.ensures.link,
      c.slot_in.ensures.slots ∙ ap (λ k. set out.new.owner.slots k (Some s.bytes)) (c.set_link.ensures.place ∙ out.ensures.slot.0)
          ∙ ap (λ l. set l place (Some s.bytes)) out.ensures.slots ∙ set_set slots place None (Some s.bytes),
    )

use denote.Param.Send.{IsSend}
use Rattle.slot_pool.proofs.ThreadLemmas.{free_slots_send}
use Rattle.slot_pool.specs.contracts.free_slots.FreeSlots.{the_row}

pub send : IsSend the_row
send = free_slots_send

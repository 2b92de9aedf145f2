use denote.Param.Send.{IsSend}
use Rattle.slot_pool.proofs.ThreadLemmas.{allocation_send}
use Rattle.slot_pool.specs.contracts.bytes.Allocation.{the_row}

pub send : IsSend the_row
send = allocation_send

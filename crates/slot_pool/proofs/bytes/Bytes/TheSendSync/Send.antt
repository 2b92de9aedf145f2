use denote.Param.Send.{IsSend}
use Rattle.slot_pool.proofs.ThreadLemmas.{bytes_send}
use Rattle.slot_pool.specs.contracts.bytes.Bytes.{the_row}

pub send : IsSend the_row
send = bytes_send

use denote.Param.Send.{IsSync}
use Rattle.slot_pool.proofs.ThreadLemmas.{bytes_sync}
use Rattle.slot_pool.specs.contracts.bytes.Bytes.{the_row}

pub sync : IsSync the_row
sync = bytes_sync

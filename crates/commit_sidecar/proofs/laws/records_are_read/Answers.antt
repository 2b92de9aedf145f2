use Rattle.commit_sidecar.specs.laws.Reads.{begun, read_more, read_within, room_for}
use Rattle.commit_sidecar.proofs.laws.records_are_read.Goals as goal

pub returns : goal.returns
returns c = record { head = begun; more = read_more; within = read_within; whole = room_for }

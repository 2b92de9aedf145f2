use Rattle.std.proofs.Common.{arith}
use Rattle.rec_bytes.specs.Views.{view}
use Rattle.slice_desk.proofs.RoomLemmas.{some_slices}
use Rattle.slice_desk.proofs.room.desk_block.Goals as goal

pub new-requires-clause-some : goal.new-requires-clause-some
new-requires-clause-some c = omega (arith, some_slices (view c.args.cfg.now) c.ranges-2.ensures, c.slice_count.ensures.value)

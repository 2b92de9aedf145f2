use Rattle.raw_feed.proofs.BreakLemmas.{bytes_of_number}
use Rattle.raw_feed.proofs.unit.len_of.Goals as goal

pub returns-clause-spelled : goal.returns-clause-spelled
returns-clause-spelled c = bytes_of_number c.args.bytes.now c.read_u32.result c.told-bytes c.fits-bytes c.read_u32.ensures

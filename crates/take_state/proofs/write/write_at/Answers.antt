use Rattle.std.proofs.Common.{length}
use Rattle.take_state.proofs.WriteLemmas.{inside_once}
use Rattle.take_state.proofs.write.write_at.Goals as goal

pub returns-clause-wrote : goal.returns-clause-wrote
returns-clause-wrote g c =
    let e = c.write.ensures in
    record {
      inside = inside_once g.D.TakeDisk g.met.D.TakeDisk.crash c.args.area c.args.at (length c.args.bytes.now) c.args.disk.now c.write.new.self e.torn e.time;
      written = e.written;
      lengths = e.lengths;
    }

use Rattle.std.proofs.Common.{rules, ◌≡◌, length, arith}
use Rattle.bit_io.specs.Written.{bits_put}
use Rattle.bit_io.proofs.WriterSteps.{length-put, padded}
use Rattle.bit_io.proofs.writer.BitWriter.pad.Goals as goal

pub returns : goal.returns
unfolding bits_put
returns c =
    let w = c.args.self in
    let size = length-put w.at w.count w.acc w.out.now (omega (arith, w.within)) in
    let long : length c.store.new.out ≡ length w.out.now = search rules in
    record {
      fewest = omega (arith, size);
      within = omega (arith, long, w.within);
      spelled = padded w.at w.count w.acc w.out.now c.store.new.out w.pending (omega (arith, w.within)) c.store.ensures.stored;
      behind = c.store.ensures.behind;
    }

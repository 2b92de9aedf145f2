use Rattle.std.proofs.Common.{◌≡◌, ◌+◌, ◌-◌, ◌^◌, ◌<◌, get_or, arith}
use Rattle.bit_io.proofs.WindowSteps.{loaded_bits, loaded_behind, byte_there, left_more}
use Rattle.bit_io.proofs.window.load_byte.Goals as goal

pub returns-clause-loaded : goal.returns-clause-loaded
returns-clause-loaded c =
    let w = c.args.window in
    let next : get_or c.args.bytes.now w.at 0 < 2 ^ 8 = omega (arith, c.type_inv.bytes c.args.window.at) in
    let shift : 64 - (w.count + 8) ≡ 56 - w.count = omega arith in
    let behind = loaded_behind w.count 8 w.word (get_or c.args.bytes.now w.at 0) (omega (arith, c.requires.free)) next c.requires.loaded.behind in
    record {
      within = omega (arith, c.requires.there);
      room = omega (arith, c.requires.free);
      done = omega (arith, c.requires.loaded.done);
      behind = rw (c.from.ensures, ← shift) behind;
    }

pub returns-clause-left : goal.returns-clause-left
returns-clause-left c =
    let w = c.args.window in
    let next : get_or c.args.bytes.now w.at 0 < 2 ^ 8 = omega (arith, c.type_inv.bytes c.args.window.at) in
    let shift : 64 - (w.count + 8) ≡ 56 - w.count = omega arith in
    let more = loaded_bits w.count 8 w.word (get_or c.args.bytes.now w.at 0) (omega (arith, c.requires.free)) next c.requires.loaded.behind in
    rw (c.from.ensures, ← shift)
    (left_more c.args.bytes.now w.at w.word w.count 1 8 (get_or c.args.bytes.now w.at 0) _ more (byte_there c.args.bytes.now w.at c.requires.there))

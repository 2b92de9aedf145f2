use Rattle.std.proofs.Common.{◌≡◌, ◌+◌, ◌-◌, ◌^◌, ◌<◌, arith}
use Rattle.bit_io.proofs.WindowSteps.{loaded_bits, loaded_behind, word_there, left_more}
use Rattle.bit_io.proofs.window.load_word.Goals as goal

pub returns-clause-loaded : goal.returns-clause-loaded
returns-clause-loaded c =
    let w = c.args.window in
    let next : c.from_be_bytes-next.result < 2 ^ 32 = omega arith in
    let shift : 64 - (w.count + 32) ≡ 32 - w.count = omega arith in
    let behind = loaded_behind w.count 32 w.word c.from_be_bytes-next.result (omega (arith, c.requires.free)) next c.requires.loaded.behind in
    record {
      within = omega (arith, c.requires.there);
      room = omega (arith, c.requires.free);
      done = omega (arith, c.requires.loaded.done);
      behind = rw (c.from.ensures, ← shift) behind;
    }

pub returns-clause-left : goal.returns-clause-left
returns-clause-left c =
    let w = c.args.window in
    let next : c.from_be_bytes-next.result < 2 ^ 32 = omega arith in
    let shift : 64 - (w.count + 32) ≡ 32 - w.count = omega arith in
    let more = loaded_bits w.count 32 w.word c.from_be_bytes-next.result (omega (arith, c.requires.free)) next c.requires.loaded.behind in
    rw (c.from.ensures, ← shift)
    (left_more c.args.bytes.now w.at w.word w.count 4 32 c.from_be_bytes-next.result _ more (word_there c.args.bytes.now w.at c.from_be_bytes-next.result c.requires.there (λ i. omega (arith, c.type_inv.bytes i)) c.from_be_bytes-next.ensures))

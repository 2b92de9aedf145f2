use Rattle.std.proofs.Common.{◌+◌, arith}
use Rattle.rec_bytes.specs.laws.Places.{with_bytes-more}
use Rattle.klv.specs.Head.{form_of}
use Rattle.klv.specs.Items.{length_bytes}
use Rattle.klv.proofs.head.put_klv_head_at.Goals as goal

pub returns-clause-written : goal.returns-clause-written
returns-clause-written c =
    with_bytes-more c.args.out.now c.args.at (c.args.at + 16) c.args.key.now (length_bytes (form_of c.args.form) c.args.len) c.put_bytes.new.out c.put_length.new.out
    c.put_bytes.ensures (omega (arith, c.told-key)) (omega (arith, c.requires.room)) c.put_length.ensures.written

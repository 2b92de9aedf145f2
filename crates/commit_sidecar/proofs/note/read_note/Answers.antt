use Rattle.std.proofs.Common.{◌∙◌, ap, arith, refl}
use Rattle.std.proofs.lemmas.List.{take_rest}
use Rattle.byteorder.specs.Endian.{big_number}
use Rattle.rec_bytes.specs.laws.Bytes.{AreBytes}
use Rattle.commit_sidecar.proofs.NoteLemmas.{begins_note}
use Rattle.commit_sidecar.proofs.note.read_note.Goals as goal

pub returns-clause-there : goal.returns-clause-there
returns-clause-there c =
    let bytes = c.args.bytes.now in
    let are : AreBytes bytes = λ k. let small = c.type_inv.bytes k in omega arith in
    begins_note bytes _ are c.if-bytes-lt-NOTE_LEN.false c.if-bytes-gt1.false
    c.read_u64.ensures (c.read_u64-2.ensures ∙ ap (big_number 8) (take_rest bytes 8)) refl

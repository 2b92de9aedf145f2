use Rattle.std.proofs.Common.{◌≡◌, ℕ, ◌+◌, ◌-◌, List, ◌++◌, length, take, ap, ◌∙◌, arith}
use Rattle.std.specs.Int.{to_be_bytes, w32}
use Rattle.std.proofs.lemmas.List.{length-take-le}
use Rattle.std.proofs.lemmas.Slice.{take-put_mid, drop-put_mid}
use Rattle.bit_io.specs.Bits.{bits_of}
use Rattle.bit_io.specs.laws.BitLaws.{bits_of-append, bits_of-taken_word}
use Rattle.bit_io.proofs.writer.store.Goals as goal

pub returns-clause-stored : goal.returns-clause-stored
returns-clause-stored c =
    let at = c.args.at in
    let count = c.args.count in
    let new = c.copy_from_slice.new.self in
    let bytes : new ≡ take count (to_be_bytes w32 c.args.word) = c.copy_from_slice.ensures.after ∙ ap (take count) c.to_be_bytes.ensures in
    let size : length new ≡ count = ap length bytes ∙ length-take-le count (to_be_bytes w32 c.args.word) c.requires.of_word in
    ap bits_of (take-put_mid at (at + count - at) c.args.out.now new (at + count) (omega arith) (omega arith))
    ∙ (bits_of-append (take at c.args.out.now) new
    ∙ ap (λ (bs : List ℕ). bits_of (take at c.args.out.now) ++ bs) (ap bits_of bytes ∙ bits_of-taken_word count c.args.word c.requires.of_word))

pub returns-clause-behind : goal.returns-clause-behind
returns-clause-behind c =
    let at = c.args.at in
    let count = c.args.count in
    let new = c.copy_from_slice.new.self in
    let bytes : new ≡ take count (to_be_bytes w32 c.args.word) = c.copy_from_slice.ensures.after ∙ ap (take count) c.to_be_bytes.ensures in
    let size : length new ≡ count = ap length bytes ∙ length-take-le count (to_be_bytes w32 c.args.word) c.requires.of_word in
    drop-put_mid at (at + count - at) c.args.out.now new (at + count) (omega arith) (omega arith) (omega arith)

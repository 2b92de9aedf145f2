use Rattle.std.proofs.Common.{ℕ, ◌+◌, List, ◌++◌, length, arith, refl, ap, ◌∙◌}
use Rattle.byteorder.specs.Endian.{big_bytes}
use Rattle.rec_bytes.specs.Places.{with_bytes}
use Rattle.rec_bytes.specs.laws.Places.{with_bytes-more}
use Rattle.local_sets.specs.Values.{value_bytes}
use Rattle.local_sets.proofs.set.put_item.Goals as goal

pub returns-clause-written : goal.returns-clause-written
returns-clause-written c =
    let old : List ℕ = c.args.out.now in
    let tag : List ℕ = big_bytes 2 c.args.item.now.tag in
    let value : List ℕ = value_bytes c.args.item.now.value in
    let len : List ℕ = big_bytes 2 (length value) in
    let room = c.requires in
    let second = c.put_u16-2.ensures ∙ ap (λ (n : ℕ). with_bytes c.put_u16.new.out (c.args.at + 2) (big_bytes 2 n)) c.value_len.ensures in
    let head = with_bytes-more old c.args.at (c.args.at + 2) tag len c.put_u16.new.out c.put_u16-2.new.out c.put_u16.ensures refl (omega arith) second in
    with_bytes-more old c.args.at (c.args.at + 4) (tag ++ len) value c.put_u16-2.new.out c.put_value.new.out head refl (omega arith) c.put_value.ensures.written

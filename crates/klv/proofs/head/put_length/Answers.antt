use Rattle.std.proofs.Common.{◌≡◌, ℕ, ◌+◌, List, length, ap, ◌∙◌, arith}
use Rattle.byteorder.specs.Endian.{big_bytes}
use Rattle.byteorder.specs.Numbers.{length-bytes_high_first}
use Rattle.rec_bytes.specs.Places.{with_bytes}
use Rattle.rec_bytes.specs.laws.Places.{with_bytes-more, length-with_bytes}
use Rattle.klv.specs.Head.{form_of}
use Rattle.klv.proofs.HeadLemmas.{put_part, length_is}
use Rattle.klv.proofs.head.put_length.Goals as goal

pub returns-clause-written : goal.returns-clause-written
returns-clause-written c =
    let old : List ℕ = c.args.out.now in
    let at : ℕ = c.args.at in
    let form : ℕ = form_of c.args.form in
    let first : List ℕ = big_bytes 1 (128 + form) in
    let number : List ℕ = big_bytes form c.args.len in
    let put : c.put_u8.new.out ≡ with_bytes old at first = c.put_u8.ensures ∙ ap (λ (n : ℕ). with_bytes old at (big_bytes 1 (128 + n))) c.length_count-count.ensures in
    let long : length c.put_u8.new.out ≡ length old = ap length put ∙ length-with_bytes old at first (omega (arith, c.requires.room)) in
    let part = c.write_uint.ensures in
    let mid : List ℕ = c.put_u8.new.out in
    let count : c.from.result ≡ form = c.from.ensures ∙ c.length_count-count.ensures in
    let second = put_part mid (at + 1) c.from.result c.write_uint.new.buf (big_bytes c.from.result c.args.len) (omega (arith, long, c.requires.room)) (length-bytes_high_first c.from.result c.args.len) part
    ∙ ap (λ (n : ℕ). with_bytes mid (at + 1) (big_bytes n c.args.len)) count in
    with_bytes-more old at (at + 1) first number mid _ put (omega arith) (omega (arith, c.requires.room)) second
    ∙ ap (λ (bytes : List ℕ). with_bytes old at bytes) (length_is c.args.form c.args.len)

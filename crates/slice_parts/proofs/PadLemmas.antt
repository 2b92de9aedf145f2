use Rattle.std.proofs.Common.{◌≡◌, ℕ, ◌-◌, ◌*◌, List, [], ◌++◌, length, take, sym, ap, ◌∙◌, arith}
use Rattle.std.proofs.lemmas.List.{length-take-le}
use Rattle.bit_io.specs.declared.writer.BitWriter.{BitWriter}
use Rattle.bit_io.specs.Bits.{zeros, bytes_for}
use Rattle.bit_io.specs.Written.{bits_put, lent, room, Puts, Pads}
use Rattle.slice_parts.specs.Component.{IsPadded}

-- what is put into an empty writer and padded is padded
pub padded : (start now : BitWriter) (used : ℕ) (out s : List ℕ) → bits_put start ≡ [] → Puts start now s → Pads now used out → IsPadded s (take used out)
padded start now used out s empty puts pads =
    let put : bits_put now ≡ s = puts.put ∙ ap (λ (bs : List ℕ). bs ++ s) empty in
    let long : length (take used out) ≡ used = length-take-le used out pads.within in
    record {
      long = long ∙ (pads.fewest ∙ ap (λ (bs : List ℕ). bytes_for (length bs)) put);
      bits = pads.spelled ∙ (ap (λ (bs : List ℕ). bs ++ zeros (8 * used - length bs)) put ∙ ap (λ (n : ℕ). s ++ zeros (8 * n - length s)) (sym long));
    }

pub used_is : (start now : BitWriter) (used : ℕ) (out s : List ℕ) → bits_put start ≡ [] → Puts start now s → Pads now used out → used ≡ bytes_for (length s)
used_is start now used out s empty puts pads = pads.fewest ∙ ap (λ (bs : List ℕ). bytes_for (length bs)) (puts.put ∙ ap (λ (bs : List ℕ). bs ++ s) empty)

pub room_of_empty : (start : BitWriter) (out : List ℕ) → bits_put start ≡ [] → lent start ≡ out → room start ≡ 8 * length out
room_of_empty start out empty is = omega (arith, ap length empty, ap length is)

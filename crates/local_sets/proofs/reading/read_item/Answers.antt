use Rattle.std.proofs.Common.{◌≡◌, ℕ, ◌+◌, List, take, drop, Some, refl, sym, ap, ap₂, ◌∙◌, arith}
use Rattle.std.proofs.lemmas.List.{length-drop, drop-drop, take_rest}
use Rattle.byteorder.specs.Endian.{big_number}
use Rattle.local_sets.specs.Sets.{RawItem}
use Rattle.local_sets.specs.laws.Reads.{first_whole}
use Rattle.local_sets.proofs.reading.read_item.Goals as goal

pub returns : goal.returns
returns c =
    let at : ℕ = c.args.at in
    let value : List ℕ = c.args.value.now in
    let bytes : List ℕ = drop at value in
    let long = length-drop at value in
    let n : ℕ = c.from-value_len.result in
    let tag : c.read_u16-2.result ≡ big_number 2 bytes = rw take_rest at c.read_u16-2.ensures in
    let second : c.read_u16.result ≡ big_number 2 (drop (at + 2) value) = rw take_rest at c.read_u16.ensures in
    let len : n ≡ big_number 2 (drop 2 bytes) =
    c.from-value_len.ensures ∙ second ∙ ap (big_number 2) (sym (drop-drop 2 at value ∙ ap (λ (k : ℕ). drop k value) (omega arith))) in
    let made : ℕ → List ℕ → RawItem = λ tag value. record { tag = tag; value = value } in
    let after : drop 4 bytes ≡ drop (at + 4) value = drop-drop 4 at value ∙ ap (λ (k : ℕ). drop k value) (omega arith) in (
      first_whole bytes (omega arith) (omega (arith, len))
          ∙ ap Some (ap₂ made (sym tag) (ap₂ (λ (k : ℕ) (xs : List ℕ). take k xs) (sym len) after)),
      refl,
      omega arith,
    )

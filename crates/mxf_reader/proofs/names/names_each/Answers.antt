use Rattle.std.proofs.Common.{ℕ, List, ◌-◌, length, drop, sym, ap, ◌∙◌}
use Rattle.byteorder.specs.Endian.{big_number}
use Rattle.mxf_reader.proofs.NameLemmas.{names_all, names_none}
use Rattle.mxf_reader.proofs.names.names_each.Goals as goal

pub returns-in-None : goal.returns-in-None
returns-in-None c = λ item key value size. names_none item c.args.parts.now (c.in-None.ensures.none item (record {
  key_is = key;
  value_len_is = ap length value;
  size_is = size;
  last_is = ap (λ (xs : List ℕ). big_number 4 (drop (length xs - 4) xs)) value ∙ sym c.last_word-last.ensures;
}))

pub returns-in-Some : goal.returns-in-Some
returns-in-Some c = λ item key value size all is.
    let says = c.in-Some.ensures.some item (record {
      key_is = key;
      value_len_is = ap length value;
      size_is = size;
      last_is = ap (λ (xs : List ℕ). big_number 4 (drop (length xs - 4) xs)) value ∙ sym c.last_word-last.ensures;
    }) in
    c.names_in_order.ensures ∙ names_all item c.args.value.now c.args.parts.now value c.requires says.0 all is

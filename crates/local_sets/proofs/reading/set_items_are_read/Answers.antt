use Rattle.std.proofs.Common.{length, arith}
use Rattle.local_sets.specs.laws.Reads.{value_whole, value_each, value_ends, written_items, written_rest}
use Rattle.local_sets.proofs.reading.set_items_are_read.Goals as goal

pub returns : goal.returns
returns c = record {
  whole = λ value are. value_whole (length value) value are;
  each = λ value are. value_each (length value) value are;
  ends = λ value. value_ends (length value) value (omega arith);
  items = written_items;
  rest = written_rest;
}

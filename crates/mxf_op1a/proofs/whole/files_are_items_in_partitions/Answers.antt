use Rattle.mxf_op1a.proofs.WholeLemmas.{are_partitions, entries_counted, is_file, is_file_back, units_held}
use Rattle.mxf_op1a.proofs.whole.files_are_items_in_partitions.Goals as goal

pub returns : goal.returns
returns c = record {
  partitions = are_partitions;
  file = λ bytes units. (is_file bytes units, is_file_back bytes units);
  units = units_held;
  entries = entries_counted;
}

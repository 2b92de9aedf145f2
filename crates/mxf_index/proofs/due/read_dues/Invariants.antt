use Rattle.std.proofs.Common.{◌≡◌, ◌≤◌, None, length, take}
use Rattle.mxf_index.specs.Dues.{first_fault}
use Rattle.mxf_index.specs.inner.Items.{dues_len}
use Rattle.mxf_index.proofs.due.read_dues.Given as goal

abbrev pub invariant-dues : goal.invariant-dues
invariant-dues l = record {
  read : first_fault l.value 0 (take l.due-index l.dues) ≡ None;
  end : l.end ≡ dues_len (take l.due-index l.dues);
  within : l.end ≤ length l.value;
}

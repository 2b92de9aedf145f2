use Rattle.klv.specs.laws.Lengths.{length-klv_head, length-spelled}
use Rattle.klv.proofs.items.items_have_lengths.Goals as goal

pub returns : goal.returns
returns c = record { head = length-klv_head; whole = length-spelled }

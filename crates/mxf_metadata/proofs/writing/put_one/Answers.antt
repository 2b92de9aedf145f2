use Rattle.std.proofs.Common.{List, ℕ, ap, ◌∙◌}
use Rattle.rec_bytes.specs.Places.{with_bytes}
use Rattle.local_sets.specs.Sets.{local_set}
use Rattle.mxf_metadata.proofs.Joins.{one}
use Rattle.mxf_metadata.proofs.writing.put_one.Goals as goal

pub returns-clause-written : goal.returns-clause-written
returns-clause-written c =
    one c.args.out.now c.put_set.new.out c.args.at c.put_set.result c.args.kind c.args.items.now c.put_set.ensures.end
    (c.put_set.ensures.written ∙ ap (λ (key : List ℕ). with_bytes c.args.out.now c.args.at (local_set key c.args.items.now)) c.set_key.ensures)

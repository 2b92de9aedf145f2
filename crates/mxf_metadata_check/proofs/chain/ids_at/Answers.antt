use Rattle.std.proofs.Common.{sym, ap, ◌∙◌}
use Rattle.mxf_metadata_check.proofs.Naming.{none_within}
use Rattle.mxf_op1a.specs.Metadata.{ids_in_value}
use Rattle.mxf_metadata_check.proofs.chain.ids_at.Goals as goal

pub returns-in-None : goal.returns-in-None
returns-in-None c = ap (ids_in_value c.args.tag) (sym c.in-None.ensures.first) ∙ sym none_within

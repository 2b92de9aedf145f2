use Rattle.std.proofs.Common.{ap, ◌∙◌}
use Rattle.std.specs.Option.{is_some}
use Rattle.mxf_metadata_check.proofs.Ids.{there_is}
use Rattle.mxf_metadata_check.proofs.firsts.is_there.Goals as goal

pub returns : goal.returns
returns c = λ sets tells. c.is_some.ensures ∙ ap is_some (c.first_of.ensures sets tells) ∙ there_is sets c.args.id.now

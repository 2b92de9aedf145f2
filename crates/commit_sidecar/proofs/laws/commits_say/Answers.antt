use Rattle.commit_sidecar.proofs.LawLemmas.{noted_says, opened_says}
use Rattle.commit_sidecar.proofs.laws.commits_say.Goals as goal

pub returns-clause-noted : goal.returns-clause-noted
returns-clause-noted c = noted_says

pub returns-clause-opened : goal.returns-clause-opened
returns-clause-opened c = opened_says

use Rattle.commit_sidecar.proofs.LawLemmas.{says_one, says_unrefused, refused_once}
use Rattle.commit_sidecar.proofs.laws.files_say_one_thing.Goals as goal

pub returns-clause-one : goal.returns-clause-one
returns-clause-one c = says_one

pub returns-clause-said : goal.returns-clause-said
returns-clause-said c = says_unrefused

pub returns-clause-refused : goal.returns-clause-refused
returns-clause-refused c = refused_once

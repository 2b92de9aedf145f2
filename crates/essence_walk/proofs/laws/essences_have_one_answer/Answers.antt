use Rattle.essence_walk.proofs.LawLemmas.{not_damaged, damaged_once}
use Rattle.essence_walk.proofs.laws.essences_have_one_answer.Goals as goal

pub returns-clause-named : goal.returns-clause-named
returns-clause-named g c = λ cfg mark essence units at. not_damaged g.L.TakeLayout cfg mark essence units at

pub returns-clause-damaged : goal.returns-clause-damaged
returns-clause-damaged g c = λ cfg mark essence at other. damaged_once g.L.TakeLayout cfg mark essence at other

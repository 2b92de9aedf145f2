use Rattle.rec_bytes.specs.laws.Spellings.{spells_there, spelling_long}
use Rattle.rec_bytes.proofs.config_bytes.spellings_are_configurations.Goals as goal

pub returns-clause-there : goal.returns-clause-there
returns-clause-there c = spells_there

pub returns-clause-sized : goal.returns-clause-sized
returns-clause-sized c = spelling_long

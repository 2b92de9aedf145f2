use Rattle.std.proofs.Common.{arith}
use Rattle.std.proofs.lemmas.Grind.{common_steps}
use Rattle.prores_scan.specs.laws.LevelLaws.{level_of_is_nearest}
use Rattle.prores_scan.proofs.levels.quantise.Goals as goal

pub returns-clause-level : goal.returns-clause-level
returns-clause-level c = grind (arith, common_steps)

pub returns-clause-nearest : goal.returns-clause-nearest
returns-clause-nearest c =
    rw (returns-clause-level c) (level_of_is_nearest c.args.g c.args.weight c.args.scale (omega arith) c.requires.scale)

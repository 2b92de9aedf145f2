use Rattle.prores_codes.specs.laws.Apart as laws
use Rattle.prores_codes.proofs.laws.spellings_are_apart.Goals as goal

pub returns : goal.returns
returns c = laws.spellings_are_apart

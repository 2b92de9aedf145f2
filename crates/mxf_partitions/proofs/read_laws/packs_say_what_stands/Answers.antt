use Rattle.mxf_partitions.proofs.BackLemmas.{pack_back}
use Rattle.mxf_partitions.proofs.EntryLaws.{index_back, index_stands}
use Rattle.mxf_partitions.proofs.StandLemmas.{pack_stands}
use Rattle.mxf_partitions.proofs.read_laws.packs_say_what_stands.Goals as goal

pub returns-clause-pack : goal.returns-clause-pack
returns-clause-pack c = pack_stands

pub returns-clause-pack_said : goal.returns-clause-pack_said
returns-clause-pack_said c = pack_back

pub returns-clause-index : goal.returns-clause-index
returns-clause-index c = index_stands

pub returns-clause-index_said : goal.returns-clause-index_said
returns-clause-index_said c = index_back

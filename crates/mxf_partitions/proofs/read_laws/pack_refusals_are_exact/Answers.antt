use Rattle.mxf_partitions.proofs.IndexLemmas.{index_none, index_one}
use Rattle.mxf_partitions.proofs.RefusalLemmas.{front_none, front_one}
use Rattle.mxf_partitions.proofs.read_laws.pack_refusals_are_exact.Goals as goal

pub returns : goal.returns
returns c =
    let first = c.items_are_unique.ensures.first in record {
      pack_none = front_none first;
      pack_one = front_one first;
      index_none = λ bytes entries fault. index_none first bytes entries fault;
      index_one = index_one first;
    }

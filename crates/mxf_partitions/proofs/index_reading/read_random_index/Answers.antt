use Rattle.std.proofs.Common.{subst, List}
use Rattle.mxf_partitions.specs.Refusals.{IsFirstFall}
use Rattle.mxf_partitions.specs.declared.fault.PackFault.TheVariants.{IndexPackOrder}
use Rattle.mxf_partitions.specs.declared.random_index.PackEntry.{PackEntry}
use Rattle.mxf_partitions.proofs.IndexLemmas.{index_none, has_fall}
use Rattle.mxf_partitions.proofs.index_reading.read_random_index.Goals as goal

pub returns-in-Some-first_fall-clause-accepted : goal.returns-in-Some-first_fall-clause-accepted
returns-in-Some-first_fall-clause-accepted c = λ entries h.
    let entry = c.in-Some-first_fall.entry in
    let falls = subst (λ (xs : List PackEntry). IsFirstFall xs entry) c.as_slice.ensures.value c.in-Some-first_fall.ensures.some in
    let fall = has_fall c.args.bytes.now c.in-Some.value.now c.in-Ok.entries.items entry c.in-Some.ensures.some c.in-Ok.ensures falls in
    absurd (index_none c.items_are_unique.ensures.first c.args.bytes.now entries (IndexPackOrder entry) (λ e. absurd (cc)) fall h)

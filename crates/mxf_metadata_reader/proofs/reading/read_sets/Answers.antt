use Rattle.std.proofs.Common.{Bool, List, sym, subst}
use Rattle.mxf_metadata_reader.specs.inner.Places.{IsTable}
use Rattle.mxf_metadata_reader.proofs.ReadLemmas.{is_read, is_refused}
use Rattle.mxf_metadata_reader.proofs.reading.read_sets.Goals as goal

pub returns-in-Some-clause-refused : goal.returns-in-Some-clause-refused
returns-in-Some-clause-refused c =
    let p = c.in-Ok.ensures.read in
    let table = subst (λ (listed : List Bool). IsTable listed p.front.tags) (sym c.deref-2.ensures.value) p.table in
    is_refused c.args.bytes.now c.in-Ok.primer c.in-Ok-outline_of.outline p c.in-Ok-outline_of.ensures
    c.deref-3.result.now c.in-Some.fault c.deref-3.ensures.value
    (c.in-Some.ensures p.front.tags table)

pub returns-clause-read : goal.returns-clause-read
returns-clause-read c =
    let p = c.in-Ok.ensures.read in
    let table = subst (λ (listed : List Bool). IsTable listed p.front.tags) (sym c.deref-2.ensures.value) p.table in
    is_read c.args.bytes.now c.in-Ok.primer c.in-Ok-outline_of.outline p c.in-Ok-outline_of.ensures
    c.deref-3.result.now c.deref-in-None.result.now c.fields_of.result
    c.deref-3.ensures.value c.deref-in-None.ensures.value
    (c.in-None.ensures p.front.tags table) c.fields_of.ensures

use Rattle.std.proofs.Common.{◌≡◌, inr, Some, None, sym, ap, ◌∙◌}
use Rattle.std.proofs.lemmas.Result.{err_from_is_err_and}
use Rattle.mxf_index.specs.Reads.{first_fall}
use Rattle.mxf_index.proofs.ValueLemmas.{by_items, by_order, streams_are}
use Rattle.mxf_index.proofs.reading.read_value.Goals as goal

pub returns-in_err-count-clause-refused : goal.returns-in_err-count-clause-refused
returns-in_err-count-clause-refused c =
    let p = err_from_is_err_and c.from_residual.result c.from_residual.ensures.1 in
    rw (p.1, p.2) (inr (by_items c.args.value.now _ c.in_err-count.ensures.refused))

pub returns-in-Some-clause-refused : goal.returns-in-Some-clause-refused
returns-in-Some-clause-refused c =
    let value = c.args.value.now in
    let streams = streams_are value c.in-Ok.streams.items c.in_ok-count.count c.in_ok-count.ensures.count c.in-Ok.ensures in
    let fall : Some c.in-Some.entry ≡ first_fall c.in-Ok.streams.items = sym c.in-Some.is ∙ c.first_fall.ensures ∙ ap first_fall c.as_slice.ensures.value in
    inr (by_order value c.in-Ok.streams.items (Some c.in-Some.entry) c.in_ok-count.ensures.read streams fall)

pub returns-clause-read : goal.returns-clause-read
returns-clause-read c =
    let value = c.args.value.now in
    let streams = streams_are value c.in-Ok.streams.items c.in_ok-count.count c.in_ok-count.ensures.count c.in-Ok.ensures in
    let fall : None ≡ first_fall c.in-Ok.streams.items = sym c.in_default.is ∙ c.first_fall.ensures ∙ ap first_fall c.as_slice.ensures.value in
    record {
      kept = by_order value c.in-Ok.streams.items None c.in_ok-count.ensures.read streams fall;
      frames = λ i. record { first = sym c.u64_at.ensures i; streams = sym streams i };
    }

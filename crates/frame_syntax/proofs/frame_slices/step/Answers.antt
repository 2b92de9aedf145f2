use Rattle.std.proofs.Common.{◌+◌, ◌-◌, drop, ap, ◌∙◌, arith}
use Rattle.frame_syntax.specs.Pictures.{spans_from, slice_sizes}
use Rattle.frame_syntax.proofs.SpanLemmas.{sizes_next, spans_next, sum_next_size}
use Rattle.frame_syntax.proofs.frame_slices.step.Goals as goal

pub returns-clause-next : goal.returns-clause-next
returns-clause-next c =
    let run = c.args.run.now in
    let next = sizes_next c.args.bytes.now run.entry_at run.left c.u16_at.result c.requires.some c.u16_at.ensures in
    ap (spans_from run.at) next ∙ spans_next run.at c.u16_at.result (slice_sizes (run.left - 1) (drop (run.entry_at + 2) c.args.bytes.now))

pub returns-clause-fits : goal.returns-clause-fits
returns-clause-fits c =
    let run = c.args.run.now in
    let next = sum_next_size c.args.bytes.now run.entry_at run.left c.u16_at.result c.requires.some c.u16_at.ensures in
    let fits = c.requires.fits in
    record { entries = omega (arith, fits.entries, c.requires.some); slices = omega (arith, fits.slices, next) }

pub returns-clause-within : goal.returns-clause-within
returns-clause-within c =
    let run = c.args.run.now in
    let next = sum_next_size c.args.bytes.now run.entry_at run.left c.u16_at.result c.requires.some c.u16_at.ensures in
    let fits = c.requires.fits in
    omega (arith, fits.slices, next)

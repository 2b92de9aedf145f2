use Rattle.std.proofs.Common.{refl, ◌∙◌}
use Rattle.std.proofs.lemmas.Result.{err_from_is_err_and}
use Rattle.std.specs.Fmt.InlineText.{inline_text}
use Rattle.take_commands.specs.Checks.{Checks}
use Rattle.take_commands.specs.Views.{devices}
use Rattle.take_commands.proofs.CauseLemmas.{causes_fault, causes_written}
use Rattle.take_commands.proofs.ViewLemmas.{views_fault, views_written}
use Rattle.take_commands.proofs.checks.check.Goals as goal

pub returns-in_err-line-clause-ran : goal.returns-in_err-line-clause-ran
returns-in_err-line-clause-ran g c =
    let disk = g.D.TakeDisk in
    let sink = g.W.Sink in
    let before = devices (disk.told c.args.disk.now) (disk.fault_count c.args.disk.now) (sink.written c.args.out.now) (sink.fault_count c.args.out.now) in
    let now = devices (disk.told c.read_line.new.disk) (disk.fault_count c.read_line.new.disk) (sink.written c.args.out.now) (sink.fault_count c.args.out.now) in
    let p = err_from_is_err_and c.from_residual.result c.from_residual.ensures.1 in
    rw (p.1, p.2) (views_fault Checks before now c.in_err-line.field-0.0 c.in_err-line.ensures.refused c.in_err-line.ensures.cause refl)

pub returns-in_err-line-clause-cause : goal.returns-in_err-line-clause-cause
returns-in_err-line-clause-cause g c =
    let disk = g.D.TakeDisk in
    let sink = g.W.Sink in
    let before = devices (disk.told c.args.disk.now) (disk.fault_count c.args.disk.now) (sink.written c.args.out.now) (sink.fault_count c.args.out.now) in
    let now = devices (disk.told c.read_line.new.disk) (disk.fault_count c.read_line.new.disk) (sink.written c.args.out.now) (sink.fault_count c.args.out.now) in
    let p = err_from_is_err_and c.from_residual.result c.from_residual.ensures.1 in
    rw (p.1, p.2) (causes_fault before now c.in_err-line.field-0.0 c.in_err-line.ensures.cause refl)

pub returns-clause-ran : goal.returns-clause-ran
returns-clause-ran g c =
    let disk = g.D.TakeDisk in
    let sink = g.W.Sink in
    let before = devices (disk.told c.args.disk.now) (disk.fault_count c.args.disk.now) (sink.written c.args.out.now) (sink.fault_count c.args.out.now) in
    let now = devices (disk.told c.read_line.new.disk) (disk.fault_count c.read_line.new.disk) (sink.written c.put_piece.new.out) (sink.fault_count c.put_piece.new.out) in
    let line = c.as_bytes.ensures.value ∙ c.as_str.ensures.value in
    views_written Checks before now c.put_piece.result (inline_text c.in_ok-line.line) c.in_ok-line.ensures.line
    (rw line at c.put_piece.ensures.written) c.put_piece.ensures.cause

pub returns-clause-cause : goal.returns-clause-cause
returns-clause-cause g c =
    let disk = g.D.TakeDisk in
    let sink = g.W.Sink in
    let before = devices (disk.told c.args.disk.now) (disk.fault_count c.args.disk.now) (sink.written c.args.out.now) (sink.fault_count c.args.out.now) in
    let now = devices (disk.told c.read_line.new.disk) (disk.fault_count c.read_line.new.disk) (sink.written c.put_piece.new.out) (sink.fault_count c.put_piece.new.out) in
    causes_written before now c.put_piece.result c.in_ok-line.ensures.cause c.put_piece.ensures.cause

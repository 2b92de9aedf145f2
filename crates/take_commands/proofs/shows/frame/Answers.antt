use Rattle.std.proofs.Common.{refl, ap}
use Rattle.std.proofs.lemmas.Result.{err_from_is_err_and}
use Rattle.raw_feed.specs.Pictures.{picture_bytes, spelled}
use Rattle.take_commands.specs.Shows.{Shows}
use Rattle.take_commands.specs.Views.{devices}
use Rattle.take_commands.proofs.CauseLemmas.{causes_fault, causes_written}
use Rattle.take_commands.proofs.ViewLemmas.{views_fault, views_written}
use Rattle.take_commands.proofs.shows.frame.Goals as goal

pub returns-in_err-picture-clause-ran : goal.returns-in_err-picture-clause-ran
returns-in_err-picture-clause-ran g c =
    let disk = g.D.TakeDisk in
    let sink = g.W.Sink in
    let before = devices (disk.told c.args.disk.now) (disk.fault_count c.args.disk.now) (sink.written c.args.out.now) (sink.fault_count c.args.out.now) in
    let now = devices (disk.told c.read_picture.new.disk) (disk.fault_count c.read_picture.new.disk) (sink.written c.args.out.now) (sink.fault_count c.args.out.now) in
    let p = err_from_is_err_and c.from_residual.result c.from_residual.ensures.1 in
    rw (p.1, p.2) (views_fault (Shows c.args.number) before now c.in_err-picture.field-0.0 c.in_err-picture.ensures.refused c.in_err-picture.ensures.cause refl)

pub returns-in_err-picture-clause-cause : goal.returns-in_err-picture-clause-cause
returns-in_err-picture-clause-cause g c =
    let disk = g.D.TakeDisk in
    let sink = g.W.Sink in
    let before = devices (disk.told c.args.disk.now) (disk.fault_count c.args.disk.now) (sink.written c.args.out.now) (sink.fault_count c.args.out.now) in
    let now = devices (disk.told c.read_picture.new.disk) (disk.fault_count c.read_picture.new.disk) (sink.written c.args.out.now) (sink.fault_count c.args.out.now) in
    let p = err_from_is_err_and c.from_residual.result c.from_residual.ensures.1 in
    rw (p.1, p.2) (causes_fault before now c.in_err-picture.field-0.0 c.in_err-picture.ensures.cause refl)

pub returns-clause-ran : goal.returns-clause-ran
returns-clause-ran g c =
    let disk = g.D.TakeDisk in
    let sink = g.W.Sink in
    let before = devices (disk.told c.args.disk.now) (disk.fault_count c.args.disk.now) (sink.written c.args.out.now) (sink.fault_count c.args.out.now) in
    let now = devices (disk.told c.read_picture.new.disk) (disk.fault_count c.read_picture.new.disk) (sink.written c.put_samples.new.out) (sink.fault_count c.put_samples.new.out) in
    let samples = ap spelled c.samples.ensures in
    views_written (Shows c.args.number) before now c.put_samples.result (picture_bytes c.in_ok-picture.picture) c.in_ok-picture.ensures.picture
    (rw samples at c.put_samples.ensures.written) c.put_samples.ensures.cause

pub returns-clause-cause : goal.returns-clause-cause
returns-clause-cause g c =
    let disk = g.D.TakeDisk in
    let sink = g.W.Sink in
    let before = devices (disk.told c.args.disk.now) (disk.fault_count c.args.disk.now) (sink.written c.args.out.now) (sink.fault_count c.args.out.now) in
    let now = devices (disk.told c.read_picture.new.disk) (disk.fault_count c.read_picture.new.disk) (sink.written c.put_samples.new.out) (sink.fault_count c.put_samples.new.out) in
    causes_written before now c.put_samples.result c.in_ok-picture.ensures.cause c.put_samples.ensures.cause

use Rattle.std.proofs.Common.{length, ap, arith, length-append}
use Rattle.take_layout.specs.laws.Files.{Laws, Bounds, fit}
use Rattle.take_layout.proofs.laws.files_fit.Goals as goal

pub returns-clause-growing : goal.returns-clause-growing
returns-clause-growing g c = λ cfg units ranged are.
    let met = g.met.L.TakeLayout in
    let laws : Laws g.L.TakeLayout cfg =
    record { starts = met.starts cfg; grows = met.grows cfg; no_places = met.no_places cfg; more_places = met.more_places cfg } in
    let room = (met.rooms_fit cfg ranged).0 in
    let bounds : Bounds g.L.TakeLayout cfg = record {
      head = (met.head_fits cfg ranged).1;
      lead = λ before unit both. let le = met.lead_fits cfg before unit ranged both in omega (arith, le, room);
      unit = met.unit_fits cfg;
    } in
    fit laws bounds units are

pub returns-clause-closed : goal.returns-clause-closed
returns-clause-closed g c = λ cfg units ranged are.
    let met = g.met.L.TakeLayout in
    let all = returns-clause-growing g c cfg units ranged are in
    let tail = met.tail_fits cfg units ranged are in
    let room = (met.rooms_fit cfg ranged).1 in
    omega (arith, all, tail, room, ap length (met.closes cfg units), length-append (g.L.TakeLayout.growing cfg units) (g.L.TakeLayout.tail cfg units))

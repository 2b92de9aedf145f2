use Rattle.std.proofs.Common.{arith}
use Rattle.rec_bytes.specs.Views.{view}
use Rattle.take_layout.specs.laws.Takes.{lead_fits}
use Rattle.take_layout.proofs.growing.place_at.Goals as goal

pub overflow_add-result : goal.overflow_add-result
overflow_add-result g c =
    let cfg = view c.args.cfg.now in
    let met = g.met.L.TakeLayout in
    let ranged = c.ranges-2.ensures in
    let unit = c.requires.unit in
    let fits = lead_fits g.L.TakeLayout cfg cfg.max_frames c.args.places.now unit.0 c.lead_len.result
    ranged.max_frames.least c.requires.lie unit.1 c.lead_len.ensures (λ us u a. met.lead_fits cfg us u ranged a) in
    let room = (met.rooms_fit cfg ranged).0 in
    omega arith

pub returns-clause-near : goal.returns-clause-near
returns-clause-near g c =
    let cfg = view c.args.cfg.now in
    let met = g.met.L.TakeLayout in
    let ranged = c.ranges-2.ensures in
    let unit = c.requires.unit in
    let fits = lead_fits g.L.TakeLayout cfg cfg.max_frames c.args.places.now unit.0 c.lead_len.result
    ranged.max_frames.least c.requires.lie unit.1 c.lead_len.ensures (λ us u a. met.lead_fits cfg us u ranged a) in
    let room = (met.rooms_fit cfg ranged).0 in
    omega arith

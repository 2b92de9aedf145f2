use Rattle.std.proofs.Common.{arith}
use Rattle.std.proofs.lemmas.List.{length-take}
use Rattle.rec_bytes.specs.Views.{view}
use Rattle.run_parts.proofs.take_file.write_lead.Goals as goal

pub slice_bounds-lead-end : goal.slice_bounds-lead-end
slice_bounds-lead-end g c =
    let unit = c.requires.unit in
    let fits = c.rooms_suffice.ensures.lead (view c.args.cfg.now) c.args.places.now unit.0 c.lead_len.result
    c.ranges-2.ensures c.requires.lie unit.1 c.lead_len.ensures in
    let room = c.requires.room in
    omega arith

pub slice_bounds-lead-end-2 : goal.slice_bounds-lead-end-2
slice_bounds-lead-end-2 g c =
    let unit = c.requires.unit in
    let fits = c.rooms_suffice.ensures.lead (view c.args.cfg.now) c.args.places.now unit.0 c.lead_len.result
    c.ranges-2.ensures c.requires.lie unit.1 c.lead_len.ensures in
    let room = c.requires.room in
    omega (arith, length-take c.lead_len.result c.args.buffer.now)

pub put_lead-requires-clause-room : goal.put_lead-requires-clause-room
put_lead-requires-clause-room g c = λ units lie.
    let unit = c.requires.unit in
    let fits = c.rooms_suffice.ensures.lead (view c.args.cfg.now) c.args.places.now unit.0 c.lead_len.result
    c.ranges-2.ensures c.requires.lie unit.1 c.lead_len.ensures in
    let room = c.requires.room in
    let long = c.lead_len.ensures units c.args.unit_len lie in
    omega (arith, length-take c.lead_len.result c.args.buffer.now)

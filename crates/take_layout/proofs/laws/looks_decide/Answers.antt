use Rattle.take_layout.specs.laws.Looks.{sized, found, seen}
use Rattle.take_layout.proofs.laws.looks_decide.Goals as goal

pub returns-clause-sized : goal.returns-clause-sized
returns-clause-sized g c = λ cfg bytes from at n finds. sized (g.L.TakeLayout.is_unit cfg) bytes from at n finds

pub returns-clause-found : goal.returns-clause-found
returns-clause-found g c = λ cfg units bytes have from n finds front room.
    found (g.L.TakeLayout.is_unit cfg) (g.L.TakeLayout.lead cfg units) bytes have from n finds front room

pub returns-clause-seen : goal.returns-clause-seen
returns-clause-seen g c = λ cfg units unit rest have from walk whole part asks are enough small.
    seen (g.L.TakeLayout.is_unit cfg) (g.L.TakeLayout.lead cfg) cfg.max_frames (g.L.TakeLayout.lead_most cfg)
    units unit rest have from walk whole part asks are enough small

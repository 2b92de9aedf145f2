use Rattle.std.proofs.Common.{List, subst}
use Rattle.take_core.specs.declared.mark.Mark.{Mark}
use Rattle.commit_sidecar.specs.Recovers.{mark_of}
use Rattle.essence_walk.specs.Essences.{Names}
use Rattle.essence_walk.proofs.laws.marks_recover_units.Goals as goal

pub returns-clause-named : goal.returns-clause-named
returns-clause-named g c = λ areas cfg marks units says r.
    let layout = g.L.TakeLayout in
    let same = (c.files_say_one_thing.ensures.one areas.commits cfg cfg r.marks marks r.says says).1 in
    subst (λ (ms : List Mark). Names layout cfg (mark_of layout cfg ms) areas.essence units) same (record {
      file = record { are_units = r.are_units; count = r.count; length_is = r.length_is; rest = r.rest; begins = r.begins };
      ends = r.ends;
    })

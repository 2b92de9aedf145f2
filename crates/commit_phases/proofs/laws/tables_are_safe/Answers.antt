use Rattle.std.proofs.Common.{length, arith}
use Rattle.commit_phases.specs.laws.Safety.{table_safe, closed_safe}
use Rattle.commit_phases.proofs.laws.tables_are_safe.Goals as goal

pub returns-clause-growing : goal.returns-clause-growing
returns-clause-growing g c = λ cfg units acked records tail phase out held t.
    table_safe g.L.TakeLayout c.lays_out.ensures cfg units acked records tail phase out held t

pub returns-clause-closed : goal.returns-clause-closed
returns-clause-closed g c = λ cfg units records held closed. closed_safe g.L.TakeLayout cfg units (length units) records held (omega arith) closed

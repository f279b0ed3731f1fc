use Rattle.graph.specs.Overs.{RowUpto}
use Rattle.graph.proofs.graph.Graph.over_row.Given as goal

abbrev pub invariant-loop-to : goal.invariant-loop-to
invariant-loop-to g l = RowUpto g.L.Length.kind l.self.marks l.middle l.from l.to l.initial.table l.table

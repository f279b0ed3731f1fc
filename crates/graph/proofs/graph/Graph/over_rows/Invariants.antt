use Rattle.graph.specs.Overs.{Still, TableUpto}
use Rattle.graph.proofs.graph.Graph.over_rows.Given as goal

abbrev pub invariant-loop-from : goal.invariant-loop-from
invariant-loop-from g l = Still g.L.Length.kind l.self.marks l.middle l.initial.table → TableUpto g.L.Length.kind l.self.marks l.middle l.from l.initial.table l.table

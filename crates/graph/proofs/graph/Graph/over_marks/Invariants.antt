use Rattle.graph.specs.Overs.{Overs}
use Rattle.graph.proofs.graph.Graph.over_marks.Given as goal

abbrev pub invariant-loop-middle : goal.invariant-loop-middle
invariant-loop-middle g l = Overs g.L.Length.kind l.self.marks l.middle l.initial.table l.table

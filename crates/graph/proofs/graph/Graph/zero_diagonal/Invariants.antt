use Rattle.std.proofs.Common.{◌≡◌}
use Rattle.graph.specs.Filling.{diagonal}
use Rattle.graph.proofs.graph.Graph.zero_diagonal.Given as goal

abbrev pub invariant-loop-i : goal.invariant-loop-i
invariant-loop-i g l = l.table ≡ diagonal g.L.Length.kind l.self.marks l.i l.initial.table

use Rattle.std.proofs.Common.{◌%◌, eqb}
use Rattle.graph.specs.Outcome.{Going}
use Rattle.graph.proofs.graph.Graph.rounds.Given as goal

abbrev pub invariant-loop-past : goal.invariant-loop-past
invariant-loop-past g l = Going g.L.Length.kind l.self.marks l.self.rules.now l.initial.row l.past (eqb (l.past % 2) 0) l.row l.last

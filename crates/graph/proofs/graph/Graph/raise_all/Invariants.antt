use Rattle.std.proofs.Common.{◌≡◌, drop}
use Rattle.graph.specs.Filling.{raised_all}
use Rattle.graph.proofs.graph.Graph.raise_all.Given as goal

abbrev pub invariant-loop-listed : goal.invariant-loop-listed
invariant-loop-listed g l =
    raised_all g.L.Length.kind l.self.marks (drop l.listed-index l.self.rules.now) l.table ≡ raised_all g.L.Length.kind l.self.marks l.self.rules.now l.initial.table

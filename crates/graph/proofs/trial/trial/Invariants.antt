use Rattle.std.proofs.Common.{◌≡◌, drop, None}
use Rattle.graph.specs.Trial.{smallest}
use Rattle.graph.proofs.trial.trial.Given as goal

abbrev pub invariant-loop-listed : goal.invariant-loop-listed
invariant-loop-listed g l = smallest g.L.Length.kind l.row l.smallest (drop l.listed-index l.rules) ≡ smallest g.L.Length.kind l.row None l.rules

use Rattle.std.proofs.Common.{◌≡◌, ℕ, ◌<◌, ◌≤◌}
use Rattle.graph.specs.Chains.{back}
use Rattle.graph.proofs.graph.Graph.returns_after.Given as goal

abbrev pub invariant-loop-step : goal.invariant-loop-step
invariant-loop-step g l =
    (l.at ≡ back g.L.Length.kind l.self.marks l.self.rules.now l.last l.step l.mark)
    × (l.at < l.self.marks)
    × ((e : ℕ) → 0 < e → e ≤ l.step → back g.L.Length.kind l.self.marks l.self.rules.now l.last e l.mark ≡ l.mark → ⊥)

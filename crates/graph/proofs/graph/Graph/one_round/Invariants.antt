use Rattle.std.proofs.Common.{ℕ, ◌+◌, ◌≤◌, false, List, length}
use Rattle.graph.specs.Rounds.{most_raises, Setting}
use Rattle.graph.specs.Outcome.{RoundAt}
use Rattle.graph.proofs.graph.Graph.one_round.Given as goal

abbrev pub invariant-loop-step : goal.invariant-loop-step
invariant-loop-step g l =
    (start : List g.row.L.Denot) (tries current : ℕ) → Setting g.L.Length.kind l.self.marks l.self.rules.now start → tries + length l.self.rules.now ≤ most_raises →
    RoundAt g.L.Length.kind l.self.marks l.self.rules.now start tries current l.forwards 0 false l.initial.row l.initial.last →
    RoundAt g.L.Length.kind l.self.marks l.self.rules.now start (tries + l.step) current l.forwards l.step l.raised l.row l.last

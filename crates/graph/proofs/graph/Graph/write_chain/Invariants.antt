use Rattle.std.proofs.Common.{◌≡◌, ◌-◌, ◌++◌, take, drop}
use Rattle.graph.specs.Chains.{back, chain}
use Rattle.graph.specs.Cycles.{numbers}
use Rattle.graph.proofs.graph.Graph.write_chain.Given as goal

abbrev pub invariant-loop-place : goal.invariant-loop-place
invariant-loop-place g l =
    (l.at ≡ back g.L.Length.kind l.self.marks l.self.rules.now l.chain.last (l.chain.count - l.place) l.chain.mark)
    × (l.list ≡ take l.place l.initial.list ++ (numbers (chain g.L.Length.kind l.self.marks l.self.rules.now l.chain.last (l.chain.count - l.place) l.chain.mark) ++ drop l.chain.count l.initial.list))

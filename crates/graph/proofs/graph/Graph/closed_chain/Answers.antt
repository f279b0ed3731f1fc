-- Each call of the closure leaves it as it was, and answers what the chain from its mark comes to.
use Rattle.std.proofs.Common.{rules}
use Rattle.graph.proofs.Seeking.{found_first}
use Rattle.graph.proofs.graph.Graph.closed_chain.Goals as goal

pub returns : goal.returns
returns g c =
    let runs = c.find_map.ensures.runs in
    found_first g.L.Length.kind c.args.self.now.marks c.args.self.now.rules.now c.args.last.now _ _ (λ w r f' h. (search rules, search rules))
    runs.0 (search rules) (search rules) c.find_map.result runs.2

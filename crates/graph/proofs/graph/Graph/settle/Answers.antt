use Rattle.graph.proofs.Answering.{setting, answer_settled, answer_over}
use Rattle.graph.proofs.graph.Graph.settle.Goals as goal

pub rounds-requires : goal.rounds-requires
rounds-requires g c = setting g.L.Length.kind g.met.L.Length.laws c.args.self.now.marks c.args.self.now.rules.now c.args.row.now c.args.row.now c.requires

pub returns-in-None : goal.returns-in-None
returns-in-None g c = answer_settled g.L.Length.kind g.met.L.Length.laws c.args.self.now.marks c.args.self.now.rules.now c.args.row.now c.rounds.new.row c.requires c.in-None.ensures

pub returns-in-Some : goal.returns-in-Some
returns-in-Some g c =
    answer_over g.L.Length.kind g.met.L.Length.laws c.args.self.now.marks c.args.self.now.rules.now c.args.row.now c.rounds.new.row c.requires c.in-Some.field-0 c.clear.new.row c.in-Some.ensures c.clear.ensures

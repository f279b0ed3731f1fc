use Rattle.std.proofs.Common.{arith}
use Rattle.graph.proofs.Answering.{from_zeros, answer_feasible, answer_cycle}
use Rattle.graph.proofs.cycle.show_cycle.Goals as goal

pub rounds-found-requires : goal.rounds-found-requires
rounds-found-requires g c =
    let graph = c.in_ok-graph.graph in
    from_zeros g.L.Length.kind g.met.L.Length.laws graph.marks graph.rules.now c.args.row.now c.args.list.now c.clear.new.row c.clear.new.row graph.sound c.in_ok-check_room.ensures c.in_ok-check_room-2.ensures
    c.clear.ensures

pub returns-in_default : goal.returns-in_default
returns-in_default g c =
    let graph = c.in_ok-graph.graph in
    let same = c.in_ok-graph.ensures in
    rw (← same.0, ← same.1)
    (answer_feasible g.L.Length.kind g.met.L.Length.laws graph.marks graph.rules.now c.args.row.now c.args.list.now c.clear.new.row c.rounds-found.new.row graph.sound c.in_ok-check_room.ensures c.in_ok-check_room-2.ensures
    c.clear.ensures
    c.clear-2.new.row c.in_default.ensures c.clear-2.ensures)

pub write_chain-requires : goal.write_chain-requires
write_chain-requires g c =
    let closed = c.in-Some.ensures in
    record { returns = closed.returns; fits = omega (arith, closed.returns.most, c.in_ok-check_room-2.ensures) }

pub returns : goal.returns
returns g c =
    let graph = c.in_ok-graph.graph in
    let same = c.in_ok-graph.ensures in
    rw (← same.0, ← same.1)
    (answer_cycle g.L.Length.kind g.met.L.Length.laws graph.marks graph.rules.now c.args.row.now c.args.list.now c.clear.new.row c.rounds-found.new.row graph.sound c.in_ok-check_room.ensures c.in_ok-check_room-2.ensures
    c.clear.ensures
    c.in-Some.chain c.clear-2.new.row c.write_chain.new.list c.in-Some.ensures c.clear-2.ensures c.write_chain.ensures)

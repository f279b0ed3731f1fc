use Rattle.std.proofs.Common.{arith}
use Rattle.graph.proofs.Measuring.{setting, distances_over, distances_done}
use Rattle.graph.proofs.distancing.distances.Goals as goal

pub rounds-requires : goal.rounds-requires
rounds-requires g c =
    let graph = c.in_ok-graph.graph in
    setting g.L.Length.kind g.met.L.Length.laws graph.marks graph.rules.now c.args.table.now c.clear.new.row c.clear.new.row graph.sound c.in_ok-check_room.ensures c.clear.ensures

pub returns-in-None : goal.returns-in-None
returns-in-None g c =
    let graph = c.in_ok-graph.graph in
    let same = c.in_ok-graph.ensures in
    rw (← same.0, ← same.1)
    (distances_done g.L.Length.kind g.met.L.Length.laws graph.marks graph.rules.now c.args.table.now c.clear.new.row c.rounds.new.row graph.sound c.in_ok-check_room.ensures c.clear.ensures
    c.begin.new.table c.over_marks.new.table c.in-None.ensures (omega (arith, c.in_ok-check_room.ensures, c.rounds.auto.row, c.clear.auto.row)) c.begin.ensures c.over_marks.ensures)

pub returns-in-Some : goal.returns-in-Some
returns-in-Some g c =
    let graph = c.in_ok-graph.graph in
    let same = c.in_ok-graph.ensures in
    rw (← same.0, ← same.1)
    (distances_over g.L.Length.kind g.met.L.Length.laws graph.marks graph.rules.now c.args.table.now c.clear.new.row c.rounds.new.row graph.sound c.in_ok-check_room.ensures c.clear.ensures
    c.in-Some.field-0 c.clear-in-Some.new.row c.in-Some.ensures c.clear-in-Some.ensures)

use Rattle.graph.proofs.PackedRows.{packs_from, ready_zeros}
use Rattle.graph.proofs.packing.pack.Goals as goal

pub settle-requires : goal.settle-requires
settle-requires g c =
    let graph = c.in_ok-graph.graph in
    ready_zeros g.L.Length.kind g.met.L.Length.laws graph.marks graph.rules.now c.args.row.now c.clear.new.row graph.sound c.in_ok-check_room.ensures c.clear.ensures

pub returns : goal.returns
returns g c =
    let graph = c.in_ok-graph.graph in
    let same = c.in_ok-graph.ensures in
    rw (← same.0, ← same.1)
    (packs_from g.L.Length.kind g.met.L.Length.laws graph.marks graph.rules.now c.args.row.now c.clear.new.row graph.sound c.in_ok-check_room.ensures c.clear.ensures
    c.settle.result c.settle.new.row c.settle.ensures)

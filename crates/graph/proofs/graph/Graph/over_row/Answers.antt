use Rattle.graph.proofs.Changing.{row_more}
use Rattle.graph.proofs.graph.Graph.over_row.Goals as goal

pub loop-to-preserved : goal.loop-to-preserved
loop-to-preserved g c =
    row_more g.L.Length.kind c.args.self.now.marks c.args.middle c.args.from c.requires.below.0 c.requires.below.1 c.args.table.now c.loop-to.to c.loop-to-test.true c.loop-to.table c.loop-to.invariant
    c.requires.long c.place-at.result c.entry-before.result c.entry-after.result c.index-table-at.result c.place-at.ensures.is c.entry-before.ensures c.entry-after.ensures c.index-table-at.is
    c.through.result c.through.ensures

use Rattle.graph.proofs.Changing.{overs_more}
use Rattle.graph.proofs.graph.Graph.over_marks.Goals as goal

pub loop-middle-preserved : goal.loop-middle-preserved
loop-middle-preserved g c =
    overs_more g.L.Length.kind c.args.self.now.marks c.loop-middle.middle c.args.table.now c.loop-middle.table c.over_rows.new.table c.loop-middle.invariant c.over_rows.ensures

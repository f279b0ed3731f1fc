use Rattle.std.proofs.Common.{take}
use Rattle.graph.proofs.Clearing.{filled_more}
use Rattle.graph.proofs.filling.fill.Goals as goal

pub loop-entry-preserved : goal.loop-entry-preserved
loop-entry-preserved g c = filled_more (take c.args.count c.args.table.now) c.loop-entry.entry-items c.loop-entry.entry-index c.args.value c.loop-entry-test.true c.loop-entry.invariant

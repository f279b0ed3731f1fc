use Rattle.std.proofs.Common.{◌≡◌, ℕ, subst, arith}
use Rattle.graph.specs.Overs.{TableUpto}
use Rattle.graph.proofs.Changing.{rows_more}
use Rattle.graph.proofs.graph.Graph.over_rows.Goals as goal

pub loop-from-preserved : goal.loop-from-preserved
loop-from-preserved g c = λ still.
    rows_more g.L.Length.kind c.args.self.now.marks c.args.middle c.requires.below c.args.table.now c.loop-from.from c.loop-from.table c.over_row.new.table c.loop-from-test.true still (c.loop-from.invariant still) c.over_row.ensures

pub returns : goal.returns
returns g c = λ still.
    let e : c.loop-from.from ≡ c.args.self.now.marks = omega arith in
    subst (λ (i : ℕ). TableUpto g.L.Length.kind c.args.self.now.marks c.args.middle i c.args.table.now c.loop-from.table) e (c.loop-from.invariant still)

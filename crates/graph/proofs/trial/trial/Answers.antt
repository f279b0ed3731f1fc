use Rattle.std.proofs.Common.{arith}
use Rattle.graph.proofs.Trials.{read_marks_below, smallest_broken, smallest_unbroken, tried_all}
use Rattle.graph.proofs.trial.trial.Goals as goal
use Rattle.graph.proofs.trial.trial.Goals.{then-breaks, else-breaks}

pub breaks-requires : goal.breaks-requires
breaks-requires g c =
    let below = read_marks_below c.args.marks c.args.rules.now c.loop-listed.listed-index c.listed-item.result c.loop-listed-test.true c.listed-item.is c.if-not-marks_below.ensures in
    let long = c.in_ok-check_room.ensures in
    (omega (arith, long, below.0), omega (arith, long, below.1))

pub loop-listed-preserved : goal.loop-listed-preserved
loop-listed-preserved g c =
    let rules = c.args.rules.now in
    let q = c.listed-item.result in
    elim c.if-breaks.branch [
      | then-breaks w ↦
          smallest_broken g.L.Length.kind c.args.row.now rules c.loop-listed.listed-index q c.loop-listed.smallest c.if-breaks.smallest _ w.smaller.result
          c.loop-listed-test.true c.listed-item.is c.loop-listed.invariant w.if-breaks.ensures w.smaller.ensures w.smallest-is
      | else-breaks w ↦
          smallest_unbroken g.L.Length.kind c.args.row.now rules c.loop-listed.listed-index q c.loop-listed.smallest c.if-breaks.smallest _
          c.loop-listed-test.true c.listed-item.is c.loop-listed.invariant w.if-breaks.ensures w.smallest-is
    ]

pub returns : goal.returns
returns g c =
    tried_all g.L.Length.kind c.args.row.now c.args.marks c.args.rules.now c.loop-listed.listed-index c.loop-listed.smallest
    c.in_ok-check_room.ensures c.if-not-marks_below.ensures c.loop-listed-test.false c.loop-listed.invariant

use Rattle.std.proofs.Common.{arith}
use Rattle.reduction.specs.Reduction.{pairs_from}
use Rattle.reduction.specs.Told.{told}
use Rattle.reduction.proofs.Pairing.{joined_start, joined_skip, joined_more}
use Rattle.reduction.proofs.leading.Leaders.put_all_pairs.Goals as goal
use Rattle.reduction.proofs.leading.Leaders.put_all_pairs.Goals.{then-leads, else-leads}

pub loop-leader-init : goal.loop-leader-init
loop-leader-init g c =
    let k = g.L.Length.kind in
    let table = c.args.self.now.table in
    let n = table.marks in
    let d = told k table in
    record { most = omega arith; pairs = joined_start k n table.entries.now (pairs_from k d n) c.args.laying.now }

pub loop-leader-preserved : goal.loop-leader-preserved
loop-leader-preserved g c =
    let k = g.L.Length.kind in
    let table = c.args.self.now.table in
    let n = table.marks in
    let d = told k table in
    let loop = c.loop-leader in
    elim c.if-leads.branch [
      | then-leads w ↦ rw w.laying-is record {
        most = omega (arith, loop.invariant.most, w.put_pairs.ensures.most);
        pairs = joined_more k n table.entries.now (pairs_from k d n) loop.leader w.put_pairs.new.laying c.loop-leader-test.true w.if-leads.ensures w.put_pairs.ensures.lays loop.invariant.pairs;
      }
      | else-leads w ↦ rw w.laying-is record {
        most = omega (arith, loop.invariant.most);
        pairs = joined_skip k n table.entries.now (pairs_from k d n) loop.leader c.loop-leader-test.true w.if-leads.ensures loop.invariant.pairs;
      }
    ]

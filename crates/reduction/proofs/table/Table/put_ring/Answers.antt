use Rattle.std.proofs.Common.{arith}
use Rattle.reduction.specs.Told.{told}
use Rattle.reduction.proofs.Ringing.{ringing_start, ringing_skip, ringing_first, ringing_more, ringing_none, ringing_one, ringing_last}
use Rattle.reduction.proofs.table.Table.put_ring.Goals as goal
use Rattle.reduction.proofs.table.Table.put_ring.Goals.{in-None, in-Some}

pub loop-mark-init : goal.loop-mark-init
loop-mark-init g c =
    let k = g.L.Length.kind in
    let table = c.args.self.now in
    record { most = omega arith; ring = ringing_start k (told k table) table.marks c.args.leader c.args.laying.now }

pub loop-mark-preserved-then-not-tied : goal.loop-mark-preserved-then-not-tied
loop-mark-preserved-then-not-tied g c =
    let k = g.L.Length.kind in
    let table = c.args.self.now in
    let loop = c.loop-mark in
    record { most = omega (arith, loop.invariant.most); ring = ringing_skip k (told k table) table.marks c.args.leader loop.mark c.loop-mark-test.true loop.ends c.args.laying.now loop.laying c.if-not-tied.ensures loop.invariant.ring }

pub loop-mark-preserved : goal.loop-mark-preserved
loop-mark-preserved g c =
    let k = g.L.Length.kind in
    let table = c.args.self.now in
    let loop = c.loop-mark in
    elim c.match-ends.branch [
      | in-None w ↦ rw (w.laying-is, w.ends-is) record {
        most = omega (arith, loop.invariant.most);
        ring = ringing_first k (told k table) table.marks c.args.leader loop.mark c.loop-mark-test.true c.if-not-tied.ensures (rw w.in-None.is at loop.invariant.ring);
      }
      | in-Some w ↦ rw (w.laying-is, w.ends-is) record {
        most = omega (arith, loop.invariant.most, w.put.ensures.one);
        ring = ringing_more k (told k table) table.marks c.args.leader loop.mark c.loop-mark-test.true w.in-Some.first w.in-Some.last loop.laying w.put.new.self c.if-not-tied.ensures (rw w.rule.ensures at w.put.ensures.lays) (rw w.in-Some.is at loop.invariant.ring);
      }
    ]

pub returns-in_default-clause-lays : goal.returns-in_default-clause-lays
returns-in_default-clause-lays g c =
    let k = g.L.Length.kind in
    let table = c.args.self.now in
    ringing_none k (told k table) table.marks c.args.leader c.loop-mark.mark c.loop-mark-test.false (rw c.in_default.is at c.loop-mark.invariant.ring)

pub returns-then-first-last-clause-lays : goal.returns-then-first-last-clause-lays
returns-then-first-last-clause-lays g c =
    let k = g.L.Length.kind in
    let table = c.args.self.now in
    let put = c.put-then-first-last in
    ringing_last k (told k table) table.marks c.args.leader c.loop-mark.mark c.loop-mark-test.false c.in-Some-ends.first c.in-Some-ends.last c.loop-mark.laying put.new.self c.if-first-last.true (rw c.rule-then-first-last.ensures at put.ensures.lays)
    (rw c.in-Some-ends.is at c.loop-mark.invariant.ring)

pub returns-else-first-last-clause-lays : goal.returns-else-first-last-clause-lays
returns-else-first-last-clause-lays g c =
    let k = g.L.Length.kind in
    let table = c.args.self.now in
    ringing_one k (told k table) table.marks c.args.leader c.loop-mark.mark c.loop-mark-test.false c.in-Some-ends.first c.in-Some-ends.last c.if-first-last.false (rw c.in-Some-ends.is at c.loop-mark.invariant.ring)

use Rattle.std.proofs.Common.{ℕ, arith}
use Rattle.reduction.specs.Reduction.{ring, group}
use Rattle.reduction.specs.Told.{told}
use Rattle.reduction.proofs.Pairing.{joined_start, joined_skip, joined_more}
use Rattle.reduction.proofs.leading.Leaders.put_rings.Goals as goal
use Rattle.reduction.proofs.leading.Leaders.put_rings.Goals.{then-leads, else-leads}

pub loop-leader-init : goal.loop-leader-init
loop-leader-init g c =
    let k = g.L.Length.kind in
    let table = c.args.self.now.table in
    let n = table.marks in
    let d = told k table in
    record { most = omega arith; rings = joined_start k n table.entries.now (λ (a : ℕ). ring k d (group k d n a)) c.args.laying.now }

pub loop-leader-preserved : goal.loop-leader-preserved
loop-leader-preserved g c =
    let k = g.L.Length.kind in
    let table = c.args.self.now.table in
    let n = table.marks in
    let d = told k table in
    let loop = c.loop-leader in
    elim c.if-leads.branch [
      | then-leads w ↦ rw w.laying-is record {
        most = omega (arith, loop.invariant.most, w.put_ring.ensures.most);
        rings = joined_more k n table.entries.now (λ (a : ℕ). ring k d (group k d n a)) loop.leader w.put_ring.new.laying c.loop-leader-test.true w.if-leads.ensures w.put_ring.ensures.lays loop.invariant.rings;
      }
      | else-leads w ↦ rw w.laying-is record {
        most = omega (arith, loop.invariant.most);
        rings = joined_skip k n table.entries.now (λ (a : ℕ). ring k d (group k d n a)) loop.leader c.loop-leader-test.true w.if-leads.ensures loop.invariant.rings;
      }
    ]

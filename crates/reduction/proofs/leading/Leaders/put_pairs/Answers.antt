use Rattle.std.proofs.Common.{arith}
use Rattle.reduction.proofs.Laying.{progress_start, progress_skip, progress_more}
use Rattle.reduction.proofs.Pairing.{pairs_start, unpaired, parted, paired}
use Rattle.reduction.proofs.leading.Leaders.put_pairs.Goals as goal

pub pairs-init : goal.pairs-init
pairs-init g c =
    let table = c.args.self.now.table in
    record { most = omega arith; pairs = progress_skip (pairs_start g.L.Length.kind table.marks table.entries.now c.args.from) (progress_start _ c.args.laying.now) }

pub pairs-preserved-then-not-may_pair : goal.pairs-preserved-then-not-may_pair
pairs-preserved-then-not-may_pair g c =
    let table = c.args.self.now.table in
    record { most = omega (arith, c.pairs.invariant.most); pairs = progress_skip (unpaired g.L.Length.kind table.marks table.entries.now c.args.from c.pairs.to c.pairs-test.true c.if-not-may_pair.ensures) c.pairs.invariant.pairs }

pub pairs-preserved-then-parts : goal.pairs-preserved-then-parts
pairs-preserved-then-parts g c =
    let table = c.args.self.now.table in
    record {
      most = omega (arith, c.pairs.invariant.most);
      pairs = progress_skip (parted g.L.Length.kind table.marks table.entries.now c.args.from c.pairs.to c.pairs-test.true c.loop-third.third c.loop-third-test.true c.if-parts.ensures) c.pairs.invariant.pairs;
    }

pub pairs-preserved : goal.pairs-preserved
pairs-preserved g c =
    let table = c.args.self.now.table in
    record {
      most = omega (arith, c.pairs.invariant.most, c.put.ensures.one);
      pairs = progress_more _ _ c.put.new.self
          (paired g.L.Length.kind table.marks table.entries.now c.args.from c.pairs.to c.pairs-test.true c.if-not-may_pair.ensures (λ x l. c.loop-third.invariant x (omega (arith, c.loop-third-test.false))))
          (rw c.rule.ensures at c.put.ensures.lays) c.pairs.invariant.pairs;
    }

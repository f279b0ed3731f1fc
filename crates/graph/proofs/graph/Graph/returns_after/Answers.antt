use Rattle.std.proofs.Common.{arith}
use Rattle.graph.proofs.Readiness.{last_read, last_none}
use Rattle.graph.proofs.Seeking.{chain_ends, one_back, back_inside, comes_home, comes_lower, still_none}
use Rattle.graph.proofs.graph.Graph.returns_after.Goals as goal

pub returns-in_err-index : goal.returns-in_err-index
returns-in_err-index g c =
    let inv = c.loop-step.invariant in
    rw c.from_residual.ensures
    (chain_ends g.L.Length.kind c.args.self.now.marks c.args.self.now.rules.now c.args.last.now c.args.mark c.requires c.loop-step.step c.loop-step.at inv.0 inv.1 inv.2
    (last_none g.L.Length.kind c.args.self.now.rules.now c.args.last.now c.loop-step.at c.in_err-index.was))

pub returns-in_err-at : goal.returns-in_err-at
returns-in_err-at g c =
    let inv = c.loop-step.invariant in
    rw c.from_residual-in_err-at.ensures
    (chain_ends g.L.Length.kind c.args.self.now.marks c.args.self.now.rules.now c.args.last.now c.args.mark c.requires c.loop-step.step c.loop-step.at inv.0 inv.1 inv.2
    (omega (arith, c.in_err-at.ensures.lookup.3, last_read g.L.Length.kind c.args.self.now.rules.now c.args.last.now c.loop-step.at c.in_ok-index.index c.in_ok-index.was)))

pub returns-then-at-mark : goal.returns-then-at-mark
returns-then-at-mark g c =
    let inv = c.loop-step.invariant in
    comes_home g.L.Length.kind c.args.self.now.marks c.args.self.now.rules.now c.args.last.now c.args.mark c.requires c.loop-step.step c.loop-step.at inv.0 inv.1 inv.2
    c.args.self.now.sound c.in_ok-index.index c.in_ok-at.field-0.now c.in_ok-index.was c.in_ok-at.ensures.lookup.3.0 c.in_ok-at.ensures.lookup.1 c.loop-step-test.true c.if-at-mark.true

pub returns-then-at-mark-2 : goal.returns-then-at-mark-2
returns-then-at-mark-2 g c =
    let inv = c.loop-step.invariant in
    comes_lower g.L.Length.kind c.args.self.now.marks c.args.self.now.rules.now c.args.last.now c.args.mark c.requires c.loop-step.step c.loop-step.at inv.0 inv.1 inv.2
    c.args.self.now.sound c.in_ok-index.index c.in_ok-at.field-0.now c.in_ok-index.was c.in_ok-at.ensures.lookup.3.0 c.in_ok-at.ensures.lookup.1 c.if-at-mark-2.true

pub loop-step-preserved : goal.loop-step-preserved
loop-step-preserved g c =
    let inv = c.loop-step.invariant in (
      one_back g.L.Length.kind c.args.self.now.marks c.args.self.now.rules.now c.args.last.now c.args.mark c.requires c.loop-step.step c.loop-step.at inv.0 inv.1 inv.2
          c.args.self.now.sound c.in_ok-index.index c.in_ok-at.field-0.now c.in_ok-index.was c.in_ok-at.ensures.lookup.3.0 c.in_ok-at.ensures.lookup.1,
      back_inside g.L.Length.kind c.args.self.now.marks c.args.self.now.rules.now c.args.last.now c.args.mark c.requires c.loop-step.step c.loop-step.at inv.0 inv.1 inv.2
          c.args.self.now.sound c.in_ok-index.index c.in_ok-at.field-0.now c.in_ok-index.was c.in_ok-at.ensures.lookup.3.0 c.in_ok-at.ensures.lookup.1,
      still_none g.L.Length.kind c.args.self.now.marks c.args.self.now.rules.now c.args.last.now c.args.mark c.requires c.loop-step.step c.loop-step.at inv.0 inv.1 inv.2
          c.args.self.now.sound c.in_ok-index.index c.in_ok-at.field-0.now c.in_ok-index.was c.in_ok-at.ensures.lookup.3.0 c.in_ok-at.ensures.lookup.1 c.if-at-mark.false,
    )

use Rattle.std.proofs.Common.{◌≡◌, ◌+◌, ◌<◌, true, false, length, arith}
use Rattle.std.proofs.lemmas.Bool.{both_ways}
use Rattle.graph.proofs.Readiness.{read_inside}
use Rattle.graph.proofs.Trying.{tried_inside, one_step}
use Rattle.graph.proofs.graph.Graph.one_round.Goals as goal
use Rattle.graph.proofs.graph.Graph.one_round.Goals.{then-relax, else-relax}

pub relax-requires : goal.relax-requires
relax-requires g c =
    let k = g.L.Length.kind in
    let n = c.args.self.now.marks in
    let rules = c.args.self.now.rules.now in
    let i = c.turn-index.result in
    let l : i < length rules = rw c.turn-index.ensures (tried_inside c.args.forwards (length rules) c.loop-step.step c.loop-step-test.true) in
    let marks = read_inside k n rules c.args.self.now.sound i c.index-rules-index.result l c.index-rules-index.is in
    (omega (arith, marks.0, c.loop-step.auto.row, c.requires), (omega (arith, marks.1, c.loop-step.auto.row, c.requires), omega (arith, marks.1, c.args.self.now.few)))

pub loop-step-preserved : goal.loop-step-preserved
loop-step-preserved g c = λ start tries current setting few entry.
    let k = g.L.Length.kind in
    let n = c.args.self.now.marks in
    let rules = c.args.self.now.rules.now in
    let s = c.loop-step.step in
    let before = c.loop-step.invariant start tries current setting few entry in
    let e : tries + s + 1 ≡ tries + (s + 1) = omega arith in
    let on : c.relax.result ≡ true → c.if-relax.raised ≡ true =
    λ h. elim c.if-relax.branch [ then-relax w ↦ w.raised-is | else-relax w ↦ absurd (both_ways _ w.if-relax.false h) ] in
    let off : c.relax.result ≡ false → c.if-relax.raised ≡ c.loop-step.raised =
    λ h. elim c.if-relax.branch [ then-relax w ↦ absurd (both_ways _ h w.if-relax.true) | else-relax w ↦ w.raised-is ] in
    rw e at (one_step k n rules start setting g.met.L.Length.laws c.args.forwards (tries + s) current s c.loop-step.raised c.loop-step.row c.loop-step.last before c.loop-step-test.true
    c.turn-index.result c.index-rules-index.result c.relax.result c.if-relax.raised c.relax.new.row c.relax.new.last
    (omega (arith, c.loop-step-test.true)) c.turn-index.ensures c.index-rules-index.is c.relax.ensures on off)

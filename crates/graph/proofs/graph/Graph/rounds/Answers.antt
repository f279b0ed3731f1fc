use Rattle.std.proofs.Common.{◌+◌, ◌*◌, ◌%◌, eqb, arith}
use Rattle.graph.specs.Ready.{most_rules}
use Rattle.graph.proofs.Readiness.{sound_parts}
use Rattle.graph.proofs.Ending.{going_first, ended_quiet, ended_closed, going_on, ended_late}
use Rattle.graph.proofs.graph.Graph.rounds.Goals as goal

pub loop-past-init : goal.loop-past-init
loop-past-init g c = going_first g.L.Length.kind c.args.self.now.marks c.args.self.now.rules.now c.args.row.now c.requires g.met.L.Length.laws _

pub loop-past-preserved : goal.loop-past-preserved
loop-past-preserved g c =
    let past = c.loop-past.past in
    let over =
    c.one_round.ensures c.args.row.now (past * most_rules) (past + 1) c.requires (omega (arith, c.loop-past-test.true, c.requires.few_marks, c.requires.few_rules)) c.loop-past.invariant.0 in
    going_on g.L.Length.kind c.args.self.now.marks c.args.self.now.rules.now c.args.row.now c.requires g.met.L.Length.laws past c.loop-past-test.true (eqb (past % 2) 0) c.one_round.result c.one_round.new.row c.one_round.new.last over
    (eqb ((past + 1) % 2) 0) c.if-not-one_round.false c.in_default.ensures

pub returns-then-not-one_round : goal.returns-then-not-one_round
returns-then-not-one_round g c =
    let past = c.loop-past.past in
    let over =
    c.one_round.ensures c.args.row.now (past * most_rules) (past + 1) c.requires (omega (arith, c.loop-past-test.true, c.requires.few_marks, c.requires.few_rules)) c.loop-past.invariant.0 in
    ended_quiet g.L.Length.kind c.args.self.now.marks c.args.self.now.rules.now c.args.row.now c.requires g.met.L.Length.laws past c.loop-past-test.true (eqb (past % 2) 0) c.one_round.result c.one_round.new.row c.one_round.new.last over
    c.if-not-one_round.true

pub returns-in-Some : goal.returns-in-Some
returns-in-Some g c =
    let past = c.loop-past.past in
    let over =
    c.one_round.ensures c.args.row.now (past * most_rules) (past + 1) c.requires (omega (arith, c.loop-past-test.true, c.requires.few_marks, c.requires.few_rules)) c.loop-past.invariant.0 in
    ended_closed g.L.Length.kind c.args.self.now.marks c.args.self.now.rules.now c.args.row.now c.requires g.met.L.Length.laws past c.loop-past-test.true (eqb (past % 2) 0) c.one_round.result c.one_round.new.row c.one_round.new.last over
    c.in-Some.mark c.in-Some.count c.in-Some.ensures

pub returns : goal.returns
returns g c =
    ended_late g.L.Length.kind c.args.self.now.marks c.args.self.now.rules.now c.args.row.now c.requires g.met.L.Length.laws c.loop-past.past _ c.loop-past.row c.loop-past.last
    (sound_parts g.L.Length.kind c.args.self.now.marks c.args.self.now.rules.now c.args.self.now.sound).0 c.loop-past-test.false c.loop-past.auto.past-end c.loop-past.invariant

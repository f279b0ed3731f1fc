use Rattle.std.proofs.Common.{take, sym, ◌∙◌}
use Rattle.std.proofs.lemmas.List.{at_drop_all}
use Rattle.cell.specs.Trial.{bad_mark}
use Rattle.cell.proofs.Trying.{mark_bad, mark_good}
use Rattle.cell.proofs.row.first_bad_mark.Goals as goal

pub loop-mark-preserved : goal.loop-mark-preserved
loop-mark-preserved g c =
    mark_good g.L.Length.kind (take c.args.marks c.args.row.now) c.loop-mark.mark c.x-item.result c.loop-mark-test.true c.x-item.is (sym c.may_lie.ensures ∙ c.if-not-may_lie.false)
    ∙ c.loop-mark.invariant

pub returns-then-not-may_lie : goal.returns-then-not-may_lie
returns-then-not-may_lie g c =
    sym (mark_bad g.L.Length.kind (take c.args.marks c.args.row.now) c.loop-mark.mark c.x-item.result c.loop-mark-test.true c.x-item.is (sym c.may_lie.ensures ∙ c.if-not-may_lie.true))
    ∙ c.loop-mark.invariant

pub returns : goal.returns
returns g c = sym (at_drop_all (bad_mark g.L.Length.kind c.loop-mark.mark) (take c.args.marks c.args.row.now) c.loop-mark.mark c.loop-mark-test.false) ∙ c.loop-mark.invariant

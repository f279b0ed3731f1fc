use Rattle.std.proofs.Common.{sym, ◌∙◌}
use Rattle.boxes.proofs.Tables.{many_at, past_at, few_at}
use Rattle.boxes.proofs.source.telling.BoxSourceSourceGrid.rule.Goals as goal

pub returns-in_err-n : goal.returns-in_err-n
returns-in_err-n c = let s = c.args.self.now in rw c.in_err-n.was (c.from_residual.ensures ∙ sym (many_at s.factor s.rows c.args.place))

pub returns-then-place-n : goal.returns-then-place-n
returns-then-place-n c = let s = c.args.self.now in rw c.in_ok-n.was (sym (past_at s.factor c.in_ok-n.n s.rows c.args.place c.if-place-n.true))

pub returns : goal.returns
returns c = let s = c.args.self.now in rw c.in_ok-n.was (c.told.ensures ∙ sym (few_at s.factor c.in_ok-n.n s.rows c.args.place c.if-place-n.false))

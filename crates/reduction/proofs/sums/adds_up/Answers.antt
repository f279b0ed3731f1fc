use Rattle.std.proofs.Common.{rules}
use Rattle.reduction.proofs.Telling.{told_sum}
use Rattle.reduction.proofs.sums.adds_up.Goals as goal

pub returns : goal.returns
returns g c = told_sum g.L.Length.kind c.args.first c.args.second c.args.whole c.is_some_and.result _ (λ x y h. search rules) (rw c.zip.ensures at c.is_some_and.ensures)

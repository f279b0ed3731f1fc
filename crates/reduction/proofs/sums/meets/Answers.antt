use Rattle.std.proofs.Common.{rules}
use Rattle.reduction.proofs.Telling.{told_whole}
use Rattle.reduction.proofs.sums.meets.Goals as goal

pub returns : goal.returns
returns g c = told_whole g.L.Length.kind c.args.first c.args.second c.args.whole c.is_some_and.result _ (λ z h. search rules) c.is_some_and.ensures

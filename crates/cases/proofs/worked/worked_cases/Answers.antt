use Rattle.std.proofs.Common.{refl}
use Rattle.cases.specs.Worked.{worked}
use Rattle.cases.proofs.Following.{all_follow}
use Rattle.cases.proofs.worked.worked_cases.Goals as goal

pub returns : goal.returns
unfolding worked
returns c = record { follow = all_follow; count = refl }

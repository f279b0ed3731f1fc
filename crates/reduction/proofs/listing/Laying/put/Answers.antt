use Rattle.std.proofs.Common.{refl}
use Rattle.reduction.proofs.Laying.{put_past, put_here}
use Rattle.reduction.proofs.listing.Laying.put.Goals as goal
use Rattle.reduction.proofs.listing.Laying.put.Goals.{then-self, else-self}

pub returns-clause-lays : goal.returns-clause-lays
returns-clause-lays g c = elim c.if-self.branch [
  | then-self w ↦ rw w.self-is (refl, put_here c.args.rule c.args.self.now.list.now c.args.self.now.count w.if-self.true)
  | else-self w ↦ rw w.self-is (refl, put_past c.args.rule c.args.self.now.list.now c.args.self.now.count w.if-self.false)
]

use Rattle.std.proofs.Common.{[]}
use Rattle.reduction.specs.Listing.{reduced}
use Rattle.reduction.proofs.Reducing.{laid_count}
use Rattle.reduction.proofs.leading.Leaders.count_rules.Goals as goal

pub returns : goal.returns
returns g c = laid_count (reduced g.L.Length.kind c.args.self.now.table.marks c.args.self.now.table.entries.now) [] _ c.put_rules.result c.put_rules.ensures

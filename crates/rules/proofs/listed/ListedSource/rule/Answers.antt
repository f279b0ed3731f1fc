use Rattle.std.proofs.Common.{sym, arith}
use Rattle.rules.proofs.Sources.{listed_many}
use Rattle.rules.proofs.listed.ListedSource.rule.Goals as goal

pub returns-then-self-gt-PLACE_LIMIT : goal.returns-then-self-gt-PLACE_LIMIT
returns-then-self-gt-PLACE_LIMIT g c = sym (listed_many c.args.self.now.rules.now c.args.place (omega arith))

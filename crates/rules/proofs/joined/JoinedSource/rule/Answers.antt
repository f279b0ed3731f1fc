use Rattle.std.proofs.Common.{sym, ◌∙◌, arith}
use Rattle.rules.proofs.Sources.{joined_many}
use Rattle.rules.proofs.joined.JoinedSource.rule.Goals as goal

pub returns-then-count-gt-PLACE_LIMIT : goal.returns-then-count-gt-PLACE_LIMIT
returns-then-count-gt-PLACE_LIMIT g c =
    sym (joined_many (g.S.Source.listing c.args.self.now.first) (g.R.Source.listing c.args.self.now.second) c.args.place (omega arith))

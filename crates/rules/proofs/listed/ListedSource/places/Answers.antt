use Rattle.std.proofs.Common.{sym, ◌∙◌}
use Rattle.rules.proofs.Sources.{length_listed}
use Rattle.rules.proofs.listed.ListedSource.places.Goals as goal

pub returns : goal.returns
returns g c = c.min.ensures ∙ sym (length_listed c.args.self.now.rules.now)

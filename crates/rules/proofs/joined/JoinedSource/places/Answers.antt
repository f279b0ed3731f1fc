use Rattle.std.proofs.Common.{sym, ◌∙◌}
use Rattle.rules.proofs.Sources.{length_joined}
use Rattle.rules.proofs.joined.JoinedSource.places.Goals as goal

pub returns : goal.returns
returns g c =
    let counted = length_joined (g.S.Source.listing c.args.self.now.first) (g.R.Source.listing c.args.self.now.second) in
    rw (c.places.ensures, c.places-2.ensures) at c.min.ensures ∙ sym counted

use Rattle.boxes.proofs.Holding.{held_places}
use Rattle.boxes.proofs.source.BoxSource.give.Goals as goal

pub returns-in-Some-clause-places : goal.returns-in-Some-clause-places
returns-in-Some-clause-places c = held_places _

use Rattle.std.proofs.Common.{sym}
use Rattle.boxes.proofs.Tables.{length_few, length_many}
use Rattle.boxes.proofs.source.telling.BoxSourceSourceGrid.places.Goals as goal

pub returns-in-Some : goal.returns-in-Some
returns-in-Some c = let s = c.args.self.now in rw c.in-Some.is (sym (length_few s.factor c.in-Some.count s.rows))

pub returns-in-None : goal.returns-in-None
returns-in-None c = let s = c.args.self.now in rw c.in-None.is (sym (length_many s.factor s.rows))

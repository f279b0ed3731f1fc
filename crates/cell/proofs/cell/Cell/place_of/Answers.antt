use Rattle.cell.specs.Memory.{book}
use Rattle.cell.proofs.Tags.{position_found}
use Rattle.cell.proofs.cell.Cell.place_of.Goals as goal

pub returns : goal.returns
returns g c = rw (c.place_under.ensures, c.book.ensures.is) (position_found (book c.args.self.now) c.args.tag)

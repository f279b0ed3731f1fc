use Rattle.std.proofs.Common.{◌<◌, length, arith}
use Rattle.cell.specs.Memory.{book}
use Rattle.cell.proofs.Entries.{length_book}
use Rattle.cell.proofs.Striking.{some_entry}
use Rattle.cell.proofs.Withdrawals.{not_in_force, refused, withdraws, zero_tag}
use Rattle.cell.proofs.cell.Cell.withdraw.Goals as goal

pub returns-then-tag-eq0 : goal.returns-then-tag-eq0
returns-then-tag-eq0 g c = refused c.args.self.now c.args.tag _ (zero_tag (book c.args.self.now) c.args.tag c.if-tag-eq0.true)

pub returns-in-Some : goal.returns-in-Some
returns-in-Some g c =
    let found = c.in-Some.ensures in
    let some : 0 < length (book c.args.self.now) = omega (arith, found.within) in
    withdraws c.args.self.now c.strike.new.self c.args.tag c.in-Some.place (some_entry (book c.args.self.now) some)
    c.if-tag-eq0.false found c.strike.ensures

pub returns-in-None : goal.returns-in-None
returns-in-None g c = refused c.args.self.now c.args.tag _ (not_in_force _ c.args.tag c.if-tag-eq0.false c.in-None.ensures)

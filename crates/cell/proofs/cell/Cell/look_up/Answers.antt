use Rattle.std.proofs.Common.{ap, ◌∙◌}
use Rattle.cell.specs.Book.{look_up}
use Rattle.cell.specs.Memory.{book}
use Rattle.cell.proofs.Sound.{no_tag_zero}
use Rattle.cell.proofs.Tags.{no_rule, rule_found}
use Rattle.cell.proofs.cell.Cell.look_up.Goals as goal

pub returns : goal.returns
returns g c =
    let told = c.args.self.now in
    let value = rw c.book.ensures.is at c.rule_under.ensures ∙ rule_found (book told) c.args.tag in
    record {
      value = value;
      zero = λ e. value ∙ ap (look_up (book told)) e ∙ no_rule (book told) 0 (no_tag_zero told.marks (book told) told.sound);
    }

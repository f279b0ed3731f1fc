use Rattle.std.proofs.Common.{◌∙◌, arith}
use Rattle.reduction.specs.Listing.{reduced}
use Rattle.reduction.proofs.Reducing.{laid_list, is_reducible}
use Rattle.reduction.proofs.reduction.reduce.Goals as goal

pub returns : goal.returns
returns g c =
    let k = g.L.Length.kind in
    let table = c.in_ok-table.table in
    let is = rw c.in_ok-table.ensures.ok_part at c.new.ensures in
    let marks = c.new-leaders.ensures.marks ∙ is.0 in
    let entries = c.new-leaders.ensures.entries ∙ is.1 in
    let count = rw (marks, entries) at c.count_rules-count.ensures in (
      is_reducible k c.args.marks c.args.table.now (rw is.0 at table.few) (rw (is.0, is.1) at table.long),
      count,
      omega arith,
      laid_list (reduced k c.args.marks c.args.table.now) c.args.list.now c.put_rules.new.list c.put_rules.result (rw (marks, entries) at c.put_rules.ensures) c.count_rules-count.result count (omega arith),
    )

use Rattle.std.proofs.Common.{rules, refl, arith}
use borrow.Author.Tests.{tests}
use Rattle.std.proofs.lemmas.Iterator.{YieldsList-from_range}
use Rattle.std.proofs.lemmas.Iterator.Search.{any_from_yields_List}
use Rattle.graph.specs.Distances.{table_distance}
use Rattle.reduction.specs.Reduction.{tied}
use Rattle.reduction.proofs.Telling.{told_leads}
use Rattle.reduction.proofs.table.Table.leads.Goals as goal

pub returns-then-mark-self : goal.returns-then-mark-self
returns-then-mark-self g c =
    let k = g.L.Length.kind in
    let n = c.args.self.now.marks in
    let entries = c.args.self.now.entries.now in
    told_leads k n entries c.args.mark c.any.result
    (any_from_yields_List (tied k (table_distance k entries n) c.args.mark) _ _ c.any.result c.any.ensures.ran (YieldsList-from_range 0 c.args.mark c.args.mark refl (omega arith)) (λ x b q k. search (rules, tests)))
    c.if-mark-self.true

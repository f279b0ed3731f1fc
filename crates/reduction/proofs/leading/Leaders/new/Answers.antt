use Rattle.std.proofs.Common.{rules, ◌&&◌, nat_lt, false, arith}
use borrow.Author.Tests.{tests}
use Rattle.std.proofs.lemmas.Bool.{lt-ltb}
use Rattle.reduction.specs.Listing.{leads}
use Rattle.reduction.proofs.Noting.{element_is}
use Rattle.reduction.proofs.leading.Leaders.new.Goals as goal

pub invariant_of-result : goal.invariant_of-result
invariant_of-result g c =
    let table = c.args.table in
    record {
      noted = λ m l.
          rw (lt-ltb m table.marks l) at
          (element_is _ _ c.from_fn-notes.result (λ i. nat_lt i table.marks && leads g.L.Length.kind table.marks table.entries.now i) (λ i y q k. search (rules, tests)) 0 256
          c.from_fn-notes.ensures.items.each m false (omega arith) (omega (arith, table.few)));
    }

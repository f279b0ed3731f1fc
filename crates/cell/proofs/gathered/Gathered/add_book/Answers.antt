use Rattle.std.proofs.Common.{[], ◌∷◌, ◌++◌, length, is_ok, sym, ap, ◌∙◌, arith}
use Rattle.std.proofs.lemmas.List.{length_push}
use Rattle.cell.proofs.Gathering.{book_kept, book_passed}
use Rattle.cell.proofs.gathered.Gathered.add_book.Goals as goal
use Rattle.cell.proofs.gathered.Gathered.add_book.Goals.{then-is_ok, else-is_ok}

pub loop-record-preserved : goal.loop-record-preserved
loop-record-preserved g c =
    let k = g.L.Length.kind in
    let records = c.args.book.now in
    let i = c.loop-record.record-index in
    let x = c.record-item.result in
    let before = c.loop-record.self in
    let inv = c.loop-record.invariant in
    let tested = ap is_ok (sym c.check.ensures) ∙ sym c.is_ok.ensures.value in
    elim c.if-is_ok.branch [
      | then-is_ok w ↦
          let next = w.self-is ∙ w.push.ensures ∙ ap (λ m. before ++ record { number = m; rule = x.rule } ∷ []) w.from-number.ensures in (
            omega (arith, ap length next, length_push before (record { number = x.tag; rule = x.rule })),
            next ∙ book_kept k c.args.marks records i x c.args.self.now before c.loop-record-test.true c.record-item.is (tested ∙ w.if-is_ok.true) inv.1,
          )
      | else-is_ok w ↦ (
        omega (arith, ap length w.self-is),
        w.self-is ∙ book_passed k c.args.marks records i x c.args.self.now before c.loop-record-test.true c.record-item.is (tested ∙ w.if-is_ok.false) inv.1,
      )
    ]

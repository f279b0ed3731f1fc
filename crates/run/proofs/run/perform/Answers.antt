use Rattle.std.proofs.Common.{length, sym, refl, ap}
use Rattle.cell.specs.Book.{used}
use Rattle.cell.specs.Memory.{book, memory}
use Rattle.run.specs.Course.{book_after, memory_after}
use Rattle.run.proofs.Turns.{packs, reduces}
use Rattle.run.proofs.run.perform.Goals as goal

pub returns-in-Reduce : goal.returns-in-Reduce
returns-in-Reduce g c =
    let k = g.L.Length.kind in
    let cell = c.args.cell.now in
    let t = c.args.turn.now in
    let records = used (length (memory cell)) in
    record {
      marks = refl;
      lent = refl;
      book = sym (ap (book_after k cell.marks records (book cell)) c.in-Reduce.is);
      memory = sym (ap (memory_after k cell.marks (memory cell) (book cell)) c.in-Reduce.is);
      performs = reduces k g.S.Source.listing cell.marks records (book cell) t c.in-Reduce.is c.deref_mut-in-Reduce.result.now c.reduce-answer.new.table
          c.deref_mut-in-Reduce-2.result.now c.reduce-answer.new.list c.reduce-answer.result c.deref_mut-in-Reduce.ensures.value c.deref_mut-in-Reduce-2.ensures.value
          c.reduce-answer.auto.table c.reduce-answer.auto.list c.reduce-answer.ensures.does c.reduce-answer.ensures.right;
    }

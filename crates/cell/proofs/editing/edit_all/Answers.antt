use Rattle.std.proofs.Common.{◌≡◌, [], map, length, take, sym, refl, ap, ◌∙◌, ap₂}
use Rattle.std.proofs.lemmas.List.{at_drop_all}
use Rattle.cell.specs.Book.{used}
use Rattle.cell.specs.Calls.{cell_marks}
use Rattle.cell.specs.Edits.{after, after_from, after_memory, after_memory_from}
use Rattle.cell.specs.Force.{book_rules, by_tag}
use Rattle.cell.specs.Memory.{book, memory}
use Rattle.cell.proofs.BookFits.{all_fit_after, all_in_force}
use Rattle.cell.proofs.EditSteps.{book_on, length_edited, memory_on}
use Rattle.cell.proofs.Entries.{length_book}
use Rattle.cell.proofs.editing.edit_all.Goals as goal

pub loop-edit-preserved : goal.loop-edit-preserved
loop-edit-preserved g c =
    let k = g.L.Length.kind in
    let n = cell_marks c.args.count in
    let before = c.loop-edit.cell in
    let next = c.apply.new.cell in
    let inv = c.loop-edit.invariant in
    let made = c.apply.ensures in (
      made.lent ∙ inv.0,
      made.marks ∙ inv.1,
      ap length made.memory ∙ length_edited k before.marks (memory before) (book before) c.edit-item.result ∙ inv.2,
      book_on k c.args.edits.now c.loop-edit.edit-index c.edit-item.result c.loop-edit-test.true c.edit-item.is
          n before.marks (used (length (memory c.new-cell.result))) (used (length (memory before))) (book before) (book next) inv.1 (ap used inv.2) made.book ∙ inv.3,
      memory_on k c.args.edits.now c.loop-edit.edit-index c.edit-item.result c.loop-edit-test.true c.edit-item.is
          n before.marks (memory before) (memory next) (book before) (book next) inv.1 made.memory made.book ∙ inv.4,
    )

pub returns : goal.returns
returns g c =
    let k = g.L.Length.kind in
    let n = cell_marks c.args.count in
    let cell = c.loop-edit.cell in
    let inv = c.loop-edit.invariant in
    -- the records come back as the cell left them, since it worked on them alone
    let back = c.records-1.given in
    let same : back.0 ≡ memory cell = back.1.1 (sym c.new-cell.ensures.lent ∙ sym inv.0) in
    let done = c.loop-edit-test.false in
    let passed = c.new-cell.ensures.memory_is in
    let books =
    ap₂ take (c.filled.ensures ∙ length_book cell) same
    ∙ sym (at_drop_all (after_from k n (used (length (memory c.new-cell.result))) (book cell)) c.args.edits.now c.loop-edit.edit-index done)
    ∙ inv.3
    ∙ ap (λ m. after k n (used (length m)) c.args.edits.now) passed in
    record {
      book = books;
      force = ap (book_rules k n) books ∙ all_in_force k n _ (all_fit_after k n _ c.args.edits.now) ∙ sym (ap (map (by_tag k n)) books);
      memory = same ∙ sym (at_drop_all (after_memory_from k n (memory cell) (book cell)) c.args.edits.now c.loop-edit.edit-index done) ∙ inv.4 ∙ ap (λ m. after_memory k n m c.args.edits.now) passed;
    }

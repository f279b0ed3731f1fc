use Rattle.std.proofs.Common.{◌≡◌, length, drop}
use Rattle.cell.specs.Book.{used}
use Rattle.cell.specs.Calls.{cell_marks}
use Rattle.cell.specs.Edits.{after, after_from, after_memory, after_memory_from}
use Rattle.cell.specs.Memory.{book, memory}
use Rattle.cell.proofs.editing.edit_all.Given as goal

abbrev pub invariant-loop-edit : goal.invariant-loop-edit
invariant-loop-edit g l =
    let k = g.L.Length.kind in
    let n = cell_marks l.count in
    let m = memory l.initial.cell in
    (l.cell.records.ghost_name ≡ l.initial.cell.records.ghost_name) × (l.cell.marks ≡ n) × (length (memory l.cell) ≡ length m)
    × (after_from k n (used (length m)) (book l.cell) (drop l.edit-index l.edits) ≡ after k n (used (length m)) l.edits)
    × (after_memory_from k n (memory l.cell) (book l.cell) (drop l.edit-index l.edits) ≡ after_memory k n m l.edits)

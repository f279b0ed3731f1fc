use Rattle.std.proofs.Common.{◌≡◌, ◌+◌, ◌≤◌, ◌++◌, length, take}
use Rattle.cell.specs.Force.{book_rules}
use Rattle.cell.proofs.gathered.Gathered.add_book.Given as goal

abbrev pub invariant-loop-record : goal.invariant-loop-record
invariant-loop-record g l =
    (length l.self ≤ length l.initial.self + l.record-index)
    × (l.self ≡ l.initial.self ++ book_rules g.L.Length.kind l.marks (take l.record-index l.book))

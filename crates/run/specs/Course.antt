-- The book and the records after a list of calls, from the calls alone.
use Rattle.std.specs.Prelude.{ℕ, List, [], ◌∷◌, length}
use Rattle.lengths.specs.Kind.{Kind}
use Rattle.cell.specs.Book.{used}
use Rattle.cell.specs.Edits.{edited, edited_memory}
use Rattle.cell.specs.declared.editing.Edit.TheVariants as edit
use Rattle.cell.specs.declared.record.Record.{Record}
use Rattle.run.specs.declared.turn.Call.{Call}
use Rattle.run.specs.declared.turn.Call.TheVariants.{Compact, Enter, LookUp, Reduce, Try, Withdraw}

module _ {L : Type 0} (k : Kind L) (n : ℕ) where
  -- The book after one call, in a cell that uses so many records: only entries and withdrawals edit it.
  abbrev pub book_after : ℕ → List (Record L) → Call L → List (Record L)
  book_after records book (Enter tag rule) = edited k n records book (edit.Enter tag rule)
  book_after records book (Withdraw tag) = edited k n records book (edit.Withdraw tag)
  book_after records book (LookUp tag) = book
  book_after records book Try = book
  book_after records book Compact = book
  book_after records book Reduce = book

  -- The records after one call.
  abbrev pub memory_after : List (Record L) → List (Record L) → Call L → List (Record L)
  memory_after memory book (Enter tag rule) = edited_memory k n memory book (edit.Enter tag rule)
  memory_after memory book (Withdraw tag) = edited_memory k n memory book (edit.Withdraw tag)
  memory_after memory book (LookUp tag) = memory
  memory_after memory book Try = memory
  memory_after memory book Compact = memory
  memory_after memory book Reduce = memory

  -- The book after a list of calls on a cell with this book.
  abbrev pub after_from : ℕ → List (Record L) → List (Call L) → List (Record L)
  after_from records book [] = book
  after_from records book (call ∷ calls) = after_from records (book_after records book call) calls

  -- The book after a list of calls: empty when the cell is made.
  abbrev pub after : ℕ → List (Call L) → List (Record L)
  after records calls = after_from records [] calls

  abbrev pub after_memory_from : List (Record L) → List (Record L) → List (Call L) → List (Record L)
  after_memory_from memory book [] = memory
  after_memory_from memory book (call ∷ calls) = after_memory_from (memory_after memory book call) (book_after (used (length memory)) book call) calls

  -- The records after a list of calls, from what they held when the cell was made.
  abbrev pub after_memory : List (Record L) → List (Call L) → List (Record L)
  after_memory memory calls = after_memory_from memory [] calls

-- The book and the records after a list of entries and withdrawals, from the calls alone.
use Rattle.std.specs.Prelude.{ℕ, ◌-◌, cond, List, [], ◌∷◌, length, set, is_ok}
use Rattle.lengths.specs.Kind.{Kind}
use Rattle.cell.specs.Book.{used}
use Rattle.cell.specs.Calls.{copied, entered, entry_check, place_of, withdrawal_check, withdrawn}
use Rattle.cell.specs.declared.editing.Edit.{Edit}
use Rattle.cell.specs.declared.editing.Edit.TheVariants.{Enter, Withdraw}
use Rattle.cell.specs.declared.record.Record.{Record}

module _ {L : Type 0} (k : Kind L) (n : ℕ) where
  -- The book after one edit, in a cell that uses so many records.
  abbrev pub edited : ℕ → List (Record L) → Edit L → List (Record L)
  edited records book (Enter tag rule) = entered k n records book tag rule
  edited records book (Withdraw tag) = withdrawn book tag

  -- The records after one edit: an entry writes the next one, a withdrawal copies the last filled one into the freed one.
  abbrev pub edited_memory : List (Record L) → List (Record L) → Edit L → List (Record L)
  edited_memory memory book (Enter tag rule) =
      cond (is_ok (entry_check k n (used (length memory)) book tag rule)) (set memory (length book) (record { tag = tag; rule = rule })) memory
  edited_memory memory book (Withdraw tag) =
      cond (is_ok (withdrawal_check book tag)) (copied memory (length book - 1) (place_of book tag)) memory

  abbrev pub after_from : ℕ → List (Record L) → List (Edit L) → List (Record L)
  after_from records book [] = book
  after_from records book (e ∷ edits) = after_from records (edited records book e) edits

  -- The book after a list of edits: empty when the cell is made.
  abbrev pub after : ℕ → List (Edit L) → List (Record L)
  after records edits = after_from records [] edits

  abbrev pub after_memory_from : List (Record L) → List (Record L) → List (Edit L) → List (Record L)
  after_memory_from memory book [] = memory
  after_memory_from memory book (e ∷ edits) = after_memory_from (edited_memory memory book e) (edited (used (length memory)) book e) edits

  -- The records after a list of edits, from what they held when the cell was made.
  abbrev pub after_memory : List (Record L) → List (Edit L) → List (Record L)
  after_memory memory edits = after_memory_from memory [] edits

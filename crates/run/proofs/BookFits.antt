-- Every rule in the book fits the cell after any calls; so all of them are in force.
use Rattle.std.proofs.Common.{◌≡◌, ℕ, List, [], ◌∷◌, map}
use Rattle.std.specs.List.{AllByRecursion as Every}
use Rattle.lengths.specs.Kind.{Kind}
use Rattle.cell.specs.Force.{book_rules, by_tag}
use Rattle.cell.specs.declared.editing.Edit.TheVariants as edit
use Rattle.cell.specs.declared.record.Record.{Record}
use Rattle.cell.proofs.BookFits.{all_in_force, edited_fits, Fits}
use Rattle.run.specs.Course.{after, after_from, book_after}
use Rattle.run.specs.declared.turn.Call.{Call}
use Rattle.run.specs.declared.turn.Call.TheVariants.{Compact, Enter, LookUp, Reduce, Try, Withdraw}

module _ {L : Type 0} (k : Kind L) (n : ℕ) where
  -- an entry or a withdrawal alters the book as the edit of that name does, and no other call alters it
  fits_after_call : (records : ℕ) (book : List (Record L)) (call : Call L) → Every (Fits k n) book → Every (Fits k n) (book_after k n records book call)
  fits_after_call records book (Enter tag rule) all = edited_fits k n records book (edit.Enter tag rule) all
  fits_after_call records book (Withdraw tag) all = edited_fits k n records book (edit.Withdraw tag) all
  fits_after_call records book (LookUp tag) all = all
  fits_after_call records book Try all = all
  fits_after_call records book Compact all = all
  fits_after_call records book Reduce all = all

  after_from_fits : (records : ℕ) (book : List (Record L)) (calls : List (Call L)) → Every (Fits k n) book → Every (Fits k n) (after_from k n records book calls)
  after_from_fits records book [] all = all
  after_from_fits records book (call ∷ calls) all = after_from_fits records (book_after k n records book call) calls (fits_after_call records book call all)

  -- after any calls, every rule of the book is in force
  pub in_force_after : (records : ℕ) (calls : List (Call L)) → book_rules k n (after k n records calls) ≡ map (by_tag k n) (after k n records calls)
  in_force_after records calls = all_in_force k n (after k n records calls) (after_from_fits records [] calls tt)

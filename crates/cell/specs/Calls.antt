-- What the calls answer, and what they make of the book.
use Rattle.std.specs.Prelude.{ℕ, suc, ◌-◌, Bool, cond, ◌||◌, List, [], ◌∷◌, ◌++◌, length, take, drop, is_ok, Ok, Err, Result, ◌==◌, nat_le, nat_lt, slice_set}
use Rattle.lengths.specs.Kind.{Kind}
use Rattle.rules.specs.Rule.{rule_check}
use Rattle.rules.specs.declared.fault.RuleFault.{RuleFault}
use Rattle.rules.specs.declared.rule.Rule.{Rule}
use Rattle.cell.specs.Book.{has_tag}
use Rattle.faults.specs.declared.fault.EntryFault.{EntryFault}
use Rattle.faults.specs.declared.fault.EntryFault.TheVariants as entry
use Rattle.faults.specs.declared.fault.MarksFault.{MarksFault}
use Rattle.faults.specs.declared.fault.MarksFault.TheVariants.{MarkCount}
use Rattle.faults.specs.declared.fault.WithdrawalFault.{WithdrawalFault}
use Rattle.faults.specs.declared.fault.WithdrawalFault.TheVariants as withdrawal
use Rattle.cell.specs.declared.record.Record.{Record}

-- A cell has 1 to 256 marks.
abbrev pub marks_check : ℕ → Result (Unit {0}) MarksFault
marks_check count = cond (count == 0 || nat_lt 256 count) (Err MarkCount) (Ok tt)

-- The marks of a cell that is made with this count: one where the count is refused.
abbrev pub cell_marks : ℕ → ℕ
cell_marks count = cond (is_ok (marks_check count)) count 1

-- An unfit rule is refused with its own fault.
abbrev pub unfit_or : Result (Unit {0}) RuleFault → Result (Unit {0}) EntryFault → Result (Unit {0}) EntryFault
unfit_or (Err fault) answer = Err (entry.Unfit fault)
unfit_or (Ok _) answer = answer

-- A rule whose tag is in force is turned away before one for which no record is free.
abbrev pub admission : Bool → Bool → Result (Unit {0}) EntryFault
admission known full = cond known (Err entry.TagInForce) (cond full (Err entry.Full) (Ok tt))

-- Copies entry `from` of a list onto entry `to`; nothing where there is no entry `from`.
abbrev pub put_first : {X : Type 0} → List X → List X → ℕ → List X
put_first [] xs to = xs
put_first (x ∷ _) xs to = slice_set xs to x

abbrev pub copied : {X : Type 0} → List X → ℕ → ℕ → List X
copied xs from to = put_first (drop from xs) xs to

module _ {L : Type 0} where
  -- The first cause that refuses an entry into a book in a cell of n marks that uses so many records.
  abbrev pub entry_check : Kind L → ℕ → ℕ → List (Record L) → ℕ → Rule L → Result (Unit {0}) EntryFault
  entry_check k n records book tag rule =
      cond (tag == 0) (Err entry.NoTag)
      (unfit_or (rule_check k n rule)
      (cond (has_tag book tag) (Err entry.TagInForce)
      (cond (nat_le records (length book)) (Err entry.Full)
      (Ok tt))))

  -- The book after an entry: one rule more, under its tag, unless the entry is refused.
  abbrev pub entered : Kind L → ℕ → ℕ → List (Record L) → ℕ → Rule L → List (Record L)
  entered k n records book tag rule =
      cond (is_ok (entry_check k n records book tag rule)) (book ++ record { tag = tag; rule = rule } ∷ []) book

  -- The first cause that refuses a withdrawal.
  abbrev pub withdrawal_check : List (Record L) → ℕ → Result (Unit {0}) WithdrawalFault
  withdrawal_check book tag =
      cond (tag == 0) (Err withdrawal.NoTag)
      (cond (has_tag book tag) (Ok tt) (Err withdrawal.TagNotInForce))

  -- The place of the rule under a tag; past the last where there is none.
  abbrev pub place_of : List (Record L) → ℕ → ℕ
  place_of [] tag = 0
  place_of (r ∷ book) tag = cond (r.tag == tag) 0 (suc (place_of book tag))

  -- The book after a withdrawal: the last rule moves into the place of the one struck; unless it is refused.
  abbrev pub withdrawn : List (Record L) → ℕ → List (Record L)
  withdrawn book tag =
      cond (is_ok (withdrawal_check book tag)) (take (length book - 1) (copied book (length book - 1) (place_of book tag))) book

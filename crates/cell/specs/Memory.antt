-- What a cell holds, and what each call leaves in it.
use Rattle.std.specs.Prelude.{◌≡◌, ℕ, ◌+◌, ◌-◌, true, cond, List, length, take, is_ok, Some, None, Err, Result, ◌≢◌, slice_set}
use Rattle.std.specs.Borrow.{MutBor}
use Rattle.lengths.specs.Kind.{Kind}
use Rattle.rules.specs.declared.rule.Rule.{Rule}
use Rattle.cell.specs.Book.{look_up, used, Once}
use Rattle.cell.specs.Calls.{cell_marks, copied, entered, entry_check, place_of, withdrawal_check, withdrawn}
use Rattle.cell.specs.declared.cell.Cell.{Cell}
use Rattle.faults.specs.declared.fault.EntryFault.{EntryFault}
use Rattle.faults.specs.declared.fault.EntryFault.TheVariants.{Full}
use Rattle.faults.specs.declared.fault.WithdrawalFault.{WithdrawalFault}
use Rattle.cell.specs.declared.record.Record.{Record}

module _ {L : Type 0} where
  -- The records that a cell was lent, as they are now.
  abbrev pub memory : Cell L → List (Record L)
  memory c = c.records.now

  -- The book of a cell: its filled records.
  abbrev pub book : Cell L → List (Record L)
  book c = take c.filled (memory c)

  -- A new cell: no rules, and all records as they were. It works on the records passed and on no others (`name`
  -- tells one lent memory from another).
  pub record Makes (count : ℕ) (passed : MutBor (List (Record L))) (c : Cell L) : Type 0 where
    pub marks_are : c.marks ≡ cell_marks count
    pub filled_are : c.filled ≡ 0
    pub memory_is : memory c ≡ passed.now
    pub lent : c.records.ghost_name ≡ passed.ghost_name

  -- One record more, and no other touched.
  pub record Appends (c : Cell L) (new : Record L) (after : Cell L) : Type 0 where
    pub marks_kept : after.marks ≡ c.marks
    pub lent_kept : after.records.ghost_name ≡ c.records.ghost_name
    pub filled_after : after.filled ≡ c.filled + 1
    pub memory_after : memory after ≡ slice_set (memory c) c.filled new

  -- One record less: the last filled one is copied into its place, and no other is touched.
  pub record Strikes (c : Cell L) (place : ℕ) (after : Cell L) : Type 0 where
    pub marks_kept : after.marks ≡ c.marks
    pub lent_kept : after.records.ghost_name ≡ c.records.ghost_name
    pub filled_after : after.filled + 1 ≡ c.filled
    pub memory_after : memory after ≡ copied (memory c) (c.filled - 1) place

  -- An entry: its answer, the book after it, and every record. One record is written where it is accepted.
  pub record Enters (k : Kind L) (c : Cell L) (tag : ℕ) (rule : Rule L) (answer : Result (Unit {0}) EntryFault) (after : Cell L) : Type 0 where
    pub answers : answer ≡ entry_check k c.marks (used (length (memory c))) (book c) tag rule
    pub marks_kept : after.marks ≡ c.marks
    pub lent_kept : after.records.ghost_name ≡ c.records.ghost_name
    pub book_after : book after ≡ entered k c.marks (used (length (memory c))) (book c) tag rule
    pub memory_after : memory after ≡ cond (is_ok answer) (slice_set (memory c) c.filled (record { tag = tag; rule = rule })) (memory c)
    -- the rule is found under its tag, and every other as before; no tag stands twice
    pub found : is_ok answer ≡ true → look_up (book after) tag ≡ Some rule
    pub others : (other : ℕ) → (other ≢ tag) → look_up (book after) other ≡ look_up (book c) other
    pub once : Once (book after)
    -- full is answered only where every used record holds a rule in force
    pub full : answer ≡ Err Full → length (book c) ≡ used (length (memory c))

  -- A withdrawal: its answer, the book after it, and every record. The last filled record is copied into the freed
  -- one where it is accepted.
  pub record Withdraws (c : Cell L) (tag : ℕ) (answer : Result (Unit {0}) WithdrawalFault) (after : Cell L) : Type 0 where
    pub answers : answer ≡ withdrawal_check (book c) tag
    pub marks_kept : after.marks ≡ c.marks
    pub lent_kept : after.records.ghost_name ≡ c.records.ghost_name
    pub book_after : book after ≡ withdrawn (book c) tag
    pub memory_after : memory after ≡ cond (is_ok answer) (copied (memory c) (c.filled - 1) (place_of (book c) tag)) (memory c)
    -- exactly the rule under the tag is struck; no tag stands twice
    pub gone : is_ok answer ≡ true → look_up (book after) tag ≡ None
    pub others : (other : ℕ) → (other ≢ tag) → look_up (book after) other ≡ look_up (book c) other
    pub once : Once (book after)

-- The promise over whole runs: of each turn, what it answers and leaves, and that nobody finds it wrong.
use Rattle.std.specs.Prelude.{◌≡◌, ℕ, List, [], ◌∷◌, map, vec_items, Some, Option, Result}
use Rattle.lengths.specs.Kind.{Kind}
use Rattle.rules.specs.declared.rule.Rule.{Rule}
use Rattle.faults.specs.declared.fault.CompactionFault.{CompactionFault}
use Rattle.faults.specs.declared.fault.ReductionFault.{ReductionFault}
use Rattle.faults.specs.declared.fault.TrialFault.{TrialFault}
use Rattle.cell.specs.Book.{look_up}
use Rattle.cell.specs.Calls.{entry_check, withdrawal_check}
use Rattle.cell.specs.Compaction.{Compacts}
use Rattle.cell.specs.Findings.{CompactionFinding, ReductionFinding}
use Rattle.cell.specs.Force.{book_rules, by_tag, in_force}
use Rattle.cell.specs.Reduction.{Reduces}
use Rattle.cell.specs.Trial.{Tries}
use Rattle.cell.specs.declared.record.Record.{Record}
use Rattle.run.specs.Course.{book_after}
use Rattle.run.specs.declared.turn.Answer.TheVariants.{Compacted, Entered, Found, Reduced, Tried, Withdrawn}
use Rattle.run.specs.declared.turn.Call.{Call}
use Rattle.run.specs.declared.turn.Call.TheVariants.{Compact, Enter, LookUp, Reduce, Try, Withdraw}
use Rattle.run.specs.declared.turn.Turn.{Turn}

module _ {L S : Type 0} where
  -- The calls of turns, in order.
  abbrev pub calls : List (Turn L S) → List (Call L)
  calls turns = map (λ t. t.call) turns

  -- Row and cycle list hold what they held.
  pub record RowKept (t u : Turn L S) : Type 0 where
    pub row : vec_items u.row ≡ vec_items t.row
    pub cycle : vec_items u.cycle ≡ vec_items t.cycle

  -- Table and result list hold what they held.
  pub record TableKept (t u : Turn L S) : Type 0 where
    pub table : vec_items u.table ≡ vec_items t.table
    pub list : vec_items u.list ≡ vec_items t.list

module _ {L S : Type 0} (k : Kind L) (listing : S → List (Option (Rule L))) (n records : ℕ) where
  -- What a turn answers and leaves, by its call, on the rules then in force: the book so far, the boundary rules, and
  -- the rules of its own source. No finding of the three is made.
  abbrev pub Answers : List (Record L) → Call L → (t u : Turn L S) → Type 0
  Answers book (Enter tag rule) t u = (u.answer ≡ Some (Entered (entry_check k n records book tag rule))) × RowKept t u × TableKept t u
  Answers book (Withdraw tag) t u = (u.answer ≡ Some (Withdrawn (withdrawal_check book tag))) × RowKept t u × TableKept t u
  Answers book (LookUp tag) t u = (u.answer ≡ Some (Found (look_up book tag))) × RowKept t u × TableKept t u
  Answers book Try t u = ((r : Result ℕ TrialFault) × (u.answer ≡ Some (Tried r)) × Tries k n book (listing t.source) (vec_items t.row) r) × RowKept t u × TableKept t u
  Answers book Compact t u =
      ((r : Result (Unit {0}) CompactionFault) × (u.answer ≡ Some (Compacted r))
      × Compacts k n book (listing t.source) (vec_items t.row) (vec_items t.cycle) r (vec_items u.row) (vec_items u.cycle)
      × (CompactionFinding k n (in_force k n book (listing t.source)) r (vec_items u.row) (vec_items u.cycle) → ⊥))
      × TableKept t u
  Answers book Reduce t u =
      ((r : Result ℕ ReductionFault) × (u.answer ≡ Some (Reduced r))
      × Reduces k n book (listing t.source) (vec_items t.table) (vec_items t.list) r (vec_items u.table) (vec_items u.list)
      × (ReductionFinding k n (in_force k n book (listing t.source)) r (vec_items u.list) → ⊥))
      × RowKept t u

  -- One turn, from t to u, on a cell with this book.
  pub record Performs (book : List (Record L)) (t u : Turn L S) : Type 0 where
    pub same_call : u.call ≡ t.call
    pub same_source : u.source ≡ t.source
    pub answers : Answers book t.call t u

  -- A list of turns before and after, with the book computed from the calls alone. At each turn every rule of the book
  -- is in force, under its tag.
  abbrev pub Faithful : List (Record L) → List (Turn L S) → List (Turn L S) → Type 0
  Faithful book [] [] = Unit {0}
  Faithful book (t ∷ before) (u ∷ after) =
      (book_rules k n book ≡ map (by_tag k n) book) × Performs book t u × Faithful (book_after k n records book t.call) before after
  Faithful book [] (u ∷ after) = ⊥
  Faithful book (t ∷ before) [] = ⊥

-- What a compaction answers and leaves.
use Rattle.std.specs.Prelude.{◌≡◌, ℕ, ◌<◌, ◌≤◌, cond, List, length, Ok, Err, Option, Result, nat_lt}
use Rattle.lengths.specs.Kind.{Kind}
use Rattle.rules.specs.declared.rule.Rule.{Rule}
use Rattle.graph.specs.Listed.{plain}
use Rattle.graph.specs.Packing.{Packed, Refuted}
use Rattle.graph.specs.declared.numbered.Numbered.{Numbered}
use Rattle.cell.specs.Force.{in_force, source_check}
use Rattle.faults.specs.declared.fault.CompactionFault.{CompactionFault}
use Rattle.faults.specs.declared.fault.CompactionFault.TheVariants.{BadSource, OverConstrained, ShortList, ShortRow}
use Rattle.cell.specs.declared.record.Record.{Record}

-- A row that is too short is refused before a cycle list that is too short.
abbrev pub room_check : ℕ → ℕ → ℕ → Result (Unit {0}) CompactionFault
room_check n row list = cond (nat_lt row n) (Err ShortRow) (cond (nat_lt list n) (Err ShortList) (Ok tt))

module _ {L : Type 0} (k : Kind L) (n : ℕ) where
  -- Positions sought for rules: a packed row and the list as it was, or a finding that the rules are over-constrained.
  abbrev pub Sought : (rules : List (Numbered L)) (row : List L) (list : List ℕ) → Result (Unit {0}) CompactionFault → (row' : List L) (list' : List ℕ) → Type 0
  Sought rules row list (Ok _) row' list' = Packed k n (plain rules) row row' × (list' ≡ list)
  Sought rules row list (Err (OverConstrained d)) row' list' = Refuted k n d rules row row' list list'
  Sought rules row list (Err (BadSource fault)) row' list' = ⊥
  Sought rules row list (Err ShortRow) row' list' = ⊥
  Sought rules row list (Err ShortList) row' list' = ⊥

  -- A compaction, case by case: which refusal where, and that all is left alone then; else positions for the rules in force.
  abbrev pub Compacts : (book : List (Record L)) (places : List (Option (Rule L))) (row : List L) (list : List ℕ) → Result (Unit {0}) CompactionFault → (row' : List L) (list' : List ℕ) → Type 0
  Compacts book places row list (Err (BadSource fault)) row' list' = (source_check k n places ≡ Err fault) × (row' ≡ row) × (list' ≡ list)
  Compacts book places row list (Err ShortRow) row' list' = (source_check k n places ≡ Ok tt) × (length row < n) × (row' ≡ row) × (list' ≡ list)
  Compacts book places row list (Err ShortList) row' list' = (source_check k n places ≡ Ok tt) × (n ≤ length row) × (length list < n) × (row' ≡ row) × (list' ≡ list)
  Compacts book places row list (Err (OverConstrained d)) row' list' = (source_check k n places ≡ Ok tt) × (n ≤ length row) × (n ≤ length list) × Sought (in_force k n book places) row list (Err (OverConstrained d)) row' list'
  Compacts book places row list (Ok done) row' list' = (source_check k n places ≡ Ok tt) × (n ≤ length row) × (n ≤ length list) × Sought (in_force k n book places) row list (Ok done) row' list'

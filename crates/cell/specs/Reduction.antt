-- What a reduction answers and leaves.
use Rattle.std.specs.Prelude.{◌≡◌, ℕ, ◌*◌, ◌<◌, ◌≤◌, List, ◌++◌, length, drop, Ok, Err, Option, Result}
use Rattle.lengths.specs.Kind.{Kind}
use Rattle.rules.specs.declared.rule.Rule.{Rule}
use Rattle.graph.specs.Distancing.{Measured}
use Rattle.graph.specs.Listed.{plain}
use Rattle.reduction.specs.Listing.{reduced}
use Rattle.graph.specs.Paths.{PositiveCycle}
use Rattle.graph.specs.Positions.{cleared}
use Rattle.graph.specs.Rivals.{SamePlacements, Smallest}
use Rattle.graph.specs.Rows.{Placement}
use Rattle.graph.specs.declared.numbered.Numbered.{Numbered}
use Rattle.cell.specs.Force.{in_force, source_check}
use Rattle.faults.specs.declared.fault.ReductionFault.{ReductionFault}
use Rattle.faults.specs.declared.fault.ReductionFault.TheVariants.{BadSource, OverConstrained, ShortList, ShortTable}
use Rattle.cell.specs.declared.record.Record.{Record}

module _ {L : Type 0} (k : Kind L) (n : ℕ) where
  -- Rules that are over-constrained.
  pub record Overruled (rules : List (Numbered L)) (table table' : List L) : Type 0 where
    -- there is a positive cycle
    pub positive : (i : ℕ) × (p : List (Rule L)) × PositiveCycle k (plain rules) i p
    -- so no row keeps all
    pub unplaced : (other : List L) → Placement k n (plain rules) other → ⊥
    -- the entries between marks are zero, and the others as they were
    pub zeros : table' ≡ cleared k (n * n) table

  -- Rules reduced to a list of so many.
  pub record Lists (rules : List (Numbered L)) (count : ℕ) (table table' : List L) (list list' : List (Rule L)) : Type 0 where
    -- the distances stand in the table
    pub measured : Measured k n rules table table'
    -- the reduced list of the distances stands at the front of the list, the rest of which is as it was
    pub written : (count ≡ length (reduced k n table')) × (count ≤ length list) × (list' ≡ reduced k n table' ++ drop count list)
    -- it has exactly the placements of the rules
    pub same : SamePlacements k n (plain rules) (reduced k n table')
    -- no rival list with the same placements is shorter
    pub smallest : Smallest k n (reduced k n table')

  -- A list sought for rules: the reduced one, or the finding that they are over-constrained, or the count that has no room.
  abbrev pub Sought : (rules : List (Numbered L)) (table : List L) (list : List (Rule L)) → Result ℕ ReductionFault → (table' : List L) (list' : List (Rule L)) → Type 0
  Sought rules table list (Ok count) table' list' = Lists rules count table table' list list'
  Sought rules table list (Err OverConstrained) table' list' = Overruled rules table table' × (list' ≡ list)
  Sought rules table list (Err (ShortList count)) table' list' = Measured k n rules table table' × (count ≡ length (reduced k n table')) × (length list < count) × (list' ≡ list)
  Sought rules table list (Err (BadSource fault)) table' list' = ⊥
  Sought rules table list (Err ShortTable) table' list' = ⊥

  -- A reduction, case by case: which refusal where, and that all is left alone then; else a list for the rules in force.
  abbrev pub Reduces : (book : List (Record L)) (places : List (Option (Rule L))) (table : List L) (list : List (Rule L)) → Result ℕ ReductionFault → (table' : List L) (list' : List (Rule L)) → Type 0
  Reduces book places table list (Err (BadSource fault)) table' list' = (source_check k n places ≡ Err fault) × (table' ≡ table) × (list' ≡ list)
  Reduces book places table list (Err ShortTable) table' list' = (source_check k n places ≡ Ok tt) × (length table < n * n) × (table' ≡ table) × (list' ≡ list)
  Reduces book places table list (Err OverConstrained) table' list' = (source_check k n places ≡ Ok tt) × (n * n ≤ length table) × Sought (in_force k n book places) table list (Err OverConstrained) table' list'
  Reduces book places table list (Err (ShortList count)) table' list' = (source_check k n places ≡ Ok tt) × (n * n ≤ length table) × Sought (in_force k n book places) table list (Err (ShortList count)) table' list'
  Reduces book places table list (Ok count) table' list' = (source_check k n places ≡ Ok tt) × (n * n ≤ length table) × Sought (in_force k n book places) table list (Ok count) table' list'

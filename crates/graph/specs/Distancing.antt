-- What seeking distances answers, case by case.
use Rattle.std.specs.Prelude.{◌≡◌, ℕ, ◌*◌, ◌<◌, ◌≤◌, Bool, true, false, ◌&&◌, List, length, drop, Ok, Err, Result, nat_le}
use Rattle.lengths.specs.Kind.{Kind}
use Rattle.rules.specs.declared.rule.Rule.{Rule}
use Rattle.graph.specs.declared.numbered.Numbered.{Numbered}
use Rattle.graph.specs.declared.positions.PackingFault.{PackingFault}
use Rattle.graph.specs.declared.positions.PackingFault.TheVariants.{Unready, OverConstrained}
use Rattle.graph.specs.Rows.{position, Placement}
use Rattle.graph.specs.Paths.{PositiveCycle}
use Rattle.graph.specs.Listed.{plain}
use Rattle.graph.specs.Ready.{sound}
use Rattle.graph.specs.Positions.{cleared}
use Rattle.graph.specs.Distances.{DistanceTable}

-- The largest measure of a placement from which the reduction can reason.
abbrev pub placement_limit : ℕ
placement_limit = 512_000_000

module _ {L : Type 0} (k : Kind L) where
  -- Sound rules, and a table with an entry for each two marks.
  abbrev pub tabled : ℕ → List (Numbered L) → List L → Bool
  tabled n rules table = sound k n rules && nat_le (n * n) (length table)

  -- A placement of rules with small measures.
  pub record NearPlacement (n : ℕ) (rules : List (Rule L)) : Type 0 where
    pub row : List L
    pub placed : Placement k n rules row
    pub near : (m : ℕ) → m < n → k.measure (position k row m) ≤ placement_limit

  -- The distances stand in the table, the rest of it is as it was, no cycle is positive, and the rules have a placement.
  pub record Measured (n : ℕ) (rules : List (Numbered L)) (table table' : List L) : Type 0 where
    pub distances : DistanceTable k n (plain rules) table'
    pub beyond : drop (n * n) table' ≡ drop (n * n) table
    pub no_cycle : (i : ℕ) (p : List (Rule L)) → PositiveCycle k (plain rules) i p → ⊥
    pub placement : NearPlacement n (plain rules)

  -- Unready exactly where rules and table are not within their limits, and the table is left alone; over-constrained with
  -- a positive cycle of the rules, and the entries between marks at zero; else the distances.
  abbrev pub Distanced : (n : ℕ) (rules : List (Numbered L)) (table : List L) → Result (Unit {0}) PackingFault → (table' : List L) → Type 0
  Distanced n rules table (Err Unready) table' = (tabled n rules table ≡ false) × (table' ≡ table)
  Distanced n rules table (Err OverConstrained) table' = (tabled n rules table ≡ true) × ((i : ℕ) × (p : List (Rule L)) × PositiveCycle k (plain rules) i p) × (table' ≡ cleared k (n * n) table)
  Distanced n rules table (Ok _) table' = (tabled n rules table ≡ true) × Measured n rules table table'

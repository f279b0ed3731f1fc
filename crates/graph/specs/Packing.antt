-- Packing: the row at the longest path lengths from mark 0, of which no placement has any mark further left.
use Rattle.std.specs.Prelude.{◌≡◌, ℕ, ◌<◌, ◌≤◌, Bool, true, false, ◌&&◌, List, length, drop, Ok, Err, Result, nat_le}
use Rattle.std.specs.List.{ContainsAt as Has, AllByRecursion as Every}
use Rattle.lengths.specs.Kind.{Kind}
use Rattle.rules.specs.Rule.{minimum}
use Rattle.rules.specs.declared.rule.Rule.{Rule}
use Rattle.graph.specs.declared.numbered.Numbered.{Numbered}
use Rattle.graph.specs.declared.positions.PackingFault.{PackingFault}
use Rattle.graph.specs.declared.positions.PackingFault.TheVariants.{Unready, OverConstrained}
use Rattle.graph.specs.Cycles.{Written}
use Rattle.graph.specs.Listed.{plain}
use Rattle.graph.specs.Outcome.{Settles}
use Rattle.graph.specs.Paths.{Longest, PositiveCycle}
use Rattle.graph.specs.Positions.{cleared}
use Rattle.graph.specs.Ready.{sound}
use Rattle.graph.specs.Rows.{position, Keeps, Placement, Row}

module _ {L : Type 0} (k : Kind L) where
  -- Sound rules, and a row with an entry for each mark.
  abbrev pub packable : ℕ → List (Numbered L) → List L → Bool
  packable n rules row = sound k n rules && nat_le n (length row)

  -- Seeking positions from zeros, case by case.
  abbrev pub PacksFrom : (n : ℕ) (rules : List (Numbered L)) (before : List L) → Result (Unit {0}) PackingFault → (row : List L) → Type 0
  PacksFrom n rules before (Err Unready) row = (packable n rules before ≡ false) × (row ≡ before)
  PacksFrom n rules before (Ok _) row = (packable n rules before ≡ true) × Settles k n rules (cleared k n before) row × ((i : ℕ) (p : List (Rule L)) → PositiveCycle k (plain rules) i p → ⊥)
  PacksFrom n rules before (Err OverConstrained) row = (packable n rules before ≡ true) × ((i : ℕ) × (p : List (Rule L)) × PositiveCycle k (plain rules) i p) × (row ≡ cleared k n before)

  -- Every mark from 1 up does not lie left of mark 0.
  abbrev pub Bordered : ℕ → List (Numbered L) → Type 0
  Bordered n rules = (m : ℕ) → 1 ≤ m → m < n → Has (plain rules) (minimum 0 m k.zero)

  -- A packed row.
  pub record Packed (n : ℕ) (rules : List (Rule L)) (before row : List L) : Type 0 where
    -- each position is the longest path length from mark 0
    pub longest : (m : ℕ) → m < n → Longest k n rules 0 m (position k row m)
    -- the row is a placement
    pub placement : Placement k n rules row
    -- no placement has any mark further left
    pub leftmost : (other : List L) → Placement k n rules other → (m : ℕ) → m < n → k.at_most (position k row m) (position k other m) ≡ true
    -- there is no positive cycle
    pub feasible : (i : ℕ) (p : List (Rule L)) → PositiveCycle k rules i p → ⊥
    -- the entries beyond the marks are as they were
    pub beyond : drop n row ≡ drop n before

  -- A finding that rules are over-constrained.
  pub record Refuted (n d : ℕ) (rules : List (Numbered L)) (before row : List L) (list list' : List ℕ) : Type 0 where
    -- the first d entries of the list are the numbers of a positive cycle, from its smallest mark, and the others are as they were
    pub shown : Written k n rules d list list'
    -- no row keeps even the rules of that cycle
    pub unkept : (other : List L) → Row k n other → Every (Keeps k other) (plain shown.cycle) → ⊥
    -- so none keeps all
    pub unplaced : (other : List L) → Placement k n (plain rules) other → ⊥
    -- the marks of the row are zero, and its other entries as they were
    pub zeros : row ≡ cleared k n before

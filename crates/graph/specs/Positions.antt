-- What seeking positions answers, case by case.
use Rattle.std.specs.Prelude.{◌≡◌, ℕ, true, false, List, ◌++◌, drop, replicate, Ok, Err, Result}
use Rattle.lengths.specs.Kind.{Kind}
use Rattle.rules.specs.declared.rule.Rule.{Rule}
use Rattle.graph.specs.declared.numbered.Numbered.{Numbered}
use Rattle.graph.specs.declared.positions.PackingFault.{PackingFault}
use Rattle.graph.specs.declared.positions.PackingFault.TheVariants.{Unready, OverConstrained}
use Rattle.graph.specs.Paths.{PositiveCycle}
use Rattle.graph.specs.Listed.{plain}
use Rattle.graph.specs.Ready.{ready}
use Rattle.graph.specs.Outcome.{Settles}

module _ {L : Type 0} (k : Kind L) where
  -- The row whose first n entries are zero and whose others are as they were.
  abbrev pub cleared : ℕ → List L → List L
  cleared n row = replicate n k.zero ++ drop n row

  -- Unready exactly where the start is not ready, and the row is left alone; Ok with a row that keeps every rule, and no
  -- positive cycle; over-constrained with a positive cycle of the rules, and the marks at zero.
  abbrev pub Positioned : (n : ℕ) (rules : List (Numbered L)) (start : List L) → Result (Unit {0}) PackingFault → (row : List L) → Type 0
  Positioned n rules start (Err Unready) row = (ready k n rules start ≡ false) × (row ≡ start)
  Positioned n rules start (Ok _) row = (ready k n rules start ≡ true) × Settles k n rules start row × ((i : ℕ) (p : List (Rule L)) → PositiveCycle k (plain rules) i p → ⊥)
  Positioned n rules start (Err OverConstrained) row = (ready k n rules start ≡ true) × ((i : ℕ) × (p : List (Rule L)) × PositiveCycle k (plain rules) i p) × (row ≡ cleared n start)

-- What showing a cycle answers, case by case.
use Rattle.std.specs.Prelude.{◌≡◌, ℕ, true, false, List, ◌++◌, map, length, drop, Some, None, Option, Ok, Err, Result}
use Rattle.lengths.specs.Kind.{Kind}
use Rattle.rules.specs.declared.rule.Rule.{Rule}
use Rattle.graph.specs.declared.numbered.Numbered.{Numbered}
use Rattle.graph.specs.declared.unready.Unready.{Unready}
use Rattle.graph.specs.Paths.{PositiveCycle}
use Rattle.graph.specs.Listed.{plain}
use Rattle.graph.specs.Ready.{showable}
use Rattle.graph.specs.Positions.{cleared}
use Rattle.graph.specs.Outcome.{ShownCycle}

-- The numbers of rules, in order.
abbrev pub numbers : {L : Type 0} → List (Numbered L) → List ℕ
numbers p = map (λ q. q.number) p

module _ {L : Type 0} (k : Kind L) where
  -- A cycle of d rules is written: its numbers in order at the front of the list, and the rest of the list as it was.
  pub record Written (n : ℕ) (rules : List (Numbered L)) (d : ℕ) (list list' : List ℕ) : Type 0 where
    pub mark : ℕ
    pub cycle : List (Numbered L)
    pub shows : ShownCycle k n rules mark cycle
    pub counted : length cycle ≡ d
    pub listed : list' ≡ numbers cycle ++ drop d list

  -- Unready exactly where rules, row and list are not showable, and all is left alone; else the marks of the row are zero.
  -- None where the rules have no positive cycle, and the list is left alone; else a positive cycle stands in the list.
  abbrev pub Shows : (n : ℕ) (rules : List (Numbered L)) (row : List L) (list : List ℕ) → Result (Option ℕ) Unready → (row' : List L) (list' : List ℕ) → Type 0
  Shows n rules row list (Err _) row' list' = (showable k n rules row list ≡ false) × (row' ≡ row) × (list' ≡ list)
  Shows n rules row list (Ok None) row' list' = (showable k n rules row list ≡ true) × (row' ≡ cleared k n row) × (list' ≡ list) × ((i : ℕ) (p : List (Rule L)) → PositiveCycle k (plain rules) i p → ⊥)
  Shows n rules row list (Ok (Some d)) row' list' = (showable k n rules row list ≡ true) × (row' ≡ cleared k n row) × Written n rules d list list'

-- Cycles are short, and no row keeps the rules of a positive one.
use Rattle.std.proofs.Common.{ℕ, ◌*◌, ◌<◌, ◌≤◌, List, length, arith}
use Rattle.std.specs.List.{AllByRecursion as Every}
use Rattle.std.proofs.lemmas.List.{length-map}
use Rattle.std.proofs.ByRecursion.{All-map, All-weaker}
use Rattle.lengths.specs.Kind.{Kind, Laws}
use Rattle.rules.specs.declared.rule.Rule.{Rule}
use Rattle.graph.specs.Rows.{Keeps, Row, Placement}
use Rattle.graph.specs.Paths.{left_marks, Cycle, PositiveCycle}
use Rattle.graph.proofs.Membership.{all_drawn}
use Rattle.graph.proofs.Pigeonhole.{apart_no_longer}
use Rattle.graph.proofs.Walks.{MarksBelow, GapAtMost, walk_limit, fewer_within, positive_cycle_unkept}

module _ {L : Type 0} (n : ℕ) (rules : List (Rule L)) (marks : Every (MarksBelow n) rules) where
  -- A cycle leaves each of the n marks at most once.
  pub cycle_short : (i : ℕ) (p : List (Rule L)) → Cycle rules i p → length p ≤ n
  cycle_short i p c =
      let below = All-weaker (MarksBelow n) (λ r. r.from < n) (λ r h. h.0) p (all_drawn (MarksBelow n) rules p c.drawn marks) in
      omega (arith, apart_no_longer n (left_marks p) c.once (All-map (λ m. m < n) (λ (r : Rule L). r.from) p below), length-map p (λ (r : Rule L). r.from))

  module _ (k : Kind L) (laws : Laws k) (g : ℕ) (small : Every (GapAtMost k g) rules) (few : n * g ≤ walk_limit) where
    -- No row keeps the rules of a positive cycle.
    pub positive_cycle_no_row : (i : ℕ) (p : List (Rule L)) → PositiveCycle k rules i p → (row : List L) → Row k n row → Every (Keeps k row) p → ⊥
    positive_cycle_no_row i p c row is_row keeps =
        let drawn = c.cycle.drawn in
        positive_cycle_unkept k laws g n row is_row.near rules p i c (all_drawn (MarksBelow n) rules p drawn marks) (all_drawn (GapAtMost k g) rules p drawn small)
        (fewer_within g (length p) n (cycle_short i p c.cycle) few) keeps

    -- Rules with a positive cycle have no placement.
    pub positive_cycle_no_placement : (i : ℕ) (p : List (Rule L)) → PositiveCycle k rules i p → (row : List L) → Placement k n rules row → ⊥
    positive_cycle_no_placement i p c row placed = positive_cycle_no_row i p c row placed.is_row (all_drawn (Keeps k row) rules p c.cycle.drawn placed.keeps)

-- Lists of rules with the same placements, and lists that no such list beats.
use Rattle.std.specs.Prelude.{ℕ, ◌<◌, ◌≤◌, List, length}
use Rattle.std.specs.List.{AllByRecursion as Every}
use Rattle.lengths.specs.Kind.{Kind}
use Rattle.rules.specs.declared.rule.Rule.{Rule}
use Rattle.graph.specs.Rows.{Placement}

-- The largest measure of a rival's gap.
abbrev pub rival_limit : ℕ
rival_limit = 1_000_000_000

module _ {L : Type 0} (k : Kind L) (n : ℕ) where
  -- A row is a placement of xs exactly when it is one of ys.
  pub record SamePlacements (xs ys : List (Rule L)) : Type 0 where
    pub onward : (row : List L) → Placement k n xs row → Placement k n ys row
    pub back : (row : List L) → Placement k n ys row → Placement k n xs row

  -- A rule between the n marks, which may be one and the same, with a gap within the limit.
  pub record Between (r : Rule L) : Type 0 where
    pub from_below : r.from < n
    pub to_below : r.to < n
    pub near : k.measure r.gap ≤ rival_limit

  -- No list of rules between the marks with the same placements is shorter.
  abbrev pub Smallest : List (Rule L) → Type 0
  Smallest xs = (ys : List (Rule L)) → Every Between ys → SamePlacements xs ys → length xs ≤ length ys

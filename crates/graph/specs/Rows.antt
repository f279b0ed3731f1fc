-- Rows of positions, the rules that a row keeps, and placements.
use Rattle.std.specs.Prelude.{◌≡◌, ℕ, ◌<◌, ◌≤◌, true, List, length, slice_index_or}
use Rattle.std.specs.List.{AllByRecursion as Every}
use Rattle.lengths.specs.Kind.{Kind}
use Rattle.rules.specs.declared.rule.Rule.{Rule}

-- The largest measure of a row's lengths.
abbrev pub row_limit : ℕ
row_limit = 10_000_000_000_000

module _ {L : Type 0} (k : Kind L) where
  -- Where a row puts mark m.
  abbrev pub position : List L → ℕ → L
  position row m = slice_index_or row m k.zero

  -- A row keeps a rule: `to` lies at least the gap beyond `from`.
  abbrev pub Keeps : List L → Rule L → Type 0
  Keeps row r = k.at_most (k.sum (position row r.from) r.gap) (position row r.to) ≡ true

  -- A row of n marks: mark 0 at zero, and no length of a measure above the limit.
  pub record Row (n : ℕ) (row : List L) : Type 0 where
    pub long : n ≤ length row
    pub border : position row 0 ≡ k.zero
    pub near : (m : ℕ) → m < n → k.measure (position row m) ≤ row_limit

  -- A placement of rules: a row that keeps them all.
  pub record Placement (n : ℕ) (rules : List (Rule L)) (row : List L) : Type 0 where
    pub is_row : Row n row
    pub keeps : Every (Keeps row) rules

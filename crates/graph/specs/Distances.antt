-- Distances: the longest path lengths between all marks, and the tables that hold them.
use Rattle.std.specs.Prelude.{◌≡◌, ℕ, ◌+◌, ◌*◌, ◌<◌, cond, ◌⊎◌, List, Some, None, Option, slice_index_or}
use Rattle.lengths.specs.Kind.{Kind}
use Rattle.rules.specs.declared.rule.Rule.{Rule}
use Rattle.graph.specs.Paths.{Path, Longest}

-- The distance from one mark to another is the longest length of a path, or none where no path leads there.
pub record Distances {L : Type 0} (k : Kind L) (n : ℕ) (rules : List (Rule L)) (d : ℕ → ℕ → Option L) : Type 0 where
  pub longest : (i j : ℕ) → i < n → j < n → (x : L) → d i j ≡ Some x → Longest k n rules i j x
  pub no_path : (i j : ℕ) → i < n → j < n → d i j ≡ None → (p : List (Rule L)) → Path n rules i j p → ⊥

module _ {L : Type 0} (k : Kind L) where
  -- The entry of a table of n times n lengths for marks i and j.
  abbrev pub table_entry : List L → ℕ → ℕ → ℕ → L
  table_entry table n i j = slice_index_or table (i * n + j) k.zero

  -- How a table holds a length or none: the opposite of far stands for none.
  unfoldable pub as_entry : Option L → L
  as_entry None = k.opposite k.far
  as_entry (Some x) = x

  -- The length that an entry of a table holds, if any.
  unfoldable pub table_distance : List L → ℕ → ℕ → ℕ → Option L
  table_distance table n i j = cond (k.at_most (table_entry table n i j) (k.opposite k.far)) None (Some (table_entry table n i j))

  -- A table of distances: each entry is the longest length of a path, or the opposite of far where no path leads.
  pub record DistanceTable (n : ℕ) (rules : List (Rule L)) (table : List L) : Type 0 where
    pub entries : (i j : ℕ) → i < n → j < n → Longest k n rules i j (table_entry table n i j) ⊎ ((table_entry table n i j ≡ k.opposite k.far) × ((p : List (Rule L)) → Path n rules i j p → ⊥))

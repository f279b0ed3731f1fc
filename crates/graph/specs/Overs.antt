-- Tables changed in place over one midpoint after another, entry by entry.
use Rattle.std.specs.Prelude.{◌≡◌, ℕ, zero, suc, ◌+◌, ◌*◌, ◌<◌, ◌≤◌, cond, ◌⊎◌, List, length, slice_index_or}
use Rattle.lengths.specs.Kind.{Kind}
use Rattle.graph.specs.Distances.{table_entry}
use Rattle.graph.specs.Filling.{none, no_less}

module _ {L : Type 0} (k : Kind L) where
  -- An entry over a midpoint: at least the sum of the lengths to it and from it, where both exist.
  unfoldable pub over_entry : L → L → L → L
  over_entry before after held = cond (k.at_most before (none k)) held (cond (k.at_most after (none k)) held (no_less k held (k.sum before after)))

  -- The first `count` entries of row i are changed over mark m, and no others.
  pub record RowUpto (n m i count : ℕ) (table table' : List L) : Type 0 where
    pub same_length : length table' ≡ length table
    pub here : (j : ℕ) → j < count → table_entry k table' n i j ≡ over_entry (table_entry k table n i m) (table_entry k table n m j) (table_entry k table n i j)
    pub elsewhere : (x : ℕ) → (x < i * n) ⊎ (i * n + count ≤ x) → slice_index_or table' x k.zero ≡ slice_index_or table x k.zero

  -- Row m is the same over mark m.
  abbrev pub Still : ℕ → ℕ → List L → Type 0
  Still n m table = (j : ℕ) → j < n → over_entry (table_entry k table n m m) (table_entry k table n m j) (table_entry k table n m j) ≡ table_entry k table n m j

  -- The first `count` rows are changed over mark m, and no others.
  pub record TableUpto (n m count : ℕ) (table table' : List L) : Type 0 where
    pub same_length : length table' ≡ length table
    pub here : (i j : ℕ) → i < count → j < n → table_entry k table' n i j ≡ over_entry (table_entry k table n i m) (table_entry k table n m j) (table_entry k table n i j)
    pub elsewhere : (x : ℕ) → count * n ≤ x → slice_index_or table' x k.zero ≡ slice_index_or table x k.zero

  -- The table is changed over each of the first m marks in turn, while these stand still.
  unfoldable pub Overs : ℕ → ℕ → List L → List L → Type 0
  Overs n zero table table' = table' ≡ table
  Overs n (suc m) table table' = (between : List L) × Overs n m table between × (Still n m between → TableUpto n m n between table')

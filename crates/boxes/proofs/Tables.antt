-- What the places of boxes tell.
use Rattle.std.proofs.Common.{◌≡◌, ℕ, ◌*◌, ◌/◌, ◌%◌, ◌<◌, ◌≤◌, List, length, get_or, None, ⊎_elim, mul-le-mul_right, zero-add, arith}
use Rattle.std.proofs.lemmas.Nat.{div_below, mod_below}
use Rattle.std.proofs.lemmas.List.FromFn.{length-map-range_with_len, get_or-map-range_with_len}
use Rattle.std.proofs.lemmas.List.{get_or_past}
use Rattle.std.proofs.lemmas.Bool.{cases_lt}
use Rattle.lengths.specs.declared.grid.Grid.{Grid}
use Rattle.rules.specs.Limited.{length_too_many, getD_too_many}
use Rattle.rules.specs.declared.rule.Rule.{Rule}
use Rattle.boxes.specs.Held.{counted_places}
use Rattle.boxes.specs.Places.{table_place, table_places}
use Rattle.boxes.specs.declared.figures.Figures.{Figures}

-- a table with a place has a row
some : (p n : ℕ) → p < n * n → 0 < n
some p n l = ⊎_elim (λ (h : 0 < n). h) (λ (h : n ≤ 0). absurd (omega (arith, mul-le-mul_right n h))) (cases_lt 0 n)

pub row_below : (p n : ℕ) → p < n * n → p / n < n
row_below p n l = div_below p n n (some p n l) l

pub column_below : (p n : ℕ) → p < n * n → p % n < n
column_below p n l = mod_below p n (some p n l)

module _ (factor : ℕ) (rows : List Figures) where
  pub length_many : length (counted_places factor rows None) ≡ 8193
  length_many = length_too_many (Rule Grid)

  pub many_at : (p : ℕ) → get_or (counted_places factor rows None) p None ≡ None
  many_at p = getD_too_many (Rule Grid) p

module _ (factor n : ℕ) (rows : List Figures) where
  pub length_few : length (table_places factor n rows) ≡ n * n
  length_few = length-map-range_with_len (table_place factor n rows) 0 (n * n)

  pub past_at : (p : ℕ) → n * n ≤ p → get_or (table_places factor n rows) p None ≡ None
  past_at p l = get_or_past (table_places factor n rows) p None (omega (arith, length_few))

  pub few_at : (p : ℕ) → p < n * n → get_or (table_places factor n rows) p None ≡ table_place factor n rows p
  few_at p l = get_or-map-range_with_len (table_place factor n rows) 0 (n * n) p p None l (zero-add p)

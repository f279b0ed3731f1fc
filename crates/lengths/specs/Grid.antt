-- The kind of grid lengths: sums and opposites stop at the ends of the 64-bit range.
use Rattle.std.specs.Prelude.{ℤ, pos, ◌+ℤ◌, neg_ℤ, int_le, unsigned_abs}
use Rattle.std.specs.Int.{saturate_to_bits}
use Rattle.lengths.specs.Kind.{Kind}
use Rattle.lengths.specs.declared.grid.Grid.{Grid}

-- A grid length of so many steps.
abbrev pub grid : ℤ → Grid
grid n = record { steps = n }

abbrev pub grid_kind : Kind Grid
grid_kind = record {
  zero = grid (pos 0);
  sum = λ x y. grid (saturate_to_bits 63 (x.steps +ℤ y.steps));
  opposite = λ x. grid (saturate_to_bits 63 (neg_ℤ x.steps));
  at_most = λ x y. int_le x.steps y.steps;
  measure = λ x. unsigned_abs x.steps;
  far = grid (pos 1_000_000_000_001);
}

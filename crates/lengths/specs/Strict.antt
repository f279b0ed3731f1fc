-- The kind of strict lengths: they add part by part, and compare by grid steps, then by least steps.
use Rattle.std.specs.Prelude.{max, ◌&&◌, ◌||◌, ℤ, pos, ◌+ℤ◌, neg_ℤ, int_le, int_lt, unsigned_abs}
use Rattle.std.specs.Int.{saturate_to_bits}
use Rattle.lengths.specs.Kind.{Kind}
use Rattle.lengths.specs.declared.strict.Strict.{Strict}

-- A strict length of so many grid steps and so many least steps.
abbrev pub strict : ℤ → ℤ → Strict
strict a s = record { steps = a; least = s }

abbrev pub strict_kind : Kind Strict
strict_kind = record {
  zero = strict (pos 0) (pos 0);
  sum = λ x y. strict (saturate_to_bits 63 (x.steps +ℤ y.steps)) (saturate_to_bits 63 (x.least +ℤ y.least));
  opposite = λ x. strict (saturate_to_bits 63 (neg_ℤ x.steps)) (saturate_to_bits 63 (neg_ℤ x.least));
  at_most = λ x y. int_lt x.steps y.steps || (int_le x.steps y.steps && int_le x.least y.least);
  measure = λ x. max (unsigned_abs x.steps) (unsigned_abs x.least);
  far = strict (pos 1_000_000_000_001) (pos 0);
}

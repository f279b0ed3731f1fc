-- The laws of strict lengths: sums and opposites go part by part, so each part is a grid length; the order is lexicographic.
use Rattle.std.specs.Prelude.{◌≡◌, ◌+◌, ◌≤◌, true, ◌&&◌, ◌||◌, ℤ, ◌+ℤ◌, int_le, int_lt, unsigned_abs}
use Rattle.std.proofs.Common.{ap, ap₂, arith, rules}
use Rattle.std.specs.Int.{saturate_to_bits}
use Rattle.std.proofs.lemmas.Int.{ints}
use Rattle.lengths.specs.Kind.{Laws, reach}
use Rattle.lengths.specs.Grid.{grid, grid_kind}
use Rattle.lengths.specs.Strict.{strict, strict_kind}
use Rattle.lengths.specs.declared.grid.Grid.{Grid}
use Rattle.lengths.specs.declared.strict.Strict.{Strict}

parts : Laws grid_kind
parts = search rules

-- the two parts of a strict length, as grid lengths
abbrev first : Strict → Grid
first x = grid x.steps

abbrev second : Strict → Grid
second x = grid x.least

-- equal grid lengths have equal steps
steps_of : {x y : Grid} → x ≡ y → x.steps ≡ y.steps
steps_of = ap (λ (u : Grid). u.steps)

-- a sum of two parts in reach does not stop at an end of the range
unstopped : (a b : ℤ) → unsigned_abs a + unsigned_abs b ≤ reach → saturate_to_bits 63 (a +ℤ b) ≡ a +ℤ b
unstopped a b h = grind (arith, ints)

-- adding u to both first parts and v to both second parts keeps the order
shifted : (a b s t u v : ℤ) → (int_lt a b || (int_le a b && int_le s t)) ≡ true → (int_lt (a +ℤ u) (b +ℤ u) || (int_le (a +ℤ u) (b +ℤ u) && int_le (s +ℤ v) (t +ℤ v))) ≡ true
shifted a b s t u v h = grind (arith, ints)

pub strict_laws : Laws strict_kind
strict_laws = record {
  total = λ x y h. grind (arith, ints);
  transitive = λ x y z h p q. grind (arith, ints);
  antisymmetric = λ x y h p q. ap₂ strict (grind (arith, ints)) (grind (arith, ints));
  commutative = λ x y h. ap₂ strict (steps_of (parts.commutative (first x) (first y) (omega arith))) (steps_of (parts.commutative (second x) (second y) (omega arith)));
  associative = λ x y z h. ap₂ strict (steps_of (parts.associative (first x) (first y) (first z) (omega arith))) (steps_of (parts.associative (second x) (second y) (second z) (omega arith)));
  unit = λ x h. ap₂ strict (steps_of (parts.unit (first x) (omega arith))) (steps_of (parts.unit (second x) (omega arith)));
  inverse = λ x h. ap₂ strict (steps_of (parts.inverse (first x) (omega arith))) (steps_of (parts.inverse (second x) (omega arith)));
  monotone = λ x y z h p.
      let e₁ = unstopped x.steps z.steps (omega arith) in
      let e₂ = unstopped y.steps z.steps (omega arith) in
      let e₃ = unstopped x.least z.least (omega arith) in
      let e₄ = unstopped y.least z.least (omega arith) in
      rw (e₁, e₂, e₃, e₄) (shifted x.steps y.steps x.least y.least z.steps z.least p);
  measure_zero = search rules;
  measure_opposite = λ x h. ap₂ Prim.Native.Nat.max (parts.measure_opposite (first x) (omega arith)) (parts.measure_opposite (second x) (omega arith));
  measure_sum = λ x y h. omega (arith, parts.measure_sum (first x) (first y) (omega arith), parts.measure_sum (second x) (second y) (omega arith));
  measure_far = search rules;
  far_exceeds = λ x h. grind (arith, ints);
}

-- What a kind of length is, and the laws that every kind shows.
use Rattle.std.specs.Prelude.{◌≡◌, ℕ, ◌+◌, ◌≤◌, Bool, true, false, ◌⊎◌}

-- A kind of length: a zero, a sum, an opposite, an order, a measure and a far length.
pub record Kind (L : Type 0) : Type 0 where
  pub zero : L
  pub sum : L → L → L
  pub opposite : L → L
  pub at_most : L → L → Bool
  pub measure : L → ℕ
  pub far : L

-- How far the laws reach: they speak only of lengths whose measures add up to at most this.
abbrev pub reach : ℕ
reach = 10_000_000_000_000_000

-- The lengths of measure at most this lie below the far length.
abbrev pub near : ℕ
near = 1_000_000_000_000

-- The measure of the far length is at most this.
abbrev pub far_measure : ℕ
far_measure = 5_000_000_000_000

pub record Laws {L : Type 0} (k : Kind L) : Type 0 where
  -- the order is total, transitive and antisymmetric
  pub total : (x y : L) → k.measure x + k.measure y ≤ reach → (k.at_most x y ≡ true) ⊎ (k.at_most y x ≡ true)
  pub transitive : (x y z : L) → k.measure x + k.measure y + k.measure z ≤ reach → k.at_most x y ≡ true → k.at_most y z ≡ true → k.at_most x z ≡ true
  pub antisymmetric : (x y : L) → k.measure x + k.measure y ≤ reach → k.at_most x y ≡ true → k.at_most y x ≡ true → x ≡ y
  -- the sum is commutative and associative, zero changes nothing, and opposites add to zero
  pub commutative : (x y : L) → k.measure x + k.measure y ≤ reach → k.sum x y ≡ k.sum y x
  pub associative : (x y z : L) → k.measure x + k.measure y + k.measure z ≤ reach → k.sum (k.sum x y) z ≡ k.sum x (k.sum y z)
  pub unit : (x : L) → k.measure x ≤ reach → k.sum x k.zero ≡ x
  pub inverse : (x : L) → k.measure x + k.measure x ≤ reach → k.sum x (k.opposite x) ≡ k.zero
  -- adding a length to both sides keeps the order
  pub monotone : (x y z : L) → k.measure x + k.measure y + k.measure z ≤ reach → k.at_most x y ≡ true → k.at_most (k.sum x z) (k.sum y z) ≡ true
  -- zero has measure 0, an opposite the same measure, a sum at most the sum of the measures
  pub measure_zero : k.measure k.zero ≡ 0
  pub measure_opposite : (x : L) → k.measure x + k.measure x ≤ reach → k.measure (k.opposite x) ≡ k.measure x
  pub measure_sum : (x y : L) → k.measure x + k.measure y ≤ reach → k.measure (k.sum x y) ≤ k.measure x + k.measure y
  -- the far length is not too large, and exceeds every near length
  pub measure_far : k.measure k.far ≤ far_measure
  pub far_exceeds : (x : L) → k.measure x ≤ near → k.at_most k.far x ≡ false

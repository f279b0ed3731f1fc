-- The algebra of lengths in reach: order, sums, opposites, and the larger of two.
use Rattle.std.proofs.Common.{◌≡◌, ◌+◌, ◌*◌, ◌≤◌, max, true, false, cond, ◌⊎◌, sym, refl, ap, ◌∙◌, inl, inr, ⊎_elim, arith}
use Rattle.std.proofs.lemmas.Bool.{cases_Bool, both_ways, cond_both}
use Rattle.lengths.specs.Kind.{Kind, Laws, reach}

module _ {L : Type 0} (k : Kind L) where
  -- x lies below y: y is not at most x.
  abbrev pub Below : L → L → Type 0
  Below x y = k.at_most y x ≡ false

  -- The larger of two lengths.
  abbrev pub larger : L → L → L
  larger x y = cond (k.at_most x y) y x

module _ {L : Type 0} (k : Kind L) (laws : Laws k) where
  -- Measures of sums.
  pub measure_three : (x y z : L) → k.measure x + k.measure y + k.measure z ≤ reach → k.measure (k.sum (k.sum x y) z) ≤ k.measure x + k.measure y + k.measure z
  measure_three x y z h = omega arith

  pub measure_difference : (x y : L) → 2 * (k.measure x + k.measure y) ≤ reach → k.measure (k.sum x (k.opposite y)) ≤ k.measure x + k.measure y
  measure_difference x y h = omega arith

  -- Totality at x and x.
  pub reflexive : (x : L) → 2 * k.measure x ≤ reach → k.at_most x x ≡ true
  reflexive x h = ⊎_elim (λ e. e) (λ e. e) (laws.total x x (omega arith))

  pub at_most_from_equal : (x y : L) → 2 * k.measure x ≤ reach → x ≡ y → k.at_most x y ≡ true
  at_most_from_equal x y h e = rw (← e) (reflexive x h)

  -- What lies below is at most, by totality.
  pub at_most_from_below : (x y : L) → k.measure x + k.measure y ≤ reach → Below k x y → k.at_most x y ≡ true
  at_most_from_below x y h b = ⊎_elim (λ e. e) (λ e. absurd (both_ways _ b e)) (laws.total x y h)

  pub irreflexive : (x : L) → 2 * k.measure x ≤ reach → Below k x x → ⊥
  irreflexive x h b = both_ways _ b (reflexive x h)

  pub below_unless : (x y : L) → (k.at_most y x ≡ true → ⊥) → Below k x y
  below_unless x y no_more = ⊎_elim (λ e. absurd (no_more e)) (λ e. e) (cases_Bool (k.at_most y x))

  -- One strict step makes a chain strict: if z were at most x, then it would be at most y.
  pub at_most_below : (x y z : L) → k.measure x + k.measure y + k.measure z ≤ reach → k.at_most x y ≡ true → Below k y z → Below k x z
  at_most_below x y z h a b = below_unless x z (λ c. both_ways _ b (laws.transitive z x y (omega arith) c a))

  pub below_at_most : (x y z : L) → k.measure x + k.measure y + k.measure z ≤ reach → Below k x y → k.at_most y z ≡ true → Below k x z
  below_at_most x y z h b a = below_unless x z (λ c. both_ways _ b (laws.transitive y z x (omega arith) a c))

  pub below_below : (x y z : L) → k.measure x + k.measure y + k.measure z ≤ reach → Below k x y → Below k y z → Below k x z
  below_below x y z h a b = at_most_below x y z h (at_most_from_below x y (omega arith) a) b

  -- Sums.
  pub unit_left : (x : L) → k.measure x ≤ reach → k.sum k.zero x ≡ x
  unit_left x h = laws.commutative k.zero x (omega arith) ∙ laws.unit x h

  pub inverse_left : (x : L) → 2 * k.measure x ≤ reach → k.sum (k.opposite x) x ≡ k.zero
  inverse_left x h = laws.commutative (k.opposite x) x (omega arith) ∙ laws.inverse x (omega arith)

  -- Adding z and then its opposite changes nothing.
  pub sum_then_opposite : (x z : L) → 2 * (k.measure x + k.measure z) ≤ reach → k.sum (k.sum x z) (k.opposite z) ≡ x
  sum_then_opposite x z h = laws.associative x z (k.opposite z) (omega arith) ∙ ap (k.sum x) (laws.inverse z (omega arith)) ∙ laws.unit x (omega arith)

  pub opposite_then_sum : (x z : L) → 2 * (k.measure x + k.measure z) ≤ reach → k.sum (k.sum x (k.opposite z)) z ≡ x
  opposite_then_sum x z h = laws.associative x (k.opposite z) z (omega arith) ∙ ap (k.sum x) (inverse_left z (omega arith)) ∙ laws.unit x (omega arith)

  -- Regrouping three and four terms.
  pub exchange_last : (x y z : L) → k.measure x + k.measure y + k.measure z ≤ reach → k.sum (k.sum x y) z ≡ k.sum (k.sum x z) y
  exchange_last x y z h = laws.associative x y z h ∙ ap (k.sum x) (laws.commutative y z (omega arith)) ∙ sym (laws.associative x z y (omega arith))

  pub exchange_first : (x y z : L) → k.measure x + k.measure y + k.measure z ≤ reach → k.sum x (k.sum y z) ≡ k.sum y (k.sum x z)
  exchange_first x y z h = sym (laws.associative x y z h) ∙ ap (λ s. k.sum s z) (laws.commutative x y (omega arith)) ∙ laws.associative y x z (omega arith)

  pub exchange_middle : (x y u v : L) → k.measure x + k.measure y + k.measure u + k.measure v ≤ reach → k.sum (k.sum x y) (k.sum u v) ≡ k.sum (k.sum x u) (k.sum y v)
  exchange_middle x y u v h = laws.associative x y (k.sum u v) (omega arith) ∙ ap (k.sum x) (exchange_first y u v (omega arith)) ∙ sym (laws.associative x u (k.sum y v) (omega arith))

  -- Cancelling: add the opposite to both sides.
  pub cancel : (x y z : L) → 2 * (k.measure x + k.measure y + k.measure z) ≤ reach → k.sum x z ≡ k.sum y z → x ≡ y
  cancel x y z h e = sym (sum_then_opposite x z (omega arith)) ∙ ap (λ s. k.sum s (k.opposite z)) e ∙ sum_then_opposite y z (omega arith)

  pub cancel_left : (x y z : L) → 2 * (k.measure x + k.measure y + k.measure z) ≤ reach → k.sum z x ≡ k.sum z y → x ≡ y
  cancel_left x y z h e = cancel x y z h (laws.commutative x z (omega arith) ∙ e ∙ laws.commutative z y (omega arith))

  pub monotone_left : (x y z : L) → k.measure x + k.measure y + k.measure z ≤ reach → k.at_most x y ≡ true → k.at_most (k.sum z x) (k.sum z y) ≡ true
  monotone_left x y z h a = rw (laws.commutative z x (omega arith), laws.commutative z y (omega arith)) (laws.monotone x y z h a)

  pub cancel_at_most : (x y z : L) → 4 * (k.measure x + k.measure y + k.measure z) ≤ reach → k.at_most (k.sum x z) (k.sum y z) ≡ true → k.at_most x y ≡ true
  cancel_at_most x y z h a = rw (sum_then_opposite x z (omega arith), sum_then_opposite y z (omega arith)) at (laws.monotone (k.sum x z) (k.sum y z) (k.opposite z) (omega arith) a)

  pub cancel_at_most_left : (x y z : L) → 4 * (k.measure x + k.measure y + k.measure z) ≤ reach → k.at_most (k.sum z x) (k.sum z y) ≡ true → k.at_most x y ≡ true
  cancel_at_most_left x y z h a = cancel_at_most x y z h (rw (laws.commutative z x (omega arith), laws.commutative z y (omega arith)) at a)

  pub monotone_below : (x y z : L) → 4 * (k.measure x + k.measure y + k.measure z) ≤ reach → Below k x y → Below k (k.sum x z) (k.sum y z)
  monotone_below x y z h b = below_unless _ _ (λ a. both_ways _ b (cancel_at_most y x z (omega arith) a))

  pub monotone_below_left : (x y z : L) → 4 * (k.measure x + k.measure y + k.measure z) ≤ reach → Below k x y → Below k (k.sum z x) (k.sum z y)
  monotone_below_left x y z h b = below_unless _ _ (λ a. both_ways _ b (cancel_at_most_left y x z (omega arith) a))

  pub cancel_below : (x y z : L) → k.measure x + k.measure y + k.measure z ≤ reach → Below k (k.sum x z) (k.sum y z) → Below k x y
  cancel_below x y z h b = below_unless _ _ (λ a. both_ways _ b (laws.monotone y x z (omega arith) a))

  pub cancel_below_left : (x y z : L) → k.measure x + k.measure y + k.measure z ≤ reach → Below k (k.sum z x) (k.sum z y) → Below k x y
  cancel_below_left x y z h b = below_unless _ _ (λ a. both_ways _ b (monotone_left y x z (omega arith) a))

  -- Inequalities add up: x + u ≤ y + u ≤ y + v.
  pub sum_at_most : (x y u v : L) → 2 * (k.measure x + k.measure y + k.measure u + k.measure v) ≤ reach → k.at_most x y ≡ true → k.at_most u v ≡ true → k.at_most (k.sum x u) (k.sum y v) ≡ true
  sum_at_most x y u v h a b = laws.transitive (k.sum x u) (k.sum y u) (k.sum y v) (omega arith) (laws.monotone x y u (omega arith) a) (monotone_left u v y (omega arith) b)

  pub sum_below_at_most : (x y u v : L) → 4 * (k.measure x + k.measure y + k.measure u + k.measure v) ≤ reach → Below k x y → k.at_most u v ≡ true → Below k (k.sum x u) (k.sum y v)
  sum_below_at_most x y u v h a b = below_at_most (k.sum x u) (k.sum y u) (k.sum y v) (omega arith) (monotone_below x y u (omega arith) a) (monotone_left u v y (omega arith) b)

  pub sum_at_most_below : (x y u v : L) → 4 * (k.measure x + k.measure y + k.measure u + k.measure v) ≤ reach → k.at_most x y ≡ true → Below k u v → Below k (k.sum x u) (k.sum y v)
  sum_at_most_below x y u v h a b = at_most_below (k.sum x u) (k.sum y u) (k.sum y v) (omega arith) (laws.monotone x y u (omega arith) a) (monotone_below_left u v y (omega arith) b)

  -- x + g ≤ x exactly where g ≤ zero: cancel x, or add it.
  pub at_most_zero : (x g : L) → 4 * (k.measure x + k.measure g) ≤ reach → k.at_most (k.sum x g) x ≡ true → k.at_most g k.zero ≡ true
  at_most_zero x g h a = cancel_at_most_left g k.zero x (omega arith) (rw (laws.unit x (omega arith)) a)

  pub at_most_zero_left : (x g : L) → 4 * (k.measure x + k.measure g) ≤ reach → k.at_most (k.sum g x) x ≡ true → k.at_most g k.zero ≡ true
  at_most_zero_left x g h a = at_most_zero x g h (rw (laws.commutative x g (omega arith)) a)

  pub sum_at_most_itself : (x g : L) → k.measure x + k.measure g ≤ reach → k.at_most g k.zero ≡ true → k.at_most (k.sum x g) x ≡ true
  sum_at_most_itself x g h a = rw (laws.unit x (omega arith)) at (monotone_left g k.zero x (omega arith) a)

  pub sum_at_most_itself_left : (x g : L) → k.measure x + k.measure g ≤ reach → k.at_most g k.zero ≡ true → k.at_most (k.sum g x) x ≡ true
  sum_at_most_itself_left x g h a = rw (laws.commutative g x (omega arith)) (sum_at_most_itself x g h a)

  -- x ≤ x + g exactly where zero ≤ g.
  pub zero_at_most : (x g : L) → 4 * (k.measure x + k.measure g) ≤ reach → k.at_most x (k.sum x g) ≡ true → k.at_most k.zero g ≡ true
  zero_at_most x g h a = cancel_at_most_left k.zero g x (omega arith) (rw (laws.unit x (omega arith)) a)

  pub itself_at_most_sum : (x g : L) → k.measure x + k.measure g ≤ reach → k.at_most k.zero g ≡ true → k.at_most x (k.sum x g) ≡ true
  itself_at_most_sum x g h a = rw (laws.unit x (omega arith)) at (monotone_left k.zero g x (omega arith) a)

  -- x < x + g exactly where zero < g.
  pub zero_below : (x g : L) → k.measure x + k.measure g ≤ reach → Below k x (k.sum x g) → Below k k.zero g
  zero_below x g h b = below_unless _ _ (λ a. both_ways _ b (sum_at_most_itself x g h a))

  pub itself_below_sum : (x g : L) → 4 * (k.measure x + k.measure g) ≤ reach → Below k k.zero g → Below k x (k.sum x g)
  itself_below_sum x g h b = below_unless _ _ (λ a. both_ways _ b (at_most_zero x g h a))

  -- Moving a term across an inequality: add its opposite to both sides.
  pub to_the_right : (x y g : L) → 4 * (k.measure x + k.measure y + k.measure g) ≤ reach → k.at_most (k.sum x g) y ≡ true → k.at_most x (k.sum y (k.opposite g)) ≡ true
  to_the_right x y g h a = rw (sum_then_opposite x g (omega arith)) at (laws.monotone (k.sum x g) y (k.opposite g) (omega arith) a)

  pub from_the_right : (x y g : L) → 4 * (k.measure x + k.measure y + k.measure g) ≤ reach → k.at_most x (k.sum y (k.opposite g)) ≡ true → k.at_most (k.sum x g) y ≡ true
  from_the_right x y g h a = rw (opposite_then_sum y g (omega arith)) at (laws.monotone x (k.sum y (k.opposite g)) g (omega arith) a)

  pub to_the_left : (x y g : L) → 4 * (k.measure x + k.measure y + k.measure g) ≤ reach → k.at_most x (k.sum y g) ≡ true → k.at_most (k.sum x (k.opposite g)) y ≡ true
  to_the_left x y g h a = rw (sum_then_opposite y g (omega arith)) at (laws.monotone x (k.sum y g) (k.opposite g) (omega arith) a)

  pub from_the_left : (x y g : L) → 4 * (k.measure x + k.measure y + k.measure g) ≤ reach → k.at_most (k.sum x (k.opposite g)) y ≡ true → k.at_most x (k.sum y g) ≡ true
  from_the_left x y g h a = rw (opposite_then_sum x g (omega arith)) at (laws.monotone (k.sum x (k.opposite g)) y g (omega arith) a)

  pub to_the_right_below : (x y g : L) → 4 * (k.measure x + k.measure y + k.measure g) ≤ reach → Below k (k.sum x g) y → Below k x (k.sum y (k.opposite g))
  to_the_right_below x y g h b = below_unless _ _ (λ a. both_ways _ b (from_the_left y x g (omega arith) a))

  pub from_the_right_below : (x y g : L) → 4 * (k.measure x + k.measure y + k.measure g) ≤ reach → Below k x (k.sum y (k.opposite g)) → Below k (k.sum x g) y
  from_the_right_below x y g h b = below_unless _ _ (λ a. both_ways _ b (to_the_left y x g (omega arith) a))

  pub to_the_left_below : (x y g : L) → 4 * (k.measure x + k.measure y + k.measure g) ≤ reach → Below k x (k.sum y g) → Below k (k.sum x (k.opposite g)) y
  to_the_left_below x y g h b = below_unless _ _ (λ a. both_ways _ b (from_the_right y x g (omega arith) a))

  pub from_the_left_below : (x y g : L) → 4 * (k.measure x + k.measure y + k.measure g) ≤ reach → Below k (k.sum x (k.opposite g)) y → Below k x (k.sum y g)
  from_the_left_below x y g h b = below_unless _ _ (λ a. both_ways _ b (to_the_right y x g (omega arith) a))

  -- Opposites are unique: if x + y is zero, then y is the opposite of x.
  pub opposite_unique : (x y : L) → 4 * (k.measure x + k.measure y) ≤ reach → k.sum x y ≡ k.zero → y ≡ k.opposite x
  opposite_unique x y h e = cancel_left y (k.opposite x) x (omega arith) (e ∙ sym (laws.inverse x (omega arith)))

  pub opposite_of_zero : k.opposite k.zero ≡ k.zero
  opposite_of_zero = sym (opposite_unique k.zero k.zero (omega arith) (laws.unit k.zero (omega arith)))

  pub opposite_of_opposite : (x : L) → 8 * k.measure x ≤ reach → k.opposite (k.opposite x) ≡ x
  opposite_of_opposite x h = sym (opposite_unique (k.opposite x) x (omega arith) (inverse_left x (omega arith)))

  pub opposite_of_sum : (x y : L) → 8 * (k.measure x + k.measure y) ≤ reach → k.opposite (k.sum x y) ≡ k.sum (k.opposite x) (k.opposite y)
  opposite_of_sum x y h =
      let e = exchange_middle x y (k.opposite x) (k.opposite y) (omega arith) in
      let u = laws.inverse x (omega arith) in
      let v = laws.inverse y (omega arith) in
      let w = laws.unit k.zero (omega arith) in
      sym (opposite_unique (k.sum x y) (k.sum (k.opposite x) (k.opposite y)) (omega arith) (cc))

  -- Opposites reverse the order: move both terms across.
  pub opposite_at_most : (x y : L) → 8 * (k.measure x + k.measure y) ≤ reach → k.at_most x y ≡ true → k.at_most (k.opposite y) (k.opposite x) ≡ true
  opposite_at_most x y h a =
      let b = rw (laws.inverse x (omega arith), laws.commutative y (k.opposite x) (omega arith)) at (laws.monotone x y (k.opposite x) (omega arith) a) in
      rw (unit_left (k.opposite y) (omega arith)) at (to_the_left k.zero (k.opposite x) y (omega arith) b)

  pub opposite_below : (x y : L) → 8 * (k.measure x + k.measure y) ≤ reach → Below k x y → Below k (k.opposite y) (k.opposite x)
  opposite_below x y h b = below_unless _ _ (λ a. both_ways _ b (rw (opposite_of_opposite x (omega arith), opposite_of_opposite y (omega arith)) at (opposite_at_most (k.opposite x) (k.opposite y) (omega arith) a)))

  -- The larger of two lengths.
  pub larger_cases : (x y : L) → (larger k x y ≡ x) ⊎ (larger k x y ≡ y)
  larger_cases x y = cond_both (k.at_most x y) y x (λ z. (z ≡ x) ⊎ (z ≡ y)) (λ _. inr refl) (λ _. inl refl)

  pub larger_first : (x y : L) → 2 * (k.measure x + k.measure y) ≤ reach → k.at_most x (larger k x y) ≡ true
  larger_first x y h = cond_both (k.at_most x y) y x (λ z. k.at_most x z ≡ true) (λ e. e) (λ _. reflexive x (omega arith))

  pub larger_second : (x y : L) → 2 * (k.measure x + k.measure y) ≤ reach → k.at_most y (larger k x y) ≡ true
  larger_second x y h = cond_both (k.at_most x y) y x (λ z. k.at_most y z ≡ true) (λ _. reflexive y (omega arith)) (λ e. at_most_from_below y x (omega arith) e)

  pub larger_at_most : (x y z : L) → k.at_most x z ≡ true → k.at_most y z ≡ true → k.at_most (larger k x y) z ≡ true
  larger_at_most x y z a b = cond_both (k.at_most x y) y x (λ w. k.at_most w z ≡ true) (λ _. b) (λ _. a)

  pub measure_larger : (x y : L) → k.measure (larger k x y) ≤ max (k.measure x) (k.measure y)
  measure_larger x y = cond_both (k.at_most x y) y x (λ w. k.measure w ≤ max (k.measure x) (k.measure y)) (λ _. omega arith) (λ _. omega arith)

  pub larger_monotone : (a b c d : L) → 2 * (k.measure a + k.measure b + k.measure c + k.measure d) ≤ reach → k.at_most a b ≡ true → k.at_most c d ≡ true → k.at_most (larger k a c) (larger k b d) ≡ true
  larger_monotone a b c d h p q =
      larger_at_most a c (larger k b d)
      (laws.transitive a b (larger k b d) (omega (arith, measure_larger b d)) p (larger_first b d (omega arith)))
      (laws.transitive c d (larger k b d) (omega (arith, measure_larger b d)) q (larger_second b d (omega arith)))

  -- Where the order is known, so is the larger.
  pub larger_is_second : (x y : L) → k.at_most x y ≡ true → larger k x y ≡ y
  larger_is_second x y a = rw a

  pub larger_is_first : (x y : L) → k.measure x + k.measure y ≤ reach → k.at_most y x ≡ true → larger k x y ≡ x
  larger_is_first x y h a = cond_both (k.at_most x y) y x (λ z. z ≡ x) (λ e. laws.antisymmetric y x (omega arith) a e) (λ _. refl)

  pub larger_commutative : (x y : L) → k.measure x + k.measure y ≤ reach → larger k x y ≡ larger k y x
  larger_commutative x y h = cond_both (k.at_most x y) y x (λ z. z ≡ larger k y x) (λ e. sym (larger_is_first y x (omega arith) e)) (λ e. sym (larger_is_second y x (at_most_from_below y x (omega arith) e)))

  -- Adding a length keeps the order, and so the larger.
  pub larger_sum : (x y z : L) → 4 * (k.measure x + k.measure y + k.measure z) ≤ reach → k.sum (larger k x y) z ≡ larger k (k.sum x z) (k.sum y z)
  larger_sum x y z h = cond_both (k.at_most x y) y x (λ w. k.sum w z ≡ larger k (k.sum x z) (k.sum y z))
      (λ e. rw (laws.monotone x y z (omega arith) e) refl)
      (λ e. rw (monotone_below y x z (omega arith) e) refl)

  pub larger_sum_left : (x y z : L) → 4 * (k.measure x + k.measure y + k.measure z) ≤ reach → k.sum z (larger k x y) ≡ larger k (k.sum z x) (k.sum z y)
  larger_sum_left x y z h = cond_both (k.at_most x y) y x (λ w. k.sum z w ≡ larger k (k.sum z x) (k.sum z y))
      (λ e. rw (monotone_left x y z (omega arith) e) refl)
      (λ e. rw (monotone_below_left y x z (omega arith) e) refl)

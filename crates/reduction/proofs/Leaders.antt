-- The tests for tied marks and for marks between, and the leaders of groups.
use Rattle.std.proofs.Common.{◌≡◌, ℕ, zero, suc, ◌+◌, ◌*◌, ◌<◌, ◌≤◌, Bool, true, false, eqb, Some, None, Option, sym, refl, ⊎_elim, arith}
use Rattle.std.specs.List.{range_with_len, ContainsAt as Has}
use Rattle.std.proofs.lemmas.Bool.{cond_both, both_ways, and_parts, and_from, cases_order, eqb-true, eq-eqb}
use Rattle.lengths.specs.Kind.{Kind, Laws, reach}
use Rattle.lengths.proofs.Algebra.{reflexive}
use Rattle.reduction.specs.Reduction.{least, equal, add_up, meet, tied, through, leader, leaders, group}
use Rattle.graph.proofs.Distances.{Metric}
use Rattle.graph.proofs.Ties.{Tied, Through, tied_itself, tied_turned, tied_joined}
use Rattle.graph.proofs.Pigeonhole.{Distinct}
use Rattle.reduction.proofs.Selections.{has_kept_by, kept_by_has, distinct_kept_by, has_counting, counting_has, distinct_counting}

-- The smallest number that passes a test.
pub least_within : (test : ℕ → Bool) (n : ℕ) → least test n ≤ n
unfolding least
least_within test zero = omega arith
least_within test (suc n) =
    let rest = least_within (λ m. test (suc m)) n in
    cond_both (test 0) 0 (suc (least (λ m. test (suc m)) n)) (λ v. v ≤ suc n) (λ _. omega arith) (λ _. omega arith)

pub least_passes : (test : ℕ → Bool) (n : ℕ) → least test n < n → test (least test n) ≡ true
unfolding least
least_passes test zero l = absurd (omega arith)
least_passes test (suc n) l =
    cond_both (test 0) 0 (suc (least (λ m. test (suc m)) n)) (λ v. v < suc n → test v ≡ true) (λ e _. e) (λ _ l. least_passes (λ m. test (suc m)) n (omega arith)) l

pub least_first : (test : ℕ → Bool) (n m : ℕ) → m < least test n → test m ≡ false
unfolding least
least_first test zero m l = absurd (omega arith)
least_first test (suc n) zero l =
    cond_both (test 0) 0 (suc (least (λ m. test (suc m)) n)) (λ v. 0 < v → test 0 ≡ false) (λ _ l. absurd (omega arith)) (λ e _. e) l
least_first test (suc n) (suc m) l =
    cond_both (test 0) 0 (suc (least (λ m. test (suc m)) n)) (λ v. suc m < v → test (suc m) ≡ false) (λ _ l. absurd (omega arith)) (λ _ l. least_first (λ m. test (suc m)) n m (omega arith)) l

module _ {L : Type 0} (k : Kind L) (laws : Laws k) where
  -- The test of equality, by antisymmetry.
  pub equal_true : (x y : L) → k.measure x + k.measure y ≤ reach → equal k x y ≡ true → x ≡ y
  unfolding equal
  equal_true x y h e = let parts = and_parts (k.at_most x y) (k.at_most y x) e in laws.antisymmetric x y h parts.0 parts.1

  pub equal_from : (x y : L) → 2 * k.measure x ≤ reach → x ≡ y → equal k x y ≡ true
  unfolding equal
  equal_from x y h e = let same = reflexive k laws x h in rw (← e) (and_from (k.at_most x x) (k.at_most x x) same same)

  -- The test of adding up.
  pub add_up_true : (u v : Option L) (z : L) → add_up k u v z ≡ true → (x y : L) × (u ≡ Some x) × (v ≡ Some y) × (equal k (k.sum x y) z ≡ true)
  unfolding add_up
  add_up_true None v z e = absurd (both_ways false refl e)
  add_up_true (Some x) None z e = absurd (both_ways false refl e)
  add_up_true (Some x) (Some y) z e = (x, y, refl, refl, e)

  pub add_up_from : (u v : Option L) (x y z : L) → u ≡ Some x → v ≡ Some y → equal k (k.sum x y) z ≡ true → add_up k u v z ≡ true
  unfolding add_up
  add_up_from u v x y z p q e = rw (p, q) e

  pub meet_true : (u v w : Option L) → meet k u v w ≡ true → (z : L) × (w ≡ Some z) × (add_up k u v z ≡ true)
  unfolding meet
  meet_true u v None e = absurd (both_ways false refl e)
  meet_true u v (Some z) e = (z, refl, e)

  pub meet_from : (u v w : Option L) (z : L) → w ≡ Some z → add_up k u v z ≡ true → meet k u v w ≡ true
  unfolding meet
  meet_from u v w z p e = rw p e

module _ {L : Type 0} (k : Kind L) (laws : Laws k) (n : ℕ) (d : ℕ → ℕ → Option L) (m : Metric k n d) where
  -- The tests say what they are meant to say.
  pub tied_true : (i j : ℕ) → i < n → j < n → tied k d i j ≡ true → Tied k d i j
  unfolding tied
  tied_true i j li lj e =
      let s = add_up_true k laws (d i j) (d j i) k.zero e in
      let mx = m.measured i j li lj s.0 s.2 in
      let my = m.measured j i lj li s.1 s.3 in
      record { there = s.0; back = s.1; there_is = s.2; back_is = s.3; closes = equal_true k laws (k.sum s.0 s.1) k.zero (omega (arith, laws.measure_zero)) s.4 }

  pub tied_from : (i j : ℕ) → i < n → j < n → Tied k d i j → tied k d i j ≡ true
  unfolding tied
  tied_from i j li lj t =
      let mx = m.measured i j li lj t.there t.there_is in
      let my = m.measured j i lj li t.back t.back_is in
      add_up_from k laws (d i j) (d j i) t.there t.back k.zero t.there_is t.back_is (equal_from k laws (k.sum t.there t.back) k.zero (omega arith) t.closes)

  pub through_true : (a c b : ℕ) → a < n → c < n → b < n → through k d a c b ≡ true → Through k d a c b
  unfolding through
  through_true a c b la lc lb e =
      let w = meet_true k laws (d a c) (d c b) (d a b) e in
      let s = add_up_true k laws (d a c) (d c b) w.0 w.2 in
      let m₁ = m.measured a c la lc s.0 s.2 in
      let m₂ = m.measured c b lc lb s.1 s.3 in
      let m₃ = m.measured a b la lb w.0 w.1 in
      record { first = s.0; last = s.1; whole = w.0; first_is = s.2; last_is = s.3; whole_is = w.1; adds = equal_true k laws (k.sum s.0 s.1) w.0 (omega arith) s.4 }

  pub through_from : (a c b : ℕ) → a < n → c < n → b < n → Through k d a c b → through k d a c b ≡ true
  unfolding through
  through_from a c b la lc lb t =
      let m₁ = m.measured a c la lc t.first t.first_is in
      let m₂ = m.measured c b lc lb t.last t.last_is in
      meet_from k laws (d a c) (d c b) (d a b) t.whole t.whole_is
      (add_up_from k laws (d a c) (d c b) t.first t.last t.whole t.first_is t.last_is (equal_from k laws (k.sum t.first t.last) t.whole (omega arith) t.adds))

  -- A leader is no larger than its mark, and tied to it.
  pub leader_within : (i : ℕ) → leader k d i ≤ i
  unfolding leader
  leader_within i = least_within (tied k d i) i

  pub leader_tied : (i : ℕ) → i < n → Tied k d i (leader k d i)
  unfolding leader
  leader_tied i l =
      let within = least_within (tied k d i) i in
      ⊎_elim (λ (e : least (tied k d i) i ≡ i). rw e (tied_itself k laws n d m i l))
      (⊎_elim (λ (b : least (tied k d i) i < i). tied_true i (least (tied k d i) i) l (omega arith) (least_passes (tied k d i) i b))
      (λ (b : i < least (tied k d i) i). absurd (omega arith)))
      (cases_order (least (tied k d i) i) i)

  -- No smaller mark is tied to a mark than its leader.
  pub leader_first : (i x : ℕ) → i < n → x < n → Tied k d i x → x < leader k d i → ⊥
  unfolding leader
  leader_first i x li lx t b = both_ways (tied k d i x) (least_first (tied k d i) i x b) (tied_from i x li lx t)

  pub leader_below : (i : ℕ) → i < n → leader k d i < n
  leader_below i l = let h = leader_within i in omega arith

  not_smaller : (i j : ℕ) → i < n → j < n → Tied k d i j → leader k d i < leader k d j → ⊥
  not_smaller i j li lj t b =
      let below = leader_below i li in
      leader_first j (leader k d i) lj below (tied_joined k laws n d m j i (leader k d i) lj li below (tied_turned k laws n d m i j li lj t) (leader_tied i li)) b

  -- Tied marks have one leader, and marks with one leader are tied.
  pub leader_same : (i j : ℕ) → i < n → j < n → Tied k d i j → leader k d i ≡ leader k d j
  leader_same i j li lj t =
      ⊎_elim (λ e. e)
      (⊎_elim (λ b. absurd (not_smaller i j li lj t b)) (λ b. absurd (not_smaller j i lj li (tied_turned k laws n d m i j li lj t) b)))
      (cases_order (leader k d i) (leader k d j))

  pub tied_from_leaders : (i j : ℕ) → i < n → j < n → leader k d i ≡ leader k d j → Tied k d i j
  tied_from_leaders i j li lj e =
      let below = leader_below i li in
      let back = tied_turned k laws n d m j (leader k d j) lj (leader_below j lj) (leader_tied j lj) in
      tied_joined k laws n d m i (leader k d i) j li below lj (leader_tied i li) (rw e back)

  pub leader_leader : (i : ℕ) → i < n → leader k d (leader k d i) ≡ leader k d i
  leader_leader i l = sym (leader_same i (leader k d i) l (leader_below i l) (leader_tied i l))

  -- The list of leaders.
  pub has_leaders : (a : ℕ) → a < n → leader k d a ≡ a → Has (leaders k d n) a
  unfolding leaders
  has_leaders a l e = has_kept_by (λ i. eqb (leader k d i) i) (range_with_len 0 n) a (has_counting 0 n a (omega arith) (omega arith)) (eq-eqb (leader k d a) a e)

  pub leaders_has : (a : ℕ) → Has (leaders k d n) a → (a < n) × (leader k d a ≡ a)
  unfolding leaders
  leaders_has a h =
      let s = kept_by_has (λ i. eqb (leader k d i) i) (range_with_len 0 n) a h in
      let r = counting_has 0 n a s.0 in
      (omega arith, eqb-true (leader k d a) a s.1)

  pub distinct_leaders : Distinct (leaders k d n)
  unfolding leaders
  distinct_leaders = distinct_kept_by (λ i. eqb (leader k d i) i) (range_with_len 0 n) (distinct_counting 0 n)

  -- The group of a mark.
  pub has_group : (a i : ℕ) → a < n → i < n → Tied k d a i → Has (group k d n a) i
  unfolding group
  has_group a i la li t = has_kept_by (tied k d a) (range_with_len 0 n) i (has_counting 0 n i (omega arith) (omega arith)) (tied_from a i la li t)

  pub group_has : (a i : ℕ) → a < n → Has (group k d n a) i → (i < n) × Tied k d a i
  unfolding group
  group_has a i la h =
      let s = kept_by_has (tied k d a) (range_with_len 0 n) i h in
      let r = counting_has 0 n i s.0 in
      let l : i < n = omega arith in
      (l, tied_true a i la l s.1)

  pub distinct_group : (a : ℕ) → Distinct (group k d n a)
  unfolding group
  distinct_group a = distinct_kept_by (tied k d a) (range_with_len 0 n) (distinct_counting 0 n)

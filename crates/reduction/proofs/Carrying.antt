-- Rows that carry the distances: a row that keeps the reduced list does, round the rings and from leader to leader.
use Rattle.std.proofs.Common.{◌≡◌, ℕ, zero, suc, ◌<◌, ◌≤◌, true, false, not, ◌&&◌, eqb, List, [], ◌∷◌, map, length, is_some, Some, None, filter, Option, sym, refl, ◌∙◌, subst, ⊎_elim, arith}
use Rattle.std.specs.List.{ContainsAt as Has, flat_map, AllByRecursion as Every}
use Rattle.std.proofs.ByRecursion.{all-has, All-append, All-map}
use Rattle.std.proofs.lemmas.Bool.{cases_eq, cases_Bool, both_ways, and_parts, and_from, not-true, not_from_false, eqb-false, ne_eqb}
use Rattle.lengths.specs.Kind.{Kind, Laws}
use Rattle.lengths.proofs.Algebra.{reflexive}
use Rattle.rules.specs.declared.rule.Rule.{Rule}
use Rattle.graph.specs.Rows.{row_limit, position, Keeps}
use Rattle.reduction.specs.Reduction.{any, as_gap, through, leader, distance_rule, ring_from, ring, splits, leaders, group, listed, pairs_from, reduced_list}
use Rattle.graph.proofs.Membership.{has_none, has_cases, has_map, all_left, all_right, all_from_has}
use Rattle.reduction.proofs.Selections.{has_kept_by, kept_by_has, any_true, kept_by_strictly_more, all_joined, all_joined_from}
use Rattle.graph.proofs.Distances.{Metric}
use Rattle.graph.proofs.Ties.{Tied, Through, same_length, tied_turned, tied_joined, tied_itself, through_first, through_last, tied_first, tied_last, through_early, through_late}
use Rattle.reduction.proofs.Leaders.{through_true, through_from, leader_tied, leader_below, leader_leader, leader_same, has_leaders, leaders_has, has_group, group_has}

-- A row carries the distance from mark i to mark j: j lies at least the distance beyond i, where there is one.
abbrev pub Carries : {L : Type 0} → Kind L → (ℕ → ℕ → Option L) → List L → ℕ → ℕ → Type 0
Carries {L} k d row i j = (x : L) → d i j ≡ Some x → k.at_most (k.sum (position k row i) x) (position k row j) ≡ true

module _ {L : Type 0} (k : Kind L) (d : ℕ → ℕ → Option L) where
  -- A row keeps the rule with the distance as gap exactly where it carries the distance.
  pub carries_from_keeps : (row : List L) (i j : ℕ) → Keeps k row (distance_rule k d i j) → Carries k d row i j
  unfolding distance_rule as_gap
  carries_from_keeps row i j h x e = rw e at h

  pub keeps_from_carries : (row : List L) (i j : ℕ) (x : L) → d i j ≡ Some x → Carries k d row i j → Keeps k row (distance_rule k d i j)
  unfolding distance_rule as_gap
  keeps_from_carries row i j x e h = rw e (h x e)

  module _ (P : Rule L → Type 0) (In : ℕ → Type 0) (each : (u v : ℕ) → In u → In v → P (distance_rule k d u v)) where
    -- What holds of all rules between marks of a group holds of its ring.
    all_ring_from : (first m : ℕ) (ms : List ℕ) → In first → In m → Every In ms → Every P (ring_from k d first m ms)
    unfolding ring_from
    all_ring_from first m [] f h a = (each m first h f, tt)
    all_ring_from first m (next ∷ ms) f h a = (each m next h a.0, all_ring_from first next ms f a.0 a.1)

    pub all_ring : (ms : List ℕ) → Every In ms → Every P (ring k d ms)
    unfolding ring
    all_ring [] a = tt
    all_ring (m ∷ []) a = tt
    all_ring (m ∷ (next ∷ ms)) a = all_ring_from m m (next ∷ ms) a.0 a.0 a.1

module _ {L : Type 0} (k : Kind L) (laws : Laws k) (n : ℕ) (d : ℕ → ℕ → Option L) (m : Metric k n d) where
  -- Marks of one group have a distance.
  group_distance : (a u v : ℕ) → a < n → (u < n) × Tied k d a u → (v < n) × Tied k d a v → Tied k d u v
  group_distance a u v la hu hv = tied_joined k laws n d m u a v hu.0 la hv.0 (tied_turned k laws n d m a u la hu.0 hu.1) hv.1

  some_distance : (o : Option L) → is_some o ≡ true → (x : L) × (o ≡ Some x)
  some_distance None e = absurd (both_ways false refl e)
  some_distance (Some x) e = (x, refl)

  pub listed_distance : (a b : ℕ) → listed k d n a b ≡ true → (x : L) × (d a b ≡ Some x)
  unfolding listed
  listed_distance a b e = some_distance (d a b) (and_parts _ _ (and_parts _ _ e).1).0

  -- Every listed rule has a distance as its gap.
  pub all_reduced : (P : Rule L → Type 0) → ((u v : ℕ) (x : L) → u < n → v < n → d u v ≡ Some x → P (distance_rule k d u v)) → Every P (reduced_list k d n)
  unfolding reduced_list pairs_from
  all_reduced P each =
      All-append P (flat_map (λ a. ring k d (group k d n a)) (leaders k d n)) (flat_map (pairs_from k d n) (leaders k d n))
      (all_joined_from (λ a. ring k d (group k d n a)) P (leaders k d n) (λ a h.
      let la = (leaders_has k laws n d m a h).0 in
      all_ring k d P (λ u. (u < n) × Tied k d a u) (λ u v hu hv. let t = group_distance a u v la hu hv in each u v t.there hu.0 hv.0 t.there_is) (group k d n a)
      (all_from_has (λ u. (u < n) × Tied k d a u) (group k d n a) (λ u i. group_has k laws n d m a u la i))))
      (all_joined_from (pairs_from k d n) P (leaders k d n) (λ a h.
      All-map P (distance_rule k d a) (filter (listed k d n a) (leaders k d n)) (all_from_has (λ b. P (distance_rule k d a b)) (filter (listed k d n a) (leaders k d n)) (λ b i.
      let s = kept_by_has (listed k d n a) (leaders k d n) b i in
      let x = listed_distance a b s.1 in
      each a b x.0 (leaders_has k laws n d m a h).0 (leaders_has k laws n d m b s.0).0 x.1))))

  module _ (row : List L) (near : (i : ℕ) → i < n → k.measure (position k row i) ≤ row_limit) where
    pub carries_itself : (i : ℕ) → i < n → Carries k d row i i
    carries_itself i l x e =
        let a = near i l in
        rw (same_length (d i i) x k.zero e (m.itself i l), laws.unit (position k row i) (omega arith)) (reflexive k laws (position k row i) (omega arith))

    -- Where a distance runs through a mark that the row reaches and leaves as it must, the row carries the whole.
    pub carries_joined : (i x j : ℕ) → i < n → x < n → j < n → Through k d i x j → Carries k d row i x → Carries k d row x j → Carries k d row i j
    carries_joined i x j li lx lj t a b z e =
        let ni = near i li in
        let nx = near x lx in
        let nj = near j lj in
        let m₁ = m.measured i x li lx t.first t.first_is in
        let m₂ = m.measured x j lx lj t.last t.last_is in
        let is : z ≡ k.sum t.first t.last = same_length (d i j) z t.whole e t.whole_is ∙ sym t.adds in
        rw (is, ← (laws.associative (position k row i) t.first t.last (omega arith)))
        (laws.transitive (k.sum (k.sum (position k row i) t.first) t.last) (k.sum (position k row x) t.last) (position k row j) (omega arith)
        (laws.monotone (k.sum (position k row i) t.first) (position k row x) t.last (omega arith) (a t.first t.first_is))
        (b t.last t.last_is))

    module _ (a : ℕ) (la : a < n) where
      abbrev In : ℕ → Type 0
      In u = (u < n) × Tied k d a u

      group_step : (u x v : ℕ) → In u → In x → In v → Carries k d row u x → Carries k d row x v → Carries k d row u v
      group_step u x v hu hx hv p q =
          let t = group_distance a x v la hx hv in
          carries_joined u x v hu.0 hx.0 hv.0 (through_first k laws n d m u x v hu.0 hx.0 hv.0 (group_distance a u x la hu hx) t.there t.there_is) p q

      -- Round the ring from its first mark to each, and from each to the first.
      ring_onward : (first x : ℕ) (ms : List ℕ) → In first → In x → Every In ms → Carries k d row first x → Every (Keeps k row) (ring_from k d first x ms) → Every (Carries k d row first) (x ∷ ms)
      unfolding ring_from
      ring_onward first x [] hf hx h c keeps = (c, tt)
      ring_onward first x (next ∷ ms) hf hx h c keeps =
          (c, ring_onward first next ms hf h.0 h.1 (group_step first x next hf hx h.0 c (carries_from_keeps k d row x next keeps.0)) keeps.1)

      ring_back : (first x : ℕ) (ms : List ℕ) → In first → In x → Every In ms → Every (Keeps k row) (ring_from k d first x ms) → Every (λ u. Carries k d row u first) (x ∷ ms)
      unfolding ring_from
      ring_back first x [] hf hx h keeps = (carries_from_keeps k d row x first keeps.0, tt)
      ring_back first x (next ∷ ms) hf hx h keeps =
          let rest = ring_back first next ms hf h.0 h.1 keeps.1 in
          (group_step x next first hx h.0 hf (carries_from_keeps k d row x next keeps.0) rest.0, rest)

      -- A row that keeps a ring carries all distances inside the group.
      ring_carries : (ms : List ℕ) → Every In ms → Every (Keeps k row) (ring k d ms) → (u v : ℕ) → Has ms u → Has ms v → Carries k d row u v
      unfolding ring
      ring_carries [] h keeps u v iu iv = absurd (has_none u iu)
      ring_carries (x ∷ []) h keeps u v iu iv =
          let eu : x ≡ u = ⊎_elim (λ e. e) (λ t. absurd (has_none u t)) (has_cases x u [] iu) in
          let ev : x ≡ v = ⊎_elim (λ e. e) (λ t. absurd (has_none v t)) (has_cases x v [] iv) in
          rw (← eu, ← ev) (carries_itself x h.0.0)
      ring_carries (x ∷ (next ∷ ms)) h keeps u v iu iv =
          let onward = ring_onward x x (next ∷ ms) h.0 h.0 h.1 (carries_itself x h.0.0) keeps in
          let back = ring_back x x (next ∷ ms) h.0 h.0 h.1 keeps in
          group_step u x v (all-has In (x ∷ (next ∷ ms)) u h iu) h.0 (all-has In (x ∷ (next ∷ ms)) v h iv)
          (all-has (λ u. Carries k d row u x) (x ∷ (next ∷ ms)) u back iu) (all-has (Carries k d row x) (x ∷ (next ∷ ms)) v onward iv)

      pub group_carries : Every (Keeps k row) (ring k d (group k d n a)) → (u v : ℕ) → u < n → v < n → Tied k d a u → Tied k d a v → Carries k d row u v
      group_carries keeps u v lu lv tu tv =
          ring_carries (group k d n a) (all_from_has In (group k d n a) (λ u i. group_has k laws n d m a u la i)) keeps u v
          (has_group k laws n d m a u la lu tu) (has_group k laws n d m a v la lv tv)

    module _ (keeps : Every (Keeps k row) (reduced_list k d n)) where
      kept_rings : (a : ℕ) → Has (leaders k d n) a → Every (Keeps k row) (ring k d (group k d n a))
      unfolding reduced_list
      kept_rings a h = all_joined (λ a. ring k d (group k d n a)) (Keeps k row) (leaders k d n) a (all_left (Keeps k row) (flat_map (λ a. ring k d (group k d n a)) (leaders k d n)) (flat_map (pairs_from k d n) (leaders k d n)) keeps) h

      kept_pairs : (a b : ℕ) → Has (leaders k d n) a → Has (leaders k d n) b → listed k d n a b ≡ true → Keeps k row (distance_rule k d a b)
      unfolding reduced_list pairs_from
      kept_pairs a b ha hb e =
          let from_a = all_joined (pairs_from k d n) (Keeps k row) (leaders k d n) a (all_right (Keeps k row) (flat_map (λ a. ring k d (group k d n a)) (leaders k d n)) (flat_map (pairs_from k d n) (leaders k d n)) keeps) ha in
          all-has (Keeps k row) (map (distance_rule k d a) (filter (listed k d n a) (leaders k d n))) (distance_rule k d a b) from_a
          (has_map (distance_rule k d a) (filter (listed k d n a) (leaders k d n)) b (has_kept_by (listed k d n a) (leaders k d n) b hb e))

      -- Through how many leaders the distance from a to b runs.
      between : ℕ → ℕ → ℕ
      between a b = length (filter (λ x. through k d a x b) (leaders k d n))

      leaders_tied : (b c : ℕ) → Has (leaders k d n) b → Has (leaders k d n) c → Tied k d b c → b ≡ c
      leaders_tied b c hb hc t =
          let b_is = leaders_has k laws n d m b hb in
          let c_is = leaders_has k laws n d m c hc in
          sym b_is.1 ∙ leader_same k laws n d m b c b_is.0 c_is.0 t ∙ c_is.1

      not_through : (a c b : ℕ) → (through k d a c b ≡ true → ⊥) → through k d a c b ≡ false
      not_through a c b h = ⊎_elim (λ e. absurd (h e)) (λ e. e) (cases_Bool (through k d a c b))

      -- To a third leader that splits a pair fewer leaders lead than to its end, which is lost.
      fewer_before : (a c b : ℕ) → Has (leaders k d n) a → Has (leaders k d n) c → Has (leaders k d n) b → Through k d a c b → (c ≡ b → ⊥) → between a c < between a b
      unfolding between
      fewer_before a c b ha hc hb t ne =
          let la = (leaders_has k laws n d m a ha).0 in
          let lc = (leaders_has k laws n d m c hc).0 in
          let lb = (leaders_has k laws n d m b hb).0 in
          kept_by_strictly_more (λ x. through k d a x c) (λ x. through k d a x b) (leaders k d n) b
          (λ x hx e. let lx = (leaders_has k laws n d m x hx).0 in through_from k laws n d m a x b la lx lb (through_early k laws n d m a x c b la lx lc lb (through_true k laws n d m a x c la lx lc e) t))
          hb
          (not_through a b c (λ e. ne (sym (leaders_tied b c hb hc (tied_last k laws n d m a b c la lb lc (through_true k laws n d m a b c la lb lc e) t)))))
          (through_from k laws n d m a b b la lb lb (through_last k laws n d m a b b la lb lb (tied_itself k laws n d m b lb) t.whole t.whole_is))

      fewer_after : (a c b : ℕ) → Has (leaders k d n) a → Has (leaders k d n) c → Has (leaders k d n) b → Through k d a c b → (c ≡ a → ⊥) → between c b < between a b
      unfolding between
      fewer_after a c b ha hc hb t ne =
          let la = (leaders_has k laws n d m a ha).0 in
          let lc = (leaders_has k laws n d m c hc).0 in
          let lb = (leaders_has k laws n d m b hb).0 in
          kept_by_strictly_more (λ x. through k d c x b) (λ x. through k d a x b) (leaders k d n) a
          (λ x hx e. let lx = (leaders_has k laws n d m x hx).0 in through_from k laws n d m a x b la lx lb (through_late k laws n d m a c x b la lc lx lb (through_true k laws n d m c x b lc lx lb e) t))
          ha
          (not_through c a b (λ e. ne (sym (leaders_tied a c ha hc (tied_first k laws n d m c a b lc la lb (through_true k laws n d m c a b lc la lb e) t)))))
          (through_from k laws n d m a a b la la lb (through_first k laws n d m a a b la la lb (tied_itself k laws n d m a la) t.whole t.whole_is))

      -- A pair that is not listed is split by a third leader, with fewer leaders in each part.
      pair_carries : (a b : ℕ) → Has (leaders k d n) a → Has (leaders k d n) b → ((u v : ℕ) → Has (leaders k d n) u → Has (leaders k d n) v → between u v < between a b → Carries k d row u v) → Carries k d row a b
      unfolding listed splits
      pair_carries a b ha hb shorter x e =
          let la = (leaders_has k laws n d m a ha).0 in
          let lb = (leaders_has k laws n d m b hb).0 in
          ⊎_elim
          (λ (same : a ≡ b). let P : ℕ → Type 0 = λ v. Carries k d row a v in subst P same (carries_itself a la) x e)
          (λ ne. ⊎_elim
          (λ s.
          let r = any_true (splits k d a b) (leaders k d n) s in
          let c = r.0 in
          let hc = r.1 in
          let lc = (leaders_has k laws n d m c hc).0 in
          let parts = and_parts (through k d a c b) (not (eqb c a) && not (eqb c b)) r.2 in
          let others = and_parts (not (eqb c a)) (not (eqb c b)) parts.1 in
          let t = through_true k laws n d m a c b la lc lb parts.0 in
          carries_joined a c b la lc lb t
          (shorter a c ha hc (fewer_before a c b ha hc hb t (eqb-false c b (not-true (eqb c b) others.1))))
          (shorter c b hc hb (fewer_after a c b ha hc hb t (eqb-false c a (not-true (eqb c a) others.0)))) x e)
          (λ f. carries_from_keeps k d row a b (kept_pairs a b ha hb
          (and_from (not (eqb a b)) (is_some (d a b) && not (any (splits k d a b) (leaders k d n))) (not_from_false (eqb a b) (ne_eqb a b ne))
          (and_from (is_some (d a b)) (not (any (splits k d a b) (leaders k d n))) (rw e) (not_from_false (any (splits k d a b) (leaders k d n)) f)))) x e)
          (cases_Bool (any (splits k d a b) (leaders k d n))))
          (cases_eq a b)

      leaders_carry : (most a b : ℕ) → Has (leaders k d n) a → Has (leaders k d n) b → between a b ≤ most → Carries k d row a b
      leaders_carry zero a b ha hb l = pair_carries a b ha hb (λ u v hu hv s. absurd (omega arith))
      leaders_carry (suc most) a b ha hb l = pair_carries a b ha hb (λ u v hu hv s. leaders_carry most u v hu hv (omega arith))

      -- From a mark to its leader, across, and from the leader on.
      pub reduced_carries : (i j : ℕ) → i < n → j < n → Carries k d row i j
      reduced_carries i j li lj x e =
          let a = leader k d i in
          let b = leader k d j in
          let la = leader_below k laws n d m i li in
          let lb = leader_below k laws n d m j lj in
          let ha = has_leaders k laws n d m a la (leader_leader k laws n d m i li) in
          let hb = has_leaders k laws n d m b lb (leader_leader k laws n d m j lj) in
          let to_a = leader_tied k laws n d m i li in
          let to_b = leader_tied k laws n d m j lj in
          let from_a = tied_turned k laws n d m i a li la to_a in
          let from_b = tied_turned k laws n d m j b lj lb to_b in
          let u = through_first k laws n d m a i j la li lj from_a x e in
          let v = through_last k laws n d m a j b la lj lb to_b u.whole u.whole_is in
          let s = through_first k laws n d m i a j li la lj to_a u.whole u.whole_is in
          let t = through_last k laws n d m a b j la lb lj from_b v.whole v.whole_is in
          carries_joined i a j li la lj s
          (group_carries a la (kept_rings a ha) i a li la from_a (tied_itself k laws n d m a la))
          (carries_joined a b j la lb lj t (leaders_carry (between a b) a b ha hb (omega arith))
          (group_carries b lb (kept_rings b hb) b j lb lj (tied_itself k laws n d m b lb) from_b))
          x e

-- Keys of rules: the keys of the reduced list are as many as its rules, and all different.
use Rattle.std.proofs.Common.{◌≡◌, ℕ, suc, ◌<◌, true, cond, eqb, List, [], ◌∷◌, ◌++◌, map, length, filter, Option, sym, refl, ap, ◌∙◌, ⊎_elim, arith}
use Rattle.std.specs.List.{ContainsAt as Has, flat_map}
use Rattle.std.proofs.lemmas.List.{length-append, length-map}
use Rattle.std.proofs.lemmas.Bool.{and_parts, not-true, eqb-false, eq-eqb, ne_eqb}
use Rattle.lengths.specs.Kind.{Kind, Laws}
use Rattle.rules.specs.declared.rule.Rule.{Rule}
use Rattle.reduction.specs.Reduction.{leader, distance_rule, ring_from, ring, leaders, group, listed, pairs_from, reduced_list}
use Rattle.graph.proofs.Membership.{has_here, has_there, has_none, has_cases, has_map_source}
use Rattle.graph.proofs.Pigeonhole.{Distinct}
use Rattle.reduction.proofs.Selections.{kept_by_has, distinct_kept_by, distinct_append, distinct_map, joined_has, distinct_joined, length_joined_same}
use Rattle.graph.proofs.Distances.{Metric}
use Rattle.graph.proofs.Ties.{Tied}
use Rattle.reduction.proofs.Leaders.{leader_same, leaders_has, distinct_leaders, group_has, distinct_group}

-- A key is the mark that a rule leaves inside its group, twice, or the leaders of its two groups.
abbrev pub Key : Type 0
Key = ℕ × ℕ

abbrev pub twice : ℕ → Key
twice u = (u, u)

abbrev pub pair_of : ℕ → ℕ → Key
pair_of a b = (a, b)

unfoldable pub key : {L : Type 0} → Kind L → (ℕ → ℕ → Option L) → Rule L → Key
key k d r = cond (eqb (leader k d r.from) (leader k d r.to)) (twice r.from) (pair_of (leader k d r.from) (leader k d r.to))

-- A rule inside a group has the mark it leaves for its key, and one that crosses has the two leaders.
pub key_inside : {L : Type 0} (k : Kind L) (d : ℕ → ℕ → Option L) (r : Rule L) (u : ℕ) → r.from ≡ u → leader k d r.from ≡ leader k d r.to → key k d r ≡ twice u
unfolding key
key_inside k d r u e same = rw (eq-eqb (leader k d r.from) (leader k d r.to) same, e)

pub key_across : {L : Type 0} (k : Kind L) (d : ℕ → ℕ → Option L) (r : Rule L) (a b : ℕ) → leader k d r.from ≡ a → leader k d r.to ≡ b → (a ≡ b → ⊥) → key k d r ≡ pair_of a b
unfolding key
key_across k d r a b from to ne = rw (from, to, ne_eqb a b ne)

-- The keys of a ring: its marks.
unfoldable pub ring_keys : List ℕ → List Key
ring_keys [] = []
ring_keys (m ∷ []) = []
ring_keys (m ∷ (next ∷ ms)) = map twice (m ∷ (next ∷ ms))

module _ {L : Type 0} (k : Kind L) (d : ℕ → ℕ → Option L) where
  length_ring_from : (first m : ℕ) (ms : List ℕ) → length (ring_from k d first m ms) ≡ suc (length ms)
  unfolding ring_from
  length_ring_from first m [] = refl
  length_ring_from first m (next ∷ ms) = ap suc (length_ring_from first next ms)

  length_ring : (ms : List ℕ) → length (ring k d ms) ≡ length (ring_keys ms)
  unfolding ring ring_keys
  length_ring [] = refl
  length_ring (m ∷ []) = refl
  length_ring (m ∷ (next ∷ ms)) = length_ring_from m m (next ∷ ms) ∙ sym (length-map (m ∷ (next ∷ ms)) twice)

  module _ (n : ℕ) where
    pub group_keys : ℕ → List Key
    group_keys a = ring_keys (group k d n a)

    pub pair_keys : ℕ → List Key
    pair_keys a = map (pair_of a) (filter (listed k d n a) (leaders k d n))

    -- The keys of the reduced list.
    unfoldable pub reduced_keys : List Key
    reduced_keys = flat_map group_keys (leaders k d n) ++ flat_map pair_keys (leaders k d n)

    pub length_reduced : length (reduced_list k d n) ≡ length reduced_keys
    unfolding reduced_list reduced_keys group_keys pair_keys pairs_from
    length_reduced =
        let rings = length_joined_same (λ a. ring k d (group k d n a)) group_keys (λ a. length_ring (group k d n a)) (leaders k d n) in
        let pairs = length_joined_same (pairs_from k d n) pair_keys (λ a. length-map (filter (listed k d n a) (leaders k d n)) (distance_rule k d a) ∙ sym (length-map (filter (listed k d n a) (leaders k d n)) (pair_of a))) (leaders k d n) in
        omega (arith, length-append (flat_map (λ a. ring k d (group k d n a)) (leaders k d n)) (flat_map (pairs_from k d n) (leaders k d n)), length-append (flat_map group_keys (leaders k d n)) (flat_map pair_keys (leaders k d n)))

-- A ring key is a mark of a group that has another mark.
pub ring_keys_has : (ms : List ℕ) (z : Key) → Distinct ms → Has (ring_keys ms) z → (u v : ℕ) × (twice u ≡ z) × Has ms u × Has ms v × (u ≡ v → ⊥)
unfolding ring_keys
ring_keys_has [] z distinct h = absurd (has_none z h)
ring_keys_has (m ∷ []) z distinct h = absurd (has_none z h)
ring_keys_has (m ∷ (next ∷ ms)) z distinct h =
    let s = has_map_source twice (m ∷ (next ∷ ms)) z h in
    ⊎_elim
    (λ (e : m ≡ s.0). (s.0, next, s.2, s.1, has_there m next (next ∷ ms) (has_here next ms), λ f. distinct.0 (0, omega arith, λ _. sym (e ∙ f))))
    (λ t. (s.0, m, s.2, s.1, has_here m (next ∷ ms), λ f. distinct.0 (rw f at t)))
    (has_cases m s.0 (next ∷ ms) s.1)

distinct_ring_keys : (ms : List ℕ) → Distinct ms → Distinct (ring_keys ms)
unfolding ring_keys
distinct_ring_keys [] distinct = tt
distinct_ring_keys (m ∷ []) distinct = tt
distinct_ring_keys (m ∷ (next ∷ ms)) distinct = distinct_map twice (m ∷ (next ∷ ms)) (λ u v e. ap (λ z. z.0) e) distinct

module _ {L : Type 0} (k : Kind L) (laws : Laws k) (n : ℕ) (d : ℕ → ℕ → Option L) (m : Metric k n d) where
  -- What a key of a group, and a key of a pair, says.
  pub group_keys_has : (a : ℕ) (z : Key) → a < n → Has (group_keys k d n a) z → (u v : ℕ) × (twice u ≡ z) × (u < n) × (v < n) × Tied k d a u × Tied k d a v × (u ≡ v → ⊥)
  unfolding group_keys
  group_keys_has a z la h =
      let s = ring_keys_has (group k d n a) z (distinct_group k laws n d m a) h in
      let u = group_has k laws n d m a s.0 la s.3 in
      let v = group_has k laws n d m a s.1 la s.4 in
      (s.0, s.1, s.2, u.0, v.0, u.1, v.1, s.5)

  pub pair_keys_has : (a : ℕ) (z : Key) → Has (pair_keys k d n a) z → (b : ℕ) × (pair_of a b ≡ z) × Has (leaders k d n) b × (listed k d n a b ≡ true)
  unfolding pair_keys
  pair_keys_has a z h =
      let s = has_map_source (pair_of a) (filter (listed k d n a) (leaders k d n)) z h in
      let t = kept_by_has (listed k d n a) (leaders k d n) s.0 s.1 in
      (s.0, s.2, t.0, t.1)

  pub listed_apart : (a b : ℕ) → listed k d n a b ≡ true → a ≡ b → ⊥
  unfolding listed
  listed_apart a b e = eqb-false a b (not-true (eqb a b) (and_parts _ _ e).0)

  distinct_group_keys : (a : ℕ) → Distinct (group_keys k d n a)
  unfolding group_keys
  distinct_group_keys a = distinct_ring_keys (group k d n a) (distinct_group k laws n d m a)

  distinct_pair_keys : (a : ℕ) → Distinct (pair_keys k d n a)
  unfolding pair_keys
  distinct_pair_keys a = distinct_map (pair_of a) (filter (listed k d n a) (leaders k d n)) (λ u v e. ap (λ z. z.1) e) (distinct_kept_by (listed k d n a) (leaders k d n) (distinct_leaders k laws n d m))

  -- Different rules of the reduced list have different keys.
  pub distinct_reduced_keys : Distinct (reduced_keys k d n)
  unfolding reduced_keys
  distinct_reduced_keys =
      distinct_append (flat_map (group_keys k d n) (leaders k d n)) (flat_map (pair_keys k d n) (leaders k d n))
      (distinct_joined (group_keys k d n) (λ z. leader k d z.0) (leaders k d n) (distinct_leaders k laws n d m) (λ a h. distinct_group_keys a)
      (λ a z h i.
      let a_is = leaders_has k laws n d m a h in
      let s = group_keys_has a z a_is.0 i in
      ap (λ z. leader k d z.0) (sym s.2) ∙ sym (leader_same k laws n d m a s.0 a_is.0 s.3 s.5) ∙ a_is.1))
      (distinct_joined (pair_keys k d n) (λ z. z.0) (leaders k d n) (distinct_leaders k laws n d m) (λ a h. distinct_pair_keys a)
      (λ a z h i. ap (λ z. z.0) (sym (pair_keys_has a z i).1)))
      (λ z h i.
      let r = joined_has (group_keys k d n) (leaders k d n) z h in
      let s = group_keys_has r.0 z (leaders_has k laws n d m r.0 r.1).0 r.2 in
      let q = joined_has (pair_keys k d n) (leaders k d n) z i in
      let t = pair_keys_has q.0 z q.2 in
      listed_apart q.0 t.0 t.3 (ap (λ z. z.0) (t.1 ∙ sym s.2) ∙ ap (λ z. z.1) (s.2 ∙ sym t.1)))

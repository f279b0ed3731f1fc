-- Tables of distances: what they hold is what the distances are.
use Rattle.std.proofs.Common.{◌≡◌, ℕ, ◌*◌, ◌<◌, ◌≤◌, false, List, length, Some, None, Option, sym, ap, ◌∙◌, subst, inl, inr, ⊎_elim, arith}
use Rattle.std.specs.List.{AllByRecursion as Every}
use Rattle.std.proofs.lemmas.Bool.{both_ways, cond-true, cond-false}
use Rattle.lengths.specs.Kind.{Kind, Laws, near}
use Rattle.lengths.proofs.Algebra.{reflexive, below_unless, opposite_of_opposite, opposite_at_most}
use Rattle.rules.specs.declared.rule.Rule.{Rule}
use Rattle.graph.specs.Paths.{path_length, Longest}
use Rattle.graph.specs.Rivals.{rival_limit}
use Rattle.graph.specs.Distances.{Distances, DistanceTable, table_entry, as_entry, table_distance}
use Rattle.graph.proofs.Membership.{all_drawn}
use Rattle.graph.proofs.Walks.{GapAtMost, measure_path_length}
use Rattle.graph.proofs.Distances.{cases_option}

module _ {L : Type 0} (k : Kind L) (laws : Laws k) where
  -- The opposite of far lies below every near length: else far would be at most an opposite.
  pub above_none : (x : L) → k.measure x ≤ near → k.at_most x (k.opposite k.far) ≡ false
  above_none x h =
      let mf = laws.measure_far in
      below_unless k laws (k.opposite k.far) x (λ a.
      both_ways (k.at_most k.far (k.opposite x)) (laws.far_exceeds (k.opposite x) (omega arith))
      (rw (opposite_of_opposite k laws k.far (omega arith)) at (opposite_at_most k laws x (k.opposite k.far) (omega arith) a)))

  pub table_some : (table : List L) (n i j : ℕ) → k.measure (table_entry k table n i j) ≤ near → table_distance k table n i j ≡ Some (table_entry k table n i j)
  unfolding table_distance
  table_some table n i j h = cond-false (k.at_most (table_entry k table n i j) (k.opposite k.far)) None (Some (table_entry k table n i j)) (above_none (table_entry k table n i j) h)

  pub table_none : (table : List L) (n i j : ℕ) → table_entry k table n i j ≡ k.opposite k.far → table_distance k table n i j ≡ None
  unfolding table_distance
  table_none table n i j e =
      let mf = laws.measure_far in
      cond-true (k.at_most (table_entry k table n i j) (k.opposite k.far)) None (Some (table_entry k table n i j))
      (rw e (reflexive k laws (k.opposite k.far) (omega arith)))

  module _ (n : ℕ) (rules : List (Rule L)) (few : n ≤ 256) (small : Every (GapAtMost k rival_limit) rules) (table : List L) where
    -- The longest length of a path is near.
    longest_near : (i j : ℕ) (x : L) → Longest k n rules i j x → k.measure x ≤ near
    longest_near i j x s =
        let short : length s.path ≤ 256 = omega (arith, s.is_path.short) in
        rw s.length_is at (bounded s.path short (measure_path_length k laws rival_limit s.path (all_drawn (GapAtMost k rival_limit) rules s.path s.is_path.drawn small) (omega arith)))
      where
        bounded : (p : List (Rule L)) → length p ≤ 256 → k.measure (path_length k p) ≤ length p * rival_limit → k.measure (path_length k p) ≤ near
        bounded p few h = omega arith

    -- A table of distances holds the distances.
    pub table_distances : DistanceTable k n rules table → Distances k n rules (table_distance k table n)
    table_distances t = record {
      longest = λ i j li lj x e.
          ⊎_elim
          (λ s. let is : table_entry k table n i j ≡ x = let f = table_some table n i j (longest_near i j (table_entry k table n i j) s) in cc in subst (Longest k n rules i j) is s)
          (λ none. let f = table_none table n i j none.0 in let z : ◌≡◌ {A = ℕ} 0 1 = cc in absurd (omega arith))
          (t.entries i j li lj);
      no_path = λ i j li lj e p path.
          ⊎_elim
          (λ s. let f = table_some table n i j (longest_near i j (table_entry k table n i j) s) in let z : ◌≡◌ {A = ℕ} 0 1 = cc in omega arith)
          (λ none. none.1 p path)
          (t.entries i j li lj);
    }

    -- A table whose entries hold the distances is a table of distances.
    pub distances_table : (d : ℕ → ℕ → Option L) → Distances k n rules d → ((i j : ℕ) → i < n → j < n → table_entry k table n i j ≡ as_entry k (d i j)) → DistanceTable k n rules table
    unfolding as_entry
    distances_table d dist holds = record {
      entries = λ i j li lj.
          ⊎_elim
          (λ s. let is : s.0 ≡ table_entry k table n i j = sym (holds i j li lj ∙ ap (as_entry k) s.1) in inl (subst (Longest k n rules i j) is (dist.longest i j li lj s.0 s.1)))
          (λ e. inr (holds i j li lj ∙ ap (as_entry k) e, dist.no_path i j li lj e))
          (cases_option (d i j));
    }

-- No rival is shorter: a list of rules with the same placements has a rule for each key of the reduced list.
use Rattle.std.proofs.Common.{◌≡◌, ℕ, ◌*◌, ◌<◌, ◌≤◌, true, false, not, ◌&&◌, eqb, ◌⊎◌, List, [], ◌∷◌, map, length, is_some, Some, Option, sym, ap, ◌∙◌, inl, inr, ⊎_elim, arith}
use Rattle.std.specs.List.{ContainsAt as Has, flat_map, AllByRecursion as Every}
use Rattle.std.proofs.lemmas.List.{length-map}
use Rattle.std.proofs.ByRecursion.{all-has, All-weaker}
use Rattle.std.proofs.lemmas.Bool.{cases_eq, and_parts, and_from, not-true, not_from_false, ne_eqb}
use Rattle.lengths.specs.Kind.{Kind, Laws}
use Rattle.lengths.proofs.Algebra.{reflexive, unit_left, monotone_left, sum_at_most}
use Rattle.rules.specs.declared.rule.Rule.{Rule}
use Rattle.rules.specs.Rule.{gap_limit}
use Rattle.graph.specs.Rows.{Keeps}
use Rattle.graph.specs.Paths.{Leads, path_length, Path}
use Rattle.graph.specs.Rivals.{rival_limit, SamePlacements, Between, Smallest}
use Rattle.graph.specs.Distances.{Distances}
use Rattle.reduction.specs.Reduction.{any, through, leader, splits, leaders, listed, reduced_list}
use Rattle.graph.proofs.Membership.{has_map, has_append_cases, all_drawn, all_from_has}
use Rattle.graph.proofs.Pigeonhole.{distinct_no_longer}
use Rattle.graph.proofs.Walks.{MarksBelow, GapAtMost, walk_limit, measure_path_length}
use Rattle.reduction.proofs.Selections.{any_false, joined_has}
use Rattle.graph.proofs.Distances.{distance_limit, Consistent, consistent_wider, consistent_placement, Metric, distances_metric}
use Rattle.graph.proofs.Ties.{Tied, Through, through_when, through_tied, tied_turned, tied_joined, tied_between}
use Rattle.reduction.proofs.Leaders.{through_from, leader_tied, leader_below, leader_leader, leader_same, has_leaders, leaders_has}
use Rattle.reduction.proofs.Carrying.{listed_distance}
use Rattle.reduction.proofs.SameCell.{placement_carries, same_placements}
use Rattle.reduction.proofs.Backing.{backing_distance, backing}
use Rattle.reduction.proofs.Keys.{twice, pair_of, key, key_inside, key_across, group_keys, pair_keys, reduced_keys, length_reduced, group_keys_has, pair_keys_has, listed_apart, distinct_reduced_keys}

module _ {L : Type 0} (k : Kind L) (laws : Laws k) (n : ℕ) (rules : List (Rule L)) (d : ℕ → ℕ → Option L)
    (c : Consistent k n gap_limit rules) (dist : Distances k n rules d) where
  -- A distance between marks is the length of at most 256 gaps, so a rival may list it.
  distance_near : (i j : ℕ) → i < n → j < n → (x : L) → d i j ≡ Some x → k.measure x ≤ rival_limit
  distance_near i j li lj x e =
      let s = dist.longest i j li lj x e in
      let few = c.few_marks in
      let short = s.is_path.short in
      let within : length s.path * gap_limit ≤ walk_limit = omega arith in
      rw s.length_is at (bounded s.path (omega arith) (measure_path_length k laws gap_limit s.path (all_drawn (GapAtMost k gap_limit) rules s.path s.is_path.drawn c.small) within))
    where
      bounded : (p : List (Rule L)) → length p ≤ 256 → k.measure (path_length k p) ≤ length p * gap_limit → k.measure (path_length k p) ≤ rival_limit
      bounded p few h = omega arith

  module _ (rival : List (Rule L)) (between : Every (Between k n) rival) (same : SamePlacements k n rules rival) where
    wide : Consistent k n rival_limit rules
    wide = consistent_wider k n gap_limit rival_limit rules (omega arith) c

    metric : Metric k n d
    metric = distances_metric k laws n rules d wide dist

    -- The rival is kept by the same row.
    rival_consistent : Consistent k n rival_limit rival
    rival_consistent = record {
      some_marks = c.some_marks;
      few_marks = c.few_marks;
      marks = All-weaker (Between k n) (MarksBelow n) (λ r b. (b.from_below, b.to_below)) rival between;
      small = All-weaker (Between k n) (GapAtMost k rival_limit) (λ r b. b.near) rival between;
      row = c.row;
      long = c.long;
      border = c.border;
      near = c.near;
      keeps = (same.onward c.row (consistent_placement k n gap_limit rules c)).keeps;
    }

    -- No gap of the rival is more than the distance: every placement keeps the rule, so a path backs it.
    rival_gap : (r : Rule L) → Has rival r → (x : L) × (d r.from r.to ≡ Some x) × (k.at_most r.gap x ≡ true)
    rival_gap r h =
        let b = all-has (Between k n) rival r between h in
        backing_distance k laws n rules d wide dist r.from b.from_below r.to b.to_below r.gap b.near
        (λ row placed. all-has (Keeps k row) rival r (same.onward row placed).keeps h)

    -- The rival has a path for each distance, at least as long.
    rival_path : (i j : ℕ) → i < n → j < n → (x : L) → d i j ≡ Some x → (p : List (Rule L)) × Path n rival i j p × (k.at_most x (path_length k p) ≡ true)
    rival_path i j li lj x e =
        backing k laws n rival rival_consistent i j x li lj (distance_near i j li lj x e)
        (λ row placed. placement_carries k laws n rules d wide dist row (same.back row placed) i j li lj x e)

    rival_measure : (p : List (Rule L)) → length p ≤ 256 → Every (Has rival) p → k.measure (path_length k p) ≤ distance_limit
    rival_measure p few drawn =
        let m = measure_path_length k laws rival_limit p (all_drawn (GapAtMost k rival_limit) rival p drawn rival_consistent.small) (omega arith) in
        omega arith

    -- A rule of the rival before a walk: the gap is at most one distance, the walk at most another, and the distances obey the triangle inequality.
    rival_step : (r : Rule L) (p : List (Rule L)) (j : ℕ) → j < n → Has rival r → length p ≤ 256 → Every (Has rival) p → (b : L) → d r.to j ≡ Some b → k.at_most (path_length k p) b ≡ true → (x : L) × (d r.from j ≡ Some x) × (k.at_most (path_length k (r ∷ p)) x ≡ true)
    rival_step r p j lj h few drawn b e l =
        let between_r = all-has (Between k n) rival r between h in
        let lf = between_r.from_below in
        let lt = between_r.to_below in
        let mg = between_r.near in
        let g = rival_gap r h in
        let t = metric.triangle r.from r.to j lf lt lj g.0 b g.1 e in
        let m₁ = metric.measured r.from r.to lf lt g.0 g.1 in
        let m₂ = metric.measured r.to j lt lj b e in
        let m₃ = metric.measured r.from j lf lj t.0 t.1 in
        let m₄ = rival_measure p few drawn in
        (t.0, t.1, laws.transitive (path_length k (r ∷ p)) (k.sum g.0 b) t.0 (omega arith) (sum_at_most k laws r.gap g.0 (path_length k p) b (omega arith) g.2 l) t.2)

    -- No walk of the rival is longer than the distance.
    rival_walk : (p : List (Rule L)) (i j : ℕ) → i < n → j < n → length p ≤ 256 → Every (Has rival) p → Leads i j p → (x : L) × (d i j ≡ Some x) × (k.at_most (path_length k p) x ≡ true)
    rival_walk [] i j li lj few drawn leads =
        (k.zero, rw (← leads) (metric.itself i li), reflexive k laws k.zero (omega (arith, laws.measure_zero)))
    rival_walk (r ∷ p) i j li lj few drawn leads =
        let b = all-has (Between k n) rival r between drawn.0 in
        let rest = rival_walk p r.to j b.to_below lj (omega arith) drawn.1 leads.1 in
        let s = rival_step r p j lj drawn.0 (omega arith) drawn.1 rest.0 rest.1 rest.2 in
        (s.0, rw (← leads.0) s.1, s.2)

    -- Inside a group: the first rule of a path from u to a tied mark stays in the group.
    first_inside : (u v : ℕ) (p : List (Rule L)) → u < n → v < n → (t : Tied k d u v) → (u ≡ v → ⊥) → Path n rival u v p → k.at_most t.there (path_length k p) ≡ true → Has (map (key k d) rival) (twice u)
    first_inside u v [] lu lv t ne path long = absurd (ne path.leads)
    first_inside u v (r ∷ p) lu lv t ne path long =
        let h = path.drawn.0 in
        let drawn = path.drawn.1 in
        let from = path.leads.0 in
        let few : length p ≤ 256 = omega (arith, path.short, c.few_marks) in
        let between_r = all-has (Between k n) rival r between h in
        let w = r.to in
        let lw = between_r.to_below in
        let mr = between_r.near in
        let g = rival_gap r h in
        let e : d u w ≡ Some g.0 = ap (λ z. d z w) (sym from) ∙ g.1 in
        let rest = rival_walk p w v lw lv few drawn path.leads.1 in
        let m₁ = metric.measured u w lu lw g.0 e in
        let m₂ = metric.measured w v lw lv rest.0 rest.1 in
        let m₃ = metric.measured u v lu lv t.there t.there_is in
        let m₄ = rival_measure p few drawn in
        let whole : k.at_most t.there (k.sum g.0 rest.0) ≡ true =
        laws.transitive t.there (path_length k (r ∷ p)) (k.sum g.0 rest.0) (omega arith) long (sum_at_most k laws r.gap g.0 (path_length k p) rest.0 (omega arith) g.2 rest.2) in
        let runs = through_when k laws n d metric u w v lu lw lv g.0 rest.0 t.there e rest.1 t.there_is whole in
        let leaders_same : leader k d r.from ≡ leader k d w = ap (leader k d) from ∙ leader_same k laws n d metric u w lu lw (tied_between k laws n d metric u w v lu lw lv t runs) in
        rw (key_inside k d r u from leaders_same) at (has_map (key k d) rival r h)

    has_inside : (u v : ℕ) → u < n → v < n → Tied k d u v → (u ≡ v → ⊥) → Has (map (key k d) rival) (twice u)
    has_inside u v lu lv t ne =
        let s = rival_path u v lu lv t.there t.there_is in
        first_inside u v s.0 lu lv t ne s.1 s.2

    module _ (a b : ℕ) (ha : Has (leaders k d n) a) (hb : Has (leaders k d n) b) (ne : a ≡ b → ⊥) (unsplit : any (splits k d a b) (leaders k d n) ≡ false) (w : L) (w_is : d a b ≡ Some w) where
      -- A leader through which an unsplit pair's distance runs is one of the two.
      third_leader : (e : ℕ) → e < n → leader k d e ≡ e → Through k d a e b → (e ≡ a) ⊎ (e ≡ b)
      unfolding splits
      third_leader e le e_is t =
          let la = (leaders_has k laws n d metric a ha).0 in
          let lb = (leaders_has k laws n d metric b hb).0 in
          ⊎_elim (λ same_a. inl same_a)
          (λ not_a. ⊎_elim (λ same_b. inr same_b)
          (λ not_b. absurd (any_false (splits k d a b) (leaders k d n) e unsplit (has_leaders k laws n d metric e le e_is)
          (and_from (through k d a e b) (not (eqb e a) && not (eqb e b)) (through_from k laws n d metric a e b la le lb t)
          (and_from (not (eqb e a)) (not (eqb e b)) (not_from_false (eqb e a) (ne_eqb e a not_a)) (not_from_false (eqb e b) (ne_eqb e b not_b))))))
          (cases_eq e b))
          (cases_eq e a)

      -- Along a path of the rival as long as the distance: each mark lies in one of the two groups, so some rule crosses.
      crossing : (p : List (Rule L)) (x : ℕ) (s : L) → x < n → length p ≤ 256 → Every (Has rival) p → Leads x b p → leader k d x ≡ a → d a x ≡ Some s → k.at_most w (k.sum s (path_length k p)) ≡ true → Has (map (key k d) rival) (pair_of a b)
      crossing [] x s lx few drawn leads x_in e long = absurd (ne (sym x_in ∙ ap (leader k d) leads ∙ (leaders_has k laws n d metric b hb).1))
      crossing (r ∷ p) x s lx few drawn leads x_in e long =
          let la = (leaders_has k laws n d metric a ha).0 in
          let lb = (leaders_has k laws n d metric b hb).0 in
          let h = drawn.0 in
          let from = leads.0 in
          let between_r = all-has (Between k n) rival r between h in
          let y = r.to in
          let ly = between_r.to_below in
          let mr = between_r.near in
          let few_p : length p ≤ 256 = omega arith in
          let g = rival_gap r h in
          let ge : d x y ≡ Some g.0 = ap (λ z. d z y) (sym from) ∙ g.1 in
          let rest = rival_walk p y b ly lb few_p drawn.1 leads.1 in
          let on = metric.triangle a x y la lx ly s g.0 e ge in
          let t = on.0 in
          let m₁ = metric.measured a x la lx s e in
          let m₂ = metric.measured x y lx ly g.0 ge in
          let m₃ = metric.measured y b ly lb rest.0 rest.1 in
          let m₄ = metric.measured a y la ly t on.1 in
          let m₅ = metric.measured a b la lb w w_is in
          let m₆ = rival_measure p few_p drawn.1 in
          let len = path_length k p in
          let regrouped : k.at_most w (k.sum (k.sum s r.gap) len) ≡ true = rw (laws.associative s r.gap len (omega arith)) long in
          let step : k.at_most (k.sum s r.gap) t ≡ true = laws.transitive (k.sum s r.gap) (k.sum s g.0) t (omega arith) (monotone_left k laws r.gap g.0 s (omega arith) g.2) on.2 in
          let ahead : k.at_most w (k.sum t len) ≡ true = laws.transitive w (k.sum (k.sum s r.gap) len) (k.sum t len) (omega arith) regrouped (laws.monotone (k.sum s r.gap) t len (omega arith) step) in
          let whole : k.at_most w (k.sum t rest.0) ≡ true = laws.transitive w (k.sum t len) (k.sum t rest.0) (omega arith) ahead (monotone_left k laws len rest.0 t (omega arith) rest.2) in
          let runs = through_when k laws n d metric a y b la ly lb t rest.0 w on.1 rest.1 w_is whole in
          let over = through_tied k laws n d metric a y (leader k d y) b la ly (leader_below k laws n d metric y ly) lb runs (leader_tied k laws n d metric y ly) in
          ⊎_elim
          (λ (y_in : leader k d y ≡ a). crossing p y t ly few_p drawn.1 leads.1 y_in on.1 ahead)
          (λ (y_out : leader k d y ≡ b). rw (key_across k d r a b (ap (leader k d) from ∙ x_in) y_out ne) at (has_map (key k d) rival r h))
          (third_leader (leader k d y) (leader_below k laws n d metric y ly) (leader_leader k laws n d metric y ly) over)

      has_across : Has (map (key k d) rival) (pair_of a b)
      has_across =
          let a_is = leaders_has k laws n d metric a ha in
          let lb = (leaders_has k laws n d metric b hb).0 in
          let s = rival_path a b a_is.0 lb w w_is in
          let few : length s.0 ≤ 256 = omega (arith, s.1.short, c.few_marks) in
          let m = rival_measure s.0 few s.1.drawn in
          crossing s.0 a k.zero a_is.0 few s.1.drawn s.1.leads a_is.1 (metric.itself a a_is.0)
          (rw (unit_left k laws (path_length k s.0) (omega arith)) s.2)

    listed_unsplit : (a b : ℕ) → listed k d n a b ≡ true → any (splits k d a b) (leaders k d n) ≡ false
    unfolding listed
    listed_unsplit a b e =
        let rest = is_some (d a b) && not (any (splits k d a b) (leaders k d n)) in
        not-true (any (splits k d a b) (leaders k d n)) (and_parts (is_some (d a b)) (not (any (splits k d a b) (leaders k d n))) (and_parts (not (eqb a b)) rest e).1).1

    -- Each key of the reduced list is a key of the rival.
    keys_occur : Every (Has (map (key k d) rival)) (reduced_keys k d n)
    unfolding reduced_keys
    keys_occur =
        all_from_has (Has (map (key k d) rival)) (reduced_keys k d n) (λ z h.
        ⊎_elim
        (λ i.
        let r = joined_has (group_keys k d n) (leaders k d n) z i in
        let a = r.0 in
        let la = (leaders_has k laws n d metric a r.1).0 in
        let s = group_keys_has k laws n d metric a z la r.2 in
        rw s.2 at (has_inside s.0 s.1 s.3 s.4
        (tied_joined k laws n d metric s.0 a s.1 s.3 la s.4 (tied_turned k laws n d metric a s.0 la s.3 s.5) s.6) s.7))
        (λ i.
        let r = joined_has (pair_keys k d n) (leaders k d n) z i in
        let a = r.0 in
        let s = pair_keys_has k laws n d metric a z r.2 in
        let x = listed_distance k laws n d metric a s.0 s.3 in
        rw s.1 at (has_across a s.0 r.1 s.2 (listed_apart k laws n d metric a s.0 s.3) (listed_unsplit a s.0 s.3) x.0 x.1))
        (has_append_cases (flat_map (group_keys k d n) (leaders k d n)) (flat_map (pair_keys k d n) (leaders k d n)) z h))

    -- The keys of the reduced list are different, so the rival has at least as many rules.
    pub rival_no_shorter : length (reduced_list k d n) ≤ length rival
    rival_no_shorter =
        omega (arith, length_reduced k d n, length-map rival (key k d), distinct_no_longer (reduced_keys k d n) (map (key k d) rival) (distinct_reduced_keys k laws n d metric) keys_occur)

-- The reduced list is smallest: of consistent rules between n marks with gaps within the limit, and their distances.
pub smallest : {L : Type 0} (k : Kind L) (laws : Laws k) (n : ℕ) (rules : List (Rule L)) (d : ℕ → ℕ → Option L) → Consistent k n gap_limit rules → Distances k n rules d → Smallest k n (reduced_list k d n)
smallest k laws n rules d c dist rival between same =
    let first = same_placements k laws n rules d c dist in
    rival_no_shorter k laws n rules d c dist rival between (record {
      onward = λ row placed. same.onward row (first.onward row placed);
      back = λ row placed. first.back row (same.back row placed);
    })

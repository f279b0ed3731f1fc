-- Distances computed by layers: the longest walks of at most 0, 1, 2, … rules.
use Rattle.std.proofs.Common.{◌≡◌, ℕ, zero, suc, ◌*◌, ◌≤◌, true, cond, eqb, ◌⊎◌, List, [], ◌∷◌, length, Some, None, Option, sym, refl, ap, ◌∙◌, inl, inr, ⊎_elim, arith}
use Rattle.std.specs.List.{ContainsAt as Has, AllByRecursion as Every}
use Rattle.std.proofs.ByRecursion.{all-has}
use Rattle.std.proofs.lemmas.Bool.{cond_both, eqb-true, eq-eqb}
use Rattle.lengths.specs.Kind.{Kind, Laws}
use Rattle.lengths.proofs.Algebra.{larger, larger_cases, larger_first, larger_second, measure_larger, reflexive, monotone_left}
use Rattle.rules.specs.declared.rule.Rule.{Rule}
use Rattle.graph.specs.Paths.{Leads, path_length}
use Rattle.graph.specs.Rivals.{rival_limit}
use Rattle.graph.specs.Distances.{Distances}
use Rattle.graph.specs.Midpoints.{longer}
use Rattle.graph.proofs.Membership.{has_here, has_there, has_cases, has_none, all_drawn}
use Rattle.graph.proofs.Walks.{GapAtMost, walk_limit, measure_path_length}
use Rattle.graph.proofs.Ties.{same_length}

module _ {L : Type 0} (k : Kind L) where
  -- A gap before a length, where it exists.
  unfoldable pub extended : L → Option L → Option L
  extended g None = None
  extended g (Some x) = Some (k.sum g x)

  -- The rule, if it leaves mark u, before the length from where it leads.
  unfoldable pub candidate : (ℕ → Option L) → Rule L → ℕ → Option L
  candidate old r u = cond (eqb r.from u) (extended r.gap (old r.to)) None

  -- One more rule in front: the longest from u over the rules that leave u, or what was there.
  unfoldable pub best_step : (ℕ → Option L) → List (Rule L) → ℕ → Option L
  best_step old [] u = old u
  best_step old (r ∷ rules) u = longer k (candidate old r u) (best_step old rules u)

  -- The longest length of a walk of at most m rules from u to j.
  unfoldable pub longest_to : List (Rule L) → ℕ → ℕ → ℕ → Option L
  longest_to rules j zero u = cond (eqb u j) (Some k.zero) None
  longest_to rules j (suc m) u = best_step (longest_to rules j m) rules u

-- The length exists and is at least y.
abbrev pub AtLeast : {L : Type 0} → Kind L → Option L → L → Type 0
AtLeast {L} k o y = (x : L) × (o ≡ Some x) × (k.at_most y x ≡ true)

-- The length has a measure of at most b, where it exists.
abbrev pub MeasureWithin : {L : Type 0} → Kind L → ℕ → Option L → Type 0
MeasureWithin {L} k b o = (x : L) → o ≡ Some x → k.measure x ≤ b

-- Twice the limit of walks: within the reach with room to spare.
abbrev pub room : ℕ
room = 8_000_000_000_000

module _ {L : Type 0} (k : Kind L) (laws : Laws k) where
  pub longer_cases : (u v : Option L) (x : L) → longer k u v ≡ Some x → (u ≡ Some x) ⊎ (v ≡ Some x)
  unfolding longer
  longer_cases None v x e = inr e
  longer_cases (Some a) None x e = inl e
  longer_cases (Some a) (Some b) x e =
      ⊎_elim (λ p. inl (ap Some (sym p) ∙ e)) (λ p. inr (ap Some (sym p) ∙ e)) (larger_cases k laws a b)

  pub longer_first : (u v : Option L) (y : L) → k.measure y ≤ room → MeasureWithin k room u → MeasureWithin k room v → AtLeast k u y → AtLeast k (longer k u v) y
  unfolding longer
  longer_first None v y my mu mv h = let z : None ≡ Some h.0 = h.1 in (h.0, cc, h.2)
  longer_first (Some a) None y my mu mv h = h
  longer_first (Some a) (Some b) y my mu mv h =
      let ma = mu a refl in
      let mb = mv b refl in
      let bound = measure_larger k laws a b in
      let is : h.0 ≡ a = same_length (Some a) h.0 a h.1 refl in
      (larger k a b, refl, laws.transitive y a (larger k a b) (omega arith) (rw is at h.2) (larger_first k laws a b (omega arith)))

  pub longer_second : (u v : Option L) (y : L) → k.measure y ≤ room → MeasureWithin k room u → MeasureWithin k room v → AtLeast k v y → AtLeast k (longer k u v) y
  unfolding longer
  longer_second None v y my mu mv h = h
  longer_second (Some a) None y my mu mv h = let z : None ≡ Some h.0 = h.1 in (h.0, cc, h.2)
  longer_second (Some a) (Some b) y my mu mv h =
      let ma = mu a refl in
      let mb = mv b refl in
      let bound = measure_larger k laws a b in
      let is : h.0 ≡ b = same_length (Some b) h.0 b h.1 refl in
      (larger k a b, refl, laws.transitive y b (larger k a b) (omega arith) (rw is at h.2) (larger_second k laws a b (omega arith)))

  module _ (old : ℕ → Option L) where
    extended_some : (g : L) (o : Option L) (x : L) → extended k g o ≡ Some x → (y : L) × (o ≡ Some y) × (k.sum g y ≡ x)
    unfolding extended
    extended_some g None x e = (x, cc, cc)
    extended_some g (Some y) x e = (y, refl, same_length (Some (k.sum g y)) (k.sum g y) x refl e)

    extended_from : (g : L) (o : Option L) (y : L) → o ≡ Some y → extended k g o ≡ Some (k.sum g y)
    unfolding extended
    extended_from g o y e = rw e

    candidate_some : (r : Rule L) (u : ℕ) (x : L) → candidate k old r u ≡ Some x → (y : L) × (r.from ≡ u) × (old r.to ≡ Some y) × (k.sum r.gap y ≡ x)
    unfolding candidate
    candidate_some r u x =
        cond_both (eqb r.from u) (extended k r.gap (old r.to)) None (λ o. o ≡ Some x → (y : L) × (r.from ≡ u) × (old r.to ≡ Some y) × (k.sum r.gap y ≡ x))
        (λ t e. let s = extended_some r.gap (old r.to) x e in (s.0, eqb-true r.from u t, s.1, s.2))
        (λ _ e. let z : ◌≡◌ {A = ℕ} 0 1 = cc in absurd (omega arith))

    candidate_from : (r : Rule L) (u : ℕ) (y : L) → r.from ≡ u → old r.to ≡ Some y → candidate k old r u ≡ Some (k.sum r.gap y)
    unfolding candidate
    candidate_from r u y e f = rw (eq-eqb r.from u e) (extended_from r.gap (old r.to) y f)

    -- Where a longest comes from: it was there, or a rule leads on to what was there.
    step_source : (P : L → Type 0) (u : ℕ) → ((x : L) → old u ≡ Some x → P x) → (rules : List (Rule L)) → ((r : Rule L) → Has rules r → r.from ≡ u → (y : L) → old r.to ≡ Some y → P (k.sum r.gap y)) → (x : L) → best_step k old rules u ≡ Some x → P x
    unfolding best_step
    step_source P u stays [] leaves x e = stays x e
    step_source P u stays (r ∷ rules) leaves x e =
        ⊎_elim
        (λ c. let s = candidate_some r u x c in rw s.3 at (leaves r (has_here r rules) s.1 s.0 s.2))
        (λ b. step_source P u stays rules (λ t h. leaves t (has_there r t rules h)) x b)
        (longer_cases (candidate k old r u) (best_step k old rules u) x e)

    module _ (near : (u : ℕ) → MeasureWithin k walk_limit (old u)) where
      candidate_measure : (r : Rule L) (u : ℕ) → GapAtMost k rival_limit r → MeasureWithin k room (candidate k old r u)
      candidate_measure r u small x e =
          let s = candidate_some r u x e in
          let my = near r.to s.0 s.2 in
          rw (← s.3) (omega arith)

      step_measure : (rules : List (Rule L)) → Every (GapAtMost k rival_limit) rules → (u : ℕ) → MeasureWithin k room (best_step k old rules u)
      step_measure rules small u x e =
          step_source (λ z. k.measure z ≤ room) u (λ z f. omega (arith, near u z f)) rules
          (λ r h l y f. omega (arith, near r.to y f, all-has (GapAtMost k rival_limit) rules r small h)) x e

      -- It is at least what was there, and at least what each rule leads on to.
      step_stays : (rules : List (Rule L)) → Every (GapAtMost k rival_limit) rules → (u : ℕ) (y : L) → k.measure y ≤ room → AtLeast k (old u) y → AtLeast k (best_step k old rules u) y
      unfolding best_step
      step_stays [] small u y my h = h
      step_stays (r ∷ rules) small u y my h =
          longer_second (candidate k old r u) (best_step k old rules u) y my (candidate_measure r u small.0) (step_measure rules small.1 u) (step_stays rules small.1 u y my h)

      step_leaves : (rules : List (Rule L)) → Every (GapAtMost k rival_limit) rules → (u : ℕ) (y z : L) (r : Rule L) → Has rules r → r.from ≡ u → old r.to ≡ Some z → k.measure y ≤ room → k.at_most y (k.sum r.gap z) ≡ true → AtLeast k (best_step k old rules u) y
      unfolding best_step
      step_leaves [] small u y z r h e f my l = absurd (has_none r h)
      step_leaves (t ∷ rules) small u y z r h e f my l =
          ⊎_elim
          (λ (same : t ≡ r). longer_first (candidate k old t u) (best_step k old rules u) y my (candidate_measure t u small.0) (step_measure rules small.1 u)
          (rw same (k.sum r.gap z, candidate_from r u z e f, l)))
          (λ i. longer_second (candidate k old t u) (best_step k old rules u) y my (candidate_measure t u small.0) (step_measure rules small.1 u) (step_leaves rules small.1 u y z r i e f my l))
          (has_cases t r rules h)

module _ {L : Type 0} (k : Kind L) (laws : Laws k) (rules : List (Rule L)) (small : Every (GapAtMost k rival_limit) rules) (j : ℕ) where
  -- A walk of at most m rules from u to j of length x.
  abbrev Walked : ℕ → ℕ → L → Type 0
  Walked m u x = (p : List (Rule L)) × (length p ≤ m) × Every (Has rules) p × Leads u j p × (path_length k p ≡ x)

  -- What a layer holds is the length of a walk.
  layer_walk : (m u : ℕ) (x : L) → longest_to k rules j m u ≡ Some x → Walked m u x
  unfolding longest_to
  layer_walk zero u x e =
      cond_both (eqb u j) (Some k.zero) None (λ o. o ≡ Some x → Walked 0 u x)
      (λ t f. ([], omega arith, tt, eqb-true u j t, same_length (Some k.zero) k.zero x refl f))
      (λ _ f. let z : ◌≡◌ {A = ℕ} 0 1 = cc in absurd (omega arith)) e
  layer_walk (suc m) u x e =
      step_source k laws (longest_to k rules j m) (Walked (suc m) u) u
      (λ y f. let s = layer_walk m u y f in (s.0, omega arith, s.2, s.3, s.4))
      rules
      (λ r h l y f. let s = layer_walk m r.to y f in (r ∷ s.0, omega arith, (h, s.2), (l, s.3), ap (k.sum r.gap) s.4))
      x e

  layer_measure : (m u : ℕ) → m ≤ 256 → MeasureWithin k walk_limit (longest_to k rules j m u)
  layer_measure m u few x e =
      let s = layer_walk m u x e in
      let short = s.1 in
      let within : length s.0 * rival_limit ≤ walk_limit = omega arith in
      rw s.4 at (measured s.0 within (measure_path_length k laws rival_limit s.0 (all_drawn (GapAtMost k rival_limit) rules s.0 s.2 small) within))
    where
      measured : (p : List (Rule L)) → length p * rival_limit ≤ walk_limit → k.measure (path_length k p) ≤ length p * rival_limit → k.measure (path_length k p) ≤ walk_limit
      measured p a b = omega arith

  -- No walk of at most m rules is longer than the layer says.
  walk_layer : (m : ℕ) (p : List (Rule L)) (u : ℕ) → m ≤ 256 → length p ≤ m → Every (Has rules) p → Leads u j p → AtLeast k (longest_to k rules j m u) (path_length k p)
  unfolding longest_to
  walk_layer zero [] u few short drawn leads = rw (eq-eqb u j leads) (k.zero, refl, reflexive k laws k.zero (omega (arith, laws.measure_zero)))
  walk_layer zero (r ∷ p) u few short drawn leads = absurd (omega arith)
  walk_layer (suc m) [] u few short drawn leads =
      let rest = walk_layer m [] u (omega arith) (omega arith) tt leads in
      step_stays k laws (longest_to k rules j m) (λ w. layer_measure m w (omega arith)) rules small u k.zero (omega (arith, laws.measure_zero)) rest
  walk_layer (suc m) (r ∷ p) u few short drawn leads =
      let rest = walk_layer m p r.to (omega arith) (omega arith) drawn.1 leads.1 in
      let gap = all-has (GapAtMost k rival_limit) rules r small drawn.0 in
      let rest_measure = layer_measure m r.to (omega arith) rest.0 rest.1 in
      let p_measure = measure_path_length k laws rival_limit p (all_drawn (GapAtMost k rival_limit) rules p drawn.1 small) (omega arith) in
      let p_short : length p ≤ 256 = omega arith in
      step_leaves k laws (longest_to k rules j m) (λ w. layer_measure m w (omega arith)) rules small u (path_length k (r ∷ p)) rest.0 r drawn.0 leads.0 rest.1 (omega arith)
      (monotone_left k laws (path_length k p) rest.0 r.gap (omega arith) rest.2)

-- The layer of n rules gives the distances.
pub layers_distances : {L : Type 0} (k : Kind L) (laws : Laws k) (n : ℕ) (rules : List (Rule L)) → n ≤ 256 → Every (GapAtMost k rival_limit) rules → Distances k n rules (λ i j. longest_to k rules j n i)
layers_distances k laws n rules few small = record {
  longest = λ i j li lj x e.
      let s = layer_walk k laws rules small j n i x e in
      record {
        path = s.0;
        is_path = record { short = s.1; drawn = s.2; leads = s.3 };
        length_is = s.4;
        most = λ p path.
            let w = walk_layer k laws rules small j n p i few path.short path.drawn path.leads in
            rw (same_length (longest_to k rules j n i) w.0 x w.1 e) at w.2;
      };
  no_path = λ i j li lj e p path.
      let w = walk_layer k laws rules small j n p i few path.short path.drawn path.leads in
      let none = e in
      let some = w.1 in
      let z : ◌≡◌ {A = ℕ} 0 1 = cc in
      omega arith;
}

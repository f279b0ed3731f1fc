-- Tables of lengths over some midpoints: what holds of them to begin with, on the way, and with all marks as midpoints.
use Rattle.std.proofs.Common.{◌≡◌, ℕ, ◌*◌, ◌<◌, ◌≤◌, ◌⊎◌, List, [], ◌∷◌, length, Some, Option, sym, ap, ◌∙◌, ⊎_elim, arith}
use Rattle.std.specs.List.{ContainsAt as Has, AllByRecursion as Every}
use Rattle.std.proofs.ByRecursion.{all-has, All-map, All-weaker}
use Rattle.lengths.specs.Kind.{Kind, Laws}
use Rattle.lengths.proofs.Algebra.{reflexive, sum_at_most}
use Rattle.rules.specs.declared.rule.Rule.{Rule}
use Rattle.graph.specs.Rows.{row_limit, position}
use Rattle.graph.specs.Paths.{Leads, path_length, Path}
use Rattle.graph.specs.Rivals.{rival_limit}
use Rattle.graph.specs.Distances.{Distances}
use Rattle.graph.proofs.Membership.{all_drawn}
use Rattle.graph.proofs.Walks.{MarksBelow, GapAtMost, measure_path_length}
use Rattle.graph.proofs.Shortening.{inner_marks, closed_drawn}
use Rattle.graph.proofs.Distances.{distance_limit, Consistent}
use Rattle.graph.proofs.Ties.{same_length}
use Rattle.graph.proofs.Layers.{AtLeast, MeasureWithin}

-- A path from i to j of length x with every mark between its ends below m.
pub record PathOver {L : Type 0} (k : Kind L) (n : ℕ) (rules : List (Rule L)) (m i j : ℕ) (x : L) : Type 0 where
  pub path : List (Rule L)
  pub is_path : Path n rules i j path
  pub length_is : path_length k path ≡ x
  pub inner : Every (λ v. v < m) (inner_marks path)

-- A table after the midpoints below m: its lengths are those of paths over these marks, zero from each mark to itself, no gap is more, and the triangle inequality holds over these marks.
pub record Stage {L : Type 0} (k : Kind L) (n : ℕ) (rules : List (Rule L)) (m : ℕ) (t : ℕ → ℕ → Option L) : Type 0 where
  pub paths : (i j : ℕ) → i < n → j < n → (x : L) → t i j ≡ Some x → PathOver k n rules m i j x
  pub itself : (i : ℕ) → i < n → t i i ≡ Some k.zero
  pub gaps : (r : Rule L) → Has rules r → AtLeast k (t r.from r.to) r.gap
  pub triangle : (i x j : ℕ) → i < n → x < n → j < n → x < m → (a b : L) → t i x ≡ Some a → t x j ≡ Some b → AtLeast k (t i j) (k.sum a b)

module _ {L : Type 0} (k : Kind L) (laws : Laws k) (n : ℕ) (rules : List (Rule L)) (c : Consistent k n rival_limit rules) where
  pub measure_walk : (p : List (Rule L)) → length p ≤ 512 → Every (Has rules) p → k.measure (path_length k p) ≤ 512_000_000_000
  measure_walk p few drawn =
      let m = measure_path_length k laws rival_limit p (all_drawn (GapAtMost k rival_limit) rules p drawn c.small) (omega arith) in
      omega arith

  pub row_near : (m : ℕ) → m < n → k.measure (position k c.row m) ≤ row_limit
  row_near m l = omega (arith, c.near m l)

  module _ (t : ℕ → ℕ → Option L) (m : ℕ)
      (near : (i j : ℕ) → i < n → j < n → MeasureWithin k 512_000_000_000 (t i j))
      (itself : (i : ℕ) → i < n → t i i ≡ Some k.zero)
      (gaps : (r : Rule L) → Has rules r → AtLeast k (t r.from r.to) r.gap)
      (triangle : (i x j : ℕ) → i < n → x < n → j < n → x < m → (a b : L) → t i x ≡ Some a → t x j ≡ Some b → AtLeast k (t i j) (k.sum a b)) where
    -- No walk over the midpoints is longer than the table says.
    pub walk_within : (p : List (Rule L)) (i j : ℕ) → i < n → j < n → length p ≤ 512 → Every (Has rules) p → Leads i j p → Every (λ v. v < m) (inner_marks p) → AtLeast k (t i j) (path_length k p)
    walk_within [] i j li lj few drawn leads inner = (k.zero, rw (← leads) (itself i li), reflexive k laws k.zero (omega (arith, laws.measure_zero)))
    walk_within (r ∷ []) i j li lj few drawn leads inner =
        let g = gaps r drawn.0 in
        let small = all-has (GapAtMost k rival_limit) rules r c.small drawn.0 in
        (g.0, rw (← leads.0, ← leads.1) g.1, rw (laws.unit r.gap (omega arith)) g.2)
    walk_within (r ∷ (s ∷ p)) i j li lj few drawn leads inner =
        let below = all-has (MarksBelow n) rules r c.marks drawn.0 in
        let x = r.to in
        let rest = walk_within (s ∷ p) x j below.1 lj (omega arith) drawn.1 leads.1 inner.1 in
        let g = gaps r drawn.0 in
        let small = all-has (GapAtMost k rival_limit) rules r c.small drawn.0 in
        let ge : t i x ≡ Some g.0 = ap (λ z. t z x) (sym leads.0) ∙ g.1 in
        let inside : x < m = rw leads.1.0 at inner.0 in
        let o = triangle i x j li below.1 lj inside g.0 rest.0 ge rest.1 in
        let m₁ = near i x li below.1 g.0 ge in
        let m₂ = near x j below.1 lj rest.0 rest.1 in
        let m₃ = near i j li lj o.0 o.1 in
        let m₄ = measure_walk (s ∷ p) (omega arith) drawn.1 in
        let len = path_length k (s ∷ p) in
        (o.0, o.1, laws.transitive (k.sum r.gap len) (k.sum g.0 rest.0) o.0 (omega arith) (sum_at_most k laws r.gap g.0 len rest.0 (omega arith) g.2 rest.2) o.2)

  module _ (m : ℕ) (t : ℕ → ℕ → Option L) (s : Stage k n rules m t) where
    pub stage_measure : (i j : ℕ) → i < n → j < n → (x : L) → t i j ≡ Some x → k.measure x ≤ distance_limit
    stage_measure i j li lj x e =
        let p = s.paths i j li lj x e in
        let few : length p.path ≤ 256 = omega (arith, p.is_path.short, c.few_marks) in
        rw p.length_is at (bounded p.path few (measure_path_length k laws rival_limit p.path (all_drawn (GapAtMost k rival_limit) rules p.path p.is_path.drawn c.small) (omega arith)))
      where
        bounded : (p : List (Rule L)) → length p ≤ 256 → k.measure (path_length k p) ≤ length p * rival_limit → k.measure (path_length k p) ≤ distance_limit
        bounded p few h = omega arith

    -- No walk over the midpoints is longer than the table says.
    pub stage_walk : (p : List (Rule L)) (i j : ℕ) → i < n → j < n → length p ≤ 512 → Every (Has rules) p → Leads i j p → Every (λ v. v < m) (inner_marks p) → AtLeast k (t i j) (path_length k p)
    stage_walk = walk_within t m (λ i j li lj x e. omega (arith, stage_measure i j li lj x e)) s.itself s.gaps s.triangle

  -- With all marks as midpoints the table has the distances.
  pub stage_distances : (t : ℕ → ℕ → Option L) → Stage k n rules n t → Distances k n rules t
  stage_distances t s = record {
    longest = λ i j li lj x e.
        let p = s.paths i j li lj x e in
        record {
          path = p.path;
          is_path = p.is_path;
          length_is = p.length_is;
          most = λ q path.
              let w = whole i j li lj q path in
              rw (same_length (t i j) w.0 x w.1 e) at w.2;
        };
    no_path = λ i j li lj e q path.
        let w = whole i j li lj q path in
        let none = e in
        let some = w.1 in
        let z : ◌≡◌ {A = ℕ} 0 1 = cc in
        omega arith;
  }
    where
      inner_below : (q : List (Rule L)) → Every (Has rules) q → Every (λ v. v < n) (inner_marks q)
      inner_below [] drawn = tt
      inner_below (r ∷ q) drawn = All-map (λ v. v < n) (λ r. r.from) q (All-weaker (MarksBelow n) (λ r. r.from < n) (λ r h. h.0) q (all_drawn (MarksBelow n) rules q drawn.1 c.marks))

      whole : (i j : ℕ) → i < n → j < n → (q : List (Rule L)) → Path n rules i j q → AtLeast k (t i j) (path_length k q)
      whole i j li lj q path = stage_walk n t s q i j li lj (omega (arith, path.short, c.few_marks)) path.drawn path.leads (inner_below q path.drawn)

  -- A table to begin with: each length is zero from a mark to itself or a gap between the two marks, zero is not missing, and no gap is more.
  pub stage_start : (t : ℕ → ℕ → Option L) →
      ((i j : ℕ) → i < n → j < n → (x : L) → t i j ≡ Some x → ((i ≡ j) × (k.zero ≡ x)) ⊎ ((r : Rule L) × Has rules r × (r.from ≡ i) × (r.to ≡ j) × (r.gap ≡ x))) →
      ((i : ℕ) → i < n → AtLeast k (t i i) k.zero) →
      ((r : Rule L) → Has rules r → AtLeast k (t r.from r.to) r.gap) → Stage k n rules 0 t
  stage_start t source least gaps = record {
    paths = λ i j li lj x e. begin i j x (source i j li lj x e);
    itself = λ i li.
        let w = least i li in
        let p = begin i i w.0 (source i i li li w.0 w.1) in
        let few : length p.path ≤ 512 = omega (arith, p.is_path.short, c.few_marks) in
        let m₁ = rw p.length_is at (measure_walk p.path few p.is_path.drawn) in
        let closed = rw p.length_is at (closed_drawn k laws n rival_limit rules c.marks c.small c.row row_near c.keeps p.path i li p.is_path.drawn (omega arith) p.is_path.leads) in
        w.1 ∙ ap Some (laws.antisymmetric w.0 k.zero (omega (arith, laws.measure_zero)) closed w.2);
    gaps = gaps;
    triangle = λ i x j li lx lj none a b ea eb. absurd (omega arith);
  }
    where
      begin : (i j : ℕ) (x : L) → ((i ≡ j) × (k.zero ≡ x)) ⊎ ((r : Rule L) × Has rules r × (r.from ≡ i) × (r.to ≡ j) × (r.gap ≡ x)) → PathOver k n rules 0 i j x
      begin i j x source =
          ⊎_elim
          (λ z. record { path = []; is_path = record { short = omega arith; drawn = tt; leads = z.0 }; length_is = z.1; inner = tt })
          (λ g.
          let small = all-has (GapAtMost k rival_limit) rules g.0 c.small g.1 in
          let some = c.some_marks in
          record { path = g.0 ∷ []; is_path = record { short = omega arith; drawn = (g.1, tt); leads = (g.2, g.3) }; length_is = laws.unit g.0.gap (omega arith) ∙ g.4; inner = tt })
          source

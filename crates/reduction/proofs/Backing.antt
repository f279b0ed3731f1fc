-- Backing: a rule that every placement keeps is backed by a path at least as long.
use Rattle.std.proofs.Common.{◌≡◌, ℕ, ◌+◌, ◌*◌, ◌<◌, ◌≤◌, true, ◌⊎◌, List, map, length, Some, None, Option, refl, ap, ◌∙◌, inl, inr, ⊎_elim, arith}
use Rattle.std.specs.List.{range_with_len, ContainsAt as Has}
use Rattle.std.proofs.lemmas.List.FromFn.{length-map-range_with_len, get_or-map-range_with_len}
use Rattle.std.proofs.ByRecursion.{all-has}
use Rattle.std.proofs.lemmas.Bool.{both_ways}
use Rattle.lengths.specs.Kind.{Kind, Laws, reach}
use Rattle.lengths.proofs.Algebra.{larger, larger_cases, larger_first, larger_second, reflexive, unit_left, monotone_left, exchange_last, exchange_middle, opposite_of_sum, cancel_at_most, from_the_right, to_the_right, measure_difference}
use Rattle.rules.specs.declared.rule.Rule.{Rule}
use Rattle.rules.specs.Rule.{minimum}
use Rattle.graph.specs.Rows.{row_limit, position, Keeps, Placement}
use Rattle.graph.specs.Paths.{path_length, Path}
use Rattle.graph.specs.Rivals.{rival_limit}
use Rattle.graph.specs.Distances.{Distances}
use Rattle.graph.proofs.Membership.{all_from_has}
use Rattle.graph.proofs.Walks.{MarksBelow, GapAtMost}
use Rattle.graph.proofs.Distances.{distance_limit, Consistent, distances_metric, gap_within, distance_measured}
use Rattle.graph.proofs.Layers.{longest_to, layers_distances}

module _ {L : Type 0} (k : Kind L) where
  -- The larger of a length, where it exists, and another.
  unfoldable lifted : Option L → L → L
  lifted None w = w
  lifted (Some x) w = larger k x w

module _ {L : Type 0} (k : Kind L) (laws : Laws k) where
  lifted_cases : (o : Option L) (w : L) → (lifted k o w ≡ w) ⊎ ((y : L) × (o ≡ Some y) × (lifted k o w ≡ y))
  unfolding lifted
  lifted_cases None w = inl refl
  lifted_cases (Some y) w = ⊎_elim (λ e. inr (y, refl, e)) (λ e. inl e) (larger_cases k laws y w)

  lifted_row : (o : Option L) (w : L) → 4 * k.measure w ≤ reach → ((y : L) → o ≡ Some y → k.measure y ≤ distance_limit) → k.at_most w (lifted k o w) ≡ true
  unfolding lifted
  lifted_row None w h near = reflexive k laws w (omega arith)
  lifted_row (Some y) w h near = let my = near y refl in larger_second k laws y w (omega arith)

  lifted_path : (o : Option L) (w y : L) → 4 * k.measure w ≤ reach → k.measure y ≤ distance_limit → o ≡ Some y → k.at_most y (lifted k o w) ≡ true
  unfolding lifted
  lifted_path o w y h my e = rw e (larger_first k laws y w (omega arith))

  -- A length added to both does not change a difference.
  pub difference_shifted : (a b s : L) → 8 * (k.measure a + k.measure b + k.measure s) ≤ reach → k.sum (k.sum a s) (k.opposite (k.sum b s)) ≡ k.sum a (k.opposite b)
  difference_shifted a b s h =
      ap (k.sum (k.sum a s)) (opposite_of_sum k laws b s (omega arith)) ∙ exchange_middle k laws a s (k.opposite b) (k.opposite s) (omega arith)
      ∙ ap (k.sum (k.sum a (k.opposite b))) (laws.inverse s (omega arith)) ∙ laws.unit (k.sum a (k.opposite b)) (omega arith)

module _ {L : Type 0} (k : Kind L) (laws : Laws k) (n : ℕ) (rules : List (Rule L)) (d : ℕ → ℕ → Option L)
    (c : Consistent k n rival_limit rules) (dist : Distances k n rules d) (i : ℕ) (li : i < n) where
  -- The row of the rules, moved so that mark i lies at the opposite of far.
  shift : L
  shift = k.sum (k.opposite (position k c.row i)) (k.opposite k.far)

  moved : ℕ → L
  moved v = k.sum (position k c.row v) shift

  -- Each mark at its distance from i, or where the moved row has it if that is more.
  raised : ℕ → L
  raised v = lifted k (d i v) (moved v)

  -- The same with mark 0 at zero.
  raised_row : List L
  raised_row = map (λ v. k.sum (raised v) (k.opposite (raised 0))) (range_with_len 0 n)

  measure_shift : k.measure shift ≤ 5_000_512_000_000
  unfolding shift
  measure_shift = omega (arith, c.near i li, laws.measure_far)

  measure_moved : (v : ℕ) → v < n → k.measure (moved v) ≤ 5_001_024_000_000
  unfolding moved
  measure_moved v l = omega (arith, c.near v l, measure_shift)

  raised_cases : (v : ℕ) → (raised v ≡ moved v) ⊎ ((y : L) × (d i v ≡ Some y) × (raised v ≡ y))
  unfolding raised
  raised_cases v = lifted_cases k laws (d i v) (moved v)

  measured : (v : ℕ) → v < n → (y : L) → d i v ≡ Some y → k.measure y ≤ distance_limit
  measured v l y e = distance_measured k laws n rules d c dist i v li l y e

  raised_from_row : (v : ℕ) → v < n → k.at_most (moved v) (raised v) ≡ true
  unfolding raised
  raised_from_row v l = lifted_row k laws (d i v) (moved v) (omega (arith, measure_moved v l)) (measured v l)

  raised_from_path : (v : ℕ) → v < n → (y : L) → d i v ≡ Some y → k.at_most y (raised v) ≡ true
  unfolding raised
  raised_from_path v l y e = lifted_path k laws (d i v) (moved v) y (omega (arith, measure_moved v l)) (measured v l y e) e

  measure_raised : (v : ℕ) → v < n → k.measure (raised v) ≤ 5_001_024_000_000
  measure_raised v l = ⊎_elim (λ e. rw e (measure_moved v l)) (λ s. rw s.2 (omega (arith, measured v l s.0 s.1))) (raised_cases v)

  -- Both parts keep each rule, and so does the larger.
  raised_keeps : (r : Rule L) → Has rules r → k.at_most (k.sum (raised r.from) r.gap) (raised r.to) ≡ true
  unfolding moved
  raised_keeps r h =
      let below = all-has (MarksBelow n) rules r c.marks h in
      let small = all-has (GapAtMost k rival_limit) rules r c.small h in
      let kept = all-has (Keeps k c.row) rules r c.keeps h in
      let m = distances_metric k laws n rules d c dist in
      let from = position k c.row r.from in
      let to = position k c.row r.to in
      let nf = c.near r.from below.0 in
      let nt = c.near r.to below.1 in
      let ms = measure_shift in
      let mz = measure_raised r.to below.1 in
      let mw = measure_moved r.to below.1 in
      ⊎_elim
      (λ e. rw (e, exchange_last k laws from shift r.gap (omega arith))
      (laws.transitive (k.sum (k.sum from r.gap) shift) (k.sum to shift) (raised r.to) (omega arith)
      (laws.monotone (k.sum from r.gap) to shift (omega arith) kept) (raised_from_row r.to below.1)))
      (λ s.
      let y = s.0 in
      let my = measured r.from below.0 y s.1 in
      let w = gap_within k laws n rules d c dist r h in
      let mg = distance_measured k laws n rules d c dist r.from r.to below.0 below.1 w.0 w.1 in
      let t = m.triangle i r.from r.to li below.0 below.1 y w.0 s.1 w.1 in
      let mt = measured r.to below.1 t.0 t.1 in
      rw s.2
      (laws.transitive (k.sum y r.gap) (k.sum y w.0) (raised r.to) (omega arith)
      (monotone_left k laws r.gap w.0 y (omega arith) w.2)
      (laws.transitive (k.sum y w.0) t.0 (raised r.to) (omega arith) t.2 (raised_from_path r.to below.1 t.0 t.1))))
      (raised_cases r.from)

  raised_at : (v : ℕ) → v < n → position k raised_row v ≡ k.sum (raised v) (k.opposite (raised 0))
  unfolding raised_row
  raised_at v l = get_or-map-range_with_len (λ v. k.sum (raised v) (k.opposite (raised 0))) 0 n v v k.zero l (omega arith)

  -- Where both marks are as in the moved row, the difference is that of the row.
  measure_raised_row : (v : ℕ) → v < n → k.measure (k.sum (raised v) (k.opposite (raised 0))) ≤ row_limit
  unfolding moved
  measure_raised_row v l =
      let some = c.some_marks in
      let l₀ : 0 < n = omega arith in
      let nv = c.near v l in
      let n₀ = c.near 0 l₀ in
      let mv = measure_moved v l in
      let m₀ = measure_moved 0 l₀ in
      let ms = measure_shift in
      ⊎_elim
      (λ e. ⊎_elim
      (λ e₀. rw (e, e₀, difference_shifted k laws (position k c.row v) (position k c.row 0) shift (omega arith)) (omega arith))
      (λ s₀. let my = measured 0 l₀ s₀.0 s₀.1 in rw (e, s₀.2) (omega (arith, measure_difference k laws (moved v) s₀.0 (omega arith))))
      (raised_cases 0))
      (λ s. let my = measured v l s.0 s.1 in
      ⊎_elim
      (λ e₀. rw (s.2, e₀) (omega (arith, measure_difference k laws s.0 (moved 0) (omega arith))))
      (λ s₀. let my₀ = measured 0 l₀ s₀.0 s₀.1 in rw (s.2, s₀.2) (omega (arith, measure_difference k laws s.0 s₀.0 (omega arith))))
      (raised_cases 0))
      (raised_cases v)

  raised_long : n ≤ length raised_row
  unfolding raised_row
  raised_long = omega (arith, length-map-range_with_len (λ v. k.sum (raised v) (k.opposite (raised 0))) 0 n)

  raised_placement : Placement k n rules raised_row
  raised_placement =
      let some = c.some_marks in
      let l₀ : 0 < n = omega arith in
      let m₀ = measure_raised 0 l₀ in
      record {
        is_row = record {
          long = raised_long;
          border = raised_at 0 l₀ ∙ laws.inverse (raised 0) (omega arith);
          near = λ v l. rw (raised_at v l) (measure_raised_row v l);
        };
        keeps = all_from_has (Keeps k raised_row) rules (λ r h.
            let below = all-has (MarksBelow n) rules r c.marks h in
            let small = all-has (GapAtMost k rival_limit) rules r c.small h in
            let mf = measure_raised r.from below.0 in
            let mt = measure_raised r.to below.1 in
            rw (raised_at r.from below.0, raised_at r.to below.1, exchange_last k laws (raised r.from) (k.opposite (raised 0)) r.gap (omega arith))
            (laws.monotone (k.sum (raised r.from) r.gap) (raised r.to) (k.opposite (raised 0)) (omega arith) (raised_keeps r h)));
      }

  -- That row keeps the rule too, so the rule is no longer than the distance: far is too far for the moved row.
  pub backing_distance : (j : ℕ) → j < n → (g : L) → k.measure g ≤ rival_limit → ((row : List L) → Placement k n rules row → Keeps k row (minimum i j g)) → (y : L) × (d i j ≡ Some y) × (k.at_most g y ≡ true)
  unfolding moved shift
  backing_distance j lj g mg every =
      let some = c.some_marks in
      let l₀ : 0 < n = omega arith in
      let m₀ = measure_raised 0 l₀ in
      let mi = measure_raised i li in
      let mj = measure_raised j lj in
      let pi = position k c.row i in
      let pj = position k c.row j in
      let ni = c.near i li in
      let nj = c.near j lj in
      let mf = laws.measure_far in
      let mz = laws.measure_zero in
      let kept : k.at_most (k.sum (k.sum (raised i) g) (k.opposite (raised 0))) (k.sum (raised j) (k.opposite (raised 0))) ≡ true =
      rw (raised_at i li, raised_at j lj, exchange_last k laws (raised i) (k.opposite (raised 0)) g (omega arith)) at (every raised_row raised_placement) in
      let ahead : k.at_most (k.sum (raised i) g) (raised j) ≡ true = cancel_at_most k laws (k.sum (raised i) g) (raised j) (k.opposite (raised 0)) (omega arith) kept in
      let start : k.at_most k.zero (raised i) ≡ true = raised_from_path i li k.zero ((distances_metric k laws n rules d c dist).itself i li) in
      let least : k.at_most g (k.sum (raised i) g) ≡ true = rw (unit_left k laws g (omega arith)) at (laws.monotone k.zero (raised i) g (omega arith) start) in
      let reached : k.at_most g (raised j) ≡ true = laws.transitive g (k.sum (raised i) g) (raised j) (omega arith) least ahead in
      ⊎_elim
      (λ (e : raised j ≡ moved j).
      let low : k.at_most g (k.sum (k.sum pj (k.opposite pi)) (k.opposite k.far)) ≡ true = rw (laws.associative pj (k.opposite pi) (k.opposite k.far) (omega arith)) (rw e at reached) in
      let sums : k.at_most (k.sum g k.far) (k.sum pj (k.opposite pi)) ≡ true = from_the_right k laws g (k.sum pj (k.opposite pi)) k.far (omega arith) low in
      let turned : k.at_most (k.sum k.far g) (k.sum pj (k.opposite pi)) ≡ true = rw (laws.commutative k.far g (omega arith)) sums in
      absurd (both_ways _ (laws.far_exceeds (k.sum (k.sum pj (k.opposite pi)) (k.opposite g)) (omega arith)) (to_the_right k laws k.far (k.sum pj (k.opposite pi)) g (omega arith) turned)))
      (λ s. (s.0, s.1, rw s.2 at reached))
      (raised_cases j)

-- A rule that every placement of consistent rules keeps is backed by a path of them, at least as long as its gap.
pub backing : {L : Type 0} (k : Kind L) (laws : Laws k) (n : ℕ) (rules : List (Rule L)) → Consistent k n rival_limit rules → (i j : ℕ) (g : L) → i < n → j < n → k.measure g ≤ rival_limit →
    ((row : List L) → Placement k n rules row → Keeps k row (minimum i j g)) → (p : List (Rule L)) × Path n rules i j p × (k.at_most g (path_length k p) ≡ true)
backing k laws n rules c i j g li lj near every =
    let dist = layers_distances k laws n rules c.few_marks c.small in
    let b = backing_distance k laws n rules (λ i j. longest_to k rules j n i) c dist i li j lj g near every in
    let s = dist.longest i j li lj b.0 b.1 in
    (s.path, s.is_path, rw s.length_is b.2)

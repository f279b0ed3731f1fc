-- Distances by midpoints: one mark after another is allowed between the ends of paths.
use Rattle.std.proofs.Common.{◌≡◌, ℕ, zero, suc, ◌<◌, ◌≤◌, true, ◌⊎◌, List, ◌++◌, length, Some, None, Option, sym, refl, ap, ◌∙◌, inl, inr, ⊎_elim, arith}
use Rattle.std.specs.List.{ContainsAt as Has, AllByRecursion as Every}
use Rattle.std.proofs.lemmas.List.{length-append}
use Rattle.std.proofs.ByRecursion.{all-has, All-append, All-weaker}
use Rattle.std.proofs.lemmas.Bool.{cases_eq}
use Rattle.lengths.specs.Kind.{Kind, Laws}
use Rattle.lengths.proofs.Algebra.{reflexive, unit_left, monotone_left}
use Rattle.rules.specs.declared.rule.Rule.{Rule}
use Rattle.graph.specs.Paths.{Leads, path_length}
use Rattle.graph.specs.Rivals.{rival_limit}
use Rattle.graph.specs.Distances.{Distances}
use Rattle.graph.specs.Midpoints.{joint, over, over_all}
use Rattle.graph.proofs.Membership.{all_drawn}
use Rattle.graph.proofs.Walks.{MarksBelow, GapAtMost, path_length_append, leads_append}
use Rattle.graph.proofs.Shortening.{inner_marks, inner_marks_append, closed_drawn, shorten_kept, shortened_path, shortened_inner}
use Rattle.graph.proofs.Distances.{Consistent}
use Rattle.graph.proofs.Ties.{same_length}
use Rattle.graph.proofs.Layers.{AtLeast, MeasureWithin, room, longer_cases, longer_first, longer_second}
use Rattle.graph.proofs.Stages.{PathOver, Stage, measure_walk, row_near, walk_within, stage_measure, stage_distances}

-- Two lengths are the same where one is the other and neither is missing alone.
same_option : {L : Type 0} (u v : Option L) → ((x : L) → u ≡ Some x → v ≡ Some x) → ((y : L) → v ≡ Some y → (x : L) × (u ≡ Some x)) → u ≡ v
same_option None None p q = refl
same_option None (Some y) p q = let w = q y refl in let e : None ≡ Some w.0 = w.1 in cc
same_option (Some x) v p q = sym (p x refl)

module _ {L : Type 0} (k : Kind L) where
  joint_some : (u v : Option L) (x : L) → joint k u v ≡ Some x → (a b : L) × (u ≡ Some a) × (v ≡ Some b) × (k.sum a b ≡ x)
  unfolding joint
  joint_some None v x e = (x, x, e, cc, cc)
  joint_some (Some a) None x e = (a, x, refl, e, cc)
  joint_some (Some a) (Some b) x e = (a, b, refl, refl, same_length (Some (k.sum a b)) (k.sum a b) x refl e)

  joint_from : (u v : Option L) (a b : L) → u ≡ Some a → v ≡ Some b → joint k u v ≡ Some (k.sum a b)
  unfolding joint
  joint_from u v a b p q = rw (p, q)

module _ {L : Type 0} (k : Kind L) (laws : Laws k) (n : ℕ) (rules : List (Rule L)) (c : Consistent k n rival_limit rules) where
  module _ (m : ℕ) (lm : m < n) (t : ℕ → ℕ → Option L) (s : Stage k n rules m t) where
    -- The length over m, where it is the larger, is the sum of two lengths of the table.
    over_cases : (i j : ℕ) (x : L) → over k m t i j ≡ Some x → (t i j ≡ Some x) ⊎ ((a b : L) × (t i m ≡ Some a) × (t m j ≡ Some b) × (k.sum a b ≡ x))
    unfolding over
    over_cases i j x e = ⊎_elim (λ p. inl p) (λ q. inr (joint_some k (t i m) (t m j) x q)) (longer_cases k laws (t i j) (joint k (t i m) (t m j)) x e)

    near_here : (i j : ℕ) → i < n → j < n → MeasureWithin k room (t i j)
    near_here i j li lj x e = omega (arith, stage_measure k laws n rules c m t s i j li lj x e)

    near_joint : (i j : ℕ) → i < n → j < n → MeasureWithin k room (joint k (t i m) (t m j))
    near_joint i j li lj x e =
        let q = joint_some k (t i m) (t m j) x e in
        let m₁ = stage_measure k laws n rules c m t s i m li lm q.0 q.2 in
        let m₂ = stage_measure k laws n rules c m t s m j lm lj q.1 q.3 in
        rw (← q.4) (omega arith)

    -- It is no less than before, and no less than over m.
    over_stays : (i j : ℕ) → i < n → j < n → (y : L) → k.measure y ≤ room → AtLeast k (t i j) y → AtLeast k (over k m t i j) y
    unfolding over
    over_stays i j li lj y my h = longer_first k laws (t i j) (joint k (t i m) (t m j)) y my (near_here i j li lj) (near_joint i j li lj) h

    over_sum : (i j : ℕ) → i < n → j < n → (y a b : L) → k.measure y ≤ room → t i m ≡ Some a → t m j ≡ Some b → k.at_most y (k.sum a b) ≡ true → AtLeast k (over k m t i j) y
    unfolding over
    over_sum i j li lj y a b my ea eb h =
        longer_second k laws (t i j) (joint k (t i m) (t m j)) y my (near_here i j li lj) (near_joint i j li lj) (k.sum a b, joint_from k (t i m) (t m j) a b ea eb, h)

    -- The walk from i to j over m, joined from two paths.
    record Joined (i j : ℕ) (x : L) : Type 0 where
      walk : List (Rule L)
      few : length walk ≤ 512
      drawn : Every (Has rules) walk
      leads : Leads i j walk
      length_is : path_length k walk ≡ x
      inner : Every (λ v. v < suc m) (inner_marks walk)

    join : (i j : ℕ) → i < n → j < n → (a b : L) → t i m ≡ Some a → t m j ≡ Some b → Joined i j (k.sum a b)
    join i j li lj a b ea eb =
        let p = s.paths i m li lm a ea in
        let q = s.paths m j lm lj b eb in
        let sp : length p.path ≤ 256 = omega (arith, p.is_path.short, c.few_marks) in
        let sq : length q.path ≤ 256 = omega (arith, q.is_path.short, c.few_marks) in
        let sums = path_length_append k laws rival_limit p.path q.path (all_drawn (GapAtMost k rival_limit) rules p.path p.is_path.drawn c.small) (all_drawn (GapAtMost k rival_limit) rules q.path q.is_path.drawn c.small) (omega arith) in
        record {
          walk = p.path ++ q.path;
          few = rw (length-append p.path q.path) (omega arith);
          drawn = All-append (Has rules) p.path q.path p.is_path.drawn q.is_path.drawn;
          leads = leads_append p.path q.path i m j p.is_path.leads q.is_path.leads;
          length_is = sums ∙ ap (λ u. k.sum u (path_length k q.path)) p.length_is ∙ ap (k.sum a) q.length_is;
          inner = inner_marks_append (λ v. v < suc m) p.path q.path i m j p.is_path.leads q.is_path.leads
              (All-weaker (λ v. v < m) (λ v. v < suc m) (λ v h. omega arith) (inner_marks p.path) p.inner) (omega arith)
              (All-weaker (λ v. v < m) (λ v. v < suc m) (λ v h. omega arith) (inner_marks q.path) q.inner);
        }

    -- A way there and back is a closed walk.
    closed_over : (i : ℕ) → i < n → (a b : L) → t i m ≡ Some a → t m i ≡ Some b → k.at_most (k.sum a b) k.zero ≡ true
    closed_over i li a b ea eb =
        let w = join i i li li a b ea eb in
        rw w.length_is at (closed_drawn k laws n rival_limit rules c.marks c.small c.row (row_near k laws n rules c) c.keeps w.walk i li w.drawn (omega (arith, w.few)) w.leads)

    over_itself : (i : ℕ) → i < n → over k m t i i ≡ Some k.zero
    over_itself i li =
        let w = over_stays i i li li k.zero (omega (arith, laws.measure_zero)) (k.zero, s.itself i li, reflexive k laws k.zero (omega (arith, laws.measure_zero))) in
        let same : w.0 ≡ k.zero =
        ⊎_elim (λ e. same_length (t i i) w.0 k.zero e (s.itself i li))
        (λ q.
        let m₁ = stage_measure k laws n rules c m t s i m li lm q.0 q.2 in
        let m₂ = stage_measure k laws n rules c m t s m i lm li q.1 q.3 in
        let small : k.measure w.0 ≤ 512_000_000_000 = rw (← q.4) (omega arith) in
        laws.antisymmetric w.0 k.zero (omega (arith, laws.measure_zero)) (rw q.4 at (closed_over i li q.0 q.1 q.2 q.3)) w.2)
        (over_cases i i w.0 w.1) in
        w.1 ∙ ap Some same

    -- Column m and row m stand still.
    pub over_column : (i : ℕ) → i < n → (x : L) → over k m t i m ≡ Some x → t i m ≡ Some x
    over_column i li x e =
        ⊎_elim (λ p. p)
        (λ q.
        let m₁ = stage_measure k laws n rules c m t s i m li lm q.0 q.2 in
        let z = same_length (t m m) q.1 k.zero q.3 (s.itself m lm) in
        q.2 ∙ ap Some (sym (laws.unit q.0 (omega arith)) ∙ ap (k.sum q.0) (sym z) ∙ q.4))
        (over_cases i m x e)

    pub over_row : (j : ℕ) → j < n → (x : L) → over k m t m j ≡ Some x → t m j ≡ Some x
    over_row j lj x e =
        ⊎_elim (λ p. p)
        (λ q.
        let m₁ = stage_measure k laws n rules c m t s m j lm lj q.1 q.3 in
        let z = same_length (t m m) q.0 k.zero q.2 (s.itself m lm) in
        q.3 ∙ ap Some (sym (unit_left k laws q.1 (omega arith)) ∙ ap (λ u. k.sum u q.1) (sym z) ∙ q.4))
        (over_cases m j x e)

    -- So a table may be changed in place.
    pub over_column_same : (i : ℕ) → i < n → over k m t i m ≡ t i m
    over_column_same i li = same_option (over k m t i m) (t i m) (over_column i li)
        (λ a e. let ma = stage_measure k laws n rules c m t s i m li lm a e in let w = over_stays i m li lm a (omega arith) (a, e, reflexive k laws a (omega arith)) in (w.0, w.1))

    pub over_row_same : (j : ℕ) → j < n → over k m t m j ≡ t m j
    over_row_same j lj = same_option (over k m t m j) (t m j) (over_row j lj)
        (λ a e. let ma = stage_measure k laws n rules c m t s m j lm lj a e in let w = over_stays m j lm lj a (omega arith) (a, e, reflexive k laws a (omega arith)) in (w.0, w.1))

    -- The triangle inequality over an earlier midpoint: each side as before, or over m.
    over_earlier : (i x j : ℕ) → i < n → x < n → j < n → x < m → (a b : L) → over k m t i x ≡ Some a → over k m t x j ≡ Some b → AtLeast k (over k m t i j) (k.sum a b)
    over_earlier i x j li lx lj lxm a b ea eb =
        ⊎_elim
        (λ fa. let ma = stage_measure k laws n rules c m t s i x li lx a fa in
        ⊎_elim
        (λ fb. let mb = stage_measure k laws n rules c m t s x j lx lj b fb in over_stays i j li lj (k.sum a b) (omega arith) (s.triangle i x j li lx lj lxm a b fa fb))
        (λ q.
        let o = s.triangle i x m li lx lm lxm a q.0 fa q.2 in
        let m₁ = stage_measure k laws n rules c m t s x m lx lm q.0 q.2 in
        let m₂ = stage_measure k laws n rules c m t s m j lm lj q.1 q.3 in
        let m₃ = stage_measure k laws n rules c m t s i m li lm o.0 o.1 in
        rw (← q.4) (over_sum i j li lj (k.sum a (k.sum q.0 q.1)) o.0 q.1 (omega arith) o.1 q.3
        (rw (← (laws.associative a q.0 q.1 (omega arith))) (laws.monotone (k.sum a q.0) o.0 q.1 (omega arith) o.2))))
        (over_cases x j b eb))
        (λ p.
        let m₁ = stage_measure k laws n rules c m t s i m li lm p.0 p.2 in
        let m₂ = stage_measure k laws n rules c m t s m x lm lx p.1 p.3 in
        ⊎_elim
        (λ fb.
        let mb = stage_measure k laws n rules c m t s x j lx lj b fb in
        let o = s.triangle m x j lm lx lj lxm p.1 b p.3 fb in
        let m₃ = stage_measure k laws n rules c m t s m j lm lj o.0 o.1 in
        rw (← p.4) (over_sum i j li lj (k.sum (k.sum p.0 p.1) b) p.0 o.0 (omega arith) p.2 o.1
        (rw (laws.associative p.0 p.1 b (omega arith)) (monotone_left k laws (k.sum p.1 b) o.0 p.0 (omega arith) o.2))))
        (λ q.
        let m₃ = stage_measure k laws n rules c m t s x m lx lm q.0 q.2 in
        let m₄ = stage_measure k laws n rules c m t s m j lm lj q.1 q.3 in
        let o = s.triangle m x m lm lx lm lxm p.1 q.0 p.3 q.2 in
        let round : k.at_most (k.sum p.1 q.0) k.zero ≡ true = rw (same_length (t m m) o.0 k.zero o.1 (s.itself m lm)) at o.2 in
        let shorter : k.at_most (k.sum p.1 (k.sum q.0 q.1)) q.1 ≡ true =
        rw (← (laws.associative p.1 q.0 q.1 (omega arith))) (rw (unit_left k laws q.1 (omega arith)) at (laws.monotone (k.sum p.1 q.0) k.zero q.1 (omega (arith, laws.measure_zero)) round)) in
        rw (← p.4, ← q.4) (over_sum i j li lj (k.sum (k.sum p.0 p.1) (k.sum q.0 q.1)) p.0 q.1 (omega arith) p.2 q.3
        (rw (laws.associative p.0 p.1 (k.sum q.0 q.1) (omega arith)) (monotone_left k laws (k.sum p.1 (k.sum q.0 q.1)) q.1 p.0 (omega arith) shorter))))
        (over_cases x j b eb))
        (over_cases i x a ea)

    over_triangle : (i x j : ℕ) → i < n → x < n → j < n → x < suc m → (a b : L) → over k m t i x ≡ Some a → over k m t x j ≡ Some b → AtLeast k (over k m t i j) (k.sum a b)
    over_triangle i x j li lx lj lxm a b ea eb =
        ⊎_elim
        (λ (e : x ≡ m).
        let fa = over_column i li a (rw e at ea) in
        let fb = over_row j lj b (rw e at eb) in
        let ma = stage_measure k laws n rules c m t s i m li lm a fa in
        let mb = stage_measure k laws n rules c m t s m j lm lj b fb in
        over_sum i j li lj (k.sum a b) a b (omega arith) fa fb (reflexive k laws (k.sum a b) (omega arith)))
        (λ ne. over_earlier i x j li lx lj (omega arith) a b ea eb)
        (cases_eq x m)

    over_gaps : (r : Rule L) → Has rules r → AtLeast k (over k m t r.from r.to) r.gap
    over_gaps r h =
        let below = all-has (MarksBelow n) rules r c.marks h in
        let small = all-has (GapAtMost k rival_limit) rules r c.small h in
        over_stays r.from r.to below.0 below.1 r.gap (omega arith) (s.gaps r h)

    over_near : (i j : ℕ) → i < n → j < n → MeasureWithin k 512_000_000_000 (over k m t i j)
    over_near i j li lj x e =
        ⊎_elim (λ p. omega (arith, stage_measure k laws n rules c m t s i j li lj x p))
        (λ q.
        let m₁ = stage_measure k laws n rules c m t s i m li lm q.0 q.2 in
        let m₂ = stage_measure k laws n rules c m t s m j lm lj q.1 q.3 in
        rw (← q.4) (omega arith))
        (over_cases i j x e)

    -- The joined walk, shortened, has exactly the length: no walk over these marks has more.
    over_paths : (i j : ℕ) → i < n → j < n → (x : L) → over k m t i j ≡ Some x → PathOver k n rules (suc m) i j x
    over_paths i j li lj x e =
        ⊎_elim
        (λ p.
        let q = s.paths i j li lj x p in
        record { path = q.path; is_path = q.is_path; length_is = q.length_is; inner = All-weaker (λ v. v < m) (λ v. v < suc m) (λ v h. omega arith) (inner_marks q.path) q.inner })
        (λ q.
        let w = join i j li lj q.0 q.1 q.2 q.3 in
        let o = shorten_kept k laws n rival_limit rules c.marks c.small c.row (row_near k laws n rules c) c.keeps w.walk i j li w.drawn (omega (arith, w.few)) w.leads in
        let path = shortened_path k w.walk i j o.0 o.1 n rules li c.marks w.drawn in
        let inner = shortened_inner (λ v. v < suc m) k w.walk i j o.0 o.1 w.leads w.inner in
        let few : length o.0 ≤ 512 = omega (arith, path.short, c.few_marks) in
        let most = walk_within k laws n rules c (over k m t) (suc m) over_near over_itself over_gaps over_triangle o.0 i j li lj few path.drawn path.leads inner in
        let m₁ = measure_walk k laws n rules c o.0 few path.drawn in
        let m₂ = over_near i j li lj x e in
        let above : k.at_most x (path_length k o.0) ≡ true = rw (w.length_is ∙ q.4) at o.1.no_shorter in
        let below : k.at_most (path_length k o.0) x ≡ true = rw (same_length (over k m t i j) most.0 x most.1 e) at most.2 in
        record { path = o.0; is_path = path; length_is = laws.antisymmetric (path_length k o.0) x (omega arith) below above; inner = inner })
        (over_cases i j x e)

    -- One more midpoint.
    pub stage_step : Stage k n rules (suc m) (over k m t)
    stage_step = record { paths = over_paths; itself = over_itself; gaps = over_gaps; triangle = over_triangle }

  -- One midpoint after another, up to all marks.
  pub stage_steps : (t : ℕ → ℕ → Option L) → Stage k n rules 0 t → (m : ℕ) → m ≤ n → Stage k n rules m (over_all k m t)
  unfolding over_all
  stage_steps t s zero l = s
  stage_steps t s (suc m) l = let before = stage_steps t s m (omega arith) in stage_step m (omega arith) (over_all k m t) before

  pub over_all_distances : (t : ℕ → ℕ → Option L) → Stage k n rules 0 t → Distances k n rules (over_all k n t)
  over_all_distances t s = stage_distances k laws n rules c (over_all k n t) (stage_steps t s n (omega arith))

-- Walks: what joining and splitting do to their ends and lengths, and what a row that keeps their rules says.
use Rattle.std.proofs.Common.{◌≡◌, ℕ, ◌+◌, ◌*◌, ◌<◌, ◌≤◌, true, List, [], ◌∷◌, ◌++◌, length, sym, refl, ap, ◌∙◌, mul-le-mul_right, arith}
use Rattle.std.specs.List.{AllByRecursion as Every}
use Rattle.std.proofs.lemmas.Bool.{both_ways}
use Rattle.lengths.specs.Kind.{Kind, Laws}
use Rattle.lengths.proofs.Algebra.{reflexive, unit_left, at_most_zero}
use Rattle.rules.specs.declared.rule.Rule.{Rule}
use Rattle.graph.specs.Rows.{row_limit, position, Keeps}
use Rattle.graph.specs.Paths.{Leads, path_length, PositiveCycle}

-- Both marks of a rule are below n.
abbrev pub MarksBelow : {L : Type 0} → ℕ → Rule L → Type 0
MarksBelow n r = (r.from < n) × (r.to < n)

-- The gap of a rule has a measure of at most g.
abbrev pub GapAtMost : {L : Type 0} → Kind L → ℕ → Rule L → Type 0
GapAtMost k g r = k.measure r.gap ≤ g

-- The largest measure of a walk's length.
abbrev pub walk_limit : ℕ
walk_limit = 4_000_000_000_000

-- A walk of fewer rules stays within the limit.
pub fewer_within : (g a b : ℕ) → a ≤ b → b * g ≤ walk_limit → a * g ≤ walk_limit
fewer_within g a b l h = omega (arith, mul-le-mul_right g l)

module _ {L : Type 0} where
  -- A walk from i to x and one from x to j join to a walk from i to j, and back.
  pub leads_append : (p q : List (Rule L)) (i x j : ℕ) → Leads i x p → Leads x j q → Leads i j (p ++ q)
  leads_append [] q i x j a b = rw a b
  leads_append (r ∷ p) q i x j a b = (a.0, leads_append p q r.to x j a.1 b)

  pub leads_split : (p q : List (Rule L)) (i j : ℕ) → Leads i j (p ++ q) → (x : ℕ) × Leads i x p × Leads x j q
  leads_split [] q i j a = (i, refl, a)
  leads_split (r ∷ p) q i j a = let s = leads_split p q r.to j a.1 in (s.0, (a.0, s.1), s.2)

  -- A walk ends at one mark only.
  pub leads_unique : (p : List (Rule L)) (i x y : ℕ) → Leads i x p → Leads i y p → x ≡ y
  leads_unique [] i x y a b = sym a ∙ b
  leads_unique (r ∷ p) i x y a b = leads_unique p r.to x y a.1 b.1

  -- Where a walk between marks below n starts below n, it ends below n.
  pub leads_below : (n : ℕ) (p : List (Rule L)) (i j : ℕ) → i < n → Every (MarksBelow n) p → Leads i j p → j < n
  leads_below n [] i j l m a = omega arith
  leads_below n (r ∷ p) i j l m a = leads_below n p r.to j m.0.1 m.1 a.1

module _ {L : Type 0} (k : Kind L) (laws : Laws k) (g : ℕ) where
  -- A walk is as long as its gaps together, so of measure at most g for each rule.
  pub measure_path_length : (p : List (Rule L)) → Every (GapAtMost k g) p → length p * g ≤ walk_limit → k.measure (path_length k p) ≤ length p * g
  measure_path_length [] small short = omega arith
  measure_path_length (r ∷ p) small short =
      let rest = measure_path_length p small.1 (omega arith) in
      omega arith

  -- The length of two walks joined is the sum of their lengths.
  pub path_length_append : (p q : List (Rule L)) → Every (GapAtMost k g) p → Every (GapAtMost k g) q → (length p + length q) * g ≤ walk_limit → path_length k (p ++ q) ≡ k.sum (path_length k p) (path_length k q)
  path_length_append [] q small_p small_q short = sym (unit_left k laws (path_length k q) (omega (arith, measure_path_length q small_q (omega arith))))
  path_length_append (r ∷ p) q small_p small_q short =
      let a = measure_path_length p small_p.1 (omega arith) in
      let b = measure_path_length q small_q (omega arith) in
      ap (k.sum r.gap) (path_length_append p q small_p.1 small_q (omega arith))
      ∙ sym (laws.associative r.gap (path_length k p) (path_length k q) (omega arith))

  pub path_length_push : (p : List (Rule L)) (r : Rule L) → Every (GapAtMost k g) p → GapAtMost k g r → (length p + 1) * g ≤ walk_limit → path_length k (p ++ (r ∷ [])) ≡ k.sum (path_length k p) r.gap
  path_length_push p r small_p small_r short =
      path_length_append p (r ∷ []) small_p (small_r, tt) short ∙ ap (k.sum (path_length k p)) (laws.unit r.gap (omega arith))

  module _ (n : ℕ) (row : List L) (near : (m : ℕ) → m < n → k.measure (position k row m) ≤ row_limit) where
    -- Along a walk: a row that keeps the rules of a walk from i to j puts j at least the walk's length beyond i.
    -- The first rule leads at least its gap on, and the others lead on from there.
    pub along_walk : (p : List (Rule L)) (i j : ℕ) → i < n → Every (MarksBelow n) p → Every (GapAtMost k g) p → length p * g ≤ walk_limit → Every (Keeps k row) p → Leads i j p → k.at_most (k.sum (position k row i) (path_length k p)) (position k row j) ≡ true
    along_walk [] i j l marks small short keeps leads =
        let a = near i l in
        let b = near j (omega arith) in
        rw (laws.unit (position k row i) (omega arith), leads) (reflexive k laws (position k row j) (omega arith))
    along_walk (r ∷ p) i j l marks small short keeps leads =
        let a = near i l in
        let b = near r.to marks.0.1 in
        let c = measure_path_length p small.1 (omega arith) in
        let d = near j (leads_below n p r.to j marks.0.1 marks.1 leads.1) in
        let step = rw leads.0 at keeps.0 in
        let rest = along_walk p r.to j marks.0.1 marks.1 small.1 (omega arith) keeps.1 leads.1 in
        let start = position k row i in
        let middle = position k row r.to in
        rw (← (laws.associative start r.gap (path_length k p) (omega arith)))
        (laws.transitive (k.sum (k.sum start r.gap) (path_length k p)) (k.sum middle (path_length k p)) (position k row j) (omega arith)
        (laws.monotone (k.sum start r.gap) middle (path_length k p) (omega arith) step) rest)

    -- A row that keeps the rules of a closed walk shows that its length is at most zero.
    pub closed_walk : (p : List (Rule L)) (i : ℕ) → i < n → Every (MarksBelow n) p → Every (GapAtMost k g) p → length p * g ≤ walk_limit → Every (Keeps k row) p → Leads i i p → k.at_most (path_length k p) k.zero ≡ true
    closed_walk p i l marks small short keeps leads =
        let a = near i l in
        let c = measure_path_length p small (omega arith) in
        at_most_zero k laws (position k row i) (path_length k p) (omega arith) (along_walk p i i l marks small short keeps leads)

    -- No row keeps the rules of a positive cycle: their length would be at most zero.
    pub positive_cycle_unkept : (rules p : List (Rule L)) (i : ℕ) → PositiveCycle k rules i p → Every (MarksBelow n) p → Every (GapAtMost k g) p → length p * g ≤ walk_limit → Every (Keeps k row) p → ⊥
    positive_cycle_unkept rules [] i c marks small short keeps = let s = c.cycle.some in omega arith
    positive_cycle_unkept rules (r ∷ p) i c marks small short keeps =
        let s = c.cycle.leads in
        both_ways _ c.positive (closed_walk (r ∷ p) i (omega arith) marks small short keeps s)

-- Paths of rules, their lengths, the longest, and cycles.
use Rattle.std.specs.Prelude.{◌≡◌, ℕ, ◌<◌, ◌≤◌, true, false, List, [], ◌∷◌, map, length}
use Rattle.std.specs.List.{ContainsAt as Has, AllByRecursion as Every}
use Rattle.lengths.specs.Kind.{Kind}
use Rattle.rules.specs.declared.rule.Rule.{Rule}

-- The rules of p lead from mark i to mark j, each starting where the one before ends.
abbrev pub Leads : {L : Type 0} → ℕ → ℕ → List (Rule L) → Type 0
Leads i j [] = i ≡ j
Leads i j (r ∷ p) = (r.from ≡ i) × Leads r.to j p

-- No mark stands twice in the list.
abbrev pub Apart : List ℕ → Type 0
Apart [] = Unit {0}
Apart (m ∷ ms) = (Has ms m → ⊥) × Apart ms

-- The marks that the rules of p leave, in order.
abbrev pub left_marks : {L : Type 0} → List (Rule L) → List ℕ
left_marks p = map (λ r. r.from) p

-- A path from i to j: at most n of the rules, in a chain.
pub record Path {L : Type 0} (n : ℕ) (rules : List (Rule L)) (i j : ℕ) (p : List (Rule L)) : Type 0 where
  pub short : length p ≤ n
  pub drawn : Every (Has rules) p
  pub leads : Leads i j p

module _ {L : Type 0} (k : Kind L) where
  -- The length of a path is the sum of its gaps.
  abbrev pub path_length : List (Rule L) → L
  path_length [] = k.zero
  path_length (r ∷ p) = k.sum r.gap (path_length p)

  -- x is the longest length of a path from i to j: some path has it, and none has more.
  pub record Longest (n : ℕ) (rules : List (Rule L)) (i j : ℕ) (x : L) : Type 0 where
    pub path : List (Rule L)
    pub is_path : Path n rules i j path
    pub length_is : path_length path ≡ x
    pub most : (p : List (Rule L)) → Path n rules i j p → k.at_most (path_length p) x ≡ true

-- A cycle at mark i: one or more of the rules lead from i back to i, and leave no mark twice.
pub record Cycle {L : Type 0} (rules : List (Rule L)) (i : ℕ) (p : List (Rule L)) : Type 0 where
  pub some : 0 < length p
  pub drawn : Every (Has rules) p
  pub leads : Leads i i p
  pub once : Apart (left_marks p)

-- A cycle is positive when its length is more than zero.
pub record PositiveCycle {L : Type 0} (k : Kind L) (rules : List (Rule L)) (i : ℕ) (p : List (Rule L)) : Type 0 where
  pub cycle : Cycle rules i p
  pub positive : k.at_most (path_length k p) k.zero ≡ false

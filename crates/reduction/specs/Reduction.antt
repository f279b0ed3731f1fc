-- The reduced list of distances: rings of tied marks, then the pairs of leaders that no third leader splits.
use Rattle.std.specs.Prelude.{ℕ, zero, suc, Bool, false, cond, not, ◌&&◌, ◌||◌, List, [], ◌∷◌, ◌++◌, map, is_some, Some, None, filter, Option, ◌==◌, nat_eq}
use Rattle.std.specs.List.{range_with_len, flat_map}
use Rattle.lengths.specs.Kind.{Kind}
use Rattle.rules.specs.declared.rule.Rule.{Rule}
use Rattle.rules.specs.Rule.{minimum}

-- The smallest number below n that passes the test, or n if none does.
unfoldable pub least : (ℕ → Bool) → ℕ → ℕ
least test zero = 0
least test (suc n) = cond (test 0) 0 (suc (least (λ m. test (suc m)) n))

-- Whether some element passes the test.
unfoldable pub any : {X : Type 0} → (X → Bool) → List X → Bool
any test [] = false
any test (x ∷ xs) = test x || any test xs

module _ {L : Type 0} (k : Kind L) where
  -- Whether two lengths are equal.
  unfoldable pub equal : L → L → Bool
  equal x y = k.at_most x y && k.at_most y x

  -- Whether both lengths exist and add up to a third.
  unfoldable pub add_up : Option L → Option L → L → Bool
  add_up None v z = false
  add_up (Some x) None z = false
  add_up (Some x) (Some y) z = equal (k.sum x y) z

  -- Whether the third length exists, and both others do and add up to it.
  unfoldable pub meet : Option L → Option L → Option L → Bool
  meet u v None = false
  meet u v (Some z) = add_up u v z

  -- A distance as a gap.
  unfoldable pub as_gap : Option L → L
  as_gap None = k.zero
  as_gap (Some x) = x

  module _ (d : ℕ → ℕ → Option L) where
    -- Two marks are tied if both distances exist and add to zero.
    unfoldable pub tied : ℕ → ℕ → Bool
    tied i j = add_up (d i j) (d j i) k.zero

    -- The distances from a to c and from c to b exist and add up to the distance from a to b.
    unfoldable pub through : ℕ → ℕ → ℕ → Bool
    through a c b = meet (d a c) (d c b) (d a b)

    -- The leader of a mark is the smallest mark tied to it.
    unfoldable pub leader : ℕ → ℕ
    leader m = least (tied m) m

    -- The rule from mark i to mark j with their distance as gap.
    unfoldable pub distance_rule : ℕ → ℕ → Rule L
    distance_rule i j = minimum i j (as_gap (d i j))

    -- From mark m to the next of the marks, and from the last of them to the first.
    unfoldable pub ring_from : ℕ → ℕ → List ℕ → List (Rule L)
    ring_from first m [] = distance_rule m first ∷ []
    ring_from first m (next ∷ ms) = distance_rule m next ∷ ring_from first next ms

    -- The ring of a group of two or more marks: each to the next, the last to the first.
    unfoldable pub ring : List ℕ → List (Rule L)
    ring [] = []
    ring (m ∷ []) = []
    ring (m ∷ (next ∷ ms)) = ring_from m m (next ∷ ms)

    -- A third mark c splits the pair a, b.
    unfoldable pub splits : ℕ → ℕ → ℕ → Bool
    splits a b c = through a c b && (not (c == a) && not (c == b))

    module _ (n : ℕ) where
      -- The leaders of the groups, rising.
      unfoldable pub leaders : List ℕ
      leaders = filter (λ m. nat_eq (leader m) m) (range_with_len 0 n)

      -- The marks tied to a leader, rising.
      unfoldable pub group : ℕ → List ℕ
      group a = filter (tied a) (range_with_len 0 n)

      -- A pair is listed if its leaders differ, their distance exists, and no third leader splits it.
      unfoldable pub listed : ℕ → ℕ → Bool
      listed a b = not (a == b) && (is_some (d a b) && not (any (splits a b) leaders))

      -- The rules from a leader to others, by rising mark.
      unfoldable pub pairs_from : ℕ → List (Rule L)
      pairs_from a = map (distance_rule a) (filter (listed a) leaders)

      -- The rings by rising leader, then the pairs by from and then to.
      unfoldable pub reduced_list : List (Rule L)
      reduced_list = flat_map (λ a. ring (group a)) leaders ++ flat_map pairs_from leaders

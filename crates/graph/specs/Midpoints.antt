-- Tables of lengths between marks, and what one midpoint after another makes of them.
use Rattle.std.specs.Prelude.{ℕ, zero, suc, cond, Some, None, Option}
use Rattle.lengths.specs.Kind.{Kind}

module _ {L : Type 0} (k : Kind L) where
  -- The larger of two lengths, where they exist.
  unfoldable pub longer : Option L → Option L → Option L
  longer None v = v
  longer (Some x) None = Some x
  longer (Some x) (Some y) = Some (cond (k.at_most x y) y x)

  -- The sum of two lengths, where both exist.
  unfoldable pub joint : Option L → Option L → Option L
  joint None v = None
  joint (Some x) None = None
  joint (Some x) (Some y) = Some (k.sum x y)

  -- One midpoint: the larger of the length so far and the sum over mark m.
  unfoldable pub over : ℕ → (ℕ → ℕ → Option L) → ℕ → ℕ → Option L
  over m t i j = longer (t i j) (joint (t i m) (t m j))

  -- The marks below m as midpoints, one after another.
  unfoldable pub over_all : ℕ → (ℕ → ℕ → Option L) → ℕ → ℕ → Option L
  over_all zero t = t
  over_all (suc m) t = over m (over_all m t)

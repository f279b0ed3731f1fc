-- What every source of rules keeps, and the places of the sources delivered.
use Rattle.std.specs.Prelude.{◌≡◌, ℕ, ◌≤◌, cond, List, ◌++◌, map, length, replicate, Some, None, Option, nat_le}

-- The most places of a source that tells anything.
abbrev pub place_limit : ℕ
place_limit = 8192

-- The places of a source that has more than the limit: one more than the limit, telling nothing.
unfoldable pub too_many : {R : Type 0} → List (Option R)
too_many = replicate 8193 None

-- A source has at most 8,193 places, and one with 8,193 tells nothing anywhere.
pub record Bounded {R : Type 0} (places : List (Option R)) : Type 0 where
  pub most : length places ≤ 8193
  pub silent : length places ≡ 8193 → places ≡ too_many

-- The places themselves where they are few enough, else too many.
abbrev pub limited : {R : Type 0} → List (Option R) → List (Option R)
limited places = cond (nat_le (length places) place_limit) places too_many

-- A listed source has a place for each rule of its slice.
abbrev pub listed_places : {R : Type 0} → List R → List (Option R)
listed_places rules = limited (map Some rules)

-- A joined source has the first one's places, then the second's.
abbrev pub joined_places : {R : Type 0} → List (Option R) → List (Option R) → List (Option R)
joined_places first second = limited (first ++ second)

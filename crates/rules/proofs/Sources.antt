-- What the listed and the joined source tell: how many places, and the rule at each.
use Rattle.std.proofs.Common.{◌≡◌, ℕ, ◌+◌, ◌-◌, ◌<◌, ◌≤◌, min, List, ◌++◌, map, length, get_or, Some, None, Option, sym, ap, ◌∙◌, ⊎_elim, arith, Bor}
use Rattle.std.proofs.lemmas.List.{length-append, length-map, get_or-map, get_or_past, get_or_append_left, get_or-append_right}
use Rattle.std.proofs.lemmas.Bool.{cases_lt}
use Rattle.std.specs.Option.{option_map}
use Rattle.std.specs.Slice.{IsGetResult}
use Rattle.rules.specs.Source.{listed_places, joined_places}
use Rattle.rules.specs.Limited.{length_limited, few_at, many_at}

module _ {R : Type 0} where
  pub length_listed : (xs : List R) → length (listed_places xs) ≡ min (length xs) 8193
  length_listed xs = length_limited (map Some xs) ∙ ap (λ n. min n 8193) (length-map xs Some)

  listed_at : (xs : List R) (i : ℕ) (d : R) → length xs ≤ 8192 → i < length xs → get_or (listed_places xs) i None ≡ Some (get_or xs i d)
  listed_at xs i d h l = few_at (map Some xs) i (omega (arith, length-map {B = Option R} xs Some)) ∙ get_or-map Some xs i d None l

  listed_past : (xs : List R) (i : ℕ) → length xs ≤ i → get_or (listed_places xs) i None ≡ None
  listed_past xs i l =
      ⊎_elim (λ (h : 8192 < length (map Some xs)). many_at (map Some xs) i h)
      (λ (h : length (map Some xs) ≤ 8192). few_at (map Some xs) i h ∙ get_or_past (map Some xs) i None (omega (arith, length-map {B = Option R} xs Some)))
      (cases_lt 8192 (length (map Some xs)))

  -- what a slice gives at an index, if anything, is what the place tells
  pub listed_get : (xs : List R) (i : ℕ) (found : Option (Bor R)) → length xs ≤ 8192 → IsGetResult xs i i found → option_map (λ x. x.now) found ≡ get_or (listed_places xs) i None
  listed_get xs i None h item = sym (listed_past xs i item.3)
  listed_get xs i (Some x) h item = ap Some (item.3.1 x.now) ∙ sym (listed_at xs i x.now h item.3.0)

  pub listed_many : (xs : List R) (i : ℕ) → 8192 < length xs → get_or (listed_places xs) i None ≡ None
  listed_many xs i h = many_at (map Some xs) i (omega (arith, length-map {B = Option R} xs Some))

  pub length_joined : (xs ys : List (Option R)) → length (joined_places xs ys) ≡ min (length xs + length ys) 8193
  length_joined xs ys = length_limited (xs ++ ys) ∙ ap (λ n. min n 8193) (length-append xs ys)

  pub joined_first : (xs ys : List (Option R)) (i : ℕ) → length xs + length ys ≤ 8192 → i < length xs → get_or (joined_places xs ys) i None ≡ get_or xs i None
  joined_first xs ys i h l = few_at (xs ++ ys) i (omega (arith, length-append xs ys)) ∙ get_or_append_left xs ys None i l

  pub joined_second : (xs ys : List (Option R)) (i : ℕ) → length xs + length ys ≤ 8192 → length xs ≤ i → get_or (joined_places xs ys) i None ≡ get_or ys (i - length xs) None
  joined_second xs ys i h l = few_at (xs ++ ys) i (omega (arith, length-append xs ys)) ∙ get_or-append_right xs ys (length xs) i None (omega arith) l

  pub joined_many : (xs ys : List (Option R)) (i : ℕ) → 8192 < length xs + length ys → get_or (joined_places xs ys) i None ≡ None
  joined_many xs ys i h = many_at (xs ++ ys) i (omega (arith, length-append xs ys))

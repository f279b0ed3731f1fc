-- Limited places keep the law of a source: how many there are, and what each tells.
use Rattle.std.specs.Prelude.{◌≡◌, ℕ, ◌<◌, ◌≤◌, min, List, length, get_or, replicate, None, Option, nat_le, slice_index_or, refl}
use Rattle.std.proofs.Common.{ap, ◌∙◌, arith}
use Rattle.std.proofs.Math.Logic.{⊎_elim}
use Rattle.std.proofs.lemmas.List.{length-replicate, get_or-replicate, get_or_past}
use Rattle.std.proofs.lemmas.Bool.{cases_lt, cond-true, cond-false, cond_both, le-leb, lt-leb, leb-true}
use Rattle.rules.specs.Source.{Bounded, limited, too_many, place_limit}

module _ (R : Type 0) where
  pub length_too_many : length (too_many {R = R}) ≡ 8193
  unfolding too_many
  length_too_many = length-replicate {A = Option R} 8193 None

  pub getD_too_many : (i : ℕ) → slice_index_or (too_many {R = R}) i None ≡ None
  unfolding too_many
  getD_too_many i =
      ⊎_elim (λ (l : i < 8193). get_or-replicate 8193 i None None l)
      (λ (l : 8193 ≤ i). get_or_past (replicate 8193 None) i None (rw length-replicate l))
      (cases_lt i 8193)

module _ {R : Type 0} where
  few : (xs : List (Option R)) → length xs ≤ 8192 → limited xs ≡ xs
  few xs h = cond-true (nat_le (length xs) place_limit) xs too_many (le-leb (length xs) place_limit h)

  many : (xs : List (Option R)) → 8192 < length xs → limited xs ≡ too_many
  many xs h = cond-false (nat_le (length xs) place_limit) xs too_many (lt-leb (length xs) place_limit h)

  pub length_limited : (xs : List (Option R)) → length (limited xs) ≡ min (length xs) 8193
  length_limited xs =
      ⊎_elim (λ (h : 8192 < length xs). ap length (many xs h) ∙ length_too_many R ∙ omega arith)
      (λ (h : length xs ≤ 8192). ap length (few xs h) ∙ omega arith)
      (cases_lt 8192 (length xs))

  pub bounded_few : (xs : List (Option R)) → length xs ≤ 8192 → Bounded xs
  bounded_few xs h = record { most = omega arith; silent = λ e. absurd (omega arith) }

  pub bounded_many : Bounded {R = R} too_many
  bounded_many = record { most = omega (arith, length_too_many R); silent = λ e. refl }

  pub bounded_limited : (xs : List (Option R)) → Bounded (limited xs)
  bounded_limited xs =
      cond_both (nat_le (length xs) place_limit) xs too_many Bounded
      (λ h. bounded_few xs (leb-true (length xs) place_limit h)) (λ _. bounded_many)

  pub few_at : (xs : List (Option R)) (i : ℕ) → length xs ≤ 8192 → slice_index_or (limited xs) i None ≡ slice_index_or xs i None
  few_at xs i h = ap (λ (ys : List (Option R)). get_or ys i None) (few xs h)

  pub many_at : (xs : List (Option R)) (i : ℕ) → 8192 < length xs → slice_index_or (limited xs) i None ≡ None
  many_at xs i h = ap (λ (ys : List (Option R)). get_or ys i None) (many xs h) ∙ getD_too_many R i

-- Membership in lists, element by element.
use Rattle.std.proofs.Common.{◌≡◌, ℕ, zero, suc, ◌<◌, ◌⊎◌, List, [], ◌∷◌, ◌++◌, map, length, refl, ap, inl, inr, ⊎_elim, arith}
use Rattle.std.specs.List.{HoldsAt, ContainsAt as Has, AllByRecursion as Every}
use Rattle.std.proofs.ByRecursion.{all-has, All-weaker}

module _ {X : Type 0} where
  pub has_here : (x : X) (xs : List X) → Has (x ∷ xs) x
  has_here x xs = (0, omega arith, λ _. refl)

  pub has_there : (x y : X) (xs : List X) → Has xs y → Has (x ∷ xs) y
  has_there x y xs h = (suc h.0, omega arith, h.2)

  pub has_none : (x : X) → Has [] x → ⊥
  has_none x h = omega arith

  -- What a list has is its first element or in the rest.
  pub has_cases : (x y : X) (xs : List X) → Has (x ∷ xs) y → (x ≡ y) ⊎ Has xs y
  has_cases x y xs h = at_place h.0 h.1 h.2
    where
      at_place : (i : ℕ) → i < length (x ∷ xs) → HoldsAt (λ z. z ≡ y) (x ∷ xs) i → (x ≡ y) ⊎ Has xs y
      at_place zero l e = inl (e x)
      at_place (suc i) l e = inr (i, omega arith, e)

  pub has_append_cases : (xs ys : List X) (x : X) → Has (xs ++ ys) x → Has xs x ⊎ Has ys x
  has_append_cases [] ys x h = inr h
  has_append_cases (y ∷ xs) ys x h =
      ⊎_elim (λ e. inl (0, omega arith, λ _. e))
      (λ m. ⊎_elim (λ l. inl (has_there y x xs l)) (λ r. inr r) (has_append_cases xs ys x m))
      (has_cases y x (xs ++ ys) h)

  pub all_left : (P : X → Type 0) (xs ys : List X) → Every P (xs ++ ys) → Every P xs
  all_left P [] ys a = tt
  all_left P (x ∷ xs) ys a = (a.0, all_left P xs ys a.1)

  pub all_right : (P : X → Type 0) (xs ys : List X) → Every P (xs ++ ys) → Every P ys
  all_right P [] ys a = a
  all_right P (x ∷ xs) ys a = all_right P xs ys a.1

  -- What holds of every element holds of every element drawn from them.
  pub all_drawn : (P : X → Type 0) (xs ys : List X) → Every (Has xs) ys → Every P xs → Every P ys
  all_drawn P xs ys drawn a = All-weaker (Has xs) P (λ y h. all-has P xs y a h) ys drawn

  pub all_from_has : (P : X → Type 0) (xs : List X) → ((x : X) → Has xs x → P x) → Every P xs
  all_from_has P [] h = tt
  all_from_has P (x ∷ xs) h = (h x (has_here x xs), all_from_has P xs (λ y m. h y (has_there x y xs m)))

module _ {X Y : Type 0} (f : X → Y) where
  pub has_map : (xs : List X) (x : X) → Has xs x → Has (map f xs) (f x)
  has_map [] x h = absurd (has_none x h)
  has_map (y ∷ xs) x h =
      ⊎_elim (λ e. (0, omega arith, λ _. ap f e)) (λ m. has_there (f y) (f x) (map f xs) (has_map xs x m)) (has_cases y x xs h)

  pub has_map_source : (xs : List X) (y : Y) → Has (map f xs) y → (x : X) × Has xs x × (f x ≡ y)
  has_map_source [] y h = absurd (has_none y h)
  has_map_source (x ∷ xs) y h =
      ⊎_elim (λ e. (x, has_here x xs, e))
      (λ m. let s = has_map_source xs y m in (s.0, has_there x s.0 xs s.1, s.2))
      (has_cases (f x) y (map f xs) h)

-- Lists made by selecting, counting and joining: what they have, no repetition, and how many elements.
use Rattle.std.proofs.Common.{◌≡◌, ℕ, zero, suc, ◌+◌, ◌<◌, ◌≤◌, Bool, true, false, List, [], ◌∷◌, ◌++◌, map, length, filter, sym, refl, ap, ◌∙◌, ⊎_elim, arith}
use Rattle.std.specs.List.{range_with_len, ContainsAt as Has, flat_map, AllByRecursion as Every}
use Rattle.std.proofs.lemmas.List.{length-append}
use Rattle.std.proofs.ByRecursion.{All-append, has_append_left, has_append_right}
use Rattle.std.proofs.lemmas.Bool.{cond_both, both_ways, or_cases, or_parts, cases_eq}
use Rattle.reduction.specs.Reduction.{any}
use Rattle.graph.proofs.Membership.{has_here, has_there, has_none, has_cases, has_append_cases, has_map_source, all_left, all_right}
use Rattle.graph.proofs.Pigeonhole.{Distinct}

module _ {X : Type 0} (p : X → Bool) where
  -- A selection has the elements that pass the test.
  pub has_kept_by : (xs : List X) (x : X) → Has xs x → p x ≡ true → Has (filter p xs) x
  has_kept_by [] x h e = absurd (has_none x h)
  has_kept_by (y ∷ xs) x h e =
      cond_both (p y) (y ∷ filter p xs) (filter p xs) (λ zs. Has zs x)
      (λ _. ⊎_elim (λ q. (0, omega arith, λ _. q)) (λ m. has_there y x (filter p xs) (has_kept_by xs x m e)) (has_cases y x xs h))
      (λ f. ⊎_elim (λ q. absurd (both_ways (p x) (rw q at f) e)) (λ m. has_kept_by xs x m e) (has_cases y x xs h))

  pub kept_by_has : (xs : List X) (x : X) → Has (filter p xs) x → Has xs x × (p x ≡ true)
  kept_by_has [] x h = absurd (has_none x h)
  kept_by_has (y ∷ xs) x h =
      let later : Has (filter p xs) x → Has (y ∷ xs) x × (p x ≡ true) = λ h. let r = kept_by_has xs x h in (has_there y x xs r.0, r.1) in
      cond_both (p y) (y ∷ filter p xs) (filter p xs) (λ zs. Has zs x → Has (y ∷ xs) x × (p x ≡ true))
      (λ e i. ⊎_elim (λ (q : y ≡ x). ((0, omega arith, λ _. q), rw q at e)) later (has_cases y x (filter p xs) i))
      (λ _. later) h

  pub distinct_kept_by : (xs : List X) → Distinct xs → Distinct (filter p xs)
  distinct_kept_by [] distinct = tt
  distinct_kept_by (y ∷ xs) distinct =
      let rest = distinct_kept_by xs distinct.1 in
      cond_both (p y) (y ∷ filter p xs) (filter p xs) Distinct (λ _. (λ h. distinct.0 (kept_by_has xs y h).0, rest)) (λ _. rest)

  -- Some element passes the test, or none does.
  pub any_true : (xs : List X) → any p xs ≡ true → (x : X) × Has xs x × (p x ≡ true)
  unfolding any
  any_true [] e = absurd (both_ways false refl e)
  any_true (y ∷ xs) e =
      ⊎_elim (λ h. (y, has_here y xs, h)) (λ h. let r = any_true xs h in (r.0, has_there y r.0 xs r.1, r.2)) (or_cases (p y) (any p xs) e)

  pub any_false : (xs : List X) (x : X) → any p xs ≡ false → Has xs x → p x ≡ true → ⊥
  unfolding any
  any_false [] x e h t = has_none x h
  any_false (y ∷ xs) x e h t =
      let parts = or_parts (p y) (any p xs) e in
      ⊎_elim (λ q. both_ways (p y) parts.0 (rw q t)) (λ m. any_false xs x parts.1 m t) (has_cases y x xs h)

module _ {X : Type 0} (p q : X → Bool) where
  -- A weaker test selects at least as many, and more if it passes an element that the other does not.
  pub kept_by_more : (xs : List X) → ((x : X) → Has xs x → p x ≡ true → q x ≡ true) → length (filter p xs) ≤ length (filter q xs)
  kept_by_more [] weaker = omega arith
  kept_by_more (y ∷ xs) weaker =
      let rest = kept_by_more xs (λ x h. weaker x (has_there y x xs h)) in
      cond_both (p y) (y ∷ filter p xs) (filter p xs) (λ zs. length zs ≤ length (filter q (y ∷ xs)))
      (λ e. rw (weaker y (has_here y xs) e) (omega arith))
      (λ _. cond_both (q y) (y ∷ filter q xs) (filter q xs) (λ zs. length (filter p xs) ≤ length zs) (λ _. omega arith) (λ _. rest))

  pub kept_by_strictly_more : (xs : List X) (z : X) → ((x : X) → Has xs x → p x ≡ true → q x ≡ true) → Has xs z → p z ≡ false → q z ≡ true → length (filter p xs) < length (filter q xs)
  kept_by_strictly_more [] z weaker h no_p yes_q = absurd (has_none z h)
  kept_by_strictly_more (y ∷ xs) z weaker h no_p yes_q =
      let later : Has xs z → length (filter p xs) < length (filter q xs) = λ m. kept_by_strictly_more xs z (λ x i. weaker x (has_there y x xs i)) m no_p yes_q in
      let least = kept_by_more xs (λ x i. weaker x (has_there y x xs i)) in
      ⊎_elim
      (λ (e : y ≡ z).
      let not_here : p y ≡ false = ap p e ∙ no_p in
      let here : q y ≡ true = ap q e ∙ yes_q in
      rw (not_here, here) (omega arith))
      (λ m. let strict = later m in
      cond_both (p y) (y ∷ filter p xs) (filter p xs) (λ zs. length zs < length (filter q (y ∷ xs)))
      (λ e. rw (weaker y (has_here y xs) e) (omega arith))
      (λ _. cond_both (q y) (y ∷ filter q xs) (filter q xs) (λ zs. length (filter p xs) < length zs) (λ _. omega arith) (λ _. strict)))
      (has_cases y z xs h)

-- The numbers counted from a.
pub has_counting : (a n m : ℕ) → a ≤ m → m < a + n → Has (range_with_len a n) m
has_counting a zero m l h = absurd (omega arith)
has_counting a (suc n) m l h = ⊎_elim (λ (e : a ≡ m). (0, omega arith, λ _. e)) (λ ne. has_there a m (range_with_len (a + 1) n) (has_counting (a + 1) n m (omega arith) (omega arith))) (cases_eq a m)

pub counting_has : (a n m : ℕ) → Has (range_with_len a n) m → (a ≤ m) × (m < a + n)
counting_has a zero m h = absurd (has_none m h)
counting_has a (suc n) m h = ⊎_elim (λ (e : a ≡ m). (omega arith, omega arith)) (λ t. let r = counting_has (a + 1) n m t in (omega arith, omega arith)) (has_cases a m (range_with_len (a + 1) n) h)

pub distinct_counting : (a n : ℕ) → Distinct (range_with_len a n)
distinct_counting a zero = tt
distinct_counting a (suc n) = (λ h. let r = counting_has (a + 1) n a h in omega arith, distinct_counting (a + 1) n)

module _ {X : Type 0} where
  -- Lists without repetition that share no element join without repetition.
  pub distinct_append : (xs ys : List X) → Distinct xs → Distinct ys → ((x : X) → Has xs x → Has ys x → ⊥) → Distinct (xs ++ ys)
  distinct_append [] ys a b apart = b
  distinct_append (x ∷ xs) ys a b apart = (
    λ h. ⊎_elim a.0 (λ r. apart x (has_here x xs) r) (has_append_cases xs ys x h),
    distinct_append xs ys a.1 b (λ y l r. apart y (has_there x y xs l) r),
  )

module _ {X Y : Type 0} (f : X → Y) where
  -- A map that keeps elements apart keeps a list without repetition.
  pub distinct_map : (xs : List X) → ((x y : X) → f x ≡ f y → x ≡ y) → Distinct xs → Distinct (map f xs)
  distinct_map [] one_one distinct = tt
  distinct_map (x ∷ xs) one_one distinct = (
    λ h. let s = has_map_source f xs (f x) h in distinct.0 (rw (one_one s.0 x s.2) at s.1),
    distinct_map xs one_one distinct.1,
  )

module _ {X Z : Type 0} (f : X → List Z) where
  -- Joined lists have what each of them has.
  pub has_joined : (xs : List X) (x : X) (z : Z) → Has xs x → Has (f x) z → Has (flat_map f xs) z
  has_joined [] x z h i = absurd (has_none x h)
  has_joined (y ∷ xs) x z h i =
      ⊎_elim (λ e. has_append_left (f y) (flat_map f xs) z (rw e i)) (λ m. has_append_right (f y) (flat_map f xs) z (has_joined xs x z m i)) (has_cases y x xs h)

  pub joined_has : (xs : List X) (z : Z) → Has (flat_map f xs) z → (x : X) × Has xs x × Has (f x) z
  joined_has [] z h = absurd (has_none z h)
  joined_has (y ∷ xs) z h =
      ⊎_elim (λ l. (y, has_here y xs, l)) (λ r. let s = joined_has xs z r in (s.0, has_there y s.0 xs s.1, s.2)) (has_append_cases (f y) (flat_map f xs) z h)

  -- What holds of all joined elements holds of each list's.
  pub all_joined : (P : Z → Type 0) (xs : List X) (x : X) → Every P (flat_map f xs) → Has xs x → Every P (f x)
  all_joined P [] x a h = absurd (has_none x h)
  all_joined P (y ∷ xs) x a h =
      ⊎_elim (λ e. rw (← e) (all_left P (f y) (flat_map f xs) a)) (λ m. all_joined P xs x (all_right P (f y) (flat_map f xs) a) m) (has_cases y x xs h)

  pub all_joined_from : (P : Z → Type 0) (xs : List X) → ((x : X) → Has xs x → Every P (f x)) → Every P (flat_map f xs)
  all_joined_from P [] each = tt
  all_joined_from P (y ∷ xs) each = All-append P (f y) (flat_map f xs) (each y (has_here y xs)) (all_joined_from P xs (λ x h. each x (has_there y x xs h)))

  -- Where each element tells from which list it comes, lists without repetition join to one without repetition.
  pub distinct_joined : (g : Z → X) (xs : List X) → Distinct xs → ((x : X) → Has xs x → Distinct (f x)) → ((x : X) (z : Z) → Has xs x → Has (f x) z → g z ≡ x) → Distinct (flat_map f xs)
  distinct_joined g [] distinct each tells = tt
  distinct_joined g (y ∷ xs) distinct each tells =
      distinct_append (f y) (flat_map f xs) (each y (has_here y xs))
      (distinct_joined g xs distinct.1 (λ x h. each x (has_there y x xs h)) (λ x z h i. tells x z (has_there y x xs h) i))
      (λ z l r. let s = joined_has xs z r in
      distinct.0 (rw (sym (tells s.0 z (has_there y s.0 xs s.1) s.2) ∙ tells y z (has_here y xs) l) at s.1))

-- Lists of the same lengths join to lists of the same length.
pub length_joined_same : {X Y Z : Type 0} (f : X → List Y) (g : X → List Z) → ((x : X) → length (f x) ≡ length (g x)) → (xs : List X) → length (flat_map f xs) ≡ length (flat_map g xs)
length_joined_same f g same [] = refl
length_joined_same f g same (x ∷ xs) =
    let rest = length_joined_same f g same xs in
    omega (arith, same x, length-append (f x) (flat_map f xs), length-append (g x) (flat_map g xs))

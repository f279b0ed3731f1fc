-- The pigeonhole principle: lists without repetition are short, and long lists repeat an element.
use Rattle.std.proofs.Common.{◌≡◌, ℕ, zero, suc, ◌+◌, ◌<◌, ◌≤◌, ◌⊎◌, List, [], ◌∷◌, ◌++◌, length, get_or, sym, refl, ap, ◌∙◌, inl, inr, ⊎_elim, arith}
use Rattle.std.specs.List.{ContainsAt as Has, AllByRecursion as Every}
use Rattle.std.proofs.lemmas.List.{append_assoc, length-append, get_or_at}
use Rattle.std.proofs.ByRecursion.{all-has, All-weaker, has_append_left, has_append_right}
use Rattle.std.proofs.lemmas.Bool.{cases_eq}
use Rattle.graph.specs.Paths.{Apart}
use Rattle.graph.proofs.Membership.{has_there, has_none, has_cases, has_append_cases, all_from_has}

-- No element stands twice in the list.
abbrev pub Distinct : {X : Type 0} → List X → Type 0
Distinct [] = Unit {0}
Distinct (x ∷ xs) = (Has xs x → ⊥) × Distinct xs

-- An element stands at two places of the list.
pub record Repeats {X : Type 0} (xs : List X) : Type 0 where
  pub element : X
  pub before : List X
  pub between : List X
  pub after : List X
  pub is : xs ≡ before ++ (element ∷ (between ++ (element ∷ after)))

module _ {X : Type 0} where
  -- A list that has x splits at x.
  pub has_split : (xs : List X) (x : X) → Has xs x → (before after : List X) × (xs ≡ before ++ (x ∷ after))
  has_split [] x h = absurd (has_none x h)
  has_split (y ∷ xs) x h =
      ⊎_elim (λ e. ([], xs, ap (λ z. z ∷ xs) e))
      (λ m. let s = has_split xs x m in (y ∷ s.0, s.1, ap (λ zs. y ∷ zs) s.2))
      (has_cases y x xs h)

  -- A list without repetition whose elements all occur in another is no longer than it: take the first element out of both.
  pub distinct_no_longer : (xs ys : List X) → Distinct xs → Every (Has ys) xs → length xs ≤ length ys
  distinct_no_longer [] ys distinct drawn = omega arith
  distinct_no_longer (x ∷ xs) ys distinct drawn =
      let split = has_split ys x drawn.0 in
      let before = split.0 in
      let after = split.1 in
      let outside : (y : X) → Has xs y → Has (before ++ after) y =
      λ y m. ⊎_elim (λ l. has_append_left before after y l)
      (λ r. ⊎_elim (λ e. absurd (distinct.0 (rw e m))) (λ t. has_append_right before after y t) (has_cases x y after r))
      (has_append_cases before (x ∷ after) y (rw split.2 at (all-has (Has ys) xs y drawn.1 m))) in
      let rest = distinct_no_longer xs (before ++ after) distinct.1 (all_from_has (Has (before ++ after)) xs outside) in
      omega (arith, ap length split.2, length-append before (x ∷ after), length-append before after)

-- The numbers below n.
numbers_below : ℕ → List ℕ
numbers_below zero = []
numbers_below (suc n) = n ∷ numbers_below n

length_numbers_below : (n : ℕ) → length (numbers_below n) ≡ n
unfolding numbers_below
length_numbers_below zero = refl
length_numbers_below (suc n) = ap suc (length_numbers_below n)

has_numbers_below : (n m : ℕ) → m < n → Has (numbers_below n) m
unfolding numbers_below
has_numbers_below zero m l = absurd (omega arith)
has_numbers_below (suc n) m l =
    ⊎_elim (λ (e : n ≡ m). (0, omega arith, λ _. e)) (λ ne. has_there n m (numbers_below n) (has_numbers_below n m (omega arith))) (cases_eq n m)

pub distinct_from_apart : (ms : List ℕ) → Apart ms → Distinct ms
distinct_from_apart [] a = tt
distinct_from_apart (m ∷ ms) a = (a.0, distinct_from_apart ms a.1)

-- Parts of a list without repetition have none, and share no element.
pub apart_left : (ms ks : List ℕ) → Apart (ms ++ ks) → Apart ms
apart_left [] ks a = tt
apart_left (m ∷ ms) ks a = (λ h. a.0 (has_append_left ms ks m h), apart_left ms ks a.1)

pub apart_right : (ms ks : List ℕ) → Apart (ms ++ ks) → Apart ks
apart_right [] ks a = a
apart_right (m ∷ ms) ks a = apart_right ms ks a.1

pub apart_disjoint : (ms ks : List ℕ) (x : ℕ) → Apart (ms ++ ks) → Has ms x → Has ks x → ⊥
apart_disjoint [] ks x a h t = has_none x h
apart_disjoint (m ∷ ms) ks x a h t =
    ⊎_elim (λ e. a.0 (has_append_right ms ks m (rw e t))) (λ i. apart_disjoint ms ks x a.1 i t) (has_cases m x ms h)

-- A list of numbers below n in which none stands twice has at most n of them.
pub apart_no_longer : (n : ℕ) (ms : List ℕ) → Apart ms → Every (λ m. m < n) ms → length ms ≤ n
apart_no_longer n ms apart below =
    omega (arith, length_numbers_below n, distinct_no_longer ms (numbers_below n) (distinct_from_apart ms apart) (All-weaker (λ m. m < n) (Has (numbers_below n)) (λ m l. has_numbers_below n m l) ms below))

-- Whether a list of numbers has one is decided place by place.
pub cases_has : (ms : List ℕ) (m : ℕ) → Has ms m ⊎ (Has ms m → ⊥)
cases_has [] m = inr (has_none m)
cases_has (x ∷ ms) m =
    ⊎_elim (λ e. inl (0, omega arith, λ _. e))
    (λ ne. ⊎_elim (λ h. inl (has_there x m ms h)) (λ no. inr (λ h. ⊎_elim ne no (has_cases x m ms h))) (cases_has ms m))
    (cases_eq x m)

-- A list of numbers has a repetition or has none.
pub cases_repeats : (ms : List ℕ) → Repeats ms ⊎ Apart ms
cases_repeats [] = inr tt
cases_repeats (m ∷ ms) =
    ⊎_elim (λ h. let s = has_split ms m h in inl (record { element = m; before = []; between = s.0; after = s.1; is = ap (λ zs. m ∷ zs) s.2 }))
    (λ ne. ⊎_elim (λ r. inl (record { element = r.element; before = m ∷ r.before; between = r.between; after = r.after; is = ap (λ zs. m ∷ zs) r.is }))
    (λ a. inr (ne, a)) (cases_repeats ms))
    (cases_has ms m)

-- A list of more than n numbers below n repeats one: else it would have at most n.
pub pigeonhole : (n : ℕ) (ms : List ℕ) → Every (λ m. m < n) ms → n < length ms → Repeats ms
pigeonhole n ms below long = ⊎_elim (λ r. r) (λ a. absurd (omega (arith, apart_no_longer n ms a below))) (cases_repeats ms)

-- The two places of a repetition.
pub repeats_places : {X : Type 0} (xs : List X) → Repeats xs → (a b : ℕ) × (a < b) × (b < length xs) × ((d : X) → get_or xs a d ≡ get_or xs b d)
repeats_places {X} xs r =
    let x = r.element in
    let head = r.before ++ (x ∷ r.between) in
    let regrouped : xs ≡ head ++ (x ∷ r.after) = r.is ∙ sym (append_assoc r.before (x ∷ r.between) (x ∷ r.after)) in
    let first : (d : X) → get_or xs (length r.before) d ≡ x = λ d. ap (λ zs. get_or zs (length r.before) d) r.is ∙ get_or_at r.before x (r.between ++ (x ∷ r.after)) d (length r.before) refl in
    let second : (d : X) → get_or xs (length head) d ≡ x = λ d. ap (λ zs. get_or zs (length head) d) regrouped ∙ get_or_at head x r.after d (length head) refl in (
      length r.before,
      length head,
      omega (arith, length-append r.before (x ∷ r.between)),
      omega (arith, ap length regrouped, length-append head (x ∷ r.after)),
      λ d. first d ∙ sym (second d),
    )

-- The first n values of a function.
values : (ℕ → ℕ) → ℕ → List ℕ
values f zero = []
values f (suc n) = f 0 ∷ values (λ i. f (suc i)) n

length_values : (f : ℕ → ℕ) (n : ℕ) → length (values f n) ≡ n
unfolding values
length_values f zero = refl
length_values f (suc n) = ap suc (length_values (λ i. f (suc i)) n)

getD_values : (f : ℕ → ℕ) (n i d : ℕ) → i < n → get_or (values f n) i d ≡ f i
unfolding values
getD_values f zero i d l = absurd (omega arith)
getD_values f (suc n) zero d l = refl
getD_values f (suc n) (suc i) d l = getD_values (λ i. f (suc i)) n i d (omega arith)

all_values : (P : ℕ → Type 0) (f : ℕ → ℕ) (n : ℕ) → ((i : ℕ) → i < n → P (f i)) → Every P (values f n)
unfolding values
all_values P f zero h = tt
all_values P f (suc n) h = (h 0 (omega arith), all_values P (λ i. f (suc i)) n (λ i l. h (suc i) (omega arith)))

-- A function from 0, …, n to the numbers below n takes one value twice.
pub pigeonhole_function : (n : ℕ) (f : ℕ → ℕ) → ((i : ℕ) → i ≤ n → f i < n) → (a b : ℕ) × (a < b) × (b ≤ n) × (f a ≡ f b)
pigeonhole_function n f below =
    let ms = values f (n + 1) in
    let counted = length_values f (n + 1) in
    let s = repeats_places ms (pigeonhole n ms (all_values (λ m. m < n) f (n + 1) (λ i l. below i (omega arith))) (omega arith)) in
    (s.0, s.1, s.2, omega arith, sym (getD_values f (n + 1) s.0 0 (omega arith)) ∙ s.4 0 ∙ getD_values f (n + 1) s.1 0 (omega arith))

-- What is told of distances in a table: ties, splits and leaders.
use Rattle.std.proofs.Common.{nat_lt, MatchOption, ◌≡◌, ℕ, ◌<◌, ◌≤◌, Bool, true, false, not, ◌&&◌, ◌||◌, eqb, List, [], ◌∷◌, Some, None, Option, sym, refl, ap, ◌∙◌, ⊎_elim, arith}
use Rattle.std.specs.List.{range_with_len, list_any}
use Rattle.std.specs.Option.{option_zip, unwrap_or}
use Rattle.std.proofs.lemmas.Bool.{lt-ltb, both_ways, eq-eqb, ne_eqb, cases_lt, cases_Bool}
use Rattle.lengths.specs.Kind.{Kind}
use Rattle.graph.specs.Distances.{table_distance}
use Rattle.reduction.specs.Reduction.{any, as_gap, least, equal, add_up, meet, tied, leader}
use Rattle.reduction.specs.Listing.{leads}
use Rattle.reduction.proofs.Selections.{any_true, any_false, has_counting, counting_has}
use Rattle.reduction.proofs.Leaders.{least_within, least_passes, least_first}

any_is : {X : Type 0} (test : X → Bool) (xs : List X) → list_any test xs ≡ any test xs
unfolding any
any_is test [] = refl
any_is test (x ∷ xs) = ap (λ (b : Bool). test x || b) (any_is test xs)

-- The smallest number below m that passes is m exactly where none does.
none_below : (test : ℕ → Bool) (m : ℕ) → not (any test (range_with_len 0 m)) ≡ eqb (least test m) m
none_below test m =
    let below = range_with_len 0 m in
    let within = least_within test m in
    ⊎_elim
    (λ (t : any test below ≡ true).
    let s = any_true test below t in
    let l = counting_has 0 m s.0 s.1 in
    rw t (sym (ne_eqb (least test m) m (λ (same : least test m ≡ m). both_ways (test s.0) (least_first test m s.0 (omega arith)) s.2))))
    (λ (f : any test below ≡ false).
    rw f (sym (eq-eqb (least test m) m (⊎_elim (λ (l : least test m < m). absurd (any_false test below (least test m) f (has_counting 0 m (least test m) (omega arith) (omega arith)) (least_passes test m l))) (λ (l : m ≤ least test m). omega arith) (cases_lt (least test m) m)))))
    (cases_Bool (any test below))

module _ {L : Type 0} (k : Kind L) where
  -- A distance as a gap.
  pub gap_told : (o : Option L) (z : L) → z ≡ k.zero → unwrap_or o z ≡ as_gap k o
  unfolding as_gap
  gap_told None z e = e
  gap_told (Some x) z e = refl

  -- What a test says of two lengths that both exist, or of a third that does
  pub told_sum : (u v : Option L) (z : L) (r : Bool) (P : L × L → Type 0) → ((x y : L) → P (x, y) → r ≡ equal k (k.sum x y) z) → MatchOption (option_zip u v) (r ≡ false) P → r ≡ add_up k u v z
  unfolding add_up
  told_sum None v z r P each h = h
  told_sum (Some x) None z r P each h = h
  told_sum (Some x) (Some y) z r P each h = each x y h

  pub told_whole : (u v w : Option L) (r : Bool) (P : L → Type 0) → ((z : L) → P z → r ≡ add_up k u v z) → MatchOption w (r ≡ false) P → r ≡ meet k u v w
  unfolding meet
  told_whole u v None r P each h = h
  told_whole u v (Some z) r P each h = each z h

  -- A mark leads unless it is tied to a smaller one
  pub told_leads : (n : ℕ) (table : List L) (m : ℕ) (r : Bool) → r ≡ list_any (tied k (table_distance k table n) m) (range_with_len 0 m) → m < n → not r ≡ (nat_lt m n && leads k n table m)
  unfolding leader
  told_leads n table m r e l =
      let test = tied k (table_distance k table n) m in
      rw (lt-ltb m n l) (ap not (e ∙ any_is test (range_with_len 0 m)) ∙ none_below test m)

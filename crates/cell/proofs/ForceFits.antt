-- The rules in force fit the cell, and have numbers above 0.
use Rattle.std.proofs.Common.{◌≡◌, ℕ, zero, suc, ◌+◌, ◌-◌, ◌<◌, ◌≤◌, Bool, true, false, cond, ◌&&◌, leb, List, [], ◌∷◌, ◌++◌, length, get_or, is_ok, Some, None, Ok, Option, refl, ap, arith}
use Rattle.std.specs.List.{range_with_len, AllByRecursion as Every}
use Rattle.std.proofs.ByRecursion.{All-append, All-map, All-weaker, has_append_left}
use Rattle.std.proofs.lemmas.List.FromFn.{get_or-map-range_with_len, length-map-range_with_len}
use Rattle.std.proofs.lemmas.Bool.{and_from, le-leb}
use Rattle.lengths.specs.Kind.{Kind, Laws}
use Rattle.rules.specs.Rule.{rule_check}
use Rattle.rules.specs.declared.rule.Rule.{Rule}
use Rattle.graph.proofs.Membership.{has_map}
use Rattle.graph.specs.Packing.{Bordered}
use Rattle.graph.specs.Ready.{all_fit, sound}
use Rattle.graph.specs.Trial.{marks_below}
use Rattle.graph.specs.declared.numbered.Numbered.{Numbered}
use Rattle.cell.specs.Force.{book_rules, boundary_rule, boundary_rules, in_force, place_rules, places_check, source_check}
use Rattle.cell.specs.declared.record.Record.{Record}
use Rattle.cell.proofs.Gathering.{both_fit}

all_counting : (a c : ℕ) → Every (λ m. (a ≤ m) × (m < a + c)) (range_with_len a c)
all_counting a zero = tt
all_counting a (suc c) = ((omega arith, omega arith), All-weaker (λ m. (a + 1 ≤ m) × (m < a + 1 + c)) (λ m. (a ≤ m) × (m < a + suc c)) (λ m h. (omega arith, omega arith)) (range_with_len (a + 1) c) (all_counting (a + 1) c))

module _ {L : Type 0} (k : Kind L) (n : ℕ) where
  -- a numbered rule whose rule fits
  abbrev pub Fit : Numbered L → Type 0
  Fit q = is_ok (rule_check k n q.rule) ≡ true

  boundary_fits : Laws k → (m : ℕ) → (1 ≤ m) × (m < n) → Fit (boundary_rule k n m)
  boundary_fits laws m h = let z = laws.measure_zero in grind arith

  all_boundary : Laws k → 1 ≤ n → Every Fit (boundary_rules k n)
  all_boundary laws some =
      All-map Fit (boundary_rule k n) (range_with_len 1 (n - 1))
      (All-weaker (λ m. (1 ≤ m) × (m < 1 + (n - 1))) (λ m. Fit (boundary_rule k n m)) (λ m h. boundary_fits laws m (h.0, omega arith)) (range_with_len 1 (n - 1)) (all_counting 1 (n - 1)))

  kept_fits : (b : Bool) (q : Numbered L) (rest : List (Numbered L)) → (b ≡ true → Fit q) → Every Fit rest → Every Fit (cond b (q ∷ rest) rest)
  kept_fits true q rest good all = (good refl, all)
  kept_fits false q rest good all = all

  all_book : (book : List (Record L)) → Every Fit (book_rules k n book)
  all_book [] = tt
  all_book (r ∷ book) = kept_fits (is_ok (rule_check k n r.rule)) (record { number = r.tag; rule = r.rule }) (book_rules k n book) (λ e. e) (all_book book)

  all_places : (p : ℕ) (places : List (Option (Rule L))) → places_check k n p places ≡ Ok tt → Every Fit (place_rules k n p places)
  all_places p [] ok = tt
  all_places p (None ∷ places) ok = all_places (p + 1) places ok
  all_places p (Some r ∷ places) ok =
      let both = both_fit k n p (rule_check k n r) (places_check k n (p + 1) places) ok in
      (ap is_ok both.0, all_places (p + 1) places both.1)

  source_places : (places : List (Option (Rule L))) → source_check k n places ≡ Ok tt → places_check k n 0 places ≡ Ok tt
  source_places places ok = grind arith

  -- every rule in force fits the cell
  pub force_fits : Laws k → 1 ≤ n → (book : List (Record L)) (places : List (Option (Rule L))) → source_check k n places ≡ Ok tt → Every Fit (in_force k n book places)
  force_fits laws some book places ok =
      All-append Fit (boundary_rules k n ++ book_rules k n book) (place_rules k n 0 places)
      (All-append Fit (boundary_rules k n) (book_rules k n book) (all_boundary laws some) (all_book book))
      (all_places 0 places (source_places places ok))

  -- so its marks are below the number of marks
  pub fit_marks : (rules : List (Numbered L)) → Every Fit rules → marks_below n rules ≡ true
  fit_marks [] all = refl
  fit_marks (q ∷ rules) all = and_from _ (marks_below n rules) (grind arith) (fit_marks rules all.1)

  kept_positive : (b : Bool) (q : Numbered L) (rest : List (Numbered L)) → 0 < q.number → Every (λ x. 0 < x.number) rest → Every (λ x. 0 < x.number) (cond b (q ∷ rest) rest)
  kept_positive true q rest h all = (h, all)
  kept_positive false q rest h all = all

  book_positive : (book : List (Record L)) → ((i : ℕ) (d : Record L) → i < length book → (get_or book i d).tag ≡ 0 → ⊥) → Every (λ q. 0 < q.number) (book_rules k n book)
  book_positive [] tagged = tt
  book_positive (r ∷ book) tagged =
      let first : r.tag ≡ 0 → ⊥ = tagged 0 r (omega arith) in
      kept_positive (is_ok (rule_check k n r.rule)) (record { number = r.tag; rule = r.rule }) (book_rules k n book) (omega arith)
      (book_positive book (λ i d h. tagged (suc i) d (omega arith)))

  places_positive : (p : ℕ) (places : List (Option (Rule L))) → Every (λ q. 0 < q.number) (place_rules k n p places)
  places_positive p [] = tt
  places_positive p (None ∷ places) = places_positive (p + 1) places
  places_positive p (Some r ∷ places) = (omega arith, places_positive (p + 1) places)

  -- the numbers of the rules in force are above 0
  pub force_positive : (book : List (Record L)) (places : List (Option (Rule L))) → ((i : ℕ) (d : Record L) → i < length book → (get_or book i d).tag ≡ 0 → ⊥) →
      Every (λ q. 0 < q.number) (in_force k n book places)
  force_positive book places tagged =
      All-append (λ q. 0 < q.number) (boundary_rules k n ++ book_rules k n book) (place_rules k n 0 places)
      (All-append (λ q. 0 < q.number) (boundary_rules k n) (book_rules k n book)
      (All-map (λ q. 0 < q.number) (boundary_rule k n) (range_with_len 1 (n - 1)) (All-weaker (λ m. (1 ≤ m) × (m < 1 + (n - 1))) (λ m. 0 < 70_000 + m) (λ m h. omega arith) (range_with_len 1 (n - 1)) (all_counting 1 (n - 1))))
      (book_positive book tagged))
      (places_positive 0 places)

  fit_all : (rules : List (Numbered L)) → Every Fit rules → all_fit k n rules ≡ true
  fit_all [] all = refl
  fit_all (q ∷ rules) all = and_from (is_ok (rule_check k n q.rule)) (all_fit k n rules) all.0 (fit_all rules all.1)

  -- the rules in force are sound
  pub force_sound : Laws k → 1 ≤ n → n ≤ 256 → (book : List (Record L)) (places : List (Option (Rule L))) → source_check k n places ≡ Ok tt → length (in_force k n book places) ≤ 12543 →
      sound k n (in_force k n book places) ≡ true
  force_sound laws some few book places ok counted =
      let rules = in_force k n book places in
      and_from (leb 1 n) (leb n 256 && (leb (length rules) 12543 && all_fit k n rules)) (le-leb 1 n some)
      (and_from (leb n 256) (leb (length rules) 12543 && all_fit k n rules) (le-leb n 256 few)
      (and_from (leb (length rules) 12543) (all_fit k n rules) (le-leb (length rules) 12543 counted) (fit_all rules (force_fits laws some book places ok))))

  -- every mark from 1 up has its boundary rule among them
  pub force_bordered : (book : List (Record L)) (places : List (Option (Rule L))) → Bordered k n (in_force k n book places)
  force_bordered book places m h l =
      has_map (λ (q : Numbered L). q.rule) (in_force k n book places) (boundary_rule k n m)
      (has_append_left (boundary_rules k n ++ book_rules k n book) (place_rules k n 0 places) (boundary_rule k n m)
      (has_append_left (boundary_rules k n) (book_rules k n book) (boundary_rule k n m)
      (m - 1, omega (arith, length-map-range_with_len (boundary_rule k n) 1 (n - 1)), λ d. get_or-map-range_with_len (boundary_rule k n) 1 (n - 1) (m - 1) m d (omega arith) (omega arith))))

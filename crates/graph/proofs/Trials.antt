-- A trial answers the smallest number of a broken rule.
use Rattle.std.proofs.Common.{◌≡◌, ℕ, ◌+◌, ◌<◌, ◌≤◌, min, true, false, cond, ◌&&◌, ltb, leb, ◌⊎◌, List, [], ◌∷◌, length, get_or, drop, Some, None, Ok, Option, sym, refl, ap, ◌∙◌, inl, inr, ⊎_elim, arith}
use Rattle.std.specs.List.{ContainsAt as Has, AllByRecursion as Every}
use Rattle.std.proofs.lemmas.List.{at_drop_more, at_drop_all}
use Rattle.std.proofs.ByRecursion.{all-has, All-get_or}
use Rattle.std.proofs.lemmas.Bool.{both_ways, cases_Bool, cases_lt, cond-true, and_parts, and_from, ltb-true, le-leb}
use Rattle.lengths.specs.Kind.{Kind}
use Rattle.graph.specs.declared.numbered.Numbered.{Numbered}
use Rattle.graph.specs.Rows.{position, Keeps}
use Rattle.graph.specs.Listed.{plain}
use Rattle.graph.specs.Trial.{marks_below, least, breaks, smallest, triable, SmallestBroken, Tried}
use Rattle.graph.proofs.Membership.{has_here, has_there, has_none, has_cases, has_map}

-- What the test says of every rule.
pub all_marks_below : {L : Type 0} (n : ℕ) (rules : List (Numbered L)) → marks_below n rules ≡ true → Every (λ q. (q.rule.from < n) × (q.rule.to < n)) rules
all_marks_below n [] h = tt
all_marks_below n (q ∷ rules) h =
    let parts = and_parts (ltb q.rule.from n && ltb q.rule.to n) (marks_below n rules) h in
    let both = and_parts (ltb q.rule.from n) (ltb q.rule.to n) parts.0 in
    ((ltb-true q.rule.from n both.0, ltb-true q.rule.to n both.1), all_marks_below n rules parts.1)

-- The rule read at an index has its marks below n.
pub read_marks_below : {L : Type 0} (n : ℕ) (rules : List (Numbered L)) (i : ℕ) (q : Numbered L) → i < length rules → q ≡ get_or rules i q → true ≡ marks_below n rules → (q.rule.from < n) × (q.rule.to < n)
read_marks_below {L} n rules i q l is h =
    rw (← is) at (All-get_or (λ (x : Numbered L). (x.rule.from < n) × (x.rule.to < n)) rules i q l (all_marks_below n rules (sym h)))

module _ {L : Type 0} (k : Kind L) (row : List L) where
  -- One more rule, broken or not.
  pub smallest_more : (rules : List (Numbered L)) (i : ℕ) (q : Numbered L) (so_far : Option ℕ) → i < length rules → q ≡ get_or rules i q → smallest k row so_far (drop i rules) ≡ smallest k row (cond (breaks k row q.rule) (Some (least so_far q.number)) so_far) (drop (i + 1) rules)
  smallest_more rules i q so_far l is =
      let e : smallest k row so_far (drop i rules) ≡ smallest k row so_far (get_or rules i q ∷ drop (i + 1) rules) = at_drop_more (smallest k row so_far) rules i q l in
      e ∙ ap (λ (x : Numbered L). smallest k row so_far (x ∷ drop (i + 1) rules)) (sym is)

  -- A step of the loop: a broken rule puts its number among those compared.
  pub smallest_broken : (rules : List (Numbered L)) (i : ℕ) (q : Numbered L) (so_far after whole : Option ℕ) (m : ℕ) → i < length rules → q ≡ get_or rules i q → smallest k row so_far (drop i rules) ≡ whole → true ≡ breaks k row q.rule → m ≡ least so_far q.number → after ≡ Some m → smallest k row after (drop (i + 1) rules) ≡ whole
  smallest_broken rules i q so_far after whole m l is inv breaks_it number is_after =
      let more = rw (← breaks_it) at (smallest_more rules i q so_far l is) in
      rw (is_after, number) (sym more ∙ inv)

  pub smallest_unbroken : (rules : List (Numbered L)) (i : ℕ) (q : Numbered L) (so_far after whole : Option ℕ) → i < length rules → q ≡ get_or rules i q → smallest k row so_far (drop i rules) ≡ whole → false ≡ breaks k row q.rule → after ≡ so_far → smallest k row after (drop (i + 1) rules) ≡ whole
  smallest_unbroken rules i q so_far after whole l is inv keeps_it is_after =
      let more = rw (← keeps_it) at (smallest_more rules i q so_far l is) in
      rw is_after (sym more ∙ inv)

  -- What a smallest number is, for a list read on from a smallest so far.
  pub Best : (so_far : Option ℕ) (rules : List (Numbered L)) → Option ℕ → Type 0
  Best so_far rules None = (so_far ≡ None) × Every (Keeps k row) (plain rules)
  Best so_far rules (Some m) =
      ((so_far ≡ Some m) ⊎ ((q : Numbered L) × Has rules q × (Keeps k row q.rule → ⊥) × (q.number ≡ m)))
      × ((s : ℕ) → so_far ≡ Some s → m ≤ s)
      × ((q : Numbered L) → Has rules q → (Keeps k row q.rule → ⊥) → m ≤ q.number)

  -- One rule read, then the rest.
  best_unbroken : (so_far : Option ℕ) (q : Numbered L) (rules : List (Numbered L)) (b : Option ℕ) → Keeps k row q.rule → Best so_far rules b → Best so_far (q ∷ rules) b
  unfolding Best
  best_unbroken so_far q rules None keeps h = (h.0, (keeps, h.1))
  best_unbroken so_far q rules (Some m) keeps h = (
    ⊎_elim (λ e. inl e) (λ s. inr (s.0, has_there q s.0 rules s.1, s.2, s.3)) h.0,
    h.1,
    λ s has unkept. ⊎_elim (λ e. absurd (unkept (rw (← e) keeps))) (λ t. h.2 s t unkept) (has_cases q s rules has),
  )

  best_broken : (so_far : Option ℕ) (q : Numbered L) (rules : List (Numbered L)) (b : Option ℕ) → (Keeps k row q.rule → ⊥) → Best (Some (least so_far q.number)) rules b → Best so_far (q ∷ rules) b
  unfolding Best
  best_broken so_far q rules None unkept h = let e = h.0 in let z : ◌≡◌ {A = ℕ} 0 1 = cc in absurd (omega arith)
  best_broken None q rules (Some m) unkept h = (
    ⊎_elim (λ e. inr (q, has_here q rules, unkept, (cc))) (λ s. inr (s.0, has_there q s.0 rules s.1, s.2, s.3)) h.0,
    (λ s e. let z : ◌≡◌ {A = ℕ} 0 1 = cc in absurd (omega arith)),
    λ s has ns. ⊎_elim (λ e. let b : m ≤ q.number = h.1 q.number refl in rw (← e) b) (λ t. h.2 s t ns) (has_cases q s rules has),
  )
  best_broken (Some l) q rules (Some m) unkept h =
      let b : m ≤ min l q.number = h.1 (min l q.number) refl in (
        ⊎_elim (λ e. which e (cases_lt l q.number)) (λ s. inr (s.0, has_there q s.0 rules s.1, s.2, s.3)) h.0,
        (λ s e. let z : l ≡ s = cc in omega arith),
        λ s has ns. ⊎_elim (λ e. let b2 : m ≤ q.number = omega arith in rw (← e) b2) (λ t. h.2 s t ns) (has_cases q s rules has),
      )
    where
      which : Some (min l q.number) ≡ Some m → (l < q.number) ⊎ (q.number ≤ l) → (Some l ≡ Some m) ⊎ ((s : Numbered L) × Has (q ∷ rules) s × (Keeps k row s.rule → ⊥) × (s.number ≡ m))
      which e (inl lower) = let f : min l q.number ≡ l = omega arith in inl (ap Some (sym f) ∙ e)
      which e (inr upper) = let f : min l q.number ≡ q.number = omega arith in let d : min l q.number ≡ m = cc in inr (q, has_here q rules, unkept, sym f ∙ d)

  -- The fold finds the smallest.
  pub smallest_best : (so_far : Option ℕ) (rules : List (Numbered L)) → Best so_far rules (smallest k row so_far rules)
  unfolding Best
  smallest_best None [] = (refl, tt)
  smallest_best (Some m) [] = (inl refl, (λ s e. let z : m ≡ s = cc in omega arith), λ q has. absurd (has_none q has))
  smallest_best so_far (q ∷ rules) =
      ⊎_elim
      (λ (e : k.at_most (k.sum (position k row q.rule.from) q.rule.gap) (position k row q.rule.to) ≡ true).
      rw e (best_unbroken so_far q rules (smallest k row so_far rules) e (smallest_best so_far rules)))
      (λ (e : k.at_most (k.sum (position k row q.rule.from) q.rule.gap) (position k row q.rule.to) ≡ false).
      rw e (best_broken so_far q rules (smallest k row (Some (least so_far q.number)) rules) (λ t. both_ways _ e t) (smallest_best (Some (least so_far q.number)) rules)))
      (cases_Bool (k.at_most (k.sum (position k row q.rule.from) q.rule.gap) (position k row q.rule.to)))

  -- A list whose rules are all kept has no broken rule.
  kept_rule : (rules : List (Numbered L)) (q : Numbered L) → Every (Keeps k row) (plain rules) → Has rules q → Keeps k row q.rule
  kept_rule rules q keeps has = all-has (Keeps k row) (plain rules) q.rule keeps (has_map (λ (x : Numbered L). x.rule) rules q has)

  -- The best of a whole list, in words.
  best_none : (rules : List (Numbered L)) (b : Option ℕ) → Best None rules b → b ≡ None → Every (Keeps k row) (plain rules)
  unfolding Best
  best_none rules None h e = h.1
  best_none rules (Some m) h e = let z : ◌≡◌ {A = ℕ} 0 1 = cc in absurd (omega arith)

  best_kept : (rules : List (Numbered L)) (b : Option ℕ) → Best None rules b → Every (Keeps k row) (plain rules) → b ≡ None
  unfolding Best
  best_kept rules None h keeps = refl
  best_kept rules (Some m) h keeps = ⊎_elim (λ e. let z : ◌≡◌ {A = ℕ} 0 1 = cc in absurd (omega arith)) (λ s. absurd (s.2 (kept_rule rules s.0 keeps s.1))) h.0

  best_some : (rules : List (Numbered L)) (m : ℕ) → Best None rules (Some m) → SmallestBroken k rules row m
  unfolding Best
  best_some rules m h =
      ⊎_elim (λ e. let z : ◌≡◌ {A = ℕ} 0 1 = cc in absurd (omega arith))
      (λ s. record { broken = s.0; listed = s.1; unkept = s.2; numbered = s.3; smallest_of = h.2 }) h.0

  -- A trial that can be made.
  pub tried : (n : ℕ) (rules : List (Numbered L)) → triable n rules row ≡ true → Tried k n rules row (Ok (smallest k row None rules))
  tried n rules fit =
      let best = smallest_best None rules in
      let found = smallest k row None rules in
      record {
        is = sym (cond-true (triable n rules row) _ _ fit);
        kept_none = λ _ keeps. ap Ok (best_kept rules found best keeps);
        none_kept = λ e. best_none rules found best (cc);
        broken = λ m e. let same : found ≡ Some m = cc in best_some rules m (rw same at best);
      }

  -- The end of the loop: all rules are read.
  pub tried_all : (n : ℕ) (rules : List (Numbered L)) (i : ℕ) (found : Option ℕ) → n ≤ length row → true ≡ marks_below n rules → length rules ≤ i → smallest k row found (drop i rules) ≡ smallest k row None rules → Tried k n rules row (Ok found)
  tried_all n rules i found long below all inv =
      let end : found ≡ smallest k row None rules = sym (at_drop_all (smallest k row found) rules i all) ∙ inv in
      rw end (tried n rules (and_from (leb n (length row)) (marks_below n rules) (le-leb n (length row) long) (sym below)))

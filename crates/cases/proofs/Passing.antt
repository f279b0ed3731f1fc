-- What passing each part of the test of a worked case says.
use Rattle.std.proofs.Common.{◌≡◌, ℕ, zero, suc, ◌<◌, ◌≤◌, Bool, true, false, not, ◌&&◌, eqb, leb, List, [], ◌∷◌, ◌++◌, map, is_ok, Some, None, Ok, Err, filter, Option, Result, sym, refl, ap, ◌∙◌, ⊎_elim, arith}
use Rattle.std.specs.List.{ContainsAt as Has, AllByRecursion as Every}
use Rattle.std.proofs.ByRecursion.{All-append, all-has, all_has_itself, all_kept_by}
use Rattle.std.proofs.lemmas.List.{append_assoc, append-nil}
use Rattle.std.proofs.lemmas.Bool.{and_parts, both_ways, cases_eq, cond-true, eqb-true, eqb-false, leb-true, not-true}
use Rattle.lengths.specs.Kind.{Kind, Laws}
use Rattle.rules.specs.Rule.{minimum}
use Rattle.rules.specs.declared.rule.Rule.{Rule}
use Rattle.graph.specs.Paths.{Leads, Apart}
use Rattle.graph.specs.Rows.{row_limit}
use Rattle.graph.specs.declared.numbered.Numbered.{Numbered}
use Rattle.cell.specs.Calls.{entered, entry_check, marks_check}
use Rattle.run.specs.Course.{after_from}
use Rattle.run.specs.declared.turn.Call.TheVariants.{Enter}
use Rattle.cell.specs.declared.record.Record.{Record}
use Rattle.cases.proofs.Testing.{every_below, every, alike, answers, apart, leads_to, same, same_some, same_rule, all_accepted, chosen}

module _ (test : ℕ → Bool) where
  pub every_below_at : (n : ℕ) → every_below test n ≡ true → (m : ℕ) → m < n → test m ≡ true
  every_below_at zero h m l = absurd (omega arith)
  every_below_at (suc n) h m l =
      let parts = and_parts (test n) (every_below test n) h in
      ⊎_elim (λ (e : m ≡ n). ap test e ∙ parts.0) (λ (e : m ≡ n → ⊥). every_below_at n parts.1 m (omega arith)) (cases_eq m n)

module _ {X : Type 0} where
  pub every_all : (test : X → Bool) (xs : List X) → every test xs ≡ true → Every (λ x. test x ≡ true) xs
  every_all test [] h = tt
  every_all test (x ∷ xs) h = let parts = and_parts (test x) (every test xs) h in (parts.0, every_all test xs parts.1)

  pub alike_same : (test : X → X → Bool) → ((x y : X) → test x y ≡ true → x ≡ y) → (xs ys : List X) → alike test xs ys ≡ true → xs ≡ ys
  alike_same test tells [] [] h = refl
  alike_same test tells [] (y ∷ ys) h = absurd (both_ways false refl h)
  alike_same test tells (x ∷ xs) [] h = absurd (both_ways false refl h)
  alike_same test tells (x ∷ xs) (y ∷ ys) h =
      let parts = and_parts (test x y) (alike test xs ys) h in
      let first = tells x y parts.0 in
      let rest = alike_same test tells xs ys parts.1 in
      cc

module _ {E : Type 0} where
  pub ok_unit : (r : Result (Unit {0}) E) → is_ok r ≡ true → r ≡ Ok tt
  ok_unit (Ok u) h = refl
  ok_unit (Err e) h = absurd (both_ways false refl h)

  pub answers_ok : (r : Result ℕ E) (number : ℕ) → answers r number ≡ true → r ≡ Ok number
  answers_ok (Ok m) number h = ap Ok (eqb-true m number h)
  answers_ok (Err e) number h = absurd (both_ways false refl h)

pub marks_some : (n : ℕ) → is_ok (marks_check n) ≡ true → 1 ≤ n
marks_some n h = grind arith

pub marks_few : (n : ℕ) → is_ok (marks_check n) ≡ true → n ≤ 256
marks_few n h = grind arith

pub apart_marks : (ms : List ℕ) → apart ms ≡ true → Apart ms
apart_marks [] h = tt
apart_marks (m ∷ ms) h =
    let parts = and_parts (every (λ x. not (eqb x m)) ms) (apart ms) h in
    (λ has. eqb-false m m (not-true (eqb m m) (all-has (λ x. not (eqb x m) ≡ true) ms m (every_all (λ x. not (eqb x m)) ms parts.0) has)) refl, apart_marks ms parts.1)

module _ {L : Type 0} where
  pub leads_marks : (i j : ℕ) (p : List (Rule L)) → leads_to i j p ≡ true → Leads i j p
  leads_marks i j [] h = eqb-true i j h
  leads_marks i j (r ∷ p) h =
      let parts = and_parts (eqb r.from i) (leads_to r.to j p) h in
      (eqb-true r.from i parts.0, leads_marks r.to j p parts.1)

module _ {L : Type 0} (k : Kind L) where
  -- The rules chosen by their numbers are among the rules.
  pub chosen_drawn : (rules : List (Numbered L)) (shown : List ℕ) → Every (Has rules) (chosen k rules shown)
  chosen_drawn rules [] = tt
  chosen_drawn rules (m ∷ shown) =
      All-append (Has rules) (filter (λ q. eqb q.number m) rules) (chosen k rules shown)
      (all_kept_by (λ q. eqb q.number m) (Has rules) rules (all_has_itself rules)) (chosen_drawn rules shown)

  -- Where all entries are accepted, the book has them all.
  pub accepted_from : (n : ℕ) (book entries : List (Record L)) → all_accepted k n book entries ≡ true → after_from k n 16 book (map (λ r. Enter r.tag r.rule) entries) ≡ book ++ entries
  accepted_from n book [] h = sym (append-nil book)
  accepted_from n book (r ∷ entries) h =
      let ok = is_ok (entry_check k n 16 book r.tag r.rule) in
      let next = entered k n 16 book r.tag r.rule in
      let parts = and_parts ok (all_accepted k n next entries) h in
      let is : next ≡ book ++ r ∷ [] = cond-true ok (book ++ r ∷ []) book parts.0 in
      accepted_from n next entries parts.1 ∙ ap (λ (b : List (Record L)). b ++ entries) is ∙ append_assoc book (r ∷ []) entries

  module _ (laws : Laws k) where
    -- Near lengths of which each is at most the other are the same.
    pub same_is : (x y : L) → same k x y ≡ true → x ≡ y
    same_is x y h =
        let a = and_parts (leb (k.measure x) row_limit) (leb (k.measure y) row_limit && (k.at_most x y && k.at_most y x)) h in
        let b = and_parts (leb (k.measure y) row_limit) (k.at_most x y && k.at_most y x) a.1 in
        let c = and_parts (k.at_most x y) (k.at_most y x) b.1 in
        laws.antisymmetric x y (omega (arith, leb-true (k.measure x) row_limit a.0, leb-true (k.measure y) row_limit b.0)) c.0 c.1

    pub same_some_is : (o : Option L) (y : L) → same_some k o y ≡ true → o ≡ Some y
    same_some_is None y h = absurd (both_ways false refl h)
    same_some_is (Some x) y h = ap Some (same_is x y h)

    pub same_rule_is : (r s : Rule L) → same_rule k r s ≡ true → r ≡ s
    same_rule_is r s h =
        let a = and_parts (eqb r.from s.from) (eqb r.to s.to && same k r.gap s.gap) h in
        let b = and_parts (eqb r.to s.to) (same k r.gap s.gap) a.1 in
        let from = eqb-true r.from s.from a.0 in
        let to = eqb-true r.to s.to b.0 in
        let gap = same_is r.gap s.gap b.1 in
        ap (λ i. minimum i r.to r.gap) from ∙ ap (λ j. minimum s.from j r.gap) to ∙ ap (minimum s.from s.to) gap

-- Gathering the rules in force: one rule more at each step.
use Rattle.std.proofs.Common.{◌≡◌, ℕ, ◌+◌, ◌<◌, ◌≤◌, Bool, ltb, true, false, cond, List, [], ◌∷◌, ◌++◌, length, get_or, take, drop, is_ok, Some, None, Ok, Err, Option, Result, sym, refl, ap, ◌∙◌, add-zero, arith}
use Rattle.std.proofs.lemmas.List.{append_assoc, append-nil, drop_more, length-take, take-append-drop, take_more}
use Rattle.std.proofs.lemmas.Bool.{cond-true, cond-false, le-ltb}
use Rattle.lengths.specs.Kind.{Kind}
use Rattle.rules.specs.Rule.{rule_check}
use Rattle.rules.specs.declared.fault.RuleFault.{RuleFault}
use Rattle.rules.specs.declared.rule.Rule.{Rule}
use Rattle.graph.specs.declared.numbered.Numbered.{Numbered}
use Rattle.cell.specs.Force.{book_rules, place_rules, places_check, source_check, unfit_place}
use Rattle.faults.specs.declared.fault.SourceFault.{SourceFault}
use Rattle.faults.specs.declared.fault.SourceFault.TheVariants.{TooManyPlaces, UnfitPlace}
use Rattle.cell.specs.declared.record.Record.{Record}

module _ {L : Type 0} (k : Kind L) (n : ℕ) where
  pub both_fit : (p : ℕ) (a : Result (Unit {0}) RuleFault) (rest : Result (Unit {0}) SourceFault) → unfit_place k n p a rest ≡ Ok tt → (a ≡ Ok tt) × (rest ≡ Ok tt)
  both_fit p (Ok _) rest e = (refl, e)
  both_fit p (Err cause) rest e = absurd (let z : ◌≡◌ {A = ℕ} 0 1 = cc in omega arith)

  kept_append : (b : Bool) (x : Numbered L) (xs ys : List (Numbered L)) → cond b (x ∷ (xs ++ ys)) (xs ++ ys) ≡ cond b (x ∷ xs) xs ++ ys
  kept_append true x xs ys = refl
  kept_append false x xs ys = refl

  book_rules_append : (xs ys : List (Record L)) → book_rules k n (xs ++ ys) ≡ book_rules k n xs ++ book_rules k n ys
  book_rules_append [] ys = refl
  book_rules_append (x ∷ xs) ys =
      ap (λ rules. cond (is_ok (rule_check k n x.rule)) (record { number = x.tag; rule = x.rule } ∷ rules) rules) (book_rules_append xs ys)
      ∙ kept_append (is_ok (rule_check k n x.rule)) (record { number = x.tag; rule = x.rule }) (book_rules k n xs) (book_rules k n ys)

  book_more : (records : List (Record L)) (i : ℕ) (x : Record L) → i < length records → x ≡ get_or records i x →
      book_rules k n (take (i + 1) records) ≡ book_rules k n (take i records) ++ book_rules k n (x ∷ [])
  book_more records i x h read =
      ap (book_rules k n) (take_more records i x h ∙ ap (λ y. take i records ++ y ∷ []) (sym read)) ∙ book_rules_append (take i records) (x ∷ [])

  -- a record whose rule fits adds its rule, any other adds nothing
  pub book_kept : (records : List (Record L)) (i : ℕ) (x : Record L) (front now' : List (Numbered L)) → i < length records → x ≡ get_or records i x →
      is_ok (rule_check k n x.rule) ≡ true → now' ≡ front ++ book_rules k n (take i records) →
      now' ++ record { number = x.tag; rule = x.rule } ∷ [] ≡ front ++ book_rules k n (take (i + 1) records)
  book_kept records i x front now' h read fits e =
      ap (λ rules. rules ++ record { number = x.tag; rule = x.rule } ∷ []) e
      ∙ append_assoc front (book_rules k n (take i records)) (record { number = x.tag; rule = x.rule } ∷ [])
      ∙ ap (λ rules. front ++ (book_rules k n (take i records) ++ rules)) (sym (cond-true (is_ok (rule_check k n x.rule)) (record { number = x.tag; rule = x.rule } ∷ []) [] fits))
      ∙ ap (λ rules. front ++ rules) (sym (book_more records i x h read))

  pub book_passed : (records : List (Record L)) (i : ℕ) (x : Record L) (front now' : List (Numbered L)) → i < length records → x ≡ get_or records i x →
      is_ok (rule_check k n x.rule) ≡ false → now' ≡ front ++ book_rules k n (take i records) → now' ≡ front ++ book_rules k n (take (i + 1) records)
  book_passed records i x front now' h read unfit e =
      e
      ∙ ap (λ rules. front ++ rules) (sym (append-nil (book_rules k n (take i records))))
      ∙ ap (λ rules. front ++ (book_rules k n (take i records) ++ rules)) (sym (cond-false (is_ok (rule_check k n x.rule)) (record { number = x.tag; rule = x.rule } ∷ []) [] unfit))
      ∙ ap (λ rules. front ++ rules) (sym (book_more records i x h read))

  place_rules_append : (p : ℕ) (xs ys : List (Option (Rule L))) → place_rules k n p (xs ++ ys) ≡ place_rules k n p xs ++ place_rules k n (p + length xs) ys
  place_rules_append p [] ys = ap (λ q. place_rules k n q ys) (sym (add-zero p))
  place_rules_append p (None ∷ xs) ys = place_rules_append (p + 1) xs ys ∙ ap (λ q. place_rules k n (p + 1) xs ++ place_rules k n q ys) (omega arith)
  place_rules_append p (Some r ∷ xs) ys =
      ap (λ rules. record { number = 100_000 + p; rule = r } ∷ rules)
      (place_rules_append (p + 1) xs ys ∙ ap (λ q. place_rules k n (p + 1) xs ++ place_rules k n q ys) (omega arith))

  -- where the first places fit, the check goes on behind them
  checked_append : (p : ℕ) (xs ys : List (Option (Rule L))) → places_check k n p xs ≡ Ok tt → places_check k n p (xs ++ ys) ≡ places_check k n (p + length xs) ys
  checked_append p [] ys fits = ap (λ q. places_check k n q ys) (sym (add-zero p))
  checked_append p (None ∷ xs) ys fits = checked_append (p + 1) xs ys fits ∙ ap (λ q. places_check k n q ys) (omega arith)
  checked_append p (Some r ∷ xs) ys fits =
      let both = both_fit p (rule_check k n r) (places_check k n (p + 1) xs) fits in
      ap (λ a. unfit_place k n p a (places_check k n (p + 1) (xs ++ ys))) both.0
      ∙ checked_append (p + 1) xs ys both.1
      ∙ ap (λ q. places_check k n q ys) (omega arith)

  place_more : (places : List (Option (Rule L))) (i : ℕ) → i < length places → take (i + 1) places ≡ take i places ++ get_or places i None ∷ []
  place_more places i h = take_more places i None h

  -- a place that tells nothing, one that tells a rule that fits, and one that tells any other
  pub place_empty : (places : List (Option (Rule L))) (i : ℕ) (front now' : List (Numbered L)) → i < length places → get_or places i None ≡ None →
      places_check k n 0 (take i places) ≡ Ok tt → now' ≡ front ++ place_rules k n 0 (take i places) →
      (places_check k n 0 (take (i + 1) places) ≡ Ok tt) × (now' ≡ front ++ place_rules k n 0 (take (i + 1) places))
  place_empty places i front now' h told fits e =
      let next : take (i + 1) places ≡ take i places ++ None ∷ [] = place_more places i h ∙ ap (λ o. take i places ++ o ∷ []) told in (
        ap (places_check k n 0) next ∙ checked_append 0 (take i places) (None ∷ []) fits,
        e ∙ ap (λ rules. front ++ rules) (sym (ap (place_rules k n 0) next ∙ place_rules_append 0 (take i places) (None ∷ []) ∙ append-nil (place_rules k n 0 (take i places)))),
      )

  pub place_told : (places : List (Option (Rule L))) (i : ℕ) (r : Rule L) (front now' : List (Numbered L)) → i < length places → get_or places i None ≡ Some r → rule_check k n r ≡ Ok tt →
      places_check k n 0 (take i places) ≡ Ok tt → now' ≡ front ++ place_rules k n 0 (take i places) →
      (places_check k n 0 (take (i + 1) places) ≡ Ok tt) × (now' ++ record { number = 100_000 + i; rule = r } ∷ [] ≡ front ++ place_rules k n 0 (take (i + 1) places))
  place_told places i r front now' h told good fits e =
      let next : take (i + 1) places ≡ take i places ++ Some r ∷ [] = place_more places i h ∙ ap (λ o. take i places ++ o ∷ []) told in
      let long : 0 + length (take i places) ≡ i = omega (arith, length-take i places) in (
        ap (places_check k n 0) next ∙ checked_append 0 (take i places) (Some r ∷ []) fits ∙ ap (λ a. unfit_place k n (0 + length (take i places)) a (Ok tt)) good,
        ap (λ rules. rules ++ record { number = 100_000 + i; rule = r } ∷ []) e
            ∙ append_assoc front (place_rules k n 0 (take i places)) (record { number = 100_000 + i; rule = r } ∷ [])
            ∙ ap (λ rules. front ++ rules)
            (sym (ap (place_rules k n 0) next ∙ place_rules_append 0 (take i places) (Some r ∷ [])
            ∙ ap (λ q. place_rules k n 0 (take i places) ++ record { number = 100_000 + q; rule = r } ∷ []) long)),
      )

  pub place_unfit : (places : List (Option (Rule L))) (i : ℕ) (r : Rule L) (cause : RuleFault) → i < length places → get_or places i None ≡ Some r → rule_check k n r ≡ Err cause →
      places_check k n 0 (take i places) ≡ Ok tt → places_check k n 0 places ≡ Err (UnfitPlace i cause)
  place_unfit places i r cause h told bad fits =
      let long : 0 + length (take i places) ≡ i = omega (arith, length-take i places) in
      ap (places_check k n 0) (sym (take-append-drop i places))
      ∙ checked_append 0 (take i places) (drop i places) fits
      ∙ ap (places_check k n (0 + length (take i places))) (drop_more places i None h ∙ ap (λ o. o ∷ drop (i + 1) places) told)
      ∙ ap (λ a. unfit_place k n (0 + length (take i places)) a (places_check k n (0 + length (take i places) + 1) (drop (i + 1) places))) bad
      ∙ ap (λ q. Err (UnfitPlace q cause)) long

  -- of few places, each is checked
  pub few_checked : (places : List (Option (Rule L))) → length places ≤ 8192 → source_check k n places ≡ places_check k n 0 places
  few_checked places few = cond-false (ltb 8192 (length places)) (Err TooManyPlaces) (places_check k n 0 places) (le-ltb 8192 (length places) few)

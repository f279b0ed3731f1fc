-- A row that is tried: the first bad mark, and what it says where there is none.
use Rattle.std.proofs.Common.{◌≡◌, ℕ, zero, suc, ◌+◌, ◌<◌, ◌≤◌, Bool, true, false, cond, ◌&&◌, eqb, ltb, leb, List, [], ◌∷◌, length, get_or, take, drop, IsOk, Some, None, Ok, Err, Option, Result, sym, refl, ap, ◌∙◌, add-zero, zero-add, arith}
use Rattle.std.specs.Option.{unwrap_or}
use Rattle.std.proofs.lemmas.List.{at_drop_more, get_or-take, length-take}
use Rattle.std.proofs.lemmas.Bool.{and_from, and_parts, cond-true, cond-false, le-leb, le-ltb, leb-true, ne_eqb}
use Rattle.lengths.specs.Kind.{Kind, Laws}
use Rattle.rules.specs.declared.rule.Rule.{Rule}
use Rattle.graph.specs.Trial.{answered, marks_below, smallest, triable, Tried}
use Rattle.graph.specs.declared.unready.Unready.{Unready}
use Rattle.std.proofs.ByRecursion.{all-has}
use Rattle.graph.specs.Rows.{position, row_limit, Row}
use Rattle.cell.specs.Trial.{bad_mark, behind_source, is_zero, may_lie, tried, Tries}
use Rattle.cell.specs.Force.{in_force, source_check}
use Rattle.faults.specs.declared.fault.TrialFault.{TrialFault}
use Rattle.faults.specs.declared.fault.TrialFault.TheVariants.{ShortRow}
use Rattle.cell.specs.declared.record.Record.{Record}
use Rattle.cell.proofs.ForceFits.{fit_marks, force_fits, force_positive}

module _ {L : Type 0} (k : Kind L) (row : List L) (i : ℕ) (x : L) (h : i < length row) (read : x ≡ get_or row i x) where
  -- the rest of a row, one mark on
  step : bad_mark k i (drop i row) ≡ cond (may_lie k i x) (bad_mark k (i + 1) (drop (i + 1) row)) (Some i)
  step =
      at_drop_more (bad_mark k i) row i x h
      ∙ ap (λ y. cond (may_lie k i y) (bad_mark k (i + 1) (drop (i + 1) row)) (Some i)) (sym read)

  pub mark_good : may_lie k i x ≡ true → bad_mark k (i + 1) (drop (i + 1) row) ≡ bad_mark k i (drop i row)
  mark_good good = sym (step ∙ cond-true (may_lie k i x) _ _ good)

  pub mark_bad : may_lie k i x ≡ false → bad_mark k i (drop i row) ≡ Some i
  mark_bad bad = step ∙ cond-false (may_lie k i x) _ _ bad

module _ {L : Type 0} (k : Kind L) where
  passed : (m : ℕ) (x : L) (xs : List L) → bad_mark k m (x ∷ xs) ≡ None → (may_lie k m x ≡ true) × (bad_mark k (m + 1) xs ≡ None)
  passed m x xs none = at (may_lie k m x) refl
    where
      at : (b : Bool) → may_lie k m x ≡ b → (may_lie k m x ≡ true) × (bad_mark k (m + 1) xs ≡ None)
      at true e = (e, sym (cond-true (may_lie k m x) (bad_mark k (m + 1) xs) (Some m) e) ∙ none)
      at false e =
          let some : Some m ≡ None = sym (cond-false (may_lie k m x) (bad_mark k (m + 1) xs) (Some m) e) ∙ none in
          absurd (let z : ◌≡◌ {A = ℕ} 0 1 = cc in omega arith)

  -- where no mark is bad, each may lie where it does
  good_from : (m : ℕ) (xs : List L) → bad_mark k m xs ≡ None → (i : ℕ) (d : L) → i < length xs → may_lie k (m + i) (get_or xs i d) ≡ true
  good_from m [] none i d h = absurd (omega arith)
  good_from m (x ∷ xs) none zero d h = ap (λ j. may_lie k j x) (add-zero m) ∙ (passed m x xs none).0
  good_from m (x ∷ xs) none (suc i) d h = ap (λ j. may_lie k j (get_or xs i d)) (omega arith) ∙ good_from (m + 1) xs (passed m x xs none).1 i d (omega arith)

  module _ (laws : Laws k) where
    -- a length that passes the test is zero
    pub zero_from : (x : L) → is_zero k x ≡ true → x ≡ k.zero
    zero_from x z =
        let a = and_parts (leb (k.measure x) row_limit) (k.at_most x k.zero && k.at_most k.zero x) z in
        let b = and_parts (k.at_most x k.zero) (k.at_most k.zero x) a.1 in
        laws.antisymmetric x k.zero (omega (arith, leb-true (k.measure x) row_limit a.0, laws.measure_zero)) b.0 b.1

    -- a row with no bad mark is a row
    pub row_from : (n : ℕ) (row : List L) → 0 < n → n ≤ length row → bad_mark k 0 (take n row) ≡ None → Row k n row
    row_from n row some h none = record {
      long = h;
      border = zero_from (position k row 0) (good 0 some);
      near = near;
    }
      where
        good : (m : ℕ) → m < n → may_lie k m (position k row m) ≡ true
        good m l =
            ap (may_lie k m) (sym (get_or-take n row m k.zero l))
            ∙ ap (λ j. may_lie k j (get_or (take n row) m k.zero)) (sym (zero-add m))
            ∙ good_from 0 (take n row) none m k.zero (omega (arith, length-take n row))

        near : (m : ℕ) → m < n → k.measure (position k row m) ≤ row_limit
        near zero l = omega (arith, ap k.measure (zero_from (position k row 0) (good 0 some)), laws.measure_zero)
        near (suc m) l =
            leb-true (k.measure (position k row (suc m))) row_limit
            (sym (cond-false (eqb (suc m) 0) (is_zero k (position k row (suc m))) (leb (k.measure (position k row (suc m))) row_limit) (ne_eqb (suc m) 0 (omega arith))) ∙ good (suc m) l)

    -- no broken rule is the number 0
    pub answered_is : (o : Option ℕ) → unwrap_or o 0 ≡ answered k o
    answered_is None = refl
    answered_is (Some m) = refl

    can_try : (n : ℕ) (book : List (Record L)) (places : List (Option (Rule L))) (row : List L) → 1 ≤ n → source_check k n places ≡ Ok tt → n ≤ length row →
        triable n (in_force k n book places) row ≡ true
    can_try n book places row some ok long =
        let rules = in_force k n book places in
        and_from (leb n (length row)) (marks_below n rules) (le-leb n (length row) long) (fit_marks k n rules (force_fits k n laws some book places ok))

    -- the rules in force can be tried
    pub some_answer : (n : ℕ) (book : List (Record L)) (places : List (Option (Rule L))) (row : List L) → 1 ≤ n → source_check k n places ≡ Ok tt → n ≤ length row →
        (r : Result (Option ℕ) Unready) → Tried k n (in_force k n book places) row r → IsOk r
    some_answer n book places row some ok long r t = rw (t.is, can_try n book places row some ok long) refl

    -- what the trial of the rules in force answers
    pub tries : (n : ℕ) (book : List (Record L)) (places : List (Option (Rule L))) (row : List L) → 1 ≤ n → source_check k n places ≡ Ok tt → n ≤ length row →
        bad_mark k 0 (take n row) ≡ None → ((i : ℕ) (d : Record L) → i < length book → (get_or book i d).tag ≡ 0 → ⊥) →
        (r : Result (Option ℕ) Unready) → Tried k n (in_force k n book places) row r → (m : Option ℕ) → r ≡ Ok m → Tries k n book places row (Ok (answered k m))
    tries n book places row some ok long none tagged r t m is =
        let rules = in_force k n book places in
        let value : Ok m ≡ Ok (smallest k row None rules) = sym is ∙ t.is ∙ cond-true (triable n rules row) _ _ (can_try n book places row some ok long) in
        record {
          answers =
              ap (λ o. Ok (answered k o)) (inside m (smallest k row None rules) value)
              ∙ sym (ap (λ o. tried k o rules row) none)
              ∙ sym (cond-false (ltb (length row) n) (Err ShortRow) (tried k (bad_mark k 0 (take n row)) rules row) (le-ltb (length row) n long))
              ∙ sym (ap (λ s. behind_source k s (cond (ltb (length row) n) (Err ShortRow) (tried k (bad_mark k 0 (take n row)) rules row))) ok);
          placed = λ e. record {
            is_row = row_from n row some long none;
            keeps = t.none_kept (is ∙ ap Ok (unbroken m is (same (answered k m) 0 e)));
          };
          broken = λ j e above. t.broken j (is ∙ ap Ok (numbered m j (same (answered k m) j e) above));
        }
      where
        inside : (a b : Option ℕ) → ◌≡◌ {A = Result (Option ℕ) Unready} (Ok a) (Ok b) → a ≡ b
        inside a b e = cc

        same : (a b : ℕ) → ◌≡◌ {A = Result ℕ TrialFault} (Ok a) (Ok b) → a ≡ b
        same a b e = cc

        -- no rule in force has number 0
        unbroken : (o : Option ℕ) → r ≡ Ok o → answered k o ≡ 0 → o ≡ None
        unbroken None e none = refl
        unbroken (Some j) e none =
            let b = t.broken j e in
            absurd (omega (arith, all-has (λ q. 0 < q.number) (in_force k n book places) b.broken (force_positive k n book places tagged) b.listed, b.numbered, none))

        numbered : (o : Option ℕ) (j : ℕ) → answered k o ≡ j → 0 < j → o ≡ Some j
        numbered None j e above = absurd (omega arith)
        numbered (Some i) j e above = ap Some e

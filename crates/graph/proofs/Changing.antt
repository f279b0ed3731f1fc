-- Rows and tables changed over a midpoint, one entry and one row after another.
use Rattle.std.proofs.Common.{◌≡◌, ℕ, ◌+◌, ◌*◌, ◌<◌, ◌≤◌, ◌≢◌, ◌⊎◌, List, length, get_or, set, sym, refl, ap, ◌∙◌, inl, inr, ⊎_elim, add-mul, add-one, arith}
use Rattle.std.proofs.lemmas.Nat.{mul-le, mul-add-lt}
use Rattle.std.proofs.lemmas.List.{length-set, get_or-set_same, get_or-set_other, get_or_read}
use Rattle.std.proofs.lemmas.Bool.{cases_eq, cases_lt}
use Rattle.lengths.specs.Kind.{Kind}
use Rattle.graph.specs.Distances.{table_entry}
use Rattle.graph.specs.Overs.{over_entry, RowUpto, Still, TableUpto, Overs}

-- Of two rows, the places of the one lie before those of the other.
pub rows_apart : (n a b : ℕ) → a < b → a * n + n ≤ b * n
rows_apart n a b l = omega (arith, mul-le (a + 1) n b n (omega arith) (omega arith), add-mul a 1 n)

module _ {L : Type 0} (k : Kind L) where
  module _ (n m i : ℕ) (lm : m < n) (li : i < n) (table : List L) where
    pub row_none : RowUpto k n m i 0 table table
    row_none = record { same_length = refl; here = λ j l. absurd (omega arith); elsewhere = λ x o. refl }

    -- One more entry of the row.
    module _ (j : ℕ) (lj : j < n) (now : List L) (done : RowUpto k n m i j table now) (long : n * n ≤ length table)
        (at : ℕ) (before after held : L) (place : at ≡ i * n + j)
        (read_before : before ≡ table_entry k table n i m) (read_after : after ≡ table_entry k now n m j) (read_held : held ≡ get_or now at held) where
      at_inside : at < length now
      at_inside = omega (arith, done.same_length, mul-add-lt i n j n li lj)

      held_is : held ≡ table_entry k table n i j
      held_is = get_or_read now at held at_inside read_held k.zero ∙ ap (λ x. get_or now x k.zero) place ∙ done.elsewhere (i * n + j) (inr (omega arith))

      outside : (m * n + j < i * n) ⊎ (i * n + j ≤ m * n + j)
      outside = ⊎_elim (λ l. inl (omega (arith, rows_apart n m i l))) (λ l. inr (omega (arith, mul-le i n m n l (omega arith)))) (cases_lt m i)

      after_is : after ≡ table_entry k table n m j
      after_is = read_after ∙ done.elsewhere (m * n + j) outside

      pub row_more : (x : L) → x ≡ over_entry k before after held → RowUpto k n m i (j + 1) table (set now at x)
      row_more x is = record {
        same_length = length-set now at x ∙ done.same_length;
        here = λ j' l.
            ⊎_elim
            (λ (e : j' ≡ j).
            let p : i * n + j' ≡ at = omega arith in
            ap (λ y. get_or (set now at x) y k.zero) p ∙ get_or-set_same now at x k.zero at_inside ∙ is
            ∙ ap (λ y. over_entry k y after held) read_before ∙ ap (λ y. over_entry k (table_entry k table n i m) y held) after_is ∙ ap (over_entry k (table_entry k table n i m) (table_entry k table n m j)) held_is
            ∙ ap (λ y. over_entry k (table_entry k table n i m) (table_entry k table n m y) (table_entry k table n i y)) (sym e))
            (λ (ne : j' ≡ j → ⊥). let other : i * n + j' ≢ at = (λ (f : i * n + j' ≡ at). ne (omega arith)) in get_or-set_other now at (i * n + j') x k.zero other ∙ done.here j' (omega arith))
            (cases_eq j' j);
        elsewhere = λ y o.
            let other : y ≢ at = (λ (f : y ≡ at). ⊎_elim (λ (h : y < i * n). absurd (omega arith)) (λ (h : i * n + (j + 1) ≤ y). absurd (omega arith)) o) in
            get_or-set_other now at y x k.zero other ∙ done.elsewhere y (⊎_elim (λ h. inl h) (λ h. inr (omega arith)) o);
      }

  module _ (n m : ℕ) (lm : m < n) (table : List L) where
    pub rows_none : TableUpto k n m 0 table table
    rows_none = record { same_length = refl; here = λ i j l h. absurd (omega arith); elsewhere = λ x o. refl }

    -- One more row of the table: row m is read as it was, whether it has been changed or not.
    pub rows_more : (i : ℕ) (now now' : List L) → i < n → Still k n m table → TableUpto k n m i table now → RowUpto k n m i n now now' → TableUpto k n m (i + 1) table now'
    rows_more i now now' li still done row = record {
      same_length = row.same_length ∙ done.same_length;
      here = λ a j la lj.
          ⊎_elim
          (λ (e : a ≡ i).
          ap (λ y. table_entry k now' n y j) e ∙ row.here j lj
          ∙ ap (λ y. over_entry k y (table_entry k now n m j) (table_entry k now n i j)) (done.elsewhere (i * n + m) (omega arith))
          ∙ ap (λ y. over_entry k (table_entry k table n i m) y (table_entry k now n i j)) (middle j lj)
          ∙ ap (over_entry k (table_entry k table n i m) (table_entry k table n m j)) (done.elsewhere (i * n + j) (omega arith))
          ∙ ap (λ y. over_entry k (table_entry k table n y m) (table_entry k table n m j) (table_entry k table n y j)) (sym e))
          (λ (ne : a ≡ i → ⊥). let l : a < i = omega (arith, ne) in row.elsewhere (a * n + j) (inl (omega (arith, rows_apart n a i l))) ∙ done.here a j l lj)
          (cases_eq a i);
      elsewhere = λ x o. row.elsewhere x (inr (omega (arith, add-mul i 1 n))) ∙ done.elsewhere x (omega (arith, add-mul i 1 n));
    }
      where
        middle : (j : ℕ) → j < n → table_entry k now n m j ≡ table_entry k table n m j
        middle j lj =
            ⊎_elim (λ (l : m < i). done.here m j l lj ∙ still j lj)
            (λ (l : i ≤ m). done.elsewhere (m * n + j) (omega (arith, mul-le i n m n l (omega arith))))
            (cases_lt m i)

  pub overs_more : (n m : ℕ) (table now now' : List L) → Overs k n m table now → (Still k n m now → TableUpto k n m n now now') → Overs k n (m + 1) table now'
  unfolding Overs
  overs_more n m table now now' done over = rw (add-one m) (now, done, over)

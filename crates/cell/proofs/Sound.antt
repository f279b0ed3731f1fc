-- A sound book, place by place: tags are not 0 and differ from one another, and rules join two marks.
use Rattle.std.proofs.Common.{◌≡◌, ℕ, zero, suc, ◌<◌, true, false, cond, not, ◌&&◌, eqb, List, [], ◌∷◌, ◌++◌, length, get_or, take, Some, None, sym, refl, ap, ◌∙◌, ⊎_elim, arith}
use Rattle.std.proofs.lemmas.List.{get_or-take, get_or_default, length-take}
use Rattle.std.proofs.lemmas.Bool.{cases_order, and_parts, and_from, not-true, not_from_false, eq-eqb, ne_eqb, eqb-false, or_from, or_parts, cond-true, cond-false}
use Rattle.cell.specs.Book.{has_tag, look_up, joins, sound, FoundAt}
use Rattle.cell.specs.declared.record.Record.{Record}
use Rattle.cell.proofs.Tags.{has_tag_append, no_tag_at, no_tag_from, found_rule}

pub record Sound {L : Type 0} (n : ℕ) (book : List (Record L)) : Type 0 where
  pub tagged : (i : ℕ) (d : Record L) → i < length book → (get_or book i d).tag ≡ 0 → ⊥
  pub joining : (i : ℕ) (d : Record L) → i < length book → joins n (get_or book i d).rule ≡ true
  pub apart : (i j : ℕ) (d : Record L) → i < j → j < length book → (get_or book i d).tag ≡ (get_or book j d).tag → ⊥

-- the four parts of the test at the first record
record First {L : Type 0} (n : ℕ) (x : Record L) (book : List (Record L)) : Type 0 where
  tagged : x.tag ≡ 0 → ⊥
  joining : joins n x.rule ≡ true
  once : has_tag book x.tag ≡ false
  rest : sound n book ≡ true

module _ {L : Type 0} (n : ℕ) where
  first_of : (x : Record L) (book : List (Record L)) → sound n (x ∷ book) ≡ true → First n x book
  first_of x book s =
      let a = and_parts (not (eqb x.tag 0) && joins n x.rule && not (has_tag book x.tag)) (sound n book) s in
      let b = and_parts (not (eqb x.tag 0) && joins n x.rule) (not (has_tag book x.tag)) a.0 in
      let c = and_parts (not (eqb x.tag 0)) (joins n x.rule) b.0 in
      record {
        tagged = eqb-false x.tag 0 (not-true (eqb x.tag 0) c.0);
        joining = c.1;
        once = not-true (has_tag book x.tag) b.1;
        rest = a.1;
      }

  of_first : (x : Record L) (book : List (Record L)) → First n x book → sound n (x ∷ book) ≡ true
  of_first x book f =
      and_from _ (sound n book)
      (and_from _ (not (has_tag book x.tag))
      (and_from (not (eqb x.tag 0)) (joins n x.rule) (not_from_false (eqb x.tag 0) (ne_eqb x.tag 0 f.tagged)) f.joining)
      (not_from_false (has_tag book x.tag) f.once))
      f.rest

  more : (x : Record L) (book : List (Record L)) → First n x book → Sound n book → Sound n (x ∷ book)
  more x book f s = record {
    tagged = tagged;
    joining = joining;
    apart = apart;
  }
    where
      tagged : (i : ℕ) (d : Record L) → i < length (x ∷ book) → (get_or (x ∷ book) i d).tag ≡ 0 → ⊥
      tagged zero d h = f.tagged
      tagged (suc i) d h = s.tagged i d (omega arith)

      joining : (i : ℕ) (d : Record L) → i < length (x ∷ book) → joins n (get_or (x ∷ book) i d).rule ≡ true
      joining zero d h = f.joining
      joining (suc i) d h = s.joining i d (omega arith)

      apart : (i j : ℕ) (d : Record L) → i < j → j < length (x ∷ book) → (get_or (x ∷ book) i d).tag ≡ (get_or (x ∷ book) j d).tag → ⊥
      apart zero zero d l h e = omega arith
      apart zero (suc j) d l h e = no_tag_at book x.tag f.once j d (omega arith) (sym e)
      apart (suc i) zero d l h e = omega arith
      apart (suc i) (suc j) d l h e = s.apart i j d (omega arith) (omega arith) e

  pub sound_to : (book : List (Record L)) → sound n book ≡ true → Sound n book
  sound_to [] s = record { tagged = λ i d h. absurd (omega arith); joining = λ i d h. absurd (omega arith); apart = λ i j d l h. absurd (omega arith) }
  sound_to (x ∷ book) s = more x book (first_of x book s) (sound_to book (first_of x book s).rest)

  pub sound_from : (book : List (Record L)) → Sound n book → sound n book ≡ true
  sound_from [] s = refl
  sound_from (x ∷ book) s =
      of_first x book (record {
        tagged = s.tagged 0 x (omega arith);
        joining = s.joining 0 x (omega arith);
        once = no_tag_from book x.tag (λ k d h e. s.apart 0 (suc k) d (omega arith) (omega arith) (sym e));
        rest = sound_from book (record {
          tagged = λ i d h. s.tagged (suc i) d (omega arith);
          joining = λ i d h. s.joining (suc i) d (omega arith);
          apart = λ i j d l h. s.apart (suc i) (suc j) d (omega arith) (omega arith);
        });
      })

  -- one record more, under a new tag
  pub sound_push : (book : List (Record L)) (x : Record L) → sound n book ≡ true → (x.tag ≡ 0 → ⊥) → joins n x.rule ≡ true → has_tag book x.tag ≡ false →
      sound n (book ++ x ∷ []) ≡ true
  sound_push [] x s tagged joining new = of_first x [] (record { tagged = tagged; joining = joining; once = refl; rest = refl })
  sound_push (y ∷ book) x s tagged joining new =
      let f = first_of y book s in
      let parts = or_parts (eqb y.tag x.tag) (has_tag book x.tag) new in
      of_first y (book ++ x ∷ []) (record {
        tagged = f.tagged;
        joining = f.joining;
        once = has_tag_append book (x ∷ []) y.tag
            ∙ or_from (has_tag book y.tag) _ f.once (or_from (eqb x.tag y.tag) false (ne_eqb x.tag y.tag (λ e. eqb-false y.tag x.tag parts.0 (sym e))) refl);
        rest = sound_push book x f.rest tagged joining parts.1;
      })

  -- a tag stands at one place, so any place of it is the first
  pub place_at : (book : List (Record L)) (i tag : ℕ) (d : Record L) → Sound n book → i < length book → (get_or book i d).tag ≡ tag → FoundAt book tag i
  place_at book i tag d s h e = record {
    within = h;
    first = no_tag_from (take i book) tag (λ k d' l same.
        let below : k < i = omega (arith, length-take i book) in
        s.apart k i d' below h (sym (ap (λ (r : Record L). r.tag) (get_or-take i book k d' below)) ∙ same ∙ sym e ∙ ap (λ (r : Record L). r.tag) (get_or_default book i d d' h)));
    here = λ d'. ap (λ (r : Record L). r.tag) (get_or_default book i d' d h) ∙ e;
  }

  -- the rule at a place is the one under its tag
  pub rule_at : (book : List (Record L)) (i tag : ℕ) (d : Record L) → Sound n book → i < length book → (get_or book i d).tag ≡ tag → look_up book tag ≡ Some (get_or book i d).rule
  rule_at book i tag d s h e = found_rule book tag i d (place_at book i tag d s h e)

  pub no_tag_zero : (book : List (Record L)) → sound n book ≡ true → has_tag book 0 ≡ false
  no_tag_zero book s = no_tag_from book 0 (λ k d h. (sound_to book s).tagged k d h)

  -- two places hold two tags
  pub differ : (book : List (Record L)) (i j : ℕ) (d : Record L) → Sound n book → i < length book → j < length book → (i ≡ j → ⊥) → (get_or book i d).tag ≡ (get_or book j d).tag → ⊥
  differ book i j d s h l apart e =
      ⊎_elim (λ same. apart same) (⊎_elim (λ below. s.apart i j d below l e) (λ above. s.apart j i d above h (sym e))) (cases_order i j)

module _ {L : Type 0} where
  -- a rule entered under a new tag is found there, and every other as before
  pub look_up_push : (book : List (Record L)) (x : Record L) → has_tag book x.tag ≡ false → look_up (book ++ x ∷ []) x.tag ≡ Some x.rule
  look_up_push [] x new = cond-true (eqb x.tag x.tag) (Some x.rule) None (eq-eqb x.tag x.tag refl)
  look_up_push (y ∷ book) x new =
      let parts = or_parts (eqb y.tag x.tag) (has_tag book x.tag) new in
      cond-false (eqb y.tag x.tag) (Some y.rule) (look_up (book ++ x ∷ []) x.tag) parts.0 ∙ look_up_push book x parts.1

  pub look_up_others : (book : List (Record L)) (x : Record L) (other : ℕ) → (other ≡ x.tag → ⊥) → look_up (book ++ x ∷ []) other ≡ look_up book other
  look_up_others [] x other ne = cond-false (eqb x.tag other) (Some x.rule) None (ne_eqb x.tag other (λ e. ne (sym e)))
  look_up_others (y ∷ book) x other ne = ap (cond (eqb y.tag other) (Some y.rule)) (look_up_others book x other ne)

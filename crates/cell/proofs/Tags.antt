-- Tags in a book: where a tag stands, and what is under it.
use Rattle.std.proofs.Common.{◌≡◌, ℕ, zero, suc, ◌+◌, ◌<◌, ◌≤◌, Bool, true, false, ◌||◌, eqb, ltb, ◌⊎◌, ⊎_elim, MatchOption, List, [], ◌∷◌, ◌++◌, length, get_or, take, set, Some, None, sym, refl, ap, ◌∙◌, inl, inr, arith}
use Rattle.std.proofs.lemmas.List.{take_more, drop_more, take-take, get_or-take, get_or_default, length-take-le}
use Rattle.std.specs.List.{find, position, position_or_len}
use Rattle.std.specs.Option.{option_map}
use Rattle.std.proofs.lemmas.Bool.{lt-ltb, le-ltb, ne_eqb, eq-eqb, eqb-false, eqb-true, or_from, or_parts, or_left, or_right, cond-true, cond-false, cases_Bool}
use Rattle.cell.specs.Book.{has_tag, look_up, FoundAt}
use Rattle.cell.specs.Calls.{copied, put_first, place_of}
use Rattle.cell.specs.declared.record.Record.{Record}

pub copied_is : {X : Type 0} (xs : List X) (from to : ℕ) (x : X) → from < length xs → x ≡ get_or xs from x → copied xs from to ≡ set xs to x
copied_is xs from to x h read =
    ap (λ (ys : List _). put_first ys xs to) (drop_more xs from x h) ∙ ap (set xs to) (sym read)

or_assoc : (a b c : Bool) → ((a || b) || c) ≡ (a || (b || c))
or_assoc true b c = refl
or_assoc false b c = refl

module _ {L : Type 0} where
  pub has_tag_append : (xs ys : List (Record L)) (tag : ℕ) → has_tag (xs ++ ys) tag ≡ (has_tag xs tag || has_tag ys tag)
  has_tag_append [] ys tag = refl
  has_tag_append (x ∷ xs) ys tag = ap (λ b. eqb x.tag tag || b) (has_tag_append xs ys tag) ∙ sym (or_assoc (eqb x.tag tag) (has_tag xs tag) (has_tag ys tag))

  -- one record more without the tag
  pub no_tag_more : (xs : List (Record L)) (i tag : ℕ) (d : Record L) → i < length xs → has_tag (take i xs) tag ≡ false → ((get_or xs i d).tag ≡ tag → ⊥) →
      has_tag (take (i + 1) xs) tag ≡ false
  no_tag_more xs i tag d h none differs =
      let e : eqb (get_or xs i d).tag tag ≡ false = ne_eqb (get_or xs i d).tag tag differs in
      ap (λ (ys : List (Record L)). has_tag ys tag) (take_more xs i d h)
      ∙ has_tag_append (take i xs) (get_or xs i d ∷ []) tag
      ∙ rw (none, e)

  -- the first of the first n records with the tag
  pub found_in : (xs : List (Record L)) (n i tag : ℕ) (d : Record L) → n ≤ length xs → i < n → has_tag (take i xs) tag ≡ false → (get_or xs i d).tag ≡ tag →
      FoundAt (take n xs) tag i
  found_in xs n i tag d h l none same = record {
    within = rw length-take-le l;
    first = let below : i ≤ n = omega arith in rw take-take none;
    here = λ e. ap (λ (r : Record L). r.tag) (get_or-take n xs i e l ∙ get_or_default xs i e d (omega arith)) ∙ same;
  }

  -- a tag that no record has
  pub no_tag_from : (xs : List (Record L)) (tag : ℕ) → ((k : ℕ) (d : Record L) → k < length xs → (get_or xs k d).tag ≡ tag → ⊥) → has_tag xs tag ≡ false
  no_tag_from [] tag none = refl
  no_tag_from (x ∷ xs) tag none =
      or_from (eqb x.tag tag) (has_tag xs tag) (ne_eqb x.tag tag (none 0 x (omega arith)))
      (no_tag_from xs tag (λ k d h. none (suc k) d (omega arith)))

  pub no_tag_at : (xs : List (Record L)) (tag : ℕ) → has_tag xs tag ≡ false → (k : ℕ) (d : Record L) → k < length xs → (get_or xs k d).tag ≡ tag → ⊥
  no_tag_at [] tag none k d h same = omega arith
  no_tag_at (x ∷ xs) tag none zero d h same = eqb-false x.tag tag (or_parts (eqb x.tag tag) (has_tag xs tag) none).0 same
  no_tag_at (x ∷ xs) tag none (suc k) d h same = no_tag_at xs tag (or_parts (eqb x.tag tag) (has_tag xs tag) none).1 k d (omega arith) same

  found_rest : (x : Record L) (xs : List (Record L)) (tag i : ℕ) → FoundAt (x ∷ xs) tag (suc i) → FoundAt xs tag i
  found_rest x xs tag i f = record {
    within = omega (arith, f.within);
    first = (or_parts (eqb x.tag tag) (has_tag (take i xs) tag) f.first).1;
    here = f.here;
  }

  found_later : (x : Record L) (xs : List (Record L)) (tag i : ℕ) → FoundAt (x ∷ xs) tag (suc i) → eqb x.tag tag ≡ false
  found_later x xs tag i f = (or_parts (eqb x.tag tag) (has_tag (take i xs) tag) f.first).0

  -- the first record with a tag is what every search for it finds
  pub found_has : (xs : List (Record L)) (tag i : ℕ) → FoundAt xs tag i → has_tag xs tag ≡ true
  found_has [] tag i f = absurd (omega (arith, f.within))
  found_has (x ∷ xs) tag zero f = or_left (eqb x.tag tag) (has_tag xs tag) (eq-eqb x.tag tag (f.here x))
  found_has (x ∷ xs) tag (suc i) f = or_right (eqb x.tag tag) (has_tag xs tag) (found_has xs tag i (found_rest x xs tag i f))

  pub found_place : (xs : List (Record L)) (tag i : ℕ) → FoundAt xs tag i → place_of xs tag ≡ i
  found_place [] tag i f = absurd (omega (arith, f.within))
  found_place (x ∷ xs) tag zero f = cond-true (eqb x.tag tag) 0 (suc (place_of xs tag)) (eq-eqb x.tag tag (f.here x))
  found_place (x ∷ xs) tag (suc i) f =
      cond-false (eqb x.tag tag) 0 (suc (place_of xs tag)) (found_later x xs tag i f) ∙ ap suc (found_place xs tag i (found_rest x xs tag i f))

  pub found_rule : (xs : List (Record L)) (tag i : ℕ) (d : Record L) → FoundAt xs tag i → look_up xs tag ≡ Some (get_or xs i d).rule
  found_rule [] tag i d f = absurd (omega (arith, f.within))
  found_rule (x ∷ xs) tag zero d f = cond-true (eqb x.tag tag) (Some x.rule) (look_up xs tag) (eq-eqb x.tag tag (f.here x))
  found_rule (x ∷ xs) tag (suc i) d f =
      cond-false (eqb x.tag tag) (Some x.rule) (look_up xs tag) (found_later x xs tag i f) ∙ found_rule xs tag i d (found_rest x xs tag i f)

  pub no_rule : (xs : List (Record L)) (tag : ℕ) → has_tag xs tag ≡ false → look_up xs tag ≡ None
  no_rule [] tag none = refl
  no_rule (x ∷ xs) tag none =
      let parts = or_parts (eqb x.tag tag) (has_tag xs tag) none in
      cond-false (eqb x.tag tag) (Some x.rule) (look_up xs tag) parts.0 ∙ no_rule xs tag parts.1

  found_next : (x : Record L) (xs : List (Record L)) (tag i : ℕ) → eqb x.tag tag ≡ false → FoundAt xs tag i → FoundAt (x ∷ xs) tag (suc i)
  found_next x xs tag i e f = record {
    within = omega (arith, f.within);
    first = or_from (eqb x.tag tag) (has_tag (take i xs) tag) e f.first;
    here = f.here;
  }

  -- a tag is in the book at its first place, or not at all
  pub find_first : (xs : List (Record L)) (tag : ℕ) → ((i : ℕ) × FoundAt xs tag i) ⊎ (has_tag xs tag ≡ false)
  find_first [] tag = inr refl
  find_first (x ∷ xs) tag = at (find_first xs tag) (cases_Bool (eqb x.tag tag))
    where
      at : ((i : ℕ) × FoundAt xs tag i) ⊎ (has_tag xs tag ≡ false) → (eqb x.tag tag ≡ true) ⊎ (eqb x.tag tag ≡ false) →
          ((i : ℕ) × FoundAt (x ∷ xs) tag i) ⊎ (has_tag (x ∷ xs) tag ≡ false)
      at rest (inl same) = inl (0, record { within = omega arith; first = refl; here = λ d. eqb-true x.tag tag same })
      at (inl found) (inr differs) = inl (suc found.0, found_next x xs tag found.0 differs found.1)
      at (inr none) (inr differs) = inr (or_from (eqb x.tag tag) (has_tag xs tag) differs none)

  -- the search of the library for the first record with a tag
  place_found : (xs : List (Record L)) (tag i : ℕ) → FoundAt xs tag i → position_or_len (λ (r : Record L). eqb r.tag tag) xs ≡ i
  place_found [] tag i f = absurd (omega (arith, f.within))
  place_found (x ∷ xs) tag zero f = rw (eq-eqb x.tag tag (f.here x)) refl
  place_found (x ∷ xs) tag (suc i) f = let rest = place_found xs tag i (found_rest x xs tag i f) in rw (found_later x xs tag i f) (omega arith)

  place_none : (xs : List (Record L)) (tag : ℕ) → has_tag xs tag ≡ false → position_or_len (λ (r : Record L). eqb r.tag tag) xs ≡ length xs
  place_none [] tag none = refl
  place_none (x ∷ xs) tag none =
      let parts = or_parts (eqb x.tag tag) (has_tag xs tag) none in
      let rest = place_none xs tag parts.1 in
      rw parts.0 (omega arith)

  pub position_found : (xs : List (Record L)) (tag : ℕ) → MatchOption (position (λ (r : Record L). eqb r.tag tag) xs) (has_tag xs tag ≡ false) (FoundAt xs tag)
  position_found xs tag =
      ⊎_elim
      (λ found.
      let below : ltb found.0 (length xs) ≡ true = lt-ltb found.0 (length xs) found.1.within in
      rw (place_found xs tag found.0 found.1, below) found.1)
      (λ none.
      let past : ltb (length xs) (length xs) ≡ false = le-ltb (length xs) (length xs) (omega arith) in
      rw (place_none xs tag none, past) none)
      (find_first xs tag)

  pub rule_found : (xs : List (Record L)) (tag : ℕ) → option_map (λ (r : Record L). r.rule) (find (λ (r : Record L). eqb r.tag tag) xs) ≡ look_up xs tag
  rule_found [] tag = refl
  rule_found (x ∷ xs) tag =
      ⊎_elim (λ (same : eqb x.tag tag ≡ true). rw same refl) (λ (differs : eqb x.tag tag ≡ false). rw differs (rule_found xs tag)) (cases_Bool (eqb x.tag tag))

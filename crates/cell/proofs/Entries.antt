-- What an entry answers, and what it leaves.
use Rattle.std.proofs.Common.{◌≡◌, ℕ, ◌+◌, ◌<◌, ◌≤◌, Bool, true, false, cond, eqb, leb, List, [], ◌∷◌, ◌++◌, length, take, is_some, is_ok, Some, None, Ok, Err, Option, Result, sym, refl, ap, ◌∙◌, subst, arith, MatchOption}
use Rattle.std.proofs.lemmas.List.{length-take, take_more_set}
use Rattle.std.proofs.lemmas.Bool.{cond-true, cond-false, eq-eqb, ne_eqb, leb-true, le-leb, lt-leb, false≢true}
use Rattle.lengths.specs.Kind.{Kind}
use Rattle.rules.specs.Rule.{rule_check}
use Rattle.rules.specs.declared.fault.RuleFault.{RuleFault}
use Rattle.rules.specs.declared.rule.Rule.{Rule}
use Rattle.cell.specs.Book.{has_tag, joins, look_up, used, FoundAt, Once}
use Rattle.cell.specs.Calls.{admission, entry_check, unfit_or}
use Rattle.cell.specs.Memory.{book, memory, Appends, Enters}
use Rattle.cell.specs.declared.cell.Cell.{Cell}
use Rattle.faults.specs.declared.fault.EntryFault.{EntryFault}
use Rattle.faults.specs.declared.fault.EntryFault.TheVariants.{Full, NoTag, TagInForce, Unfit}
use Rattle.cell.specs.declared.record.Record.{Record}
use Rattle.cell.proofs.Tags.{found_has}
use Rattle.cell.proofs.Sound.{look_up_others, look_up_push, sound_to}

module _ {L : Type 0} (k : Kind L) (n cap : ℕ) (book : List (Record L)) (tag : ℕ) (rule : Rule L) (tagged : tag ≡ 0 → ⊥) (fits : rule_check k n rule ≡ Ok tt) where
  past_rule : entry_check k n cap book tag rule ≡ admission (has_tag book tag) (leb cap (length book))
  past_rule = cond-false (eqb tag 0) _ _ (ne_eqb tag 0 tagged) ∙ ap (λ r. unfit_or r (admission (has_tag book tag) (leb cap (length book)))) fits

  pub in_force : has_tag book tag ≡ true → entry_check k n cap book tag rule ≡ Err TagInForce
  in_force has = past_rule ∙ cond-true (has_tag book tag) _ _ has

  pub full : has_tag book tag ≡ false → cap ≤ length book → entry_check k n cap book tag rule ≡ Err Full
  full new h = past_rule ∙ cond-false (has_tag book tag) _ _ new ∙ cond-true (leb cap (length book)) _ _ (le-leb cap (length book) h)

  pub accepted : has_tag book tag ≡ false → length book < cap → entry_check k n cap book tag rule ≡ Ok tt
  accepted new h = past_rule ∙ cond-false (has_tag book tag) _ _ new ∙ cond-false (leb cap (length book)) _ _ (lt-leb cap (length book) h)

-- the other faults are not Full
pub no_tag_not_full : NoTag ≡ Full → ⊥
no_tag_not_full e = let z : ◌≡◌ {A = ℕ} 0 1 = cc in omega arith

pub in_force_not_full : TagInForce ≡ Full → ⊥
in_force_not_full e = let z : ◌≡◌ {A = ℕ} 0 1 = cc in omega arith

pub unfit_not_full : (fault : RuleFault) → Unfit fault ≡ Full → ⊥
unfit_not_full fault e = let z : ◌≡◌ {A = ℕ} 0 1 = cc in omega arith

no_path : ◌≡◌ {A = ℕ} 0 1 → ⊥
no_path z = omega arith

-- who is admitted has a new tag and a free record, and full is said only where none is free
pub admitted_new : (known full : Bool) → admission known full ≡ Ok tt → known ≡ false
admitted_new false full e = refl
admitted_new true full e = let z : ◌≡◌ {A = ℕ} 0 1 = cc in absurd (no_path z)

pub admitted_free : (known full : Bool) → admission known full ≡ Ok tt → full ≡ false
admitted_free known false e = refl
admitted_free false true e = let z : ◌≡◌ {A = ℕ} 0 1 = cc in absurd (no_path z)
admitted_free true true e = let z : ◌≡◌ {A = ℕ} 0 1 = cc in absurd (no_path z)

full_only : (known full : Bool) (fault : EntryFault) → admission known full ≡ Err fault → fault ≡ Full → full ≡ true
full_only known true fault e f = refl
full_only true false fault e f = let z : ◌≡◌ {A = ℕ} 0 1 = cc in absurd (no_path z)
full_only false false fault e f = let z : ◌≡◌ {A = ℕ} 0 1 = cc in absurd (no_path z)

same_fault : (f g : EntryFault) → ◌≡◌ {A = Result (Unit {0}) EntryFault} (Err f) (Err g) → f ≡ g
same_fault f g e = cc

module _ {L : Type 0} where
  -- a rule that fits joins two marks
  pub fits_joins : (k : Kind L) (n : ℕ) (rule : Rule L) → rule_check k n rule ≡ Ok tt → joins n rule ≡ true
  fits_joins k n rule fits = grind arith

  pub zero_tag : (k : Kind L) (n cap : ℕ) (book : List (Record L)) (tag : ℕ) (rule : Rule L) → tag ≡ 0 → entry_check k n cap book tag rule ≡ Err NoTag
  zero_tag k n cap book tag rule e = cond-true (eqb tag 0) _ _ (eq-eqb tag 0 e)

  pub unfit : (k : Kind L) (n cap : ℕ) (book : List (Record L)) (tag : ℕ) (rule : Rule L) (fault : RuleFault) → (tag ≡ 0 → ⊥) → rule_check k n rule ≡ Err fault → entry_check k n cap book tag rule ≡ Err (Unfit fault)
  unfit k n cap book tag rule fault tagged check =
      cond-false (eqb tag 0) _ _ (ne_eqb tag 0 tagged)
      ∙ ap (λ r. unfit_or r (admission (has_tag book tag) (leb cap (length book)))) check

  -- what the search for a tag tells of the book
  pub tag_found : (book : List (Record L)) (tag : ℕ) (found : Option ℕ) → MatchOption found (has_tag book tag ≡ false) (FoundAt book tag) → is_some found ≡ true → has_tag book tag ≡ true
  tag_found book tag None told e = absurd (false≢true e)
  tag_found book tag (Some i) told e = found_has book tag i told

  pub tag_missed : (book : List (Record L)) (tag : ℕ) (found : Option ℕ) → MatchOption found (has_tag book tag ≡ false) (FoundAt book tag) → is_some found ≡ false → has_tag book tag ≡ false
  tag_missed book tag None told e = told
  tag_missed book tag (Some i) told e = absurd (false≢true (sym e))

  pub tag_known : (book : List (Record L)) (tag : ℕ) (found : Option ℕ) → MatchOption found (has_tag book tag ≡ false) (FoundAt book tag) → is_some found ≡ has_tag book tag
  tag_known book tag None told = sym told
  tag_known book tag (Some i) told = sym (found_has book tag i told)

  pub once_of : (c : Cell L) → Once (book c)
  once_of c = (sound_to c.marks (book c) c.sound).apart

  pub length_book : (c : Cell L) → length (book c) ≡ c.filled
  length_book c = omega (arith, length-take c.filled (memory c), c.room)

  -- a refused entry changes nothing
  pub refused : (k : Kind L) (c : Cell L) (tag : ℕ) (rule : Rule L) (fault : EntryFault) → entry_check k c.marks (used (length (memory c))) (book c) tag rule ≡ Err fault →
      (fault ≡ Full → length (book c) ≡ used (length (memory c))) → Enters k c tag rule (Err fault) c
  refused k c tag rule fault check why = record {
    answers = sym check;
    marks_kept = refl;
    lent_kept = refl;
    book_after = sym (ap (λ r. cond (is_ok r) (book c ++ record { tag = tag; rule = rule } ∷ []) (book c)) check);
    memory_after = refl;
    found = λ e. absurd (false≢true e);
    others = λ _ _. refl;
    once = once_of c;
    full = λ e. why (same_fault fault Full e);
  }

  -- a rule that is turned away changes nothing
  pub turned_away : (k : Kind L) (c : Cell L) (tag : ℕ) (rule : Rule L) → (tag ≡ 0 → ⊥) → rule_check k c.marks rule ≡ Ok tt → (known full : Bool) → known ≡ has_tag (book c) tag →
      full ≡ leb (used (length (memory c))) c.filled → (fault : EntryFault) → admission known full ≡ Err fault → Enters k c tag rule (Err fault) c
  turned_away k c tag rule tagged fits known full is_Known is_full fault away =
      let cap = used (length (memory c)) in
      let filled : full ≡ leb cap (length (book c)) = is_full ∙ sym (ap (leb cap) (length_book c)) in
      refused k c tag rule fault
      (past_rule k c.marks cap (book c) tag rule tagged fits ∙ subst (λ t. admission t (leb cap (length (book c))) ≡ Err fault) is_Known (subst (λ t. admission known t ≡ Err fault) filled away))
      (λ e. omega (arith, leb-true cap (length (book c)) (sym filled ∙ full_only known full fault away e), length_book c, c.room))

  pub book_appended : (c after : Cell L) (new : Record L) → c.filled < used (length (memory c)) → Appends c new after → book after ≡ book c ++ new ∷ []
  book_appended c after new room a =
      ap (λ m. take m (memory after)) a.filled_after
      ∙ ap (take (c.filled + 1)) a.memory_after
      ∙ take_more_set (memory c) c.filled new (omega arith)

  -- an accepted entry adds its rule under its tag
  pub appended : (k : Kind L) (c after : Cell L) (tag : ℕ) (rule : Rule L) → entry_check k c.marks (used (length (memory c))) (book c) tag rule ≡ Ok tt →
      has_tag (book c) tag ≡ false → c.filled < used (length (memory c)) → Appends c (record { tag = tag; rule = rule }) after → Enters k c tag rule (Ok tt) after
  appended k c after tag rule check new room a =
      let x : Record L = record { tag = tag; rule = rule } in
      let now_book = book_appended c after x room a in
      record {
        answers = sym check;
        marks_kept = a.marks_kept;
        lent_kept = a.lent_kept;
        book_after = now_book ∙ sym (ap (λ r. cond (is_ok r) (book c ++ x ∷ []) (book c)) check);
        memory_after = a.memory_after;
        found = λ _. ap (λ b. look_up b tag) now_book ∙ look_up_push (book c) x new;
        others = λ other ne. ap (λ b. look_up b other) now_book ∙ look_up_others (book c) x other ne;
        once = once_of after;
        full = λ e. absurd (ok_or_err e);
      }
    where
      ok_or_err : ◌≡◌ {A = Result (Unit {0}) EntryFault} (Ok tt) (Err Full) → ⊥
      ok_or_err e = let z : ◌≡◌ {A = ℕ} 0 1 = cc in omega arith

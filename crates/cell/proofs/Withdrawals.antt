-- What a withdrawal answers, and what it leaves.
use Rattle.std.proofs.Common.{◌≡◌, ℕ, ◌-◌, ◌<◌, true, false, cond, eqb, List, take, is_ok, Ok, Err, sym, refl, ap, ◌∙◌, arith}
use Rattle.std.proofs.lemmas.Bool.{cond-true, cond-false, eq-eqb, ne_eqb, false≢true}
use Rattle.cell.specs.Book.{has_tag, look_up, FoundAt}
use Rattle.cell.specs.Calls.{copied, place_of, withdrawal_check}
use Rattle.cell.specs.Memory.{book, memory, Strikes, Withdraws}
use Rattle.cell.specs.declared.cell.Cell.{Cell}
use Rattle.faults.specs.declared.fault.WithdrawalFault.{WithdrawalFault}
use Rattle.faults.specs.declared.fault.WithdrawalFault.TheVariants.{NoTag, TagNotInForce}
use Rattle.cell.specs.declared.record.Record.{Record}
use Rattle.cell.proofs.Entries.{length_book, once_of}
use Rattle.cell.proofs.Sound.{sound_to}
use Rattle.cell.proofs.Striking.{struck, struck_front, struck_others, struck_tag}
use Rattle.cell.proofs.Tags.{found_has, found_place, no_rule}

module _ {L : Type 0} where
  pub zero_tag : (book : List (Record L)) (tag : ℕ) → tag ≡ 0 → withdrawal_check book tag ≡ Err NoTag
  zero_tag book tag e = cond-true (eqb tag 0) _ _ (eq-eqb tag 0 e)

  pub not_in_force : (book : List (Record L)) (tag : ℕ) → (tag ≡ 0 → ⊥) → has_tag book tag ≡ false → withdrawal_check book tag ≡ Err TagNotInForce
  not_in_force book tag tagged none = cond-false (eqb tag 0) _ _ (ne_eqb tag 0 tagged) ∙ cond-false (has_tag book tag) _ _ none

  in_force : (book : List (Record L)) (tag : ℕ) → (tag ≡ 0 → ⊥) → has_tag book tag ≡ true → withdrawal_check book tag ≡ Ok tt
  in_force book tag tagged has = cond-false (eqb tag 0) _ _ (ne_eqb tag 0 tagged) ∙ cond-true (has_tag book tag) _ _ has

  -- a refused withdrawal changes nothing
  pub refused : (c : Cell L) (tag : ℕ) (fault : WithdrawalFault) → withdrawal_check (book c) tag ≡ Err fault → Withdraws c tag (Err fault) c
  refused c tag fault check = record {
    answers = sym check;
    marks_kept = refl;
    lent_kept = refl;
    book_after = sym (ap (λ r. cond (is_ok r) (struck (book c) (place_of (book c) tag)) (book c)) check);
    memory_after = refl;
    gone = λ e. absurd (false≢true e);
    others = λ _ _. refl;
    once = once_of c;
  }

  pub book_struck : (c after : Cell L) (place : ℕ) (d : Record L) → place < c.filled → Strikes c place after → book after ≡ struck (book c) place
  book_struck c after place d l a =
      let less : after.filled ≡ c.filled - 1 = omega (arith, a.filled_after) in
      ap (λ m. take m (memory after)) less
      ∙ ap (take (c.filled - 1)) a.memory_after
      ∙ struck_front (memory c) c.filled place d (omega arith) (omega (arith, c.room)) l

  -- an accepted withdrawal strikes the rule under its tag, and nothing else
  pub withdraws : (c after : Cell L) (tag place : ℕ) (d : Record L) → (tag ≡ 0 → ⊥) → FoundAt (book c) tag place → Strikes c place after → Withdraws c tag (Ok tt) after
  withdraws c after tag place d tagged f a =
      let long = length_book c in
      let at = found_place (book c) tag place f in
      let check = in_force (book c) tag tagged (found_has (book c) tag place f) in
      let now_book = book_struck c after place d (omega (arith, f.within)) a in
      let s = sound_to c.marks (book c) c.sound in
      record {
        answers = sym check;
        marks_kept = a.marks_kept;
        lent_kept = a.lent_kept;
        book_after = now_book ∙ ap (struck (book c)) (sym at) ∙ sym (ap (λ r. cond (is_ok r) (struck (book c) (place_of (book c) tag)) (book c)) check);
        memory_after = a.memory_after ∙ ap (copied (memory c) (c.filled - 1)) (sym at);
        gone = λ _. ap (λ b. look_up b tag) now_book ∙ no_rule (struck (book c) place) tag (struck_tag c.marks (book c) place s f.within tag d (f.here d));
        others = λ other ne. ap (λ b. look_up b other) now_book ∙ struck_others c.marks (book c) place s f.within tag other d (f.here d) ne;
        once = once_of after;
      }

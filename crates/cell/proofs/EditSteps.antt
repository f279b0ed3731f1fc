-- A list of edits, one edit on.
use Rattle.std.proofs.Common.{◌≡◌, ℕ, ◌+◌, ◌-◌, ◌<◌, List, [], ◌∷◌, length, get_or, drop, set, is_ok, sym, refl, ap, ◌∙◌, ap₂}
use Rattle.std.proofs.lemmas.List.{at_drop_more, length-set}
use Rattle.std.proofs.lemmas.Bool.{cond_both}
use Rattle.lengths.specs.Kind.{Kind}
use Rattle.cell.specs.Book.{used}
use Rattle.cell.specs.Calls.{copied, entry_check, place_of, put_first, withdrawal_check}
use Rattle.cell.specs.Edits.{after_from, after_memory_from, edited, edited_memory}
use Rattle.cell.specs.declared.editing.Edit.{Edit}
use Rattle.cell.specs.declared.editing.Edit.TheVariants.{Enter, Withdraw}
use Rattle.cell.specs.declared.record.Record.{Record}

length_put_first : {X : Type 0} (ys xs : List X) (to : ℕ) → length (put_first ys xs to) ≡ length xs
length_put_first [] xs to = refl
length_put_first (y ∷ ys) xs to = length-set xs to y

-- no edit makes the memory longer or shorter
pub length_edited : {L : Type 0} (k : Kind L) (n : ℕ) (memory book : List (Record L)) (e : Edit L) → length (edited_memory k n memory book e) ≡ length memory
length_edited k n memory book (Enter tag rule) =
    cond_both (is_ok (entry_check k n (used (length memory)) book tag rule)) (set memory (length book) (record { tag = tag; rule = rule })) memory
    (λ m. length m ≡ length memory) (λ _. length-set memory (length book) (record { tag = tag; rule = rule })) (λ _. refl)
length_edited k n memory book (Withdraw tag) =
    cond_both (is_ok (withdrawal_check book tag)) (copied memory (length book - 1) (place_of book tag)) memory
    (λ m. length m ≡ length memory) (λ _. length_put_first (drop (length book - 1) memory) memory (place_of book tag)) (λ _. refl)

module _ {L : Type 0} (k : Kind L) (edits : List (Edit L)) (i : ℕ) (e : Edit L) (h : i < length edits) (read : e ≡ get_or edits i e) where
  -- the book that the rest of the edits makes, before and after one edit
  pub book_on : (n m cap used' : ℕ) (book next : List (Record L)) → m ≡ n → used' ≡ cap → next ≡ edited k m used' book e →
      after_from k n cap next (drop (i + 1) edits) ≡ after_from k n cap book (drop i edits)
  book_on n m cap used' book next marks records made =
      ap (λ b. after_from k n cap b (drop (i + 1) edits))
      (made ∙ ap₂ (λ a b. edited k a b book e) marks records ∙ ap (edited k n cap book) read)
      ∙ sym (at_drop_more (after_from k n cap book) edits i e h)

  pub memory_on : (n m : ℕ) (memory memory' book next : List (Record L)) → m ≡ n → memory' ≡ edited_memory k m memory book e → next ≡ edited k m (used (length memory)) book e →
      after_memory_from k n memory' next (drop (i + 1) edits) ≡ after_memory_from k n memory book (drop i edits)
  memory_on n m memory memory' book next marks wrote made =
      ap₂ (λ a b. after_memory_from k n a b (drop (i + 1) edits))
      (wrote ∙ ap (λ a. edited_memory k a memory book e) marks ∙ ap (edited_memory k n memory book) read)
      (made ∙ ap (λ a. edited k a (used (length memory)) book e) marks ∙ ap (edited k n (used (length memory)) book) read)
      ∙ sym (at_drop_more (after_memory_from k n memory book) edits i e h)

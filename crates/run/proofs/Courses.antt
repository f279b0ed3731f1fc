-- A list of calls, one call on.
use Rattle.std.proofs.Common.{◌≡◌, ℕ, List, [], ◌∷◌, ◌++◌, map, length, Option, sym, refl, ap, ◌∙◌}
use Rattle.lengths.specs.Kind.{Kind}
use Rattle.rules.specs.declared.rule.Rule.{Rule}
use Rattle.cell.specs.Book.{used}
use Rattle.cell.specs.Force.{book_rules, by_tag}
use Rattle.cell.specs.declared.editing.Edit.TheVariants as edit
use Rattle.cell.specs.declared.record.Record.{Record}
use Rattle.cell.proofs.EditSteps.{length_edited}
use Rattle.run.specs.Course.{after_from, after_memory_from, book_after, memory_after}
use Rattle.run.specs.Promise.{calls, Faithful, Performs}
use Rattle.run.specs.declared.turn.Call.{Call}
use Rattle.run.specs.declared.turn.Call.TheVariants.{Compact, Enter, LookUp, Reduce, Try, Withdraw}
use Rattle.run.specs.declared.turn.Turn.{Turn}

module _ {L : Type 0} (k : Kind L) (n : ℕ) where
  -- no call makes the memory longer or shorter
  pub length_after : (memory book : List (Record L)) (call : Call L) → length (memory_after k n memory book call) ≡ length memory
  length_after memory book (Enter tag rule) = length_edited k n memory book (edit.Enter tag rule)
  length_after memory book (Withdraw tag) = length_edited k n memory book (edit.Withdraw tag)
  length_after memory book (LookUp tag) = refl
  length_after memory book Try = refl
  length_after memory book Compact = refl
  length_after memory book Reduce = refl

  pub book_more : (records : ℕ) (book : List (Record L)) (xs : List (Call L)) (call : Call L) → after_from k n records book (xs ++ call ∷ []) ≡ book_after k n records (after_from k n records book xs) call
  book_more records book [] call = refl
  book_more records book (x ∷ xs) call = book_more records (book_after k n records book x) xs call

  pub memory_more : (records : ℕ) (memory book : List (Record L)) (xs : List (Call L)) (call : Call L) → records ≡ used (length memory) →
      after_memory_from k n memory book (xs ++ call ∷ []) ≡ memory_after k n (after_memory_from k n memory book xs) (after_from k n records book xs) call
  memory_more records memory book [] call is = refl
  memory_more records memory book (x ∷ xs) call is =
      memory_more records (memory_after k n memory book x) (book_after k n (used (length memory)) book x) xs call (is ∙ sym (ap used (length_after memory book x)))
      ∙ ap (λ (r : ℕ). memory_after k n (after_memory_from k n (memory_after k n memory book x) (book_after k n (used (length memory)) book x) xs) (after_from k n records (book_after k n r book x) xs) call) (sym is)

module _ {L S : Type 0} (k : Kind L) (listing : S → List (Option (Rule L))) (n records : ℕ) where
  -- one turn more
  pub faithful_more : (book : List (Record L)) (before after : List (Turn L S)) (t u : Turn L S) → Faithful k listing n records book before after →
      book_rules k n (after_from k n records book (calls before)) ≡ map (by_tag k n) (after_from k n records book (calls before)) →
      Performs k listing n records (after_from k n records book (calls before)) t u → Faithful k listing n records book (before ++ t ∷ []) (after ++ u ∷ [])
  faithful_more book [] [] t u so_far force performs = (force, performs, tt)
  faithful_more book (x ∷ before) (y ∷ after) t u so_far force performs =
      (so_far.0, so_far.1, faithful_more (book_after k n records book x.call) before after t u so_far.2 force performs)
  faithful_more book [] (y ∷ after) t u so_far force performs = absurd so_far
  faithful_more book (x ∷ before) [] t u so_far force performs = absurd so_far

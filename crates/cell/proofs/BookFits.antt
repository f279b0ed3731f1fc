-- Every rule in the book fits the cell, since an entry lets in no other; so all of them are in force.
use Rattle.std.proofs.Common.{◌≡◌, ℕ, ◌-◌, Bool, true, false, cond, eqb, List, [], ◌∷◌, ◌++◌, map, length, take, drop, is_ok, Ok, Err, Result, refl, ap, ◌∙◌}
use Rattle.std.specs.List.{AllByRecursion as Every}
use Rattle.std.proofs.ByRecursion.{All-drop, All-push, All-set, All-take}
use Rattle.std.proofs.lemmas.Bool.{cond_both, cond-true, false≢true}
use Rattle.lengths.specs.Kind.{Kind}
use Rattle.rules.specs.Rule.{rule_check}
use Rattle.rules.specs.declared.fault.RuleFault.{RuleFault}
use Rattle.cell.specs.Calls.{copied, entry_check, place_of, put_first, unfit_or, withdrawal_check}
use Rattle.cell.specs.Edits.{after, after_from, edited}
use Rattle.cell.specs.Force.{book_rules, by_tag}
use Rattle.cell.specs.declared.editing.Edit.{Edit}
use Rattle.cell.specs.declared.editing.Edit.TheVariants.{Enter, Withdraw}
use Rattle.faults.specs.declared.fault.EntryFault.{EntryFault}
use Rattle.faults.specs.declared.fault.EntryFault.TheVariants as entry
use Rattle.cell.specs.declared.record.Record.{Record}

module _ {L : Type 0} (k : Kind L) (n : ℕ) where
  -- a record whose rule fits
  abbrev pub Fits : Record L → Type 0
  Fits r = is_ok (rule_check k n r.rule) ≡ true

  -- an accepted answer behind the check of a rule says that the rule fits
  accepted_fits : (zero : Bool) (check : Result (Unit {0}) RuleFault) (rest : Result (Unit {0}) EntryFault) →
      is_ok (cond zero (Err entry.NoTag) (unfit_or check rest)) ≡ true → is_ok check ≡ true
  accepted_fits true check rest e = absurd (false≢true e)
  accepted_fits false (Err fault) rest e = absurd (false≢true e)
  accepted_fits false (Ok _) rest ok = refl

  put_fits : (ys book : List (Record L)) (to : ℕ) → Every Fits ys → Every Fits book → Every Fits (put_first ys book to)
  put_fits [] book to ys all = all
  put_fits (y ∷ ys) book to goods all = All-set Fits book to y goods.0 all

  pub edited_fits : (records : ℕ) (book : List (Record L)) (e : Edit L) → Every Fits book → Every Fits (edited k n records book e)
  edited_fits records book (Enter tag rule) all =
      let new : Record L = record { tag = tag; rule = rule } in
      cond_both (is_ok (entry_check k n records book tag rule)) (book ++ new ∷ []) book (Every Fits)
      (λ ok. All-push Fits book new all (accepted_fits (eqb tag 0) (rule_check k n rule) _ ok)) (λ _. all)
  edited_fits records book (Withdraw tag) all =
      let last = length book - 1 in
      cond_both (is_ok (withdrawal_check book tag)) (take last (copied book last (place_of book tag))) book (Every Fits)
      (λ _. All-take Fits last (copied book last (place_of book tag)) (put_fits (drop last book) book (place_of book tag) (All-drop Fits last book all) all)) (λ _. all)

  after_from_fits : (records : ℕ) (book : List (Record L)) (edits : List (Edit L)) → Every Fits book → Every Fits (after_from k n records book edits)
  after_from_fits records book [] all = all
  after_from_fits records book (e ∷ edits) all = after_from_fits records (edited k n records book e) edits (edited_fits records book e all)

  pub all_fit_after : (records : ℕ) (edits : List (Edit L)) → Every Fits (after k n records edits)
  all_fit_after records edits = after_from_fits records [] edits tt

  pub all_in_force : (book : List (Record L)) → Every Fits book → book_rules k n book ≡ map (by_tag k n) book
  all_in_force [] _ = refl
  all_in_force (r ∷ book) all = cond-true (is_ok (rule_check k n r.rule)) (by_tag k n r ∷ book_rules k n book) (book_rules k n book) all.0 ∙ ap (λ rules. by_tag k n r ∷ rules) (all_in_force book all.1)

-- The rules in force at a call: the boundary rules, the book's, and the source's, each with its number.
use Rattle.std.specs.Prelude.{◌≡◌, ℕ, ◌+◌, ◌-◌, cond, List, [], ◌∷◌, ◌++◌, map, length, is_ok, Some, None, Ok, Err, Option, Result, nat_lt}
use Rattle.std.specs.List.{range_with_len}
use Rattle.lengths.specs.Kind.{Kind}
use Rattle.rules.specs.Rule.{minimum, rule_check}
use Rattle.rules.specs.declared.fault.RuleFault.{RuleFault}
use Rattle.rules.specs.declared.rule.Rule.{Rule}
use Rattle.graph.specs.declared.numbered.Numbered.{Numbered}
use Rattle.faults.specs.declared.fault.SourceFault.{SourceFault}
use Rattle.faults.specs.declared.fault.SourceFault.TheVariants.{TooManyPlaces, UnfitPlace}
use Rattle.cell.specs.declared.record.Record.{Record}

module _ {L : Type 0} (k : Kind L) (n : ℕ) where
  -- The boundary rule of a mark: it does not lie left of mark 0.
  abbrev pub boundary_rule : ℕ → Numbered L
  boundary_rule m = record { number = 70_000 + m; rule = minimum 0 m k.zero }

  -- Every mark from 1 up has one.
  abbrev pub boundary_rules : List (Numbered L)
  boundary_rules = map boundary_rule (range_with_len 1 (n - 1))

  -- A rule of the book goes by its tag.
  abbrev pub by_tag : Record L → Numbered L
  by_tag r = record { number = r.tag; rule = r.rule }

  -- The book's rules that fit. An entry lets in no other, so these are all of them.
  abbrev pub book_rules : List (Record L) → List (Numbered L)
  book_rules [] = []
  book_rules (r ∷ book) = cond (is_ok (rule_check k n r.rule)) (by_tag r ∷ book_rules book) (book_rules book)

  -- A source's rules go by their places, counted from p on.
  abbrev pub place_rules : ℕ → List (Option (Rule L)) → List (Numbered L)
  place_rules p [] = []
  place_rules p (None ∷ places) = place_rules (p + 1) places
  place_rules p (Some r ∷ places) = record { number = 100_000 + p; rule = r } ∷ place_rules (p + 1) places

  abbrev pub in_force : List (Record L) → List (Option (Rule L)) → List (Numbered L)
  in_force book places = boundary_rules ++ book_rules book ++ place_rules 0 places

  -- The first place, counted from p on, whose rule does not fit, with its cause.
  abbrev pub unfit_place : ℕ → Result (Unit {0}) RuleFault → Result (Unit {0}) SourceFault → Result (Unit {0}) SourceFault
  unfit_place p (Err cause) rest = Err (UnfitPlace p cause)
  unfit_place p (Ok _) rest = rest

  abbrev pub places_check : ℕ → List (Option (Rule L)) → Result (Unit {0}) SourceFault
  places_check p [] = Ok tt
  places_check p (None ∷ places) = places_check (p + 1) places
  places_check p (Some r ∷ places) = unfit_place p (rule_check k n r) (places_check (p + 1) places)

  -- A call takes a source of at most 8,192 places, all of whose rules fit the cell.
  abbrev pub source_check : List (Option (Rule L)) → Result (Unit {0}) SourceFault
  source_check places = cond (nat_lt 8192 (length places)) (Err TooManyPlaces) (places_check 0 places)

  -- What gathering a source does: its rules behind those before, or the fault of the source.
  abbrev pub GathersSource : List (Option (Rule L)) → List (Numbered L) → Result (Unit {0}) SourceFault → List (Numbered L) → Type 0
  GathersSource places before (Ok _) after = (source_check places ≡ Ok tt) × (after ≡ before ++ place_rules 0 places)
  GathersSource places before (Err fault) after = source_check places ≡ Err fault

  -- What gathering does: the rules in force, or the fault of the source.
  abbrev pub Gathers : List (Record L) → List (Option (Rule L)) → Result (Unit {0}) SourceFault → List (Numbered L) → Type 0
  Gathers book places (Ok _) after = (source_check places ≡ Ok tt) × (after ≡ in_force book places)
  Gathers book places (Err fault) after = source_check places ≡ Err fault

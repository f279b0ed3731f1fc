-- A test that a worked case follows from the definitions, one outcome after another.
use Rattle.std.proofs.Common.{◌≡◌, ℕ, zero, suc, Bool, true, false, not, ◌&&◌, eqb, leb, List, [], ◌∷◌, map, length, get_or, is_ok, Some, None, Ok, Err, filter, Option, Result, refl}
use Rattle.std.specs.List.{range_with_len, flat_map}
use Rattle.lengths.specs.Grid.{grid_kind}
use Rattle.lengths.specs.Kind.{Kind}
use Rattle.lengths.specs.Strict.{strict_kind}
use Rattle.rules.specs.declared.rule.Rule.{Rule}
use Rattle.graph.specs.Cycles.{numbers}
use Rattle.graph.specs.Listed.{plain}
use Rattle.graph.specs.Midpoints.{longer}
use Rattle.graph.specs.Paths.{left_marks, path_length}
use Rattle.graph.specs.Rows.{position, row_limit}
use Rattle.graph.specs.Trial.{breaks}
use Rattle.graph.specs.declared.numbered.Numbered.{Numbered}
use Rattle.graph.proofs.Layers.{longest_to, best_step, candidate, extended}
use Rattle.reduction.specs.Reduction.{reduced_list, equal, least, any, add_up, meet, as_gap, tied, through, leader, distance_rule, ring_from, ring, splits, leaders, group, listed, pairs_from}
use Rattle.cell.specs.Calls.{entered, entry_check, marks_check}
use Rattle.cell.specs.Force.{in_force, source_check}
use Rattle.cell.specs.Trial.{trial_answer}
use Rattle.cell.specs.declared.record.Record.{Record}
use Rattle.cases.specs.Worked.{Outcome, Case, Worked, packed, over_constrained, tried, reduced, of_grid, of_strict, book_after, worked}

-- Every number below n passes.
abbrev pub every_below : (ℕ → Bool) → ℕ → Bool
every_below test zero = true
every_below test (suc n) = test n && every_below test n

-- Every element passes.
abbrev pub every : {X : Type 0} → (X → Bool) → List X → Bool
every test [] = true
every test (x ∷ xs) = test x && every test xs

-- Two lists have elements that pass together, place by place.
abbrev pub alike : {X : Type 0} → (X → X → Bool) → List X → List X → Bool
alike test [] [] = true
alike test [] (y ∷ ys) = false
alike test (x ∷ xs) [] = false
alike test (x ∷ xs) (y ∷ ys) = test x y && alike test xs ys

-- An accepted answer of this number.
abbrev pub answers : {E : Type 0} → Result ℕ E → ℕ → Bool
answers (Ok m) number = eqb m number
answers (Err e) number = false

-- No mark stands twice.
abbrev pub apart : List ℕ → Bool
apart [] = true
apart (m ∷ ms) = every (λ x. not (eqb x m)) ms && apart ms

-- Rules lead from mark i to mark j.
abbrev pub leads_to : {L : Type 0} → ℕ → ℕ → List (Rule L) → Bool
leads_to i j [] = eqb i j
leads_to i j (r ∷ p) = eqb r.from i && leads_to r.to j p

module _ {L : Type 0} (k : Kind L) where
  -- Two near lengths are the same.
  abbrev pub same : L → L → Bool
  same x y = leb (k.measure x) row_limit && (leb (k.measure y) row_limit && (k.at_most x y && k.at_most y x))

  -- A length exists and is this one.
  abbrev pub same_some : Option L → L → Bool
  same_some None y = false
  same_some (Some x) y = same x y

  abbrev pub same_rule : Rule L → Rule L → Bool
  same_rule r s = eqb r.from s.from && (eqb r.to s.to && same r.gap s.gap)

  -- Entries after a book are all accepted.
  abbrev pub all_accepted : ℕ → List (Record L) → List (Record L) → Bool
  all_accepted n book [] = true
  all_accepted n book (r ∷ entries) = is_ok (entry_check k n 16 book r.tag r.rule) && all_accepted n (entered k n 16 book r.tag r.rule) entries

  -- The longest path lengths from mark 0, mark by mark.
  abbrev pub from_zero : ℕ → List (Rule L) → List L
  from_zero n rules = map (λ m. as_gap k (longest_to k rules m n 0)) (range_with_len 0 n)

  -- A row has mark 0 at zero and every mark near, and keeps the rules.
  abbrev pub places_all : ℕ → List (Rule L) → List L → Bool
  places_all n rules row =
      leb n (length row)
      && (same (position k row 0) k.zero
      && (every_below (λ m. leb (k.measure (position k row m)) row_limit) n
      && every (λ r. not (breaks k row r)) rules))

  -- A row lies at the longest path lengths from mark 0, and is a placement.
  abbrev pub packs : ℕ → List (Rule L) → List L → Bool
  packs n rules row =
      eqb (length row) n
      && (places_all n rules row
      && every_below (λ m. same_some (longest_to k rules m n 0) (position k row m)) n)

  -- The rules with these numbers.
  abbrev pub chosen : List (Numbered L) → List ℕ → List (Numbered L)
  chosen rules shown = flat_map (λ m. filter (λ q. eqb q.number m) rules) shown

  -- Rules lead from mark i back to it, leave no mark twice nor one below i, and are longer than zero.
  abbrev pub circles : ℕ → ℕ → List (Rule L) → Bool
  circles n i p =
      (leb 1 (length p) && leb (length p) n)
      && (leads_to i i p
      && (apart (left_marks p)
      && (every (leb i) (left_marks p)
      && not (k.at_most (path_length k p) k.zero))))

  -- The rules with these numbers, in their order, are a cycle from its smallest mark.
  abbrev pub shows : ℕ → List (Numbered L) → List ℕ → Bool
  shows n rules shown =
      alike eqb (numbers (chosen rules shown)) shown
      && circles n (get_or (left_marks (plain (chosen rules shown))) 0 0) (plain (chosen rules shown))

  -- The longest path lengths from mark 0 are a placement, and the reduced list of all distances is this one.
  abbrev pub reduces : ℕ → List (Rule L) → List (Rule L) → Bool
  reduces n rules list =
      places_all n rules (from_zero n rules) && alike same_rule (reduced_list k (λ i j. longest_to k rules j n i) n) list

  -- The test of an outcome.
  abbrev pub meant : ℕ → List (Record L) → List (Option (Rule L)) → Outcome L → Bool
  meant n book places (packed row) = packs n (plain (in_force k n book places)) row
  meant n book places (over_constrained shown) = shows n (in_force k n book places) shown
  meant n book places (tried row number) = answers (trial_answer k n book places row) number
  meant n book places (reduced list) = reduces n (plain (in_force k n book places)) list

  -- The test of a case.
  abbrev pub passes_for : Case L → Bool
  passes_for c =
      is_ok (marks_check c.marks)
      && (all_accepted c.marks [] c.entries
      && (is_ok (source_check k c.marks c.places)
      && meant c.marks (book_after k c.marks c.entries) c.places c.outcome))

abbrev pub passes : Worked → Bool
passes (of_grid c) = passes_for grid_kind c
passes (of_strict c) = passes_for strict_kind c

-- Every worked case passes.
pub all_pass : every passes worked ≡ true
unfolding worked longest_to best_step candidate extended longer reduced_list equal least any add_up meet as_gap tied through leader distance_rule ring_from ring splits leaders group listed pairs_from
all_pass = refl

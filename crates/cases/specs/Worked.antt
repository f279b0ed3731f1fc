-- Worked cases: small cells, and what each comes to by the definitions.
use Rattle.std.specs.Prelude.{◌≡◌, ℕ, List, [], ◌∷◌, ◌++◌, map, length, ℤ, pos, neg_ℤ, Ok, Option}
use Rattle.lengths.specs.Grid.{grid, grid_kind}
use Rattle.lengths.specs.Kind.{Kind}
use Rattle.lengths.specs.Strict.{strict, strict_kind}
use Rattle.lengths.specs.declared.grid.Grid.{Grid}
use Rattle.lengths.specs.declared.strict.Strict.{Strict}
use Rattle.rules.specs.Rule.{minimum, maximum}
use Rattle.rules.specs.declared.rule.Rule.{Rule}
use Rattle.boxes.specs.Places.{box_places}
use Rattle.graph.specs.Cycles.{numbers}
use Rattle.graph.specs.Distances.{Distances}
use Rattle.graph.specs.Listed.{plain}
use Rattle.graph.specs.Outcome.{ShownCycle}
use Rattle.graph.specs.Packing.{Packed}
use Rattle.graph.specs.Paths.{PositiveCycle}
use Rattle.graph.specs.declared.numbered.Numbered.{Numbered}
use Rattle.reduction.specs.Reduction.{reduced_list}
use Rattle.cell.specs.Calls.{marks_check}
use Rattle.run.specs.Course.{after}
use Rattle.cell.specs.Force.{in_force, source_check}
use Rattle.cell.specs.Trial.{trial_answer}
use Rattle.run.specs.declared.turn.Call.TheVariants.{Enter}
use Rattle.cell.specs.declared.record.Record.{Record}

-- What a cell comes to: its packed positions, the numbers of a positive cycle, the answer to a row tried, or its reduced list.
pub data Outcome (L : Type 0) : Type 0 where
  packed : List L → Outcome L
  over_constrained : List ℕ → Outcome L
  tried : List L → ℕ → Outcome L
  reduced : List (Rule L) → Outcome L

-- A case: so many marks, the entries made in order into an empty book, what a source tells, and the outcome.
pub record Case (L : Type 0) : Type 0 where
  pub marks : ℕ
  pub entries : List (Record L)
  pub places : List (Option (Rule L))
  pub outcome : Outcome L

module _ {L : Type 0} (k : Kind L) where
  -- The book after entries into a cell of n marks and 16 records.
  abbrev pub book_after : ℕ → List (Record L) → List (Record L)
  book_after n entries = after k n 16 (map (λ r. Enter r.tag r.rule) entries)

  -- What an outcome says of a cell of n marks with a book and a source.
  abbrev pub Means : ℕ → List (Record L) → List (Option (Rule L)) → Outcome L → Type 0
  Means n book places (packed row) = (length row ≡ n) × Packed k n (plain (in_force k n book places)) row row
  Means n book places (over_constrained shown) = (i : ℕ) × (p : List (Numbered L)) × ShownCycle k n (in_force k n book places) i p × (numbers p ≡ shown)
  Means n book places (tried row number) = trial_answer k n book places row ≡ Ok number
  Means n book places (reduced list) =
      ((i : ℕ) (p : List (Rule L)) → PositiveCycle k (plain (in_force k n book places)) i p → ⊥) × ((d : ℕ → ℕ → Option L) × Distances k n (plain (in_force k n book places)) d × (reduced_list k d n ≡ list))

  -- A case follows from the definitions.
  pub record FollowsFor (c : Case L) : Type 0 where
    -- the cell may have so many marks
    pub marked : marks_check c.marks ≡ Ok tt
    -- every entry is accepted
    pub accepted : book_after c.marks c.entries ≡ c.entries
    -- the source is accepted
    pub fit : source_check k c.marks c.places ≡ Ok tt
    -- the outcome is what the definitions say
    pub means : Means c.marks (book_after c.marks c.entries) c.places c.outcome

-- A worked case is of grid lengths or of strict lengths.
pub data Worked : Type 0 where
  of_grid : Case Grid → Worked
  of_strict : Case Strict → Worked

-- A worked case follows from the definitions, at its kind of length.
abbrev pub Follows : Worked → Type 0
Follows (of_grid c) = FollowsFor grid_kind c
Follows (of_strict c) = FollowsFor strict_kind c

-- A rule under a tag.
abbrev tagged : {L : Type 0} → ℕ → Rule L → Record L
tagged tag rule = record { tag = tag; rule = rule }

-- Mark j lies at least so many steps beyond mark i.
abbrev at_least : ℕ → ℕ → ℕ → Rule Grid
at_least i j g = minimum i j (grid (pos g))

-- Mark j lies at most so many steps beyond mark i.
abbrev at_most : ℕ → ℕ → ℤ → Rule Grid
at_most i j g = maximum grid_kind i j (grid g)

-- A row of grid lengths.
abbrev row : List ℕ → List Grid
row xs = map (λ x. grid (pos x)) xs

-- Two minima in a row, a third beside them, and a maximum, between four marks.
abbrev four : List (Record Grid)
four = tagged 1 (at_least 0 1 2) ∷ tagged 2 (at_least 1 2 3) ∷ tagged 3 (at_least 0 3 9) ∷ tagged 4 (at_most 1 3 (pos 5)) ∷ []

-- The same and a maximum of so much from mark 0 to mark 2.
abbrev five : ℕ → List (Record Grid)
five most = four ++ tagged 5 (at_most 0 2 (pos most)) ∷ []

-- Two minima in a row and a maximum of so much over both, between three marks.
abbrev three : Strict → List (Record Strict)
three most =
    tagged 1 (minimum 0 1 (strict (pos 3) (pos 0))) ∷ tagged 2 (minimum 1 2 (strict (pos 2) (pos 1)))
    ∷ tagged 3 (maximum strict_kind 0 2 most) ∷ []

-- What a source of factor 2 tells of a box of polysilicon with the span 0 to 10 and one of diffusion whose span ends at 20.
abbrev two_boxes : ℕ → List (Option (Rule Grid))
two_boxes bottom =
    box_places 2 (
    record { layer = 2; left = 1; right = 2; bottom = pos 0; top = pos 10 }
    ∷ record { layer = 1; left = 3; right = 4; bottom = pos bottom; top = pos 20 }
    ∷ [])

-- A case with entries, whose source tells nothing.
abbrev entered : {L : Type 0} → ℕ → List (Record L) → Outcome L → Case L
entered n entries outcome = record { marks = n; entries = entries; places = []; outcome = outcome }

-- A case with no entries, whose source tells these places.
abbrev told : {L : Type 0} → ℕ → List (Option (Rule L)) → Outcome L → Case L
told n places outcome = record { marks = n; entries = []; places = places; outcome = outcome }

-- The worked cases: four marks, then two, then strict lengths, then boxes.
unfoldable pub worked : List Worked
worked =
    of_grid (entered 4 four (packed (row (0 ∷ 4 ∷ 7 ∷ 9 ∷ []))))
    ∷ of_grid (entered 4 four (reduced (at_least 0 3 9 ∷ at_least 1 2 3 ∷ at_most 1 3 (pos 5) ∷ [])))
    ∷ of_grid (entered 4 four (tried (row (0 ∷ 5 ∷ 8 ∷ 9 ∷ [])) 0))
    ∷ of_grid (entered 4 four (tried (row (0 ∷ 4 ∷ 7 ∷ 8 ∷ [])) 3))
    -- the gaps of this cycle add to 1
    ∷ of_grid (entered 4 (five 6) (over_constrained (3 ∷ 4 ∷ 2 ∷ 5 ∷ [])))
    ∷ of_grid (entered 4 (five 7) (packed (row (0 ∷ 4 ∷ 7 ∷ 9 ∷ []))))
    ∷ of_grid (entered 4 (five 7) (reduced (at_least 0 1 4 ∷ at_least 1 2 3 ∷ at_least 2 3 2 ∷ at_most 0 3 (pos 9) ∷ [])))
    ∷ of_grid (entered 2 (tagged 8 (at_most 0 1 (neg_ℤ (pos 1))) ∷ []) (over_constrained (70_001 ∷ 8 ∷ [])))
    ∷ of_grid (entered 2 (tagged 8 (at_most 0 1 (pos 0)) ∷ []) (packed (row (0 ∷ 0 ∷ []))))
    ∷ of_strict (entered 3 (three (strict (pos 5) (pos 0))) (over_constrained (1 ∷ 2 ∷ 3 ∷ [])))
    ∷ of_strict (entered 3 (three (strict (pos 5) (pos 1))) (packed (strict (pos 0) (pos 0) ∷ strict (pos 3) (pos 0) ∷ strict (pos 5) (pos 1) ∷ [])))
    ∷ of_grid (told 5 (two_boxes 5) (packed (row (0 ∷ 0 ∷ 4 ∷ 8 ∷ 16 ∷ []))))
    ∷ of_grid (told 5 (two_boxes 10) (packed (row (0 ∷ 0 ∷ 4 ∷ 0 ∷ 8 ∷ []))))
    ∷ []

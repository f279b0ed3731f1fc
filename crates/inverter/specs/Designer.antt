-- What the designer asks of the inverter.
use Rattle.std.specs.Prelude.{ℕ, ℤ, List, [], ◌∷◌, pos}
use Rattle.lengths.specs.Grid.{grid, grid_kind}
use Rattle.lengths.specs.declared.grid.Grid.{Grid}
use Rattle.rules.specs.Rule.{maximum, minimum}
use Rattle.rules.specs.declared.rule.Rule.{Rule}
use Rattle.run.specs.declared.turn.Call.{Call}
use Rattle.run.specs.declared.turn.Call.TheVariants.{Enter, LookUp, Withdraw}

-- The entry of a rule under a tag: mark `to` lies at least, or at most, so many steps beyond mark `from`.
abbrev pub at_least : ℕ → ℕ → ℕ → ℤ → Call Grid
at_least tag i j steps = Enter tag (minimum i j (grid steps))

abbrev pub at_most : ℕ → ℕ → ℕ → ℤ → Call Grid
at_most tag i j steps = Enter tag (maximum grid_kind i j (grid steps))

-- Eight rules that a cell of eight records takes, and slips after them.
abbrev pub first_calls : List (Call Grid)
first_calls =
    at_least 1 1 3 (pos 60)
    ∷ at_least 2 10 2 (pos 60)
    ∷ at_most 3 7 8 (pos 20)
    ∷ at_least 4 3 5 (pos 0)
    ∷ at_most 5 3 5 (pos 0)
    ∷ at_least 6 9 11 (pos 0)
    ∷ at_most 7 9 11 (pos 0)
    ∷ at_least 8 0 1 (pos 20)
    ∷ LookUp 3
    ∷ at_least 3 0 1 (pos 0)
    ∷ at_least 9 0 13 (pos 0)
    ∷ at_least 9 12 2 (pos 0)
    ∷ Withdraw 8
    ∷ at_least 9 12 2 (pos 0)
    ∷ Withdraw 8
    ∷ LookUp 8
    ∷ []

-- The well, from mark 1 to mark 2, is at most 250 steps wide.
abbrev pub narrow_well : Rule Grid
narrow_well = maximum grid_kind 1 2 (grid (pos 250))

-- What a table of distances tells.
use Rattle.std.specs.Prelude.{ℕ, Option}
use Rattle.lengths.specs.Kind.{Kind}
use Rattle.graph.specs.Distances.{table_distance}
use Rattle.reduction.specs.declared.table.Table.{Table}

-- The distances that a table holds.
abbrev pub told : {L : Type 0} → Kind L → Table L → ℕ → ℕ → Option L
told k table = table_distance k table.entries.now table.marks

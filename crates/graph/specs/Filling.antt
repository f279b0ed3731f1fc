-- Filled tables: the same length everywhere, zero from each mark to itself, and entries raised to the gaps of rules.
use Rattle.std.specs.Prelude.{ℕ, zero, suc, ◌+◌, ◌*◌, cond, List, [], ◌∷◌, ◌++◌, drop, replicate, slice_set}
use Rattle.lengths.specs.Kind.{Kind}
use Rattle.rules.specs.declared.rule.Rule.{Rule}
use Rattle.graph.specs.declared.numbered.Numbered.{Numbered}
use Rattle.graph.specs.Distances.{table_entry}

-- The list whose first entries are all the same and whose others are as they were.
abbrev pub filled : {L : Type 0} → ℕ → L → List L → List L
filled count x table = replicate count x ++ drop count table

module _ {L : Type 0} (k : Kind L) where
  -- How a table says that there is no path.
  abbrev pub none : L
  none = k.opposite k.far

  -- Zero from each of the first i marks to itself.
  unfoldable pub diagonal : ℕ → ℕ → List L → List L
  diagonal n zero table = table
  diagonal n (suc i) table = slice_set (diagonal n i table) (i * n + i) k.zero

  -- The larger of an entry and a length.
  abbrev pub no_less : L → L → L
  no_less held x = cond (k.at_most held x) x held

  -- The entry from a rule's mark to the other is at least its gap.
  unfoldable pub raised : ℕ → Rule L → List L → List L
  raised n r table = slice_set table (r.from * n + r.to) (no_less (table_entry k table n r.from r.to) r.gap)

  unfoldable pub raised_all : ℕ → List (Numbered L) → List L → List L
  raised_all n [] table = table
  raised_all n (q ∷ rules) table = raised_all n rules (raised n q.rule table)

  -- The table before the first midpoint.
  unfoldable pub begun : ℕ → List (Numbered L) → List L → List L
  begun n rules table = raised_all n rules (diagonal n n (filled (n * n) none table))

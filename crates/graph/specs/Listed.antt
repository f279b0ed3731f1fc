-- Numbered rules: the plain rules behind them, and the rule at an index.
use Rattle.std.specs.Prelude.{ℕ, List, map, slice_index_or}
use Rattle.lengths.specs.Kind.{Kind}
use Rattle.rules.specs.declared.rule.Rule.{Rule}
use Rattle.graph.specs.declared.numbered.Numbered.{Numbered}

-- The rules without their numbers.
abbrev pub plain : {L : Type 0} → List (Numbered L) → List (Rule L)
plain rules = map (λ q. q.rule) rules

module _ {L : Type 0} (k : Kind L) where
  -- What stands past the end of a list of numbered rules.
  abbrev pub blank : Numbered L
  blank = record { number = 0; rule = record { from = 0; to = 0; gap = k.zero } }

  -- The numbered rule at an index.
  abbrev pub numbered_at : List (Numbered L) → ℕ → Numbered L
  numbered_at rules i = slice_index_or rules i blank

  -- The rule at an index.
  abbrev pub rule_at : List (Numbered L) → ℕ → Rule L
  rule_at rules i = (numbered_at rules i).rule

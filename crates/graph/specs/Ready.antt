-- When positions can be sought: so many marks, so many rules that fit, and a row of near lengths.
use Rattle.std.specs.Prelude.{ℕ, Bool, ◌&&◌, List, length, take, is_ok, nat_le}
use Rattle.std.specs.List.{list_all}
use Rattle.lengths.specs.Kind.{Kind}
use Rattle.rules.specs.Rule.{rule_check}
use Rattle.graph.specs.declared.numbered.Numbered.{Numbered}

-- The most marks, the most rules, and the largest measure of a row to start from.
abbrev pub most_marks : ℕ
most_marks = 256

abbrev pub most_rules : ℕ
most_rules = 12_543

abbrev pub start_limit : ℕ
start_limit = 1_000_000_000_000

module _ {L : Type 0} (k : Kind L) where
  -- Every rule fits n marks.
  abbrev pub all_fit : ℕ → List (Numbered L) → Bool
  all_fit n rules = list_all (λ q. is_ok (rule_check k n q.rule)) rules

  -- Every length is near enough to start from.
  abbrev pub all_near : List L → Bool
  all_near row = list_all (λ x. nat_le (k.measure x) start_limit) row

  -- From 1 to 256 marks, at most 12,543 rules, and each of them fits.
  abbrev pub sound : ℕ → List (Numbered L) → Bool
  sound n rules = nat_le 1 n && (nat_le n most_marks && (nat_le (length rules) most_rules && all_fit n rules))

  -- Sound rules, and a row with a near length for each mark.
  abbrev pub ready : ℕ → List (Numbered L) → List L → Bool
  ready n rules row = sound n rules && (nat_le n (length row) && all_near (take n row))

  -- Sound rules, and a row and a cycle list with an entry for each mark.
  abbrev pub showable : ℕ → List (Numbered L) → List L → List ℕ → Bool
  showable n rules row cycle = sound n rules && (nat_le n (length row) && nat_le n (length cycle))

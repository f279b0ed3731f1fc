-- Rules between marks, and which of them fit a cell.
use Rattle.std.specs.Prelude.{ℕ, cond, not, ◌&&◌, Ok, Err, Result, ◌==◌, nat_lt}
use Rattle.lengths.specs.Kind.{Kind}
use Rattle.rules.specs.declared.fault.RuleFault.{RuleFault}
use Rattle.rules.specs.declared.fault.RuleFault.TheVariants.{NoSuchMark, SameMark, GapTooLarge}
use Rattle.rules.specs.declared.rule.Rule.{Rule}

-- The largest measure of a gap.
abbrev pub gap_limit : ℕ
gap_limit = 1_000_000

-- `to` lies at least gap beyond `from`.
abbrev pub minimum : {L : Type 0} → ℕ → ℕ → L → Rule L
minimum i j g = record { from = i; to = j; gap = g }

-- `to` lies at most gap beyond `from`: the turned rule with the opposite gap.
abbrev pub maximum : {L : Type 0} → Kind L → ℕ → ℕ → L → Rule L
maximum k i j g = record { from = j; to = i; gap = k.opposite g }

-- Whether a rule fits a cell of n marks, and the first cause if not: a mark not below n, both marks
-- the same, a gap of measure above the limit.
abbrev pub rule_check : {L : Type 0} → Kind L → ℕ → Rule L → Result (Unit {0}) RuleFault
rule_check k n r =
    cond (not (nat_lt r.from n && nat_lt r.to n)) (Err NoSuchMark)
    (cond (r.from == r.to) (Err SameMark)
    (cond (nat_lt gap_limit (k.measure r.gap)) (Err GapTooLarge)
    (Ok tt)))

-- Calls, rules and trials in words.
use Rattle.std.specs.Prelude.{ℕ, ℤ, ◌-◌, ◌^◌, cond, List, [], ◌++◌, None, Option, Some, codes, decimal, ◌==◌}
use Rattle.std.specs.Fmt.{format_spec, signed_decimal, styled_decimal, styled_signed_decimal}
use Rattle.lengths.specs.declared.grid.Grid.{Grid}
use Rattle.rules.specs.declared.rule.Rule.{Rule}
use Rattle.run.specs.declared.turn.Call.{Call}
use Rattle.run.specs.declared.turn.Call.TheVariants.{Compact, Enter, LookUp, Reduce, Try, Withdraw}

-- What a rule asks.
abbrev pub rule_text : Rule Grid → List ℕ
rule_text r = decimal r.to ++ (codes " at least " ++ (signed_decimal r.gap.steps ++ (codes " beyond " ++ decimal r.from)))

-- What an edit or a look-up asks, before its answer.
abbrev pub call_text : Call Grid → List ℕ
call_text (Enter tag rule) = codes "enter " ++ (decimal tag ++ (codes ": " ++ (rule_text rule ++ codes ": ")))
call_text (Withdraw tag) = codes "withdraw " ++ (decimal tag ++ codes ": ")
call_text (LookUp tag) = codes "look up " ++ (decimal tag ++ codes ": ")
call_text Try = []
call_text Compact = []
call_text Reduce = []

-- What a look-up finds: a rule, or nothing.
abbrev pub found_text : Option (Rule Grid) → List ℕ
found_text None = codes "nothing"
found_text (Some r) = rule_text r

-- What a trial answers: the number of a rule that the row breaks, or 0.
abbrev pub trial_text : ℕ → List ℕ
trial_text number = cond (number == 0) (codes "keeps all rules in force") (codes "breaks rule " ++ decimal number)

-- A number at the right of a column of this width.
abbrev pub right : ℕ → ℕ → List ℕ
right width n = styled_decimal (format_spec 32 3 0 width (2 ^ 64 - 1)) n

abbrev pub right_signed : ℕ → ℤ → List ℕ
right_signed width n = styled_signed_decimal (format_spec 32 3 0 width (2 ^ 64 - 1)) n

-- What a rule asks, in columns.
abbrev pub rule_columns : Rule Grid → List ℕ
rule_columns r = right 2 r.to ++ (codes " at least " ++ (right_signed 4 r.gap.steps ++ (codes " beyond " ++ right 2 r.from)))

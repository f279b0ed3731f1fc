-- The numbers of a rule's faults.
use Rattle.std.specs.Prelude.{ℕ}
use Rattle.rules.specs.declared.fault.RuleFault.{RuleFault}
use Rattle.rules.specs.declared.fault.RuleFault.TheVariants.{NoSuchMark, SameMark, GapTooLarge}

abbrev pub rule_fault_number : RuleFault → ℕ
rule_fault_number NoSuchMark = 3
rule_fault_number SameMark = 4
rule_fault_number GapTooLarge = 5

-- The numbers of the refusals of a cell's calls.
use Rattle.std.specs.Prelude.{ℕ}
use Rattle.rules.specs.Fault.{rule_fault_number}
use Rattle.faults.specs.declared.fault.EntryFault.{EntryFault}
use Rattle.faults.specs.declared.fault.EntryFault.TheVariants as entry
use Rattle.faults.specs.declared.fault.MarksFault.{MarksFault}
use Rattle.faults.specs.declared.fault.MarksFault.TheVariants.{MarkCount}
use Rattle.faults.specs.declared.fault.WithdrawalFault.{WithdrawalFault}
use Rattle.faults.specs.declared.fault.WithdrawalFault.TheVariants as withdrawal

abbrev pub marks_fault_number : MarksFault → ℕ
marks_fault_number MarkCount = 1

abbrev pub entry_fault_number : EntryFault → ℕ
entry_fault_number entry.NoTag = 2
entry_fault_number (entry.Unfit fault) = rule_fault_number fault
entry_fault_number entry.TagInForce = 6
entry_fault_number entry.Full = 7

abbrev pub withdrawal_fault_number : WithdrawalFault → ℕ
withdrawal_fault_number withdrawal.NoTag = 2
withdrawal_fault_number withdrawal.TagNotInForce = 8

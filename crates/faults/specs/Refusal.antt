-- The numbers of the refusals, and the values that go with them.
use Rattle.std.specs.Prelude.{ℕ, Some, None, Option}
use Rattle.rules.specs.declared.fault.RuleFault.{RuleFault}
use Rattle.faults.specs.Fault.{marks_fault_number, entry_fault_number, withdrawal_fault_number}
use Rattle.faults.specs.declared.fault.CompactionFault.{CompactionFault}
use Rattle.faults.specs.declared.fault.CompactionFault.TheVariants as compaction
use Rattle.faults.specs.declared.fault.EntryFault.{EntryFault}
use Rattle.faults.specs.declared.fault.MarksFault.{MarksFault}
use Rattle.faults.specs.declared.fault.ReductionFault.{ReductionFault}
use Rattle.faults.specs.declared.fault.ReductionFault.TheVariants as reduction
use Rattle.faults.specs.declared.fault.SourceFault.{SourceFault}
use Rattle.faults.specs.declared.fault.SourceFault.TheVariants.{TooManyPlaces, UnfitPlace}
use Rattle.faults.specs.declared.fault.TrialFault.{TrialFault}
use Rattle.faults.specs.declared.fault.TrialFault.TheVariants as trial
use Rattle.faults.specs.declared.fault.WithdrawalFault.{WithdrawalFault}
use Rattle.faults.specs.declared.refusal.Refusal.{Refusal}

-- A refusal with its number, what goes with it, and the cause within it.
abbrev pub refusal : ℕ → Option ℕ → Option RuleFault → Refusal
refusal number at cause = record { number = number; at = at; cause = cause }

abbrev pub marks_refusal : MarksFault → Refusal
marks_refusal fault = refusal (marks_fault_number fault) None None

abbrev pub entry_refusal : EntryFault → Refusal
entry_refusal fault = refusal (entry_fault_number fault) None None

abbrev pub withdrawal_refusal : WithdrawalFault → Refusal
withdrawal_refusal fault = refusal (withdrawal_fault_number fault) None None

-- 10 tells the first unfit place and its first cause.
abbrev pub source_refusal : SourceFault → Refusal
source_refusal TooManyPlaces = refusal 9 None None
source_refusal (UnfitPlace place cause) = refusal 10 (Some place) (Some cause)

-- 14 tells the first bad mark.
abbrev pub trial_refusal : TrialFault → Refusal
trial_refusal (trial.BadSource fault) = source_refusal fault
trial_refusal trial.ShortRow = refusal 11 None None
trial_refusal (trial.BadMark mark) = refusal 14 (Some mark) None

-- 15 tells how many rules the cycle has.
abbrev pub compaction_refusal : CompactionFault → Refusal
compaction_refusal (compaction.BadSource fault) = source_refusal fault
compaction_refusal compaction.ShortRow = refusal 11 None None
compaction_refusal compaction.ShortList = refusal 12 None None
compaction_refusal (compaction.OverConstrained length) = refusal 15 (Some length) None

-- 16 tells how many rules the reduced list has.
abbrev pub reduction_refusal : ReductionFault → Refusal
reduction_refusal (reduction.BadSource fault) = source_refusal fault
reduction_refusal reduction.ShortTable = refusal 13 None None
reduction_refusal reduction.OverConstrained = refusal 15 None None
reduction_refusal (reduction.ShortList count) = refusal 16 (Some count) None

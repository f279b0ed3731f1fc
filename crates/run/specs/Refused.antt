-- The refusal that an answer tells, by its number and the values that go with it.
use Rattle.std.specs.Prelude.{Some, None, Ok, Err, Option, Result}
use Rattle.faults.specs.Refusal.{compaction_refusal, entry_refusal, reduction_refusal, trial_refusal, withdrawal_refusal}
use Rattle.faults.specs.declared.refusal.Refusal.{Refusal}
use Rattle.run.specs.declared.turn.Answer.{Answer}
use Rattle.run.specs.declared.turn.Answer.TheVariants.{Compacted, Entered, Found, Reduced, Tried, Withdrawn}

-- Nothing where the call was accepted.
abbrev pub refused : {T F : Type 0} → (F → Refusal) → Result T F → Option Refusal
refused number (Ok _) = None
refused number (Err fault) = Some (number fault)

abbrev pub answer_refusal : {L : Type 0} → Answer L → Option Refusal
answer_refusal (Entered r) = refused entry_refusal r
answer_refusal (Withdrawn r) = refused withdrawal_refusal r
answer_refusal (Found _) = None
answer_refusal (Tried r) = refused trial_refusal r
answer_refusal (Compacted r) = refused compaction_refusal r
answer_refusal (Reduced r) = refused reduction_refusal r

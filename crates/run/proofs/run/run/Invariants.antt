use Rattle.cell.specs.Calls.{cell_marks}
use Rattle.run.proofs.Stepping.{State}
use Rattle.run.proofs.run.run.Given as goal

abbrev pub invariant-loop-turn : goal.invariant-loop-turn
invariant-loop-turn g l = State g.L.Length.kind g.S.Source.listing (cell_marks l.marks) l.initial.cell l.cell l.initial.turns l.turns l.turn-index

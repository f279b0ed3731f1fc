use Rattle.std.proofs.Common.{take}
use Rattle.std.specs.List.{flat_map}
use Rattle.inverter.specs.Tables.{list_row}
use Rattle.std.specs.Fmt.{HasWritten, IsPlainFormatter}
use Rattle.inverter.proofs.reduced.ListRowsDisplay.fmt.Given as goal

abbrev pub invariant-loop-rule : goal.invariant-loop-rule
invariant-loop-rule g l =
    IsPlainFormatter l.initial.f → HasWritten g.W.Write.write_str_gives l.initial.f (flat_map list_row (take l.rule-index l.rule-items)) l.f

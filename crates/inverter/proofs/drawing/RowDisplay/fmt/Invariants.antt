use Rattle.std.proofs.Common.{take}
use Rattle.inverter.specs.Drawing.{row_text}
use Rattle.std.specs.Fmt.{HasWritten, IsPlainFormatter}
use Rattle.inverter.proofs.drawing.RowDisplay.fmt.Given as goal

abbrev pub invariant-loop-position : goal.invariant-loop-position
invariant-loop-position g l =
    IsPlainFormatter l.initial.f → HasWritten g.W.Write.write_str_gives l.initial.f (row_text (take l.position-index l.position-items)) l.f

use Rattle.std.proofs.Common.{take}
use Rattle.inverter.specs.Drawing.{drawing}
use Rattle.std.specs.Fmt.{HasWritten, IsPlainFormatter}
use Rattle.inverter.proofs.drawing.DrawingDisplay.fmt.Given as goal

abbrev pub invariant-loop-made : goal.invariant-loop-made
invariant-loop-made g l =
    IsPlainFormatter l.initial.f → HasWritten g.W.Write.write_str_gives l.initial.f (drawing l.self.row.now (take l.made-index l.made-items)) l.f

use Rattle.std.proofs.Common.{replicate}
use Rattle.std.specs.Fmt.{HasWritten, IsPlainFormatter}
use Rattle.inverter.specs.Layers.{symbol}
use Rattle.inverter.proofs.drawing.BarDisplay.fmt.Given as goal

abbrev pub invariant-before-2 : goal.invariant-before-2
invariant-before-2 g l =
    IsPlainFormatter l.initial.f → HasWritten g.W.Write.write_str_gives l.initial.f (replicate l._i 32) l.f

abbrev pub invariant-within : goal.invariant-within
invariant-within g l =
    IsPlainFormatter l.initial.f → HasWritten g.W.Write.write_str_gives l.initial.f (replicate l._i (symbol l.self.made.figures.layer)) l.f

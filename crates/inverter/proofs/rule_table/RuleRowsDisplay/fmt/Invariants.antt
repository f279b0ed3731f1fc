use Rattle.std.proofs.Common.{take}
use Rattle.std.specs.List.{enumerate_from, flat_map}
use Rattle.boxes.specs.Held.{source_places}
use Rattle.inverter.specs.Tables.{place_row}
use Rattle.std.specs.Fmt.{HasWritten, IsPlainFormatter}
use Rattle.inverter.proofs.rule_table.RuleRowsDisplay.fmt.Given as goal

abbrev pub invariant-loop-place : goal.invariant-loop-place
invariant-loop-place g l =
    IsPlainFormatter l.initial.f → HasWritten g.W.Write.write_str_gives l.initial.f (flat_map place_row (take l.place (enumerate_from 100_000 (source_places l.self.0.now)))) l.f

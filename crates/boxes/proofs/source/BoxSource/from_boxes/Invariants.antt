use Rattle.std.proofs.Common.{take}
use Rattle.boxes.specs.Held.{Holds, all_figures}
use Rattle.boxes.proofs.source.BoxSource.from_boxes.Given as goal

abbrev pub invariant-loop-given : goal.invariant-loop-given
invariant-loop-given l = Holds l.source l.factor (all_figures (take l.given-index l.boxes))

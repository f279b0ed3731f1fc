use Rattle.std.proofs.Common.{◌≡◌, take, drop}
use Rattle.cell.specs.Trial.{bad_mark}
use Rattle.cell.proofs.row.first_bad_mark.Given as goal

abbrev pub invariant-loop-mark : goal.invariant-loop-mark
invariant-loop-mark g l =
    let k = g.L.Length.kind in
    bad_mark k l.mark (drop l.mark (take l.marks l.row)) ≡ bad_mark k 0 (take l.marks l.row)

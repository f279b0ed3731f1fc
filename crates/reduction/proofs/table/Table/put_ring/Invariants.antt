use Rattle.std.proofs.Common.{◌+◌, ◌≤◌}
use Rattle.reduction.specs.Told.{told}
use Rattle.reduction.proofs.Ringing.{Ringing}
use Rattle.reduction.proofs.table.Table.put_ring.Given as goal

abbrev pub invariant-loop-mark : goal.invariant-loop-mark
invariant-loop-mark g l =
    let k = g.L.Length.kind in
    record { most : l.laying.count ≤ l.initial.laying.count + l.mark; ring : Ringing k (told k l.self) l.self.marks l.leader l.mark l.ends l.initial.laying l.laying }

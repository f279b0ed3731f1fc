use Rattle.std.proofs.Common.{◌+◌, ◌*◌, ◌≤◌}
use Rattle.reduction.specs.Reduction.{pairs_from}
use Rattle.reduction.specs.Told.{told}
use Rattle.reduction.proofs.Pairing.{JoinedTo}
use Rattle.reduction.proofs.leading.Leaders.put_all_pairs.Given as goal

abbrev pub invariant-loop-leader : goal.invariant-loop-leader
invariant-loop-leader g l =
    let k = g.L.Length.kind in
    let n = l.self.table.marks in
    let d = told k l.self.table in
    record { most : l.laying.count ≤ l.initial.laying.count + 300 * l.leader; pairs : JoinedTo k n l.self.table.entries.now (pairs_from k d n) l.leader l.initial.laying l.laying }

use Rattle.std.proofs.Common.{ℕ, ◌*◌, ◌≤◌}
use Rattle.reduction.specs.Reduction.{ring, group}
use Rattle.reduction.specs.Told.{told}
use Rattle.reduction.proofs.Pairing.{JoinedTo}
use Rattle.reduction.proofs.leading.Leaders.put_rings.Given as goal

abbrev pub invariant-loop-leader : goal.invariant-loop-leader
invariant-loop-leader g l =
    let k = g.L.Length.kind in
    let n = l.self.table.marks in
    let d = told k l.self.table in
    record { most : l.laying.count ≤ 300 * l.leader; rings : JoinedTo k n l.self.table.entries.now (λ (a : ℕ). ring k d (group k d n a)) l.leader l.initial.laying l.laying }

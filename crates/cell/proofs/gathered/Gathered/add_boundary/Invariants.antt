use Rattle.std.proofs.Common.{◌≡◌, ◌+◌, ◌-◌, ◌≤◌, ◌++◌, length, map}
use Rattle.std.specs.List.{range_with_len}
use Rattle.cell.specs.Force.{boundary_rule}
use Rattle.cell.proofs.gathered.Gathered.add_boundary.Given as goal

abbrev pub invariant-loop-mark : goal.invariant-loop-mark
invariant-loop-mark g l =
    (1 ≤ l.mark) × (length l.self + 1 ≡ length l.initial.self + l.mark)
    × (l.self ≡ l.initial.self ++ map (boundary_rule g.L.Length.kind l.marks) (range_with_len 1 (l.mark - 1)))

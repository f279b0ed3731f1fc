use Rattle.std.proofs.Common.{◌≡◌, ◌+◌, ◌≤◌, ◌++◌, length, take, Ok}
use Rattle.cell.specs.Force.{place_rules, places_check}
use Rattle.cell.proofs.gathered.Gathered.add_source.Given as goal

abbrev pub invariant-loop-place : goal.invariant-loop-place
invariant-loop-place g l =
    let k = g.L.Length.kind in
    let told = take l.place (g.S.Source.listing l.source) in
    (length l.self ≤ length l.initial.self + l.place) × (places_check k l.marks 0 told ≡ Ok tt)
    × (l.self ≡ l.initial.self ++ place_rules k l.marks 0 told)

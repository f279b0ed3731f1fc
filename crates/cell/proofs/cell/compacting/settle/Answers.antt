use Rattle.std.proofs.Common.{◌≡◌, ℕ, Some, Ok, Err, Option, Result, refl, subst, rules}
use Rattle.graph.proofs.PackedRows.{over_constrained, settled}
use Rattle.graph.specs.Cycles.{Shows}
use Rattle.graph.specs.Packing.{PacksFrom}
use Rattle.graph.specs.declared.unready.Unready.{Unready}
use Rattle.graph.specs.declared.positions.PackingFault.{PackingFault}
use Rattle.graph.specs.declared.positions.PackingFault.TheVariants.{OverConstrained}
use Rattle.cell.proofs.cell.compacting.settle.Goals as goal

pub returns-in-Ok : goal.returns-in-Ok
returns-in-Ok g c = (settled g.L.Length.kind g.met.L.Length.laws c.args.marks c.args.rules.now c.args.row.now c.pack.new.row c.requires.sound c.requires.room.0 c.requires.bordered c.in-Ok.ensures, refl)

pub returns-in-Ok-Some : goal.returns-in-Ok-Some
returns-in-Ok-Some g c =
    let k = g.L.Length.kind in
    let is : c.pack.result ≡ Err OverConstrained = search rules in
    let shown : c.show_cycle.result ≡ Ok (Some c.in-Ok-Some.length) = search rules in
    over_constrained g.L.Length.kind g.met.L.Length.laws c.args.marks c.in-Ok-Some.length c.args.rules.now c.args.row.now c.pack.new.row c.show_cycle.new.row c.args.cycle.now
    c.show_cycle.new.list c.requires.sound c.requires.room.0 (subst (λ (r : Result (Unit {0}) PackingFault). PacksFrom k c.args.marks c.args.rules.now c.args.row.now r c.pack.new.row) is c.pack.ensures)
    (subst (λ (r : Result (Option ℕ) Unready). Shows k c.args.marks c.args.rules.now c.pack.new.row c.args.cycle.now r c.show_cycle.new.row c.show_cycle.new.list) shown c.show_cycle.ensures)

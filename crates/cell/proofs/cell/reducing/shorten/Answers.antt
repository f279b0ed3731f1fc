use Rattle.std.proofs.Common.{◌≡◌, Err, Result, subst, rules}
use Rattle.graph.specs.Distancing.{Distanced}
use Rattle.graph.specs.declared.positions.PackingFault.{PackingFault}
use Rattle.graph.specs.declared.positions.PackingFault.TheVariants.{OverConstrained}
use Rattle.cell.proofs.Reductions.{sought_listed, sought_over}
use Rattle.cell.proofs.cell.reducing.shorten.Goals as goal

pub returns-in-Ok-reduce : goal.returns-in-Ok-reduce
returns-in-Ok-reduce g c =
    sought_listed g.L.Length.kind c.args.marks g.met.L.Length.laws c.args.rules.now c.args.table.now c.distances.new.table c.args.list.now c.in-Ok-reduce.length c.reduce.new.list
    c.in-Ok.ensures c.in-Ok-reduce.ensures

pub returns-in-Err-OverConstrained : goal.returns-in-Err-OverConstrained
returns-in-Err-OverConstrained g c =
    let k = g.L.Length.kind in
    let is : c.distances.result ≡ Err OverConstrained = search rules in
    sought_over k c.args.marks g.met.L.Length.laws c.args.rules.now c.args.table.now c.distances.new.table c.args.list.now
    (subst (λ (r : Result (Unit {0}) PackingFault). Distanced k c.args.marks c.args.rules.now c.args.table.now r c.distances.new.table) is c.distances.ensures)

use Rattle.std.proofs.Common.{rules}
use Rattle.reduction.proofs.Reducing.{reduced_laid}
use Rattle.reduction.proofs.leading.Leaders.put_rules.Goals as goal

pub returns : goal.returns
returns g c =
    let table = c.args.self.now.table in
    reduced_laid g.L.Length.kind table.marks table.entries.now c.args.list.now _ c.put_rings.new.laying c.put_all_pairs.new.laying (search rules) c.put_rings.ensures.lays.1 c.put_all_pairs.ensures

use Rattle.std.proofs.Common.{◌≡◌, ℕ, ◌+◌, ◌<◌, ◌≤◌, false, ◌&&◌}
use Rattle.reduction.specs.Reduction.{splits, pairs_from}
use Rattle.reduction.specs.Listing.{leads}
use Rattle.reduction.specs.Laying.{Progress}
use Rattle.reduction.specs.Told.{told}
use Rattle.reduction.proofs.Pairing.{pairs_left}
use Rattle.reduction.proofs.leading.Leaders.put_pairs.Given as goal

abbrev pub invariant-pairs : goal.invariant-pairs
invariant-pairs g l =
    let k = g.L.Length.kind in
    let n = l.self.table.marks in
    record {
      most : l.laying.count ≤ l.initial.laying.count + l.to;
      pairs : Progress (pairs_from k (told k l.self.table) n l.from) (pairs_left k n l.self.table.entries.now l.from l.to) l.initial.laying l.laying;
    }

abbrev pub invariant-loop-third : goal.invariant-loop-third
invariant-loop-third g l =
    let k = g.L.Length.kind in
    (c : ℕ) → c < l.third → (leads k l.self.table.marks l.self.table.entries.now c && splits k (told k l.self.table) l.from l.to c) ≡ false

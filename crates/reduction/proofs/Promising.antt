-- The reduced list of the distances found: the same placements, and no shorter rival.
use Rattle.std.proofs.Common.{Ok, ℕ, List}
use Rattle.lengths.specs.Kind.{Kind, Laws}
use Rattle.graph.specs.declared.numbered.Numbered.{Numbered}
use Rattle.graph.specs.Listed.{plain}
use Rattle.graph.specs.Rivals.{SamePlacements, Smallest}
use Rattle.graph.specs.Distances.{table_distance}
use Rattle.graph.specs.Distancing.{Distanced}
use Rattle.graph.proofs.Measuring.{done_consistent}
use Rattle.reduction.specs.Reduction.{reduced_list}
use Rattle.reduction.proofs.ReducedTable.{table_same_placements, table_smallest}

module _ {L : Type 0} (k : Kind L) (laws : Laws k) (n : ℕ) (rules : List (Numbered L)) (table table' : List L) (done : Distanced k n rules table (Ok tt) table') where
  pub done_same_placements : SamePlacements k n (plain rules) (reduced_list k (table_distance k table' n) n)
  done_same_placements = table_same_placements k laws n (plain rules) (done_consistent k laws n rules table table' done) table' done.1.distances

  pub done_smallest : Smallest k n (reduced_list k (table_distance k table' n) n)
  done_smallest = table_smallest k laws n (plain rules) (done_consistent k laws n rules table table' done) table' done.1.distances

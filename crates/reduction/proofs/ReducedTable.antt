-- The reduced list of a table of distances: the same placements as the rules, and none with them is shorter.
use Rattle.std.proofs.Common.{ℕ, List, arith}
use Rattle.lengths.specs.Kind.{Kind, Laws}
use Rattle.rules.specs.declared.rule.Rule.{Rule}
use Rattle.rules.specs.Rule.{gap_limit}
use Rattle.graph.specs.Rivals.{rival_limit, SamePlacements, Smallest}
use Rattle.graph.specs.Distances.{Distances, DistanceTable, table_distance}
use Rattle.reduction.specs.Reduction.{reduced_list}
use Rattle.graph.proofs.Distances.{Consistent, consistent_wider}
use Rattle.graph.proofs.Tables.{table_distances}
use Rattle.reduction.proofs.SameCell.{same_placements}
use Rattle.reduction.proofs.NoRival.{smallest}

module _ {L : Type 0} (k : Kind L) (laws : Laws k) (n : ℕ) (rules : List (Rule L)) (c : Consistent k n gap_limit rules) (table : List L) (t : DistanceTable k n rules table) where
  held : Distances k n rules (table_distance k table n)
  held =
      let wide = consistent_wider k n gap_limit rival_limit rules (omega arith) c in
      table_distances k laws n rules c.few_marks wide.small table t

  pub table_same_placements : SamePlacements k n rules (reduced_list k (table_distance k table n) n)
  table_same_placements = same_placements k laws n rules (table_distance k table n) c held

  pub table_smallest : Smallest k n (reduced_list k (table_distance k table n) n)
  table_smallest = smallest k laws n rules (table_distance k table n) c held

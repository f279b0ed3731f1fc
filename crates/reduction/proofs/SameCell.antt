-- The reduced list has the same placements as the rules whose distances it is made of.
use Rattle.std.proofs.Common.{ℕ, ◌<◌, ◌≤◌, List, Option, arith}
use Rattle.std.specs.List.{ContainsAt as Has}
use Rattle.std.proofs.ByRecursion.{all-has}
use Rattle.lengths.specs.Kind.{Kind, Laws}
use Rattle.lengths.proofs.Algebra.{monotone_left}
use Rattle.rules.specs.declared.rule.Rule.{Rule}
use Rattle.rules.specs.Rule.{gap_limit}
use Rattle.graph.specs.Rows.{row_limit, position, Keeps, Placement}
use Rattle.graph.specs.Rivals.{rival_limit, SamePlacements}
use Rattle.graph.specs.Distances.{Distances}
use Rattle.reduction.specs.Reduction.{reduced_list}
use Rattle.graph.proofs.Membership.{all_from_has}
use Rattle.graph.proofs.Walks.{MarksBelow, GapAtMost}
use Rattle.graph.proofs.Shortening.{along_drawn}
use Rattle.graph.proofs.Distances.{Consistent, consistent_wider, distances_metric, distance_measured, gap_within}
use Rattle.reduction.proofs.Carrying.{Carries, keeps_from_carries, all_reduced, reduced_carries}

module _ {L : Type 0} (k : Kind L) (laws : Laws k) (n : ℕ) (rules : List (Rule L)) (d : ℕ → ℕ → Option L)
    (c : Consistent k n rival_limit rules) (dist : Distances k n rules d) where
  -- A placement carries the distances: they are lengths of paths.
  pub placement_carries : (row : List L) → Placement k n rules row → (i j : ℕ) → i < n → j < n → Carries k d row i j
  placement_carries row placed i j li lj x e =
      let s = dist.longest i j li lj x e in
      let few = c.few_marks in
      let short = s.is_path.short in
      rw s.length_is at (along_drawn k laws n rival_limit rules c.marks c.small row placed.is_row.near placed.keeps s.path i j li s.is_path.drawn (omega arith) s.is_path.leads)

  -- A row that carries the distances keeps the rules, since no gap is more than the distance.
  pub keeps_rule : (row : List L) → ((i : ℕ) → i < n → k.measure (position k row i) ≤ row_limit) → ((i j : ℕ) → i < n → j < n → Carries k d row i j) → (r : Rule L) → Has rules r → Keeps k row r
  keeps_rule row near carries r h =
      let below = all-has (MarksBelow n) rules r c.marks h in
      let small = all-has (GapAtMost k rival_limit) rules r c.small h in
      let w = gap_within k laws n rules d c dist r h in
      let mw = distance_measured k laws n rules d c dist r.from r.to below.0 below.1 w.0 w.1 in
      let nf = near r.from below.0 in
      let nt = near r.to below.1 in
      laws.transitive (k.sum (position k row r.from) r.gap) (k.sum (position k row r.from) w.0) (position k row r.to) (omega arith)
      (monotone_left k laws r.gap w.0 (position k row r.from) (omega arith) w.2)
      (carries r.from r.to below.0 below.1 w.0 w.1)

  pub same_placements_wide : SamePlacements k n rules (reduced_list k d n)
  same_placements_wide =
      let m = distances_metric k laws n rules d c dist in
      record {
        onward = λ row placed. record {
          is_row = placed.is_row;
          keeps = all_reduced k laws n d m (Keeps k row) (λ u v x lu lv e. keeps_from_carries k d row u v x e (placement_carries row placed u v lu lv));
        };
        back = λ row placed. record {
          is_row = placed.is_row;
          keeps = all_from_has (Keeps k row) rules (keeps_rule row placed.is_row.near (reduced_carries k laws n d m row placed.is_row.near placed.keeps));
        };
      }

-- The reduced list has the same placements as the rules: of consistent rules between n marks with gaps within the limit, and their distances.
pub same_placements : {L : Type 0} (k : Kind L) (laws : Laws k) (n : ℕ) (rules : List (Rule L)) (d : ℕ → ℕ → Option L) → Consistent k n gap_limit rules → Distances k n rules d → SamePlacements k n rules (reduced_list k d n)
same_placements k laws n rules d c dist = same_placements_wide k laws n rules d (consistent_wider k n gap_limit rival_limit rules (omega arith) c) dist

-- Nothing is found wrong with a compaction or a reduction that keeps its contract.
use Rattle.std.proofs.Common.{◌≡◌, ℕ, List, ◌++◌, length, take, drop, Ok, Err, Option, Result, sym, ap, ◌∙◌, subst, ⊎_elim, arith}
use lib.Seq.{take-append_seam}
use Rattle.std.specs.List.{ContainsAt as Has}
use Rattle.std.proofs.ByRecursion.{all-has, All-map}
use Rattle.std.proofs.lemmas.List.{length-map}
use Rattle.std.proofs.lemmas.Bool.{false≢true}
use Rattle.lengths.specs.Kind.{Kind}
use Rattle.rules.specs.declared.rule.Rule.{Rule}
use Rattle.graph.specs.Cycles.{numbers}
use Rattle.graph.specs.Listed.{plain}
use Rattle.graph.specs.Packing.{Packed, Refuted}
use Rattle.graph.specs.Rivals.{SamePlacements}
use Rattle.graph.specs.Rows.{Keeps}
use Rattle.graph.specs.declared.numbered.Numbered.{Numbered}
use Rattle.graph.proofs.Membership.{all_from_has, has_map}
use Rattle.reduction.specs.Listing.{reduced}
use Rattle.cell.specs.Compaction.{Compacts}
use Rattle.cell.specs.Findings.{CompactionFinding, ReductionFinding, WronglyPacked, WronglyReduced, WronglyRefused}
use Rattle.cell.specs.Force.{in_force}
use Rattle.cell.specs.Reduction.{Lists, Reduces}
use Rattle.cell.specs.declared.record.Record.{Record}
use Rattle.faults.specs.declared.fault.CompactionFault.{CompactionFault}
use Rattle.faults.specs.declared.fault.CompactionFault.TheVariants as compaction
use Rattle.faults.specs.declared.fault.ReductionFault.{ReductionFault}

-- The first so many of a list that begins with them.
front : {X : Type 0} (count : ℕ) (xs rest list : List X) → count ≡ length xs → list ≡ xs ++ rest → take count list ≡ xs
front count xs rest list counted is = ap (take count) is ∙ ap (λ m. take m (xs ++ rest)) counted ∙ take-append_seam xs rest

module _ {L : Type 0} (k : Kind L) (n : ℕ) (rules : List (Numbered L)) where
  rightly_packed : (before row : List L) → Packed k n (plain rules) before row → WronglyPacked k n rules row → ⊥
  rightly_packed before row packed found =
      ⊎_elim (λ broken. broken.2 (all-has (Keeps k row) (plain rules) broken.0.rule packed.placement.keeps (has_map (λ (q : Numbered L). q.rule) rules broken.0 broken.1)))
      (λ right. false≢true (sym right.2.2 ∙ packed.leftmost right.0 right.1 right.2.0 right.2.1))
      found

  rightly_refused : (d : ℕ) (before row : List L) (list list' : List ℕ) → Refuted k n d rules before row list list' → WronglyRefused k n rules (take d list') → ⊥
  rightly_refused d before row list list' refuted found =
      let shown = refuted.shown in
      let cycle = shown.cycle in
      let told : take d list' ≡ numbers cycle = front d (numbers cycle) (drop d list) list' (sym (length-map cycle (λ (q : Numbered L). q.number) ∙ shown.counted)) shown.listed in
      ⊎_elim (λ placed. refuted.unplaced placed.0 placed.1)
      (λ other.
      ⊎_elim (λ none. none shown.mark cycle shown.shows.drawn (sym told) shown.shows.positive)
      (λ kept.
      refuted.unkept kept.0 kept.1
      (All-map (Keeps k kept.0) (λ (q : Numbered L). q.rule) cycle
      (all_from_has (λ (q : Numbered L). Keeps k kept.0 q.rule) cycle
      (λ q has. kept.2 q (all-has (Has rules) cycle q shown.shows.drawn has) (subst (λ (t : List ℕ). Has t q.number) (sym told) (has_map (λ (s : Numbered L). s.number) cycle q has))))))
      other)
      found

  rightly_reduced : (count : ℕ) (table table' : List L) (list list' : List (Rule L)) → Lists k n rules count table table' list list' → WronglyReduced k n rules (take count list') → ⊥
  rightly_reduced count table table' list list' lists found =
      let is : take count list' ≡ reduced k n table' = front count (reduced k n table') (drop count list) list' lists.written.0 lists.written.2 in
      let same : SamePlacements k n (plain rules) (take count list') = subst (SamePlacements k n (plain rules)) (sym is) lists.same in
      ⊎_elim (λ other. ⊎_elim (λ w. w.2 (same.onward w.0 w.1)) (λ w. w.2 (same.back w.0 w.1)) other)
      (λ rival.
      let short = lists.smallest rival.0 rival.1 (record {
        onward = λ row placed. rival.2.onward row (lists.same.back row placed);
        back = λ row placed. lists.same.onward row (rival.2.back row placed);
      }) in
      omega (arith, short, rival.3, ap length is))
      found

module _ {L : Type 0} (k : Kind L) (n : ℕ) (book : List (Record L)) (places : List (Option (Rule L))) where
  pub no_compaction_finding : (row : List L) (list : List ℕ) (r : Result (Unit {0}) CompactionFault) (row' : List L) (list' : List ℕ) → Compacts k n book places row list r row' list' →
      CompactionFinding k n (in_force k n book places) r row' list' → ⊥
  no_compaction_finding row list (Ok _) row' list' does found = rightly_packed k n (in_force k n book places) row row' does.3.0 found
  no_compaction_finding row list (Err (compaction.OverConstrained d)) row' list' does found = rightly_refused k n (in_force k n book places) d row row' list list' does.3 found
  no_compaction_finding row list (Err (compaction.BadSource fault)) row' list' does found = found
  no_compaction_finding row list (Err compaction.ShortRow) row' list' does found = found
  no_compaction_finding row list (Err compaction.ShortList) row' list' does found = found

  pub no_reduction_finding : (table : List L) (list : List (Rule L)) (r : Result ℕ ReductionFault) (table' : List L) (list' : List (Rule L)) → Reduces k n book places table list r table' list' →
      ReductionFinding k n (in_force k n book places) r list' → ⊥
  no_reduction_finding table list (Ok count) table' list' does found = rightly_reduced k n (in_force k n book places) count table table' list list' does.2 found
  no_reduction_finding table list (Err fault) table' list' does found = found

-- What is sought for the rules in force is what a reduction answers.
use Rattle.std.proofs.Common.{◌≡◌, ℕ, ◌*◌, ◌≤◌, List, length, Ok, Err, Option, Result, refl}
use Rattle.lengths.specs.Kind.{Kind, Laws}
use Rattle.rules.specs.declared.rule.Rule.{Rule}
use Rattle.graph.proofs.Measuring.{over_no_placement}
use Rattle.reduction.proofs.Promising.{done_same_placements, done_smallest}
use Rattle.graph.specs.Distancing.{Distanced}
use Rattle.reduction.specs.Listing.{Reduced}
use Rattle.graph.specs.declared.positions.PackingFault.TheVariants.{OverConstrained}
use Rattle.graph.specs.declared.numbered.Numbered.{Numbered}
use Rattle.reduction.specs.declared.reduction.ReducingFault.TheVariants.{Short}
use Rattle.cell.specs.Force.{in_force, source_check}
use Rattle.cell.specs.Reduction.{Reduces, Sought}
use Rattle.faults.specs.declared.fault.ReductionFault.{ReductionFault}
use Rattle.faults.specs.declared.fault.ReductionFault.TheVariants as fault
use Rattle.cell.specs.declared.record.Record.{Record}

module _ {L : Type 0} (k : Kind L) (n : ℕ) where
  pub reduces : (book : List (Record L)) (places : List (Option (Rule L))) (table : List L) (list : List (Rule L)) → source_check k n places ≡ Ok tt → n * n ≤ length table →
      (r : Result ℕ ReductionFault) (table' : List L) (list' : List (Rule L)) → Sought k n (in_force k n book places) table list r table' list' → Reduces k n book places table list r table' list'
  reduces book places table list ok long (Ok count) table' list' s = (ok, long, s)
  reduces book places table list ok long (Err fault.OverConstrained) table' list' s = (ok, long, s)
  reduces book places table list ok long (Err (fault.ShortList count)) table' list' s = (ok, long, s)
  reduces book places table list ok long (Err (fault.BadSource cause)) table' list' s = absurd s
  reduces book places table list ok long (Err fault.ShortTable) table' list' s = absurd s

  module _ (laws : Laws k) (rules : List (Numbered L)) (table table' : List L) (list : List (Rule L)) where
    pub sought_listed : (count : ℕ) (list' : List (Rule L)) → Distanced k n rules table (Ok tt) table' → Reduced k n table' list (Ok count) list' → Sought k n rules table list (Ok count) table' list'
    sought_listed count list' done r = record {
      measured = done.1;
      written = (r.1, r.2, r.3);
      same = done_same_placements k laws n rules table table' done;
      smallest = done_smallest k laws n rules table table' done;
    }

    pub sought_short : (count : ℕ) (list' : List (Rule L)) → Distanced k n rules table (Ok tt) table' → Reduced k n table' list (Err (Short count)) list' → Sought k n rules table list (Err (fault.ShortList count)) table' list'
    sought_short count list' done r = (done.1, r.1, r.2, r.3)

    pub sought_over : Distanced k n rules table (Err OverConstrained) table' → Sought k n rules table list (Err fault.OverConstrained) table' list
    sought_over over = (
      record {
        positive = over.1;
        unplaced = over_no_placement k laws n rules table table' over;
        zeros = over.2;
      },
      refl,
    )

-- What is sought for the rules in force is what a compaction answers.
use Rattle.std.proofs.Common.{◌≡◌, ℕ, ◌<◌, ◌≤◌, List, length, Ok, Err, Option, Result, refl, arith}
use Rattle.lengths.specs.Kind.{Kind}
use Rattle.rules.specs.declared.rule.Rule.{Rule}
use Rattle.cell.specs.Compaction.{Compacts, Sought, room_check}
use Rattle.cell.specs.Force.{in_force, source_check}
use Rattle.faults.specs.declared.fault.SourceFault.{SourceFault}
use Rattle.faults.specs.declared.fault.CompactionFault.{CompactionFault}
use Rattle.faults.specs.declared.fault.CompactionFault.TheVariants.{BadSource, OverConstrained, ShortList, ShortRow}
use Rattle.cell.specs.declared.record.Record.{Record}

pub compacts : {L : Type 0} (k : Kind L) (n : ℕ) (book : List (Record L)) (places : List (Option (Rule L))) (row : List L) (list : List ℕ) →
    source_check k n places ≡ Ok tt → n ≤ length row → n ≤ length list → (r : Result (Unit {0}) CompactionFault) (row' : List L) (list' : List ℕ) →
    Sought k n (in_force k n book places) row list r row' list' → Compacts k n book places row list r row' list'
compacts k n book places row list ok long room (Ok done) row' list' s = (ok, long, room, s)
compacts k n book places row list ok long room (Err (OverConstrained d)) row' list' s = (ok, long, room, s)
compacts k n book places row list ok long room (Err (BadSource fault)) row' list' s = absurd s
compacts k n book places row list ok long room (Err ShortRow) row' list' s = absurd s
compacts k n book places row list ok long room (Err ShortList) row' list' s = absurd s

-- Where row or list are too short, nothing changes.
row_short : (n row list : ℕ) → room_check n row list ≡ Err ShortRow → row < n
row_short n row list e = grind arith

list_short : (n row list : ℕ) → room_check n row list ≡ Err ShortList → (n ≤ row) × (list < n)
list_short n row list e = (grind arith, grind arith)

pub room_passed : (n row list : ℕ) → room_check n row list ≡ Ok tt → (n ≤ row) × (n ≤ list)
room_passed n row list e = (grind arith, grind arith)

no_source_fault : (n row list : ℕ) (fault : SourceFault) → room_check n row list ≡ Err (BadSource fault) → ⊥
no_source_fault n row list fault e = grind arith

no_cycle : (n row list d : ℕ) → room_check n row list ≡ Err (OverConstrained d) → ⊥
no_cycle n row list d e = grind arith

pub no_room : {L : Type 0} (k : Kind L) (n : ℕ) (book : List (Record L)) (places : List (Option (Rule L))) (row : List L) (list : List ℕ) →
    source_check k n places ≡ Ok tt → (fault : CompactionFault) → room_check n (length row) (length list) ≡ Err fault → Compacts k n book places row list (Err fault) row list
no_room k n book places row list ok ShortRow e = (ok, row_short n (length row) (length list) e, refl, refl)
no_room k n book places row list ok ShortList e = (ok, (list_short n (length row) (length list) e).0, (list_short n (length row) (length list) e).1, refl, refl)
no_room k n book places row list ok (BadSource fault) e = absurd (no_source_fault n (length row) (length list) fault e)
no_room k n book places row list ok (OverConstrained d) e = absurd (no_cycle n (length row) (length list) d e)

-- What nobody is ever to find: three ways in which a compaction or a reduction could be wrong.
use Rattle.std.specs.Prelude.{◌≡◌, ℕ, ◌<◌, false, ◌⊎◌, List, length, take, Ok, Err, Result}
use Rattle.std.specs.List.{ContainsAt as Has, AllByRecursion as Every}
use Rattle.lengths.specs.Kind.{Kind}
use Rattle.rules.specs.declared.rule.Rule.{Rule}
use Rattle.graph.specs.Cycles.{numbers}
use Rattle.graph.specs.Listed.{plain}
use Rattle.graph.specs.Paths.{PositiveCycle}
use Rattle.graph.specs.Rivals.{Between, SamePlacements}
use Rattle.graph.specs.Rows.{position, Keeps, Placement, Row}
use Rattle.graph.specs.declared.numbered.Numbered.{Numbered}
use Rattle.faults.specs.declared.fault.CompactionFault.{CompactionFault}
use Rattle.faults.specs.declared.fault.CompactionFault.TheVariants.{BadSource, OverConstrained, ShortList, ShortRow}
use Rattle.faults.specs.declared.fault.ReductionFault.{ReductionFault}

module _ {L : Type 0} (k : Kind L) (n : ℕ) (rules : List (Numbered L)) where
  -- Some placement keeps all rules in force.
  abbrev pub SomePlacement : Type 0
  SomePlacement = (row : List L) × Placement k n (plain rules) row

  -- No rules in force with these numbers, in this order, are a positive cycle.
  abbrev pub NoCycleShown : List ℕ → Type 0
  NoCycleShown told = (i : ℕ) (shown : List (Numbered L)) → Every (Has rules) shown → numbers shown ≡ told → PositiveCycle k (plain rules) i (plain shown) → ⊥

  -- Some row keeps every rule in force that has one of these numbers.
  abbrev pub ShownKept : List ℕ → Type 0
  ShownKept told = (row : List L) × Row k n row × ((q : Numbered L) → Has rules q → Has told q.number → Keeps k row q.rule)

  -- A compaction says over-constrained although some placement keeps all rules in force, or shows a cycle that is no
  -- positive cycle of rules in force, or one whose rules some row keeps.
  abbrev pub WronglyRefused : (shown : List ℕ) → Type 0
  WronglyRefused shown = SomePlacement ⊎ (NoCycleShown shown ⊎ ShownKept shown)

  -- An accepted compaction has positions that break a rule in force, or lie right of some placement of the rules in
  -- force at some mark.
  abbrev pub WronglyPacked : (positions : List L) → Type 0
  WronglyPacked positions =
      ((q : Numbered L) × Has rules q × (Keeps k positions q.rule → ⊥))
      ⊎ ((row : List L) × Placement k n (plain rules) row × ((m : ℕ) × (m < n) × (k.at_most (position k positions m) (position k row m) ≡ false)))

  -- A row is a placement of the one and not of the other.
  abbrev pub OtherPlacements : List (Rule L) → List (Rule L) → Type 0
  OtherPlacements xs ys = (row : List L) × Placement k n xs row × (Placement k n ys row → ⊥)

  -- An accepted reduction has a list with other placements than the rules in force, or with more rules than some rival
  -- list with the same placements.
  abbrev pub WronglyReduced : (list : List (Rule L)) → Type 0
  WronglyReduced list =
      (OtherPlacements (plain rules) list ⊎ OtherPlacements list (plain rules))
      ⊎ ((rival : List (Rule L)) × Every (Between k n) rival × SamePlacements k n (plain rules) rival × (length rival < length list))

  -- What can be found wrong with a compaction that answers so: a refusal as over-constrained tells how many of the numbers
  -- are the cycle's.
  abbrev pub CompactionFinding : Result (Unit {0}) CompactionFault → (row' : List L) (list' : List ℕ) → Type 0
  CompactionFinding (Ok _) row' list' = WronglyPacked row'
  CompactionFinding (Err (OverConstrained length)) row' list' = WronglyRefused (take length list')
  CompactionFinding (Err (BadSource fault)) row' list' = ⊥
  CompactionFinding (Err ShortRow) row' list' = ⊥
  CompactionFinding (Err ShortList) row' list' = ⊥

  -- What can be found wrong with a reduction that answers so.
  abbrev pub ReductionFinding : Result ℕ ReductionFault → (list' : List (Rule L)) → Type 0
  ReductionFinding (Ok count) list' = WronglyReduced (take count list')
  ReductionFinding (Err fault) list' = ⊥

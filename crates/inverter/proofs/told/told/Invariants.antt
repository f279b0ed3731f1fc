use Rattle.std.proofs.Common.{◌≡◌, ◌≤◌, count_by, is_some, take}
use Rattle.inverter.proofs.told.told.Given as goal

abbrev pub invariant-loop-place : goal.invariant-loop-place
invariant-loop-place g l = record {
  counted : l.count ≡ count_by is_some (take l.place (g.S.Source.listing l.source));
  few : l.count ≤ l.place;
}

-- What laying rules does to the list that they are laid into.
use Rattle.std.specs.Prelude.{◌≡◌, List, ◌++◌}
use Rattle.rules.specs.declared.rule.Rule.{Rule}
use Rattle.reduction.specs.declared.listing.Laying.{Laying}
use Rattle.reduction.specs.Listing.{Appends}

-- These rules are laid after whatever was laid before, into the same list.
abbrev pub Lays : {L : Type 0} → List (Rule L) → Laying L → Laying L → Type 0
Lays rules before after = (after.list.ghost_name ≡ before.list.ghost_name) × Appends rules before.list.now before.count after.list.now after.count

-- Of the whole, the rest is still to be laid.
pub record Progress {L : Type 0} (whole rest : List (Rule L)) (before after : Laying L) : Type 0 where
  pub done : List (Rule L)
  pub lays : Lays done before after
  pub is : done ++ rest ≡ whole

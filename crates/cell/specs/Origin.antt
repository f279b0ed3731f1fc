-- The numbers of rules in force: tags, then 70,000 and the mark, then 100,000 and the place.
use Rattle.std.specs.Prelude.{ℕ, ◌+◌, ◌-◌, cond, Ok, Err, Result, nat_le, nat_lt}
use Rattle.cell.specs.declared.origin.Origin.{Origin}
use Rattle.cell.specs.declared.origin.Origin.TheVariants.{Entered, Border, Told}
use Rattle.cell.specs.declared.origin.UnusedNumber.{UnusedNumber}

abbrev pub origin_number : Origin → ℕ
origin_number (Entered tag) = tag
origin_number (Border mark) = 70_000 + mark
origin_number (Told place) = 100_000 + place

abbrev unused : ℕ → Result Origin UnusedNumber
unused m = Err (record { number = m })

-- Where the rule of a number comes from: of the numbers below 165,536, those from 65,536 to 69,999 name none.
abbrev pub origin_of : ℕ → Result Origin UnusedNumber
origin_of m =
    cond (nat_le 100_000 m) (cond (nat_lt m 165_536) (Ok (Told (m - 100_000))) (unused m))
    (cond (nat_le 70_000 m) (Ok (Border (m - 70_000)))
    (cond (nat_lt m 65_536) (Ok (Entered m)) (unused m)))

-- Rules laid one after another into a list, as far as it reaches.
use Rattle.std.specs.Prelude.{◌≡◌, ℕ, ◌*◌, ◌<◌, ◌≤◌, Bool, true, false, ◌&&◌, List, ◌++◌, length, take, drop, Ok, Err, Result, ◌==◌, nat_le, slice_index_or}
use Rattle.lengths.specs.Kind.{Kind}
use Rattle.rules.specs.declared.rule.Rule.{Rule}
use Rattle.reduction.specs.declared.reduction.ReducingFault.{ReducingFault}
use Rattle.reduction.specs.declared.reduction.ReducingFault.TheVariants.{Unready, Short}
use Rattle.graph.specs.Distances.{table_distance}
use Rattle.reduction.specs.Reduction.{leader, reduced_list}

-- The list with its first entries replaced by others, as far as it reaches.
unfoldable pub laid : {X : Type 0} → List X → List X → List X
laid xs list = take (length list) xs ++ drop (length xs) list

-- So many have been laid.
pub record Laid {X : Type 0} (xs start list : List X) (count : ℕ) : Type 0 where
  pub counted : length xs ≡ count
  pub is : list ≡ laid xs start

-- These are laid after whatever was laid before.
abbrev pub Appends : {X : Type 0} → List X → List X → ℕ → List X → ℕ → Type 0
Appends {X} xs list count list' count' = (ys start : List X) → Laid ys start list count → Laid (ys ++ xs) start list' count'

module _ {L : Type 0} (k : Kind L) (n : ℕ) (table : List L) where
  -- Whether a mark is a leader.
  abbrev pub leads : ℕ → Bool
  leads m = leader k (table_distance k table n) m == m

  -- The marks noted are the leaders.
  abbrev pub Noted : List Bool → ℕ → Type 0
  Noted notes count = (m : ℕ) → m < count → slice_index_or notes m false ≡ leads m

  -- At most 256 marks, and a table with an entry for each two.
  abbrev pub reducible : Bool
  reducible = nat_le n 256 && nat_le (n * n) (length table)

  -- The reduced list.
  abbrev pub reduced : List (Rule L)
  reduced = reduced_list k (table_distance k table n) n

  -- Unready exactly where the table is not within the limits; short where the list has no room, and is left alone;
  -- else the reduced list stands at its front, and the rest is as it was.
  abbrev pub Reduced : List (Rule L) → Result ℕ ReducingFault → List (Rule L) → Type 0
  Reduced list (Err Unready) list' = (reducible ≡ false) × (list' ≡ list)
  Reduced list (Err (Short count)) list' = (reducible ≡ true) × (count ≡ length reduced) × (length list < count) × (list' ≡ list)
  Reduced list (Ok count) list' = (reducible ≡ true) × (count ≡ length reduced) × (count ≤ length list) × (list' ≡ reduced ++ drop count list)

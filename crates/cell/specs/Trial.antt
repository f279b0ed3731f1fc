-- What a trial answers.
use Rattle.std.specs.Prelude.{◌≡◌, ℕ, ◌+◌, ◌<◌, Bool, cond, ◌&&◌, List, [], ◌∷◌, length, take, Some, None, Ok, Err, Option, Result, ◌==◌, nat_le, nat_lt}
use Rattle.lengths.specs.Kind.{Kind}
use Rattle.rules.specs.declared.rule.Rule.{Rule}
use Rattle.graph.specs.Listed.{plain}
use Rattle.graph.specs.Rows.{row_limit, Placement}
use Rattle.graph.specs.Trial.{answered, smallest, SmallestBroken}
use Rattle.graph.specs.declared.numbered.Numbered.{Numbered}
use Rattle.cell.specs.Force.{in_force, source_check}
use Rattle.faults.specs.declared.fault.SourceFault.{SourceFault}
use Rattle.faults.specs.declared.fault.TrialFault.{TrialFault}
use Rattle.faults.specs.declared.fault.TrialFault.TheVariants.{BadMark, BadSource, ShortRow}
use Rattle.cell.specs.declared.record.Record.{Record}

module _ {L : Type 0} (k : Kind L) where
  -- Whether a length is zero: near enough to be compared, and each at most the other.
  abbrev pub is_zero : L → Bool
  is_zero x = nat_le (k.measure x) row_limit && (k.at_most x k.zero && k.at_most k.zero x)

  -- Whether a mark may lie at a length: mark 0 at zero, every other no farther than the limit.
  abbrev pub may_lie : ℕ → L → Bool
  may_lie m x = cond (m == 0) (is_zero x) (nat_le (k.measure x) row_limit)

  -- The first mark, counted from m on, that may not lie where it does.
  abbrev pub bad_mark : ℕ → List L → Option ℕ
  bad_mark m [] = None
  bad_mark m (x ∷ row) = cond (may_lie m x) (bad_mark (m + 1) row) (Some m)

  -- The answer to a row that can be tried: 0, or the smallest number of a broken rule.
  abbrev pub tried : Option ℕ → List (Numbered L) → List L → Result ℕ TrialFault
  tried (Some m) rules row = Err (BadMark m)
  tried None rules row = Ok (answered k (smallest k row None rules))

  abbrev pub behind_source : Result (Unit {0}) SourceFault → Result ℕ TrialFault → Result ℕ TrialFault
  behind_source (Err fault) answer = Err (BadSource fault)
  behind_source (Ok _) answer = answer

  abbrev pub trial_answer : ℕ → List (Record L) → List (Option (Rule L)) → List L → Result ℕ TrialFault
  trial_answer n book places row =
      behind_source (source_check k n places)
      (cond (nat_lt (length row) n) (Err ShortRow) (tried (bad_mark 0 (take n row)) (in_force k n book places) row))

  -- What a trial tells, in words.
  pub record Tries (n : ℕ) (book : List (Record L)) (places : List (Option (Rule L))) (row : List L) (answer : Result ℕ TrialFault) : Type 0 where
    -- the answer is the one defined
    pub answers : answer ≡ trial_answer n book places row
    -- 0 says that the row is a placement of the rules in force
    pub placed : answer ≡ Ok 0 → Placement k n (plain (in_force k n book places)) row
    -- any other number is the smallest of a broken rule in force
    pub broken : (m : ℕ) → answer ≡ Ok m → 0 < m → SmallestBroken k (in_force k n book places) row m

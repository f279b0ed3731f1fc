-- What the rounds come to: one round at a time, and at the end a settled row or a cycle.
use Rattle.std.specs.Prelude.{◌≡◌, ℕ, ◌+◌, ◌*◌, ◌<◌, ◌≤◌, Bool, true, false, List, length, drop, Some, None, Option, slice_set}
use Rattle.std.specs.List.{ContainsAt as Has, AllByRecursion as Every}
use Rattle.lengths.specs.Kind.{Kind}
use Rattle.rules.specs.declared.rule.Rule.{Rule}
use Rattle.graph.specs.declared.chain.ClosedChain.{ClosedChain}
use Rattle.graph.specs.declared.numbered.Numbered.{Numbered}
use Rattle.graph.specs.Rows.{position, Keeps}
use Rattle.graph.specs.Paths.{left_marks, PositiveCycle}
use Rattle.graph.specs.Listed.{plain}
use Rattle.graph.specs.Trial.{breaks}
use Rattle.graph.specs.Ready.{most_rules}
use Rattle.graph.specs.Rounds.{most_raises, Reached, Rounds, Done}
use Rattle.graph.specs.Chains.{chain, NoReturn, Returns}

-- The largest measure of an entry of a settled row: the start's, and 256 × 12,543 gaps beyond.
abbrev pub entry_limit : ℕ
entry_limit = 4_300_000_000_000

module _ {L : Type 0} (k : Kind L) where
  -- One rule relaxed: where the row breaks it, it raises the mark that it leads to, and its index is noted there.
  pub record Relaxed (rule : Rule L) (index : ℕ) (row : List L) (last : List (Option ℕ)) (raised : Bool) (row' : List L) (last' : List (Option ℕ)) : Type 0 where
    pub is : raised ≡ breaks k row rule
    pub raises : raised ≡ true → (row' ≡ slice_set row rule.to (k.sum (position k row rule.from) rule.gap)) × (last' ≡ slice_set last rule.to (Some index))
    pub leaves : raised ≡ false → (row' ≡ row) × (last' ≡ last)

  -- A round after so many steps: what holds, and whether a mark was raised in it.
  pub record RoundAt (n : ℕ) (rules : List (Numbered L)) (start : List L) (tries current : ℕ) (forwards : Bool) (steps : ℕ) (raised : Bool) (row : List L) (last : List (Option ℕ)) : Type 0 where
    pub clock : ℕ → ℕ
    pub round : ℕ → ℕ
    pub rounds : Rounds k n rules start row last clock round tries current (Done forwards (length rules) steps)
    pub quiet : raised ≡ false → (m : ℕ) → round m < current
    pub loud : raised ≡ true → (v : ℕ) × (v < n) × (round v ≡ current)

  -- A settled row: it keeps every rule, each entry is reached from the start and never fell, and the entries past the marks are as they were.
  pub record Settles (n : ℕ) (rules : List (Numbered L)) (start row : List L) : Type 0 where
    pub same_length : length row ≡ length start
    pub beyond : drop n row ≡ drop n start
    pub keeps : Every (Keeps k row) (plain rules)
    pub reached : (m : ℕ) → m < n → Reached k n (plain rules) start most_raises m (position k row m)
    pub near : (m : ℕ) → m < n → k.measure (position k row m) ≤ entry_limit
    pub risen : (m : ℕ) → m < n → k.at_most (position k start m) (position k row m) ≡ true

  -- A cycle to show: rules of the list, of more than zero together, that begin with the one leaving their smallest mark.
  pub record ShownCycle (n : ℕ) (rules : List (Numbered L)) (i : ℕ) (p : List (Numbered L)) : Type 0 where
    pub drawn : Every (Has rules) p
    pub short : length p ≤ n
    pub positive : PositiveCycle k (plain rules) i (plain p)
    pub smallest_mark : Every (λ m. i ≤ m) (left_marks (plain p))

  -- No chain of last rules from a mark below v comes back to it.
  abbrev pub NoneBelow : (n : ℕ) (rules : List (Numbered L)) (last : List (Option ℕ)) (v : ℕ) → Type 0
  NoneBelow n rules last v = (w : ℕ) → w < v → NoReturn k n rules last w

  -- What a search for a closed chain finds: the smallest mark on one, and of how many rules that is, if there is one.
  abbrev pub Found : (n : ℕ) (rules : List (Numbered L)) (last : List (Option ℕ)) → Option (ℕ × ℕ) → Type 0
  Found n rules last None = NoneBelow n rules last n
  Found n rules last (Some c) = NoneBelow n rules last c.0 × Returns k n rules last c.0 c.1

  -- Whether the chain from a mark comes back to it: after so many rules, or not at all unless a smaller mark is on a closed one.
  abbrev pub Comes : (n : ℕ) (rules : List (Numbered L)) (last : List (Option ℕ)) (v : ℕ) → Option ℕ → Type 0
  Comes n rules last v None = NoneBelow n rules last v → NoReturn k n rules last v
  Comes n rules last v (Some d) = Returns k n rules last v d

  -- The rounds ended with a closed chain of last rules, which no smaller mark is on: it is a cycle to show.
  pub record Closed (n : ℕ) (rules : List (Numbered L)) (start row : List L) (c : ClosedChain) : Type 0 where
    pub same_length : length row ≡ length start
    pub beyond : drop n row ≡ drop n start
    pub none_before : NoneBelow n rules c.last c.mark
    pub returns : Returns k n rules c.last c.mark c.count
    pub shows : ShownCycle n rules c.mark (chain k n rules c.last c.count c.mark)

  -- How the rounds end: with a settled row, or with a closed chain.
  abbrev pub Ended : (n : ℕ) (rules : List (Numbered L)) (start : List L) → Option ClosedChain → (row : List L) → Type 0
  Ended n rules start None row = Settles n rules start row
  Ended n rules start (Some c) row = Closed n rules start row c

  -- Before a round: what holds, and from the second round on a mark was raised in the round before and no chain is closed.
  abbrev pub Going : (n : ℕ) (rules : List (Numbered L)) (start : List L) (past : ℕ) (forwards : Bool) (row : List L) (last : List (Option ℕ)) → Type 0
  Going n rules start past forwards row last =
      (a : RoundAt n rules start (past * most_rules) (past + 1) forwards 0 false row last)
      × (0 < past → ((v : ℕ) × (v < n) × (past ≤ a.round v)) × ((w : ℕ) → w < n → NoReturn k n rules last w))

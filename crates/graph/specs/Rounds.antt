-- Rounds of raises: what holds of the row and of the last rules while they run.
use Rattle.std.specs.Prelude.{◌≡◌, ℕ, ◌+◌, ◌-◌, ◌<◌, ◌≤◌, Bool, true, false, cond, ◌⊎◌, List, length, drop, None, Option, unwrap_or, ◌==◌, slice_index_or}
use Rattle.std.specs.List.{ContainsAt as Has, AllByRecursion as Every}
use Rattle.lengths.specs.Kind.{Kind}
use Rattle.rules.specs.declared.rule.Rule.{Rule}
use Rattle.rules.specs.Rule.{gap_limit}
use Rattle.graph.specs.declared.numbered.Numbered.{Numbered}
use Rattle.graph.specs.Rows.{position, Keeps}
use Rattle.graph.specs.Paths.{Leads, path_length}
use Rattle.graph.specs.Listed.{plain, rule_at}
use Rattle.graph.specs.Ready.{most_marks, most_rules, start_limit}

-- The most raises of all the rounds: 256 rounds of 12,543 rules.
abbrev pub most_raises : ℕ
most_raises = 3_211_008

module _ {L : Type 0} (k : Kind L) where
  -- A rule between different marks below n, with a gap within the limit.
  pub record Fitting (n : ℕ) (r : Rule L) : Type 0 where
    pub from_below : r.from < n
    pub to_below : r.to < n
    pub apart : r.from ≡ r.to → ⊥
    pub small : k.measure r.gap ≤ gap_limit

  -- What the rounds start from: marks, rules and a row within their limits.
  pub record Setting (n : ℕ) (rules : List (Numbered L)) (start : List L) : Type 0 where
    pub few_marks : n ≤ most_marks
    pub few_rules : length rules ≤ most_rules
    pub fitting : (i : ℕ) → i < length rules → Fitting n (rule_at k rules i)
    pub long : n ≤ length start
    pub near : (m : ℕ) → m < n → k.measure (position k start m) ≤ start_limit

  -- A length is reached at mark m: it is where the start puts some mark, and a walk of few of the rules on from there.
  pub record Reached (n : ℕ) (rules : List (Rule L)) (start : List L) (most m : ℕ) (x : L) : Type 0 where
    pub origin : ℕ
    pub origin_below : origin < n
    pub walk : List (Rule L)
    pub short : length walk ≤ most
    pub drawn : Every (Has rules) walk
    pub leads : Leads origin m walk
    pub is : x ≡ k.sum (position k start origin) (path_length k walk)

  -- The index of the rule that last raised mark v, or the number of rules where none did.
  abbrev pub last_of : List (Numbered L) → List (Option ℕ) → ℕ → ℕ
  last_of rules last v = unwrap_or (slice_index_or last v None) (length rules)

  -- What holds while the rounds run: `row` is what they made of `start`, `last` has the index of the rule that
  -- last raised each mark, `clock` when each mark was last raised and `round` in which round (0: never). So many
  -- rules have been tried so far, `current` is the round, and `done` says which rules were tried in it.
  pub record Rounds (n : ℕ) (rules : List (Numbered L)) (start row : List L) (last : List (Option ℕ)) (clock round : ℕ → ℕ) (tries current : ℕ) (done : ℕ → Type 0) : Type 0 where
    -- the row and the last rules have an entry for each mark, and the row is unchanged past the marks
    pub same_length : length row ≡ length start
    pub beyond : drop n row ≡ drop n start
    pub room : n ≤ length last
    -- I1: each entry is reached by a walk of at most so many rules, and never falls
    pub reached : (m : ℕ) → m < n → Reached n (plain rules) start tries m (position k row m)
    pub risen : (m : ℕ) → m < n → k.at_most (position k start m) (position k row m) ≡ true
    -- I2: a raised mark lies at most the gap of its last rule beyond the mark which that leaves, and less than that
    -- unless it was raised after it
    pub ends : (v : ℕ) → v < n → last_of rules last v < length rules → (rule_at k rules (last_of rules last v)).to ≡ v
    pub pushed : (v : ℕ) → v < n → last_of rules last v < length rules →
        k.at_most (position k row v) (k.sum (position k row (rule_at k rules (last_of rules last v)).from) (rule_at k rules (last_of rules last v)).gap) ≡ true
    pub timed : (v : ℕ) → v < n → last_of rules last v < length rules →
        (clock (rule_at k rules (last_of rules last v)).from < clock v)
        ⊎ (k.at_most (k.sum (position k row (rule_at k rules (last_of rules last v)).from) (rule_at k rules (last_of rules last v)).gap) (position k row v) ≡ false)
    pub clocked : (m : ℕ) → clock m ≤ tries
    -- I3: a mark raised in some round has a last rule, and the mark which that leaves was raised in the round before or later
    pub noted : (v : ℕ) → v < n → 0 < round v → last_of rules last v < length rules
    pub follows : (v : ℕ) → v < n → last_of rules last v < length rules → round v ≤ round (rule_at k rules (last_of rules last v)).from + 1
    pub so_far : (m : ℕ) → round m ≤ current
    -- I4: a rule whose mark was last raised before the round before is kept, and before this round if it was tried in it
    pub kept_before : (i : ℕ) → i < length rules → round (rule_at k rules i).from + 1 < current → Keeps k row (rule_at k rules i)
    pub kept_now : (i : ℕ) → i < length rules → done i → round (rule_at k rules i).from < current → Keeps k row (rule_at k rules i)

-- The rule that a round tries at a step: forwards from the first, or backwards from the last.
abbrev pub tried_at : Bool → ℕ → ℕ → ℕ
tried_at forwards count s = cond forwards s (count - 1 - s)

-- The rules tried in the first s steps of a round.
abbrev pub Done : Bool → ℕ → ℕ → ℕ → Type 0
Done forwards count s i = (t : ℕ) × (t < s) × (tried_at forwards count t ≡ i)

-- A function with another value at one place.
abbrev pub updated : (ℕ → ℕ) → ℕ → ℕ → ℕ → ℕ
updated f v x m = cond (m == v) x (f m)

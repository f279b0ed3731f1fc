-- A trial of a row: which rules it breaks, and the answer.
use Rattle.std.specs.Prelude.{◌≡◌, ℕ, ◌≤◌, min, Bool, true, cond, not, ◌&&◌, List, [], ◌∷◌, length, Some, None, Option, Ok, Err, Result, nat_le, nat_lt}
use Rattle.std.specs.List.{ContainsAt as Has, AllByRecursion as Every, list_all}
use Rattle.lengths.specs.Kind.{Kind}
use Rattle.rules.specs.declared.rule.Rule.{Rule}
use Rattle.graph.specs.declared.numbered.Numbered.{Numbered}
use Rattle.graph.specs.declared.unready.Unready.{Unready}
use Rattle.graph.specs.Rows.{position, Keeps}
use Rattle.graph.specs.Listed.{plain}

-- Both marks of every rule are below n.
abbrev pub marks_below : {L : Type 0} → ℕ → List (Numbered L) → Bool
marks_below n rules = list_all (λ q. nat_lt q.rule.from n && nat_lt q.rule.to n) rules

-- The rules can be tried at a row: their marks are among the n, and the row has an entry for each mark.
abbrev pub triable : {L : Type 0} → ℕ → List (Numbered L) → List L → Bool
triable n rules row = nat_le n (length row) && marks_below n rules

-- The smaller of a number and the smallest so far, if there is one.
abbrev pub least : Option ℕ → ℕ → ℕ
least None m = m
least (Some l) m = min l m

module _ {L : Type 0} (k : Kind L) where
  -- A row breaks a rule: `to` does not lie the gap beyond `from`.
  abbrev pub breaks : List L → Rule L → Bool
  breaks row r = not (k.at_most (k.sum (position k row r.from) r.gap) (position k row r.to))

  -- The smallest number of a broken rule and the smallest so far.
  abbrev pub smallest : List L → Option ℕ → List (Numbered L) → Option ℕ
  smallest row so_far [] = so_far
  smallest row so_far (q ∷ rules) = smallest row (cond (breaks row q.rule) (Some (least so_far q.number)) so_far) rules

  -- A smallest number as one number: 0 where there is none.
  abbrev pub answered : Option ℕ → ℕ
  answered None = 0
  answered (Some m) = m

  -- The trial of a row: the smallest number of a broken rule, if there is one, or unready where it cannot be tried.
  abbrev pub trial_of : ℕ → List (Numbered L) → List L → Result (Option ℕ) Unready
  trial_of n rules row = cond (triable n rules row) (Ok (smallest row None rules)) (Err (record {}))

  -- m is the number of a broken rule, and no broken rule has a smaller one.
  pub record SmallestBroken (rules : List (Numbered L)) (row : List L) (m : ℕ) : Type 0 where
    pub broken : Numbered L
    pub listed : Has rules broken
    pub unkept : Keeps k row broken.rule → ⊥
    pub numbered : broken.number ≡ m
    pub smallest_of : (q : Numbered L) → Has rules q → (Keeps k row q.rule → ⊥) → m ≤ q.number

  -- What a trial answers, in words.
  pub record Tried (n : ℕ) (rules : List (Numbered L)) (row : List L) (r : Result (Option ℕ) Unready) : Type 0 where
    -- the answer is the one defined
    pub is : r ≡ trial_of n rules row
    -- a row that keeps every rule is answered none
    pub kept_none : triable n rules row ≡ true → Every (Keeps k row) (plain rules) → r ≡ Ok None
    -- the answer none says that the row keeps every rule
    pub none_kept : r ≡ Ok None → Every (Keeps k row) (plain rules)
    -- otherwise the answer is the smallest number of a broken rule
    pub broken : (m : ℕ) → r ≡ Ok (Some m) → SmallestBroken rules row m

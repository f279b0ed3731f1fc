-- Chains of last rules: from a mark back to the one that its last rule leaves, and on.
use Rattle.std.specs.Prelude.{◌≡◌, ℕ, zero, suc, ◌<◌, ◌≤◌, cond, List, [], ◌∷◌, ◌++◌, length, ◌≢◌, Option, nat_lt}
use Rattle.lengths.specs.Kind.{Kind}
use Rattle.graph.specs.declared.numbered.Numbered.{Numbered}
use Rattle.graph.specs.Listed.{numbered_at, rule_at}
use Rattle.graph.specs.Rounds.{last_of}

module _ {L : Type 0} (k : Kind L) (n : ℕ) (rules : List (Numbered L)) (last : List (Option ℕ)) where
  -- The mark that the last rule of m leaves, or n where m was never raised.
  abbrev pub before_mark : ℕ → ℕ
  before_mark m = cond (nat_lt m n) (cond (nat_lt (last_of k rules last m) (length rules)) (rule_at k rules (last_of k rules last m)).from n) n

  -- The mark d last rules back.
  abbrev pub back : ℕ → ℕ → ℕ
  back zero m = m
  back (suc d) m = back d (before_mark m)

  -- Those d last rules, in the order in which they lead to m.
  abbrev pub chain : ℕ → ℕ → List (Numbered L)
  chain zero m = []
  chain (suc d) m = chain d (before_mark m) ++ numbered_at k rules (last_of k rules last m) ∷ []

  -- No chain of at most n last rules leads from v back to v.
  abbrev pub NoReturn : ℕ → Type 0
  NoReturn v = (d : ℕ) → 0 < d → d ≤ n → back d v ≢ v

  -- The chain of last rules leads from v back to v after d of them, and not before.
  pub record Returns (v d : ℕ) : Type 0 where
    pub mark : v < n
    pub some : 0 < d
    pub most : d ≤ n
    pub closed : back d v ≡ v
    pub first : (e : ℕ) → 0 < e → e < d → back e v ≢ v

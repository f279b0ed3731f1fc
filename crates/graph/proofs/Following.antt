-- Following last rules back from a mark.
use Rattle.std.proofs.Common.{◌≡◌, ℕ, zero, suc, ◌+◌, ◌-◌, ◌<◌, ◌≤◌, ltb, List, [], ◌∷◌, ◌++◌, length, Option, sym, refl, ap, ◌∙◌, ⊎_elim, zero-add, arith}
use Rattle.std.specs.List.{ContainsAt as Has, AllByRecursion as Every}
use Rattle.std.proofs.lemmas.List.{length-append, map_push}
use Rattle.std.proofs.ByRecursion.{All-push, has_get_or, has_push_cases}
use Rattle.std.proofs.lemmas.Bool.{cases_lt, cond-true, cond-false, lt-ltb, le-ltb}
use Rattle.lengths.specs.Kind.{Kind}
use Rattle.rules.specs.declared.rule.Rule.{Rule}
use Rattle.graph.specs.declared.numbered.Numbered.{Numbered}
use Rattle.graph.specs.Paths.{Leads, Apart, left_marks}
use Rattle.graph.specs.Listed.{plain, numbered_at, rule_at, blank}
use Rattle.graph.specs.Rounds.{last_of}
use Rattle.graph.specs.Chains.{before_mark, back, chain, Returns}
use Rattle.graph.proofs.Membership.{has_none, has_there}
use Rattle.graph.proofs.Walks.{leads_append}

-- One more mark that a list without repetition lacks.
pub apart_push : (ms : List ℕ) (x : ℕ) → Apart ms → (Has ms x → ⊥) → Apart (ms ++ x ∷ [])
apart_push [] x a lacks = ((λ h. has_none x h), tt)
apart_push (m ∷ ms) x a lacks = (
  (λ h. ⊎_elim a.0 (λ (e : x ≡ m). lacks (0, omega arith, λ _. sym e)) (has_push_cases ms x m h)),
  apart_push ms x a.1 (λ h. lacks (has_there m x ms h)),
)

module _ {L : Type 0} (k : Kind L) (n : ℕ) (rules : List (Numbered L)) (last : List (Option ℕ)) where
  abbrev before : ℕ → ℕ
  before = before_mark k n rules last

  abbrev way : ℕ → ℕ → ℕ
  way = back k n rules last

  -- The mark before a raised mark, and n where there is none.
  pub before_raised : (m : ℕ) → m < n → last_of k rules last m < length rules → before m ≡ (rule_at k rules (last_of k rules last m)).from
  before_raised m l h = cond-true (ltb m n) _ _ (lt-ltb m n l) ∙ cond-true (ltb (last_of k rules last m) (length rules)) _ _ (lt-ltb (last_of k rules last m) (length rules) h)

  pub before_unraised : (m : ℕ) → m < n → length rules ≤ last_of k rules last m → before m ≡ n
  before_unraised m l h = cond-true (ltb m n) _ _ (lt-ltb m n l) ∙ cond-false (ltb (last_of k rules last m) (length rules)) _ _ (le-ltb (last_of k rules last m) (length rules) h)

  pub before_none : (m : ℕ) → n ≤ m → before m ≡ n
  before_none m h = cond-false (ltb m n) _ _ (le-ltb m n h)

  -- So many steps, then so many more.
  pub back_add : (a b m : ℕ) → way (a + b) m ≡ way b (way a m)
  back_add zero b m = ap (λ (d : ℕ). way d m) (zero-add b)
  back_add (suc a) b m = let e : suc a + b ≡ suc (a + b) = omega arith in ap (λ (d : ℕ). way d m) e ∙ back_add a b (before m)

  pub back_one_more : (d m : ℕ) → way (d + 1) m ≡ before (way d m)
  back_one_more d m = back_add d 1 m

  pub back_commutes : (a b m : ℕ) → way b (way a m) ≡ way a (way b m)
  back_commutes a b m = let e : a + b ≡ b + a = omega arith in sym (back_add a b m) ∙ ap (λ (d : ℕ). way d m) e ∙ back_add b a m

  -- Past the marks there is no way back.
  pub back_past : (d m : ℕ) → n ≤ m → n ≤ way d m
  back_past zero m h = h
  back_past (suc d) m h = back_past d (before m) (omega (arith, before_none m h))

  -- A way that ends at a mark goes by raised marks.
  pub back_raised : (d m : ℕ) → way (suc d) m < n → (m < n) × (last_of k rules last m < length rules)
  back_raised d m h =
      ⊎_elim
      (λ (l : m < n). ⊎_elim (λ (r : last_of k rules last m < length rules). (l, r))
      (λ (r : length rules ≤ last_of k rules last m). absurd (omega (arith, before_unraised m l r, back_past d (before m) (omega (arith, before_unraised m l r)))))
      (cases_lt (last_of k rules last m) (length rules)))
      (λ (l : n ≤ m). absurd (omega (arith, before_none m l, back_past d (before m) (omega (arith, before_none m l)))))
      (cases_lt m n)

  -- Where the chain comes back after d rules, every mark on it comes back after d rules.
  pub returns_along : (v d e : ℕ) → way d v ≡ v → way d (way e v) ≡ way e v
  returns_along v d e c = back_commutes e d v ∙ ap (way e) c

  -- A way back to v that is shorter than the first is none.
  pub distinct_on_way : (v d : ℕ) → Returns k n rules last v d → (a b : ℕ) → 0 < a → a < b → b ≤ d → way a v ≡ way b v → ⊥
  distinct_on_way v d r a b l m h e =
      let f : b + (d - b) ≡ d = omega arith in
      let c : way (a + (d - b)) v ≡ v = back_add a (d - b) v ∙ ap (way (d - b)) e ∙ sym (back_add b (d - b) v) ∙ ap (λ (x : ℕ). way x v) f ∙ r.closed in
      r.first (a + (d - b)) (omega arith) (omega arith) c

  -- The rules of a chain.
  abbrev links : ℕ → ℕ → List (Numbered L)
  links = chain k n rules last

  pub chain_length : (d m : ℕ) → length (links d m) ≡ d
  chain_length zero m = refl
  chain_length (suc d) m = length-append (links d (before m)) _ ∙ omega (arith, chain_length d (before m))

  pub chain_plain : (d m : ℕ) → plain (links (suc d) m) ≡ plain (links d (before m)) ++ rule_at k rules (last_of k rules last m) ∷ []
  chain_plain d m = map_push (λ (q : Numbered L). q.rule) (links d (before m)) (numbered_at k rules (last_of k rules last m))

  pub chain_drawn : (d m : ℕ) → way d m < n → Every (Has rules) (links d m)
  chain_drawn zero m h = tt
  chain_drawn (suc d) m h = All-push (Has rules) (links d (before m)) (numbered_at k rules (last_of k rules last m)) (chain_drawn d (before m) h) (has_get_or rules (last_of k rules last m) (blank k) (back_raised d m h).1)

  -- One more rule comes first.
  pub chain_front : (d m : ℕ) → links (suc d) m ≡ numbered_at k rules (last_of k rules last (way d m)) ∷ links d m
  chain_front zero m = refl
  chain_front (suc d) m = ap (λ (p : List (Numbered L)). p ++ numbered_at k rules (last_of k rules last m) ∷ []) (chain_front d (before m))

  pub chain_leads : ((w : ℕ) → w < n → last_of k rules last w < length rules → (rule_at k rules (last_of k rules last w)).to ≡ w) → (d m : ℕ) → way d m < n → Leads (way d m) m (plain (links d m))
  chain_leads ends zero m h = refl
  chain_leads ends (suc d) m h =
      let r = back_raised d m h in
      rw (chain_plain d m) (leads_append (plain (links d (before m))) (rule_at k rules (last_of k rules last m) ∷ []) (way d (before m)) (before m) m (chain_leads ends d (before m) h)
      (sym (before_raised m r.0 r.1), ends m r.0 r.1))

  -- The marks that the chain leaves are those on the way.
  pub chain_leaves : (d m x : ℕ) → way d m < n → Has (left_marks (plain (links d m))) x → (e : ℕ) × (0 < e) × (e ≤ d) × (way e m ≡ x)
  chain_leaves zero m x l h = absurd (has_none x h)
  chain_leaves (suc d) m x l h =
      let r = back_raised d m l in
      let split : left_marks (plain (links (suc d) m)) ≡ left_marks (plain (links d (before m))) ++ (rule_at k rules (last_of k rules last m)).from ∷ [] =
      ap left_marks (chain_plain d m) ∙ map_push (λ (q : Rule L). q.from) (plain (links d (before m))) (rule_at k rules (last_of k rules last m)) in
      ⊎_elim
      (λ i. let s = chain_leaves d (before m) x l i in (suc s.0, omega arith, omega (arith, s.2), s.3))
      (λ (e : (rule_at k rules (last_of k rules last m)).from ≡ x). (1, omega arith, omega arith, before_raised m r.0 r.1 ∙ e))
      (has_push_cases (left_marks (plain (links d (before m)))) (rule_at k rules (last_of k rules last m)).from x (rw split at h))

  pub chain_apart : (d m : ℕ) → way d m < n → ((a b : ℕ) → 0 < a → a < b → b ≤ d → way a m ≡ way b m → ⊥) → Apart (left_marks (plain (links d m)))
  chain_apart zero m l distinct = tt
  chain_apart (suc d) m l distinct =
      let r = back_raised d m l in
      let split : left_marks (plain (links (suc d) m)) ≡ left_marks (plain (links d (before m))) ++ (rule_at k rules (last_of k rules last m)).from ∷ [] =
      ap left_marks (chain_plain d m) ∙ map_push (λ (q : Rule L). q.from) (plain (links d (before m))) (rule_at k rules (last_of k rules last m)) in
      rw split
      (apart_push (left_marks (plain (links d (before m)))) (rule_at k rules (last_of k rules last m)).from
      (chain_apart d (before m) l (λ a b p q s e. distinct (suc a) (suc b) (omega arith) (omega arith) (omega arith) e))
      (λ h. let s = chain_leaves d (before m) (rule_at k rules (last_of k rules last m)).from l h in
      distinct 1 (suc s.0) (omega arith) (omega (arith, s.1)) (omega (arith, s.2)) (before_raised m r.0 r.1 ∙ sym s.3)))

-- Writing the numbers of a chain of last rules, from its end to its beginning.
use Rattle.std.proofs.Common.{◌≡◌, ℕ, suc, ◌+◌, ◌-◌, ◌<◌, ◌≤◌, List, [], ◌∷◌, ◌++◌, length, get_or, take, drop, set, Some, None, Option, sym, ap, ◌∙◌, arith}
use Rattle.std.proofs.lemmas.List.{append_assoc, take_more, length-take-le, set_at}
use Rattle.lengths.specs.Kind.{Kind}
use Rattle.graph.specs.declared.numbered.Numbered.{Numbered}
use Rattle.graph.specs.Rounds.{last_of}
use Rattle.graph.specs.Chains.{before_mark, back, chain, Returns}
use Rattle.graph.specs.Cycles.{numbers}
use Rattle.graph.specs.Listed.{numbered_at}
use Rattle.graph.proofs.Readiness.{last_read, numbered_read}
use Rattle.graph.proofs.Following.{back_add, back_one_more, back_raised, before_raised, chain_front}

module _ {L : Type 0} (k : Kind L) (n : ℕ) (rules : List (Numbered L)) (last : List (Option ℕ)) (v d : ℕ) (returns : Returns k n rules last v d) where
  abbrev way : ℕ → ℕ → ℕ
  way = back k n rules last

  abbrev links : ℕ → ℕ → List (Numbered L)
  links = chain k n rules last

  -- Where s rules are written, from the end of the list on, the number of one more goes to place d - s - 1.
  module _ (place at : ℕ) (some : 0 < place) (most : place ≤ d) (is : at ≡ way (d - place) v) where
    abbrev s : ℕ
    s = d - place

    early : s < d
    early = omega arith

    -- On the way back to v every mark has a last rule.
    pub on_way : (at < n) × (last_of k rules last at < length rules)
    on_way =
        let e : s + suc (d - s - 1) ≡ d = omega arith in
        let home : way (suc (d - s - 1)) at ≡ v = ap (way (suc (d - s - 1))) is ∙ sym (back_add k n rules last s (suc (d - s - 1)) v) ∙ ap (λ (x : ℕ). way x v) e ∙ returns.closed in
        back_raised k n rules last (d - s - 1) at (omega (arith, home, returns.mark))

    pub last_inside : (i : ℕ) → get_or last at None ≡ Some i → i < length rules
    last_inside i known = omega (arith, on_way.1, last_read k rules last at i known)

    module _ (i : ℕ) (q : Numbered L) (known : get_or last at None ≡ Some i) (read : q ≡ get_or rules i q) where
      is_rule : q ≡ numbered_at k rules (last_of k rules last at)
      is_rule = numbered_read k rules i q (last_inside i known) read ∙ ap (numbered_at k rules) (sym (last_read k rules last at i known))

      one_more : s + 1 ≡ d - (place - 1)
      one_more = omega arith

      pub way_on : q.rule.from ≡ way (d - (place - 1)) v
      way_on =
          ap (λ (x : Numbered L). x.rule.from) is_rule
          ∙ sym (before_raised k n rules last at on_way.0 on_way.1) ∙ ap (before_mark k n rules last) is ∙ sym (back_one_more k n rules last s v)
          ∙ ap (λ (x : ℕ). way x v) one_more

      -- The number of one more rule, before those already written.
      numbers_more : numbers (links (s + 1) v) ≡ q.number ∷ numbers (links s v)
      numbers_more =
          let e : s + 1 ≡ suc s = omega arith in
          ap (λ (x : ℕ). numbers (links x v)) e ∙ ap numbers (chain_front k n rules last s v)
          ∙ ap (λ (x : ℕ). (numbered_at k rules (last_of k rules last x)).number ∷ numbers (links s v)) (sym is)
          ∙ ap (λ (x : Numbered L). x.number ∷ numbers (links s v)) (sym is_rule)

      pub written_more : (list list' : List ℕ) → d ≤ length list → list' ≡ take place list ++ (numbers (links s v) ++ drop d list) →
          set list' (place - 1) q.number ≡ take (place - 1) list ++ (numbers (links (d - (place - 1)) v) ++ drop d list)
      written_more list list' fits now =
          let m = place - 1 in
          let e : place ≡ m + 1 = omega arith in
          let rest = numbers (links s v) ++ drop d list in
          let opened : take place list ++ rest ≡ take m list ++ get_or list m 0 ∷ rest =
          ap (λ (x : ℕ). take x list ++ rest) e ∙ ap (λ (ys : List ℕ). ys ++ rest) (take_more list m 0 (omega arith)) ∙ append_assoc (take m list) (get_or list m 0 ∷ []) rest in
          ap (λ (ys : List ℕ). set ys m q.number) (now ∙ opened)
          ∙ set_at (take m list) (get_or list m 0) rest q.number m (length-take-le m list (omega arith))
          ∙ ap (λ (ys : List ℕ). take m list ++ (ys ++ drop d list)) (sym numbers_more ∙ ap (λ (x : ℕ). numbers (links x v)) one_more)

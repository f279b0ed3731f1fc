-- The search for a closed chain of last rules, step by step.
use Rattle.std.proofs.Common.{◌≡◌, ℕ, zero, suc, ◌+◌, ◌-◌, ◌<◌, ◌≤◌, true, ◌≢◌, List, length, Some, None, Option, get_or, below_more, subst, sym, ap, ◌∙◌, ⊎_elim, arith}
use Rattle.std.specs.Prelude.{IsTrue, IsSomeAnd, IfSome, MatchOption, option_map}
use Rattle.std.specs.Iterator.Runs.{Run, AllItemsGive, IsFirstToGive}
use Rattle.std.proofs.iter.Yields.{nat_range_steps}
use Rattle.std.proofs.iter.runs.Sources.{range_runs}
use Rattle.std.proofs.lemmas.Bool.{cases_lt}
use Rattle.std.proofs.lemmas.Option.{none-some, same_Some}
use denote.Param.Members.{Mut, Called}
use Rattle.lengths.specs.Kind.{Kind}
use Rattle.graph.specs.declared.numbered.Numbered.{Numbered}
use Rattle.graph.specs.Rounds.{last_of}
use Rattle.graph.specs.Chains.{before_mark, back}
use Rattle.graph.specs.Outcome.{Comes, NoneBelow, Found}
use Rattle.graph.specs.Listed.{rule_at}
use Rattle.graph.specs.Ready.{sound}
use Rattle.graph.proofs.Readiness.{last_read, numbered_read, read_inside}
use Rattle.graph.proofs.Following.{before_raised, before_unraised, back_add, back_one_more, back_past, returns_along}

module _ {L : Type 0} (k : Kind L) (n : ℕ) (rules : List (Numbered L)) (last : List (Option ℕ)) where
  abbrev way : ℕ → ℕ → ℕ
  way = back k n rules last

  module _ (v : ℕ) (mark : v < n) (s at : ℕ) (is : at ≡ way s v) (l_at : at < n) (none : (e : ℕ) → 0 < e → e ≤ s → way e v ≡ v → ⊥) where
    -- The chain ends at a mark without a last rule.
    pub chain_ends : length rules ≤ last_of k rules last at → Comes k n rules last v None
    chain_ends unraised = λ _ d some most c.
        let out : way (s + 1) v ≡ n = back_one_more k n rules last s v ∙ ap (before_mark k n rules last) (sym is) ∙ before_unraised k n rules last at l_at unraised in
        ⊎_elim (λ (early : d < s + 1). none d some (omega arith) c)
        (λ (late : s + 1 ≤ d).
        let e : (s + 1) + (d - (s + 1)) ≡ d = omega arith in
        let f : way d v ≡ way (d - (s + 1)) (way (s + 1) v) = ap (λ (x : ℕ). way x v) (sym e) ∙ back_add k n rules last (s + 1) (d - (s + 1)) v in
        omega (arith, c, f, back_past k n rules last (d - (s + 1)) (way (s + 1) v) (omega arith)))
        (cases_lt d (s + 1))

    -- The last rule of the mark, as it is read, leads one mark back.
    module _ (is_sound : sound k n rules ≡ true) (i : ℕ) (q : Numbered L) (known : get_or last at None ≡ Some i) (l : i < length rules) (read : q ≡ get_or rules i q) where
      pub one_back : q.rule.from ≡ way (s + 1) v
      one_back =
          let e : last_of k rules last at ≡ i = last_read k rules last at i known in
          ap (λ (x : Numbered L). x.rule.from) (numbered_read k rules i q l read) ∙ ap (λ (x : ℕ). (rule_at k rules x).from) (sym e)
          ∙ sym (before_raised k n rules last at l_at (omega arith)) ∙ ap (before_mark k n rules last) is ∙ sym (back_one_more k n rules last s v)

      pub back_inside : q.rule.from < n
      back_inside = (read_inside k n rules is_sound i q l read).0

      pub comes_home : s < n → q.rule.from ≡ v → Comes k n rules last v (Some (s + 1))
      comes_home most home = record { mark = mark; some = omega arith; most = omega arith; closed = sym one_back ∙ home; first = λ e some early c. none e some (omega arith) c }

      -- A smaller mark on a closed chain would have been found from there.
      pub comes_lower : q.rule.from < v → Comes k n rules last v None
      comes_lower lower = λ below d some most c. below q.rule.from lower d some most (ap (way d) one_back ∙ returns_along k n rules last v d (s + 1) c ∙ sym one_back)

      pub still_none : q.rule.from ≢ v → (e : ℕ) → 0 < e → e ≤ s + 1 → way e v ≡ v → ⊥
      still_none away e some most c =
          ⊎_elim (λ (early : e < s + 1). none e some (omega arith) c) (λ (late : s + 1 ≤ e). let f : e ≡ s + 1 = omega arith in away (one_back ∙ ap (λ (x : ℕ). way x v) (sym f) ∙ c)) (cases_lt e (s + 1))

    -- So many steps are enough.
    pub enough_steps : n ≤ s → Comes k n rules last v None
    enough_steps all = λ _ d some most c. none d some (omega arith) c

  -- No chain from a mark below v comes back, where none does of which that holds at each smaller mark.
  none_below : (v : ℕ) → ((w : ℕ) → w < v → Comes k n rules last w None) → NoneBelow k n rules last v
  none_below zero comes = λ w l. absurd (omega (arith, l))
  none_below (suc v) comes =
      let before = none_below v (λ w l. comes w (omega (arith, l))) in
      λ w l. below_more _ _ before (comes v (omega arith) before) w (omega (arith, l))

  -- What the search is told at a mark: the mark and the number of rules, if the chain from it comes back.
  abbrev pub Told : ℕ → Option (ℕ × ℕ) → Type 0
  Told w r = (count : Option ℕ) × Comes k n rules last w count × (r ≡ option_map (λ d. (w, d)) count)

  misses : (w : ℕ) → Told w None → Comes k n rules last w None
  misses w (None, comes, e) = comes
  misses w (Some d, comes, e) = absurd (none-some (w, d) e)

  hits : (w : ℕ) (y : ℕ × ℕ) → Told w (Some y) → (w ≡ y.0) × Comes k n rules last y.0 (Some y.1)
  hits w y (None, comes, e) = absurd (none-some y (sym e))
  hits w y (Some d, comes, e) =
      let same : y ≡ (w, d) = same_Some _ _ e in
      (sym (ap (λ (x : ℕ × ℕ). x.0) same), subst (λ (x : ℕ × ℕ). Comes k n rules last x.0 (Some x.1)) (sym same) comes)

  -- The search asks f at the marks in turn, up to the first from which a chain comes back.
  module _ {F : Type 0} (g : Mut F (ℕ × Unit {0}) (Option (ℕ × ℕ))) (f : F) (tells : (w : ℕ) (r : Option (ℕ × ℕ)) (f' : F) → Called g f (w, tt) r f' → (f' ≡ f) × Told w r)
      (p : Run nat_range_steps) (start : p.from.start ≡ 0) (end : p.from.end ≡ n) where
    told : (o : Option ℕ) (w : ℕ) (r : Option (ℕ × ℕ)) → option_map (λ y. y) o ≡ Some w → IfSome o (λ x. Called g f (x, tt) r f) → Told w r
    told None w r e h = absurd (none-some w e)
    told (Some x) w r e h = subst (λ z. Told z r) (same_Some _ _ e) (tells x r f h).1

    if_some : (o : Option ℕ) (P : ℕ → Type 0) → IsSomeAnd o P → IfSome o P
    if_some None P h = tt
    if_some (Some x) P h = h

    told_at : (w : ℕ) (r : Option (ℕ × ℕ)) → w < p.len → IfSome (p.at w) (λ x. Called g f (x, tt) r f) → Told w r
    told_at w r l h = let e : p.from.start + w ≡ w = omega (arith, start) in told (p.at w) w r ((range_runs p p.seen).3 w l ∙ ap Some e) h

    pub found_first : (r : Option (ℕ × ℕ))
        → MatchOption r (IsTrue p.whole × AllItemsGive p g f None) (λ y. (i : ℕ) × (i < p.len) × (p.len ≡ i + 1) × IsFirstToGive p g f (Some y) None i)
        → Found k n rules last r
    found_first None (whole, none) =
        let all : p.len ≡ p.from.end - p.from.start = (range_runs p p.seen).1 whole in
        none_below n (λ w l. misses w (told_at w None (omega (arith, all, start, end)) (none (λ a r f' h. (tells a.0 r f' h).0) w)))
    found_first (Some y) (i, l, _, first) =
        let given = first (λ a r f' h. (tells a.0 r f' h).0) in
        let hit = hits i y (told_at i (Some y) l (if_some (p.at i) _ given.0)) in (
          none_below y.0 (λ w m.
              let b : w < i = omega (arith, m, hit.0) in
              misses w (told_at w None (omega (arith, b, l)) (if_some (p.at w) _ (given.1 w b)))),
          hit.1,
        )

-- What the table before the first midpoint holds: zeros, gaps and nothing else.
use Rattle.std.proofs.Common.{◌≡◌, ℕ, zero, suc, ◌+◌, ◌*◌, ◌/◌, ◌%◌, ◌<◌, ◌≤◌, true, ◌≢◌, ◌⊎◌, List, [], ◌∷◌, length, get_or, drop, set, replicate, Some, None, sym, refl, ap, ◌∙◌, subst, inl, inr, ⊎_elim, arith}
use Rattle.std.specs.List.{ContainsAt as Has, AllByRecursion as Every}
use Rattle.std.proofs.lemmas.Nat.{mul-add-lt, div-mul-add, mod-mul-add}
use Rattle.std.proofs.ByRecursion.{all-has, all_has_itself}
use Rattle.std.proofs.lemmas.List.{length-append, length-replicate, length-set, get_or_append_left, get_or-replicate, get_or-set_same, get_or-set_other, drop_at, drop-set-lt}
use Rattle.std.proofs.lemmas.Bool.{both_ways, cases_eq}
use Rattle.lengths.specs.Kind.{Kind, Laws, far_measure, near}
use Rattle.lengths.proofs.Algebra.{reflexive, larger_cases, larger_first, larger_second}
use Rattle.rules.specs.declared.rule.Rule.{Rule}
use Rattle.rules.specs.Rule.{gap_limit}
use Rattle.graph.specs.declared.numbered.Numbered.{Numbered}
use Rattle.graph.specs.Listed.{plain}
use Rattle.graph.specs.Rivals.{rival_limit}
use Rattle.graph.specs.Distances.{table_entry, as_entry, table_distance}
use Rattle.graph.specs.Filling.{filled, none, diagonal, no_less, raised, raised_all, begun}
use Rattle.graph.proofs.Walks.{MarksBelow, GapAtMost}
use Rattle.graph.proofs.Distances.{Consistent}
use Rattle.graph.proofs.Layers.{AtLeast}
use Rattle.graph.proofs.Tables.{above_none, table_some, table_none}
use Rattle.graph.proofs.Stages.{Stage, stage_start}

-- A place belongs to one row and one column.
pub same_place : (n i j a b : ℕ) → j < n → b < n → i * n + j ≡ a * n + b → (i ≡ a) × (j ≡ b)
same_place n i j a b lj lb e = (
  sym (div-mul-add i n j lj) ∙ ap (λ x. x / n) e ∙ div-mul-add a n b lb,
  sym (mod-mul-add i n j lj) ∙ ap (λ x. x % n) e ∙ mod-mul-add a n b lb,
)

-- What an entry from i to j comes from: nothing, a mark to itself, or a rule.
abbrev pub Sourced : {L : Type 0} → Kind L → List (Rule L) → ℕ → ℕ → L → Type 0
Sourced {L} k rules i j x = (x ≡ none k) ⊎ (((i ≡ j) × (k.zero ≡ x)) ⊎ ((r : Rule L) × Has rules r × (r.from ≡ i) × (r.to ≡ j) × (r.gap ≡ x)))

module _ {L : Type 0} (k : Kind L) (laws : Laws k) (n : ℕ) (rules : List (Rule L)) (marks : Every (MarksBelow n) rules) (small : Every (GapAtMost k gap_limit) rules) where
  pub record Filling (table : List L) : Type 0 where
    pub long : n * n ≤ length table
    pub sourced : (i j : ℕ) → i < n → j < n → Sourced k rules i j (table_entry k table n i j)

  sourced_measure : (i j : ℕ) (x : L) → Sourced k rules i j x → k.measure x ≤ far_measure
  sourced_measure i j x s =
      ⊎_elim
      (λ (e : x ≡ none k). rw e (omega (arith, laws.measure_far, laws.measure_opposite k.far (omega (arith, laws.measure_far)))))
      (λ o. ⊎_elim (λ z. rw (← z.1) (omega (arith, laws.measure_zero))) (λ g. rw (← g.4) (omega (arith, all-has (GapAtMost k gap_limit) rules g.0 small g.1))) o)
      s

  module _ (r : Rule L) (has : Has rules r) (table : List L) (f : Filling table) where
    below : MarksBelow n r
    below = all-has (MarksBelow n) rules r marks has

    place_inside : r.from * n + r.to < length table
    place_inside = omega (arith, f.long, mul-add-lt r.from n r.to n below.0 below.1)

    -- The entry at the rule's marks is raised, every other is as it was.
    raised_cases : (i j : ℕ) → i < n → j < n →
        ((r.from ≡ i) × (r.to ≡ j) × (table_entry k (raised k n r table) n i j ≡ no_less k (table_entry k table n i j) r.gap)) ⊎ (table_entry k (raised k n r table) n i j ≡ table_entry k table n i j)
    unfolding raised
    raised_cases i j li lj =
        ⊎_elim
        (λ (e : r.from * n + r.to ≡ i * n + j).
        let same = same_place n r.from r.to i j below.1 lj e in
        inl (same.0, same.1, ap (λ x. get_or (raised k n r table) x k.zero) (sym e) ∙ get_or-set_same table (r.from * n + r.to) (no_less k (table_entry k table n r.from r.to) r.gap) k.zero place_inside ∙ ap (λ x. no_less k (get_or table x k.zero) r.gap) e))
        (λ (ne : r.from * n + r.to ≡ i * n + j → ⊥).
        let other : i * n + j ≢ r.from * n + r.to = (λ (e : i * n + j ≡ r.from * n + r.to). ne (sym e)) in
        inr (get_or-set_other table (r.from * n + r.to) (i * n + j) (no_less k (table_entry k table n r.from r.to) r.gap) k.zero other))
        (cases_eq (r.from * n + r.to) (i * n + j))

    raised_long : n * n ≤ length (raised k n r table)
    unfolding raised
    raised_long = omega (arith, f.long, length-set table (r.from * n + r.to) (no_less k (table_entry k table n r.from r.to) r.gap))

    pub raised_filling : Filling (raised k n r table)
    raised_filling = record {
      long = raised_long;
      sourced = λ i j li lj.
          ⊎_elim
          (λ c.
          ⊎_elim (λ e. subst (Sourced k rules i j) (sym (c.2 ∙ e)) (f.sourced i j li lj))
          (λ e. inr (inr (r, has, c.0, c.1, sym (c.2 ∙ e))))
          (larger_cases k laws (table_entry k table n i j) r.gap))
          (λ e. subst (Sourced k rules i j) (sym e) (f.sourced i j li lj))
          (raised_cases i j li lj);
    }

    held_measure : (i j : ℕ) → i < n → j < n → k.measure (table_entry k table n i j) ≤ far_measure
    held_measure i j li lj = sourced_measure i j (table_entry k table n i j) (f.sourced i j li lj)

    gap_measure : k.measure r.gap ≤ gap_limit
    gap_measure = all-has (GapAtMost k gap_limit) rules r small has

    -- No entry falls.
    pub raised_rises : (i j : ℕ) → i < n → j < n → k.at_most (table_entry k table n i j) (table_entry k (raised k n r table) n i j) ≡ true
    raised_rises i j li lj =
        ⊎_elim
        (λ c. rw c.2 (larger_first k laws (table_entry k table n i j) r.gap (omega (arith, held_measure i j li lj, gap_measure))))
        (λ e. rw e (reflexive k laws (table_entry k table n i j) (omega (arith, held_measure i j li lj))))
        (raised_cases i j li lj)

    pub raised_gap : k.at_most r.gap (table_entry k (raised k n r table) n r.from r.to) ≡ true
    unfolding raised
    raised_gap =
        rw (get_or-set_same table (r.from * n + r.to) (no_less k (table_entry k table n r.from r.to) r.gap) k.zero place_inside)
        (larger_second k laws (table_entry k table n r.from r.to) r.gap (omega (arith, held_measure r.from r.to below.0 below.1, gap_measure)))

    pub raised_beyond : drop (n * n) (raised k n r table) ≡ drop (n * n) table
    unfolding raised
    raised_beyond = drop-set-lt (n * n) table (r.from * n + r.to) (no_less k (table_entry k table n r.from r.to) r.gap) (mul-add-lt r.from n r.to n below.0 below.1)

  -- All rules, one after another.
  pub record Raised (qs : List (Numbered L)) (table table' : List L) : Type 0 where
    pub filling : Filling table'
    pub rises : (i j : ℕ) → i < n → j < n → k.at_most (table_entry k table n i j) (table_entry k table' n i j) ≡ true
    pub gaps : Every (λ r. k.at_most r.gap (table_entry k table' n r.from r.to) ≡ true) (plain qs)
    pub beyond : drop (n * n) table' ≡ drop (n * n) table

  entry_measure : (table : List L) → Filling table → (i j : ℕ) → i < n → j < n → k.measure (table_entry k table n i j) ≤ far_measure
  entry_measure table f i j li lj = sourced_measure i j (table_entry k table n i j) (f.sourced i j li lj)

  pub raised_all_is : (qs : List (Numbered L)) → Every (Has rules) (plain qs) → (table : List L) → Filling table → Raised qs table (raised_all k n qs table)
  unfolding raised_all
  raised_all_is [] has table f = record {
    filling = f;
    rises = λ i j li lj. reflexive k laws (table_entry k table n i j) (omega (arith, entry_measure table f i j li lj));
    gaps = tt;
    beyond = refl;
  }
  raised_all_is (q ∷ qs) has table f =
      let r = q.rule in
      let first = raised k n r table in
      let g = raised_filling r has.0 table f in
      let rest = raised_all_is qs has.1 first g in
      let last = raised_all k n qs first in
      let b = all-has (MarksBelow n) rules r marks has.0 in
      record {
        filling = rest.filling;
        rises = λ i j li lj.
            laws.transitive (table_entry k table n i j) (table_entry k first n i j) (table_entry k last n i j)
            (omega (arith, entry_measure table f i j li lj, entry_measure first g i j li lj, entry_measure last rest.filling i j li lj))
            (raised_rises r has.0 table f i j li lj) (rest.rises i j li lj);
        gaps = (
          laws.transitive r.gap (table_entry k first n r.from r.to) (table_entry k last n r.from r.to)
              (omega (arith, all-has (GapAtMost k gap_limit) rules r small has.0, entry_measure first g r.from r.to b.0 b.1, entry_measure last rest.filling r.from r.to b.0 b.1))
              (raised_gap r has.0 table f) (rest.rises r.from r.to b.0 b.1),
          rest.gaps,
        );
        beyond = rest.beyond ∙ raised_beyond r has.0 table f;
      }

  -- The first i marks have zero to themselves.
  pub record Zeroed (i : ℕ) (table table' : List L) : Type 0 where
    pub filling : Filling table'
    pub zeros : (a : ℕ) → a < i → table_entry k table' n a a ≡ k.zero
    pub beyond : drop (n * n) table' ≡ drop (n * n) table

  pub diagonal_is : (table : List L) → Filling table → (c : ℕ) → c ≤ n → Zeroed c table (diagonal k n c table)
  unfolding diagonal
  diagonal_is table f zero l = record { filling = f; zeros = λ a h. absurd (omega arith); beyond = refl }
  diagonal_is table f (suc c) l =
      let before = diagonal_is table f c (omega arith) in
      let t = diagonal k n c table in
      let at = c * n + c in
      let lc : c < n = omega arith in
      let inside : at < length t = omega (arith, before.filling.long, mul-add-lt c n c n lc lc) in
      record {
        filling = record {
          long = omega (arith, before.filling.long, length-set t at k.zero);
          sourced = λ i j li lj.
              ⊎_elim
              (λ (e : i * n + j ≡ at).
              let same = same_place n i j c c lj lc e in
              inr (inl (same.0 ∙ sym same.1, sym (ap (λ x. get_or (set t at k.zero) x k.zero) e ∙ get_or-set_same t at k.zero k.zero inside))))
              (λ (ne : i * n + j ≡ at → ⊥). let other : i * n + j ≢ at = ne in subst (Sourced k rules i j) (sym (get_or-set_other t at (i * n + j) k.zero k.zero other)) (before.filling.sourced i j li lj))
              (cases_eq (i * n + j) at);
        };
        zeros = λ a h.
            ⊎_elim
            (λ (e : a * n + a ≡ at). ap (λ x. get_or (set t at k.zero) x k.zero) e ∙ get_or-set_same t at k.zero k.zero inside)
            (λ (ne : a * n + a ≡ at → ⊥).
            let other : a * n + a ≢ at = ne in
            let less : a < c = ⊎_elim (λ (e : a ≡ c). absurd (ne (ap (λ x. x * n + x) e))) (λ (o : a ≡ c → ⊥). omega (arith, o)) (cases_eq a c) in
            get_or-set_other t at (a * n + a) k.zero k.zero other ∙ before.zeros a less)
            (cases_eq (a * n + a) at);
        beyond = drop-set-lt (n * n) t at k.zero (mul-add-lt c n c n lc lc) ∙ before.beyond;
      }

  module _ (table : List L) (long : n * n ≤ length table) where
    pub filled_filling : Filling (filled (n * n) (none k) table)
    filled_filling = record {
      long = omega (arith, length-append (replicate (n * n) (none k)) (drop (n * n) table), length-replicate (n * n) (none k));
      sourced = λ i j li lj.
          let l : i * n + j < n * n = mul-add-lt i n j n li lj in
          inl (get_or_append_left (replicate (n * n) (none k)) (drop (n * n) table) k.zero (i * n + j) (omega (arith, length-replicate (n * n) (none k))) ∙ get_or-replicate (n * n) (i * n + j) (none k) k.zero l);
    }

    pub filled_beyond : drop (n * n) (filled (n * n) (none k) table) ≡ drop (n * n) table
    filled_beyond = drop_at (replicate (n * n) (none k)) (drop (n * n) table) (n * n) (length-replicate (n * n) (none k))

  -- What a length of the table is.
  module _ (table : List L) (f : Filling table) where
    some_or_none : (i j : ℕ) → i < n → j < n → ((table_entry k table n i j ≡ none k) × (table_distance k table n i j ≡ None)) ⊎ (table_distance k table n i j ≡ Some (table_entry k table n i j))
    some_or_none i j li lj =
        ⊎_elim (λ e. inl (e, table_none k laws table n i j e))
        (λ o. inr (table_some k laws table n i j (⊎_elim (λ z. rw (← z.1) (omega (arith, laws.measure_zero))) (λ g. rw (← g.4) (omega (arith, all-has (GapAtMost k gap_limit) rules g.0 small g.1))) o)))
        (f.sourced i j li lj)

    pub entry_held : (i j : ℕ) → i < n → j < n → table_entry k table n i j ≡ as_entry k (table_distance k table n i j)
    unfolding as_entry
    entry_held i j li lj = ⊎_elim (λ e. e.0 ∙ sym (ap (as_entry k) e.1)) (λ e. sym (ap (as_entry k) e)) (some_or_none i j li lj)

    entry_source : (i j : ℕ) → i < n → j < n → (x : L) → table_distance k table n i j ≡ Some x → ((i ≡ j) × (k.zero ≡ x)) ⊎ ((r : Rule L) × Has rules r × (r.from ≡ i) × (r.to ≡ j) × (r.gap ≡ x))
    entry_source i j li lj x e =
        ⊎_elim (λ none_here. let f = none_here.1 in let z : ◌≡◌ {A = ℕ} 0 1 = cc in absurd (omega arith))
        (λ some_here.
        let is : table_entry k table n i j ≡ x = cc in
        ⊎_elim
        (λ e. let g = table_none k laws table n i j e in let z : ◌≡◌ {A = ℕ} 0 1 = cc in absurd (omega arith))
        (λ o. ⊎_elim (λ z. inl (z.0, z.1 ∙ is)) (λ g. inr (g.0, g.1, g.2, g.3, g.4 ∙ is)) o)
        (f.sourced i j li lj))
        (some_or_none i j li lj)

    entry_at_least : (i j : ℕ) → i < n → j < n → (y : L) → k.measure y ≤ near → k.at_most y (table_entry k table n i j) ≡ true → AtLeast k (table_distance k table n i j) y
    entry_at_least i j li lj y my h =
        ⊎_elim (λ e. absurd (both_ways _ (above_none k laws y my) (rw e.0 at h)))
        (λ e. (table_entry k table n i j, e, h))
        (some_or_none i j li lj)

    pub filling_stage : Consistent k n rival_limit rules → ((i : ℕ) → i < n → k.at_most k.zero (table_entry k table n i i) ≡ true) → Every (λ r. k.at_most r.gap (table_entry k table n r.from r.to) ≡ true) rules → Stage k n rules 0 (table_distance k table n)
    filling_stage c zeros gaps =
        stage_start k laws n rules c (table_distance k table n) entry_source
        (λ i li. entry_at_least i i li li k.zero (omega (arith, laws.measure_zero)) (zeros i li))
        (λ r has.
        let b = all-has (MarksBelow n) rules r marks has in
        entry_at_least r.from r.to b.0 b.1 r.gap (omega (arith, all-has (GapAtMost k gap_limit) rules r small has)) (all-has (λ r. k.at_most r.gap (table_entry k table n r.from r.to) ≡ true) rules r gaps has))

-- The table before the first midpoint.
module _ {L : Type 0} (k : Kind L) (laws : Laws k) (n : ℕ) (rules : List (Numbered L)) (marks : Every (MarksBelow n) (plain rules)) (small : Every (GapAtMost k gap_limit) (plain rules))
    (table : List L) (long : n * n ≤ length table) where
  start_zeroed : Zeroed k laws n (plain rules) marks small n (filled (n * n) (none k) table) (diagonal k n n (filled (n * n) (none k) table))
  start_zeroed = diagonal_is k laws n (plain rules) marks small (filled (n * n) (none k) table) (filled_filling k laws n (plain rules) marks small table long) n (omega arith)

  start_raised : Raised k laws n (plain rules) marks small rules (diagonal k n n (filled (n * n) (none k) table)) (begun k n rules table)
  unfolding begun
  start_raised = raised_all_is k laws n (plain rules) marks small rules (all_has_itself (plain rules)) (diagonal k n n (filled (n * n) (none k) table)) start_zeroed.filling

  pub begun_holds : (i j : ℕ) → i < n → j < n → table_entry k (begun k n rules table) n i j ≡ as_entry k (table_distance k (begun k n rules table) n i j)
  begun_holds = entry_held k laws n (plain rules) marks small (begun k n rules table) start_raised.filling

  pub begun_long : n * n ≤ length (begun k n rules table)
  begun_long = start_raised.filling.long

  pub begun_beyond : drop (n * n) (begun k n rules table) ≡ drop (n * n) table
  begun_beyond = start_raised.beyond ∙ start_zeroed.beyond ∙ filled_beyond k laws n (plain rules) marks small table long

  pub begun_stage : Consistent k n rival_limit (plain rules) → Stage k n (plain rules) 0 (table_distance k (begun k n rules table) n)
  begun_stage c =
      filling_stage k laws n (plain rules) marks small (begun k n rules table) start_raised.filling c
      (λ i li. rw (start_zeroed.zeros i li) at (start_raised.rises i i li li)) start_raised.gaps

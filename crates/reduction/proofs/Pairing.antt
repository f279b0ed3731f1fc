-- Rings and pairs of leaders, laid one after another.
use Rattle.std.proofs.Common.{◌≡◌, ℕ, ◌+◌, ◌-◌, ◌<◌, Bool, true, false, not, ◌&&◌, eqb, List, ◌∷◌, map, is_some, filter, sym, refl, ap, ◌∙◌, ⊎_elim, arith}
use Rattle.std.specs.List.{range_with_len, ContainsAt as Has, flat_map}
use Rattle.std.proofs.lemmas.Bool.{both_ways, and_from, and_parts, cases_Bool}
use Rattle.lengths.specs.Kind.{Kind}
use Rattle.rules.specs.declared.rule.Rule.{Rule}
use Rattle.graph.specs.Distances.{table_distance}
use Rattle.reduction.specs.Reduction.{any, splits, distance_rule, leaders, listed, pairs_from}
use Rattle.reduction.specs.declared.listing.Laying.{Laying}
use Rattle.reduction.specs.Listing.{leads}
use Rattle.reduction.specs.Laying.{Lays, Progress}
use Rattle.reduction.proofs.Selections.{has_kept_by, kept_by_has, has_counting, counting_has, any_true, any_false}
use Rattle.reduction.proofs.Laying.{left_from, left_kept, left_skipped, progress_start, progress_skip, progress_more}

and_less : (l x y z : Bool) → (l && (x && y)) ≡ false → (l && (x && (y && z))) ≡ false
and_less false x y z e = refl
and_less true false y z e = refl
and_less true true false z e = refl
and_less true true true z e = absurd (both_ways true e refl)

and_more : (l x y z : Bool) → (l && (x && y)) ≡ true → z ≡ true → (l ≡ true) × ((x && (y && z)) ≡ true)
and_more true true true z e f = (refl, f)
and_more true true false z e f = absurd (both_ways false refl e)
and_more true false y z e f = absurd (both_ways false refl e)
and_more false x y z e f = absurd (both_ways false refl e)

and_none : (l x y z : Bool) → z ≡ false → (l && (x && (y && z))) ≡ false
and_none false x y z e = refl
and_none true false y z e = refl
and_none true true false z e = refl
and_none true true true z e = e

module _ {L : Type 0} (k : Kind L) (n : ℕ) (table : List L) where
  leader_listed : (c : ℕ) → c < n → leads k n table c ≡ true → Has (leaders k (table_distance k table n) n) c
  unfolding leaders
  leader_listed c l e = has_kept_by (leads k n table) (range_with_len 0 n) c (has_counting 0 n c (omega arith) (omega arith)) e

  listed_leader : (c : ℕ) → Has (leaders k (table_distance k table n) n) c → (c < n) × (leads k n table c ≡ true)
  unfolding leaders
  listed_leader c h =
      let s = kept_by_has (leads k n table) (range_with_len 0 n) c h in
      let r = counting_has 0 n c s.0 in
      (omega arith, s.1)

  -- All leaders are left at the start.
  pub leaders_start : {Y : Type 0} (F : List ℕ → Y) → F (leaders k (table_distance k table n) n) ≡ F (left_from (leads k n table) n 0)
  unfolding leaders
  leaders_start F = let e : n ≡ n - 0 = omega arith in ap (λ (m : ℕ). F (filter (leads k n table) (range_with_len 0 m))) e

  -- What is laid for each leader in turn: nothing at a mark that does not lead.
  module _ (f : ℕ → List (Rule L)) where
    abbrev pub JoinedTo : ℕ → Laying L → Laying L → Type 0
    JoinedTo i before now = Progress (flat_map f (leaders k (table_distance k table n) n)) (flat_map f (left_from (leads k n table) n i)) before now

    pub joined_start : (now : Laying L) → JoinedTo 0 now now
    joined_start now = progress_skip (leaders_start (flat_map f)) (progress_start (flat_map f (leaders k (table_distance k table n) n)) now)

    pub joined_skip : (i : ℕ) {before now : Laying L} → i < n → false ≡ leads k n table i → JoinedTo i before now → JoinedTo (i + 1) before now
    joined_skip i l e p = progress_skip (ap (flat_map f) (left_skipped (leads k n table) n i l (sym e))) p

    pub joined_more : (i : ℕ) {before now : Laying L} (after : Laying L) → i < n → true ≡ leads k n table i → Lays (f i) now after → JoinedTo i before now → JoinedTo (i + 1) before after
    joined_more i after l e a p = progress_more (f i) _ after (ap (flat_map f) (left_kept (leads k n table) n i l (sym e))) a p

  module _ (a : ℕ) where
    -- The pairs from a leader that are left.
    abbrev pub pairs_left : ℕ → List (Rule L)
    pairs_left i = map (distance_rule k (table_distance k table n) a) (filter (listed k (table_distance k table n) n a) (left_from (leads k n table) n i))

    pub pairs_start : pairs_from k (table_distance k table n) n a ≡ pairs_left 0
    unfolding pairs_from
    pairs_start = leaders_start (λ (ms : List ℕ). map (distance_rule k (table_distance k table n) a) (filter (listed k (table_distance k table n) n a) ms))

    module _ (b : ℕ) (l : b < n) where
      over_left : left_from (leads k n table) n b ≡ left_from (leads k n table) n (b + 1) → pairs_left b ≡ pairs_left (b + 1)
      over_left e = ap (λ (ms : List ℕ). map (distance_rule k (table_distance k table n) a) (filter (listed k (table_distance k table n) n a) ms)) e

      pair_skipped : (leads k n table b && listed k (table_distance k table n) n a b) ≡ false → pairs_left b ≡ pairs_left (b + 1)
      pair_skipped e =
          ⊎_elim
          (λ (t : leads k n table b ≡ true).
          let no : listed k (table_distance k table n) n a b ≡ false = rw t at e in
          ap (λ (ms : List ℕ). map (distance_rule k (table_distance k table n) a) (filter (listed k (table_distance k table n) n a) ms)) (left_kept (leads k n table) n b l t) ∙ rw no refl)
          (λ (t : leads k n table b ≡ false). over_left (left_skipped (leads k n table) n b l t))
          (cases_Bool (leads k n table b))

      -- No pair, a pair that a third leader splits, and a pair that none splits.
      pub unpaired : false ≡ (leads k n table b && (not (eqb a b) && is_some (table_distance k table n a b))) → pairs_left b ≡ pairs_left (b + 1)
      unfolding listed
      unpaired e = pair_skipped (and_less (leads k n table b) (not (eqb a b)) (is_some (table_distance k table n a b)) (not (any (splits k (table_distance k table n) a b) (leaders k (table_distance k table n) n))) (sym e))

      pub parted : (c : ℕ) → c < n → true ≡ (leads k n table c && splits k (table_distance k table n) a b c) → pairs_left b ≡ pairs_left (b + 1)
      unfolding listed
      parted c lc e =
          let both = and_parts (leads k n table c) (splits k (table_distance k table n) a b c) (sym e) in
          let some : any (splits k (table_distance k table n) a b) (leaders k (table_distance k table n) n) ≡ true =
          ⊎_elim (λ t. t) (λ f. absurd (any_false (splits k (table_distance k table n) a b) (leaders k (table_distance k table n) n) c f (leader_listed c lc both.0) both.1)) (cases_Bool (any (splits k (table_distance k table n) a b) (leaders k (table_distance k table n) n))) in
          pair_skipped (and_none (leads k n table b) (not (eqb a b)) (is_some (table_distance k table n a b)) (not (any (splits k (table_distance k table n) a b) (leaders k (table_distance k table n) n))) (rw some refl))

      pub paired : true ≡ (leads k n table b && (not (eqb a b) && is_some (table_distance k table n a b))) → ((c : ℕ) → c < n → (leads k n table c && splits k (table_distance k table n) a b c) ≡ false) →
          pairs_left b ≡ distance_rule k (table_distance k table n) a b ∷ pairs_left (b + 1)
      unfolding listed
      paired e none_parts =
          let none_split : any (splits k (table_distance k table n) a b) (leaders k (table_distance k table n) n) ≡ false =
          ⊎_elim (λ t. let w = any_true (splits k (table_distance k table n) a b) (leaders k (table_distance k table n) n) t in
          let at = listed_leader w.0 w.1 in
          absurd (both_ways _ (none_parts w.0 at.0) (and_from (leads k n table w.0) (splits k (table_distance k table n) a b w.0) at.1 w.2))) (λ f. f) (cases_Bool (any (splits k (table_distance k table n) a b) (leaders k (table_distance k table n) n))) in
          let both = and_more (leads k n table b) (not (eqb a b)) (is_some (table_distance k table n a b)) (not (any (splits k (table_distance k table n) a b) (leaders k (table_distance k table n) n))) (sym e) (rw none_split refl) in
          ap (λ (ms : List ℕ). map (distance_rule k (table_distance k table n) a) (filter (listed k (table_distance k table n) n a) ms)) (left_kept (leads k n table) n b l both.0) ∙ rw both.1 refl

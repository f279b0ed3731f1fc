-- The reduced list, laid whole.
use Rattle.std.proofs.Common.{◌≡◌, ℕ, ◌*◌, ◌≤◌, true, leb, List, [], ◌++◌, length, drop, sym, refl, ap, ◌∙◌, arith}
use Rattle.std.specs.List.{flat_map}
use Rattle.std.proofs.lemmas.List.{take_all}
use Rattle.std.proofs.lemmas.Bool.{and_from, le-leb}
use Rattle.lengths.specs.Kind.{Kind}
use Rattle.rules.specs.declared.rule.Rule.{Rule}
use Rattle.graph.specs.Distances.{table_distance}
use Rattle.reduction.specs.Reduction.{ring, group, leaders, pairs_from, reduced_list}
use Rattle.reduction.specs.declared.listing.Laying.{Laying}
use Rattle.reduction.specs.Laying.{Lays}
use Rattle.reduction.proofs.Laying.{appends_both}
use Rattle.reduction.specs.Listing.{laid, Laid, Appends, reducible, reduced}

module _ {X : Type 0} (xs start list' : List X) (r : ℕ) (a : Appends xs start 0 list' r) where
  laid_whole : Laid xs start list' r
  unfolding laid
  laid_whole = a [] start (record { counted = refl; is = sym (ap (λ (zs : List X). zs ++ start) (take_all (length start) [] (omega arith))) })

  pub laid_count : r ≡ length xs
  laid_count = sym laid_whole.counted

  pub laid_list : (count : ℕ) → count ≡ length xs → count ≤ length start → list' ≡ xs ++ drop count start
  unfolding laid
  laid_list count e l = laid_whole.is ∙ ap (λ (zs : List X). zs ++ drop (length xs) start) (take_all (length start) xs (omega arith)) ∙ ap (λ (m : ℕ). xs ++ drop m start) (sym e)

module _ {L : Type 0} (k : Kind L) (n : ℕ) (table : List L) where
  -- The rings, then the pairs.
  pub reduced_laid : (list final : List (Rule L)) (now after : Laying L) → final ≡ after.list.now →
      Appends (flat_map (λ (a : ℕ). ring k (table_distance k table n) (group k (table_distance k table n) n a)) (leaders k (table_distance k table n) n)) list 0 now.list.now now.count →
      Lays (flat_map (pairs_from k (table_distance k table n) n) (leaders k (table_distance k table n) n)) now after → Appends (reduced k n table) list 0 final after.count
  unfolding reduced_list
  reduced_laid list final now after is rings pairs = rw is (appends_both _ _ list 0 now.list.now now.count after.list.now after.count rings pairs.1)

  pub is_reducible : n ≤ 256 → n * n ≤ length table → reducible k n table ≡ true
  is_reducible few long = and_from (leb n 256) (leb (n * n) (length table)) (le-leb n 256 few) (le-leb (n * n) (length table) long)

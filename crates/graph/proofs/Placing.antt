-- A row settled from zeros, moved so that mark 0 lies at zero, is a placement of small measures.
use Rattle.std.proofs.Common.{◌≡◌, ℕ, ◌<◌, ◌≤◌, true, List, map, length, sym, ap, ◌∙◌, subst, arith}
use Rattle.std.specs.List.{ContainsAt as Has, AllByRecursion as Every}
use Rattle.std.proofs.ByRecursion.{all-has}
use Rattle.std.proofs.lemmas.List.{length-map, get_or-map}
use Rattle.lengths.specs.Kind.{Kind, Laws}
use Rattle.lengths.proofs.Algebra.{unit_left, at_most_zero_left, exchange_last}
use Rattle.rules.specs.declared.rule.Rule.{Rule}
use Rattle.rules.specs.Rule.{gap_limit}
use Rattle.graph.specs.declared.numbered.Numbered.{Numbered}
use Rattle.graph.specs.Rows.{row_limit, position, Keeps}
use Rattle.graph.specs.Paths.{path_length, Longest}
use Rattle.graph.specs.Listed.{plain}
use Rattle.graph.specs.Rounds.{Setting}
use Rattle.graph.specs.Outcome.{Settles}
use Rattle.graph.specs.Distancing.{NearPlacement}
use Rattle.graph.proofs.Membership.{all_drawn, all_from_has}
use Rattle.graph.proofs.Walks.{MarksBelow, GapAtMost, measure_path_length}
use Rattle.graph.proofs.Shortening.{along_drawn, tight_longest}
use Rattle.graph.proofs.Raising.{gaps_small, marks_below_all}
use Rattle.graph.proofs.Distances.{Consistent}

module _ {L : Type 0} (k : Kind L) (laws : Laws k) (n : ℕ) (rules : List (Numbered L)) (start : List L) (setting : Setting k n rules start)
    (zeros : (m : ℕ) → m < n → position k start m ≡ k.zero) (row : List L) (settles : Settles k n rules start row) where
  marks : Every (MarksBelow n) (plain rules)
  marks = marks_below_all k n rules start setting

  small : Every (GapAtMost k gap_limit) (plain rules)
  small = gaps_small k n rules start setting

  near : (m : ℕ) → m < n → k.measure (position k row m) ≤ row_limit
  near m l = omega (arith, settles.near m l)

  longest_small : (i j : ℕ) (x : L) → Longest k n (plain rules) i j x → k.measure x ≤ 256_000_000
  longest_small i j x longest =
      let q = longest.path in
      let few : length q ≤ 256 = omega (arith, longest.is_path.short, setting.few_marks) in
      let mq = measure_path_length k laws gap_limit q (all_drawn (GapAtMost k gap_limit) (plain rules) q longest.is_path.drawn small) (omega arith) in
      let within : k.measure (path_length k q) ≤ 256_000_000 = omega arith in
      subst (λ x. k.measure x ≤ 256_000_000) longest.length_is within

  -- Each entry is the length of a path, so its measure is that of at most n gaps.
  pub settled_small : (m : ℕ) → m < n → k.measure (position k row m) ≤ 256_000_000
  settled_small m l =
      let r = settles.reached m l in
      let u = r.origin in
      let lu = r.origin_below in
      let w = r.walk in
      let p = path_length k w in
      let short = r.short in
      let mp = measure_path_length k laws gap_limit w (all_drawn (GapAtMost k gap_limit) (plain rules) w r.drawn small) (omega arith) in
      let is : position k row m ≡ p = r.is ∙ ap (λ x. k.sum x p) (zeros u lu) ∙ unit_left k laws p (omega arith) in
      let nu = settles.near u lu in
      let along : k.at_most (k.sum (position k row u) p) p ≡ true = subst (λ x. k.at_most (k.sum (position k row u) p) x ≡ true) is (along_drawn k laws n gap_limit (plain rules) marks small row near settles.keeps w u m lu r.drawn (omega arith) r.leads) in
      let low : k.at_most (position k row u) k.zero ≡ true = at_most_zero_left k laws p (position k row u) (omega arith) along in
      let high : k.at_most k.zero (position k row u) ≡ true = subst (λ x. k.at_most x (position k row u) ≡ true) (zeros u lu) (settles.risen u lu) in
      let at_zero : position k row u ≡ k.zero = laws.antisymmetric (position k row u) k.zero (omega (arith, laws.measure_zero)) low high in
      let tight : position k row m ≡ k.sum (position k row u) p = is ∙ sym (unit_left k laws p (omega arith)) ∙ ap (λ x. k.sum x p) (sym at_zero) in
      let longest = tight_longest k laws n gap_limit (plain rules) marks small row near settles.keeps w u m lu (omega (arith, setting.few_marks)) r.drawn (omega arith) r.leads tight in
      subst (λ x. k.measure x ≤ 256_000_000) (sym is) (longest_small u m p longest)

  -- The row moved so that mark 0 lies at zero.
  back : L
  back = k.opposite (position k row 0)

  moved : List L
  moved = map (λ x. k.sum x back) row

  module _ (some : 1 ≤ n) where
    long : n ≤ length row
    long = omega (arith, settles.same_length, setting.long)

    moved_is : (m : ℕ) → m < n → position k moved m ≡ k.sum (position k row m) back
    unfolding moved
    moved_is m l = get_or-map (λ x. k.sum x back) row m k.zero k.zero (omega (arith, long))

    measure_back : k.measure back ≤ 256_000_000
    unfolding back
    measure_back = let a = settled_small 0 (omega arith) in omega (arith, laws.measure_opposite (position k row 0) (omega arith))

    moved_small : (m : ℕ) → m < n → k.measure (position k moved m) ≤ 512_000_000
    moved_small m l =
        let a = settled_small m l in
        let b = measure_back in
        rw (moved_is m l) (omega (arith, laws.measure_sum (position k row m) back (omega arith)))

    moved_border : position k moved 0 ≡ k.zero
    unfolding back
    moved_border = let a = settled_small 0 (omega arith) in moved_is 0 (omega arith) ∙ laws.inverse (position k row 0) (omega arith)

    moved_keeps : (r : Rule L) → Has (plain rules) r → Keeps k moved r
    moved_keeps r has =
        let b = all-has (MarksBelow n) (plain rules) r marks has in
        let g = all-has (GapAtMost k gap_limit) (plain rules) r small has in
        let keep = all-has (Keeps k row) (plain rules) r settles.keeps has in
        let mf = settled_small r.from b.0 in
        let mt = settled_small r.to b.1 in
        let mb = measure_back in
        let x = position k row r.from in
        let y = position k row r.to in
        rw (moved_is r.from b.0, moved_is r.to b.1, exchange_last k laws x back r.gap (omega arith))
        (laws.monotone (k.sum x r.gap) y back (omega (arith, laws.measure_sum x r.gap (omega arith))) keep)

    pub near_placement : NearPlacement k n (plain rules)
    unfolding moved
    near_placement = record {
      row = moved;
      placed = record {
        is_row = record { long = omega (arith, length-map row (λ x. k.sum x back), long); border = moved_border; near = λ m l. omega (arith, moved_small m l) };
        keeps = all_from_has (Keeps k moved) (plain rules) moved_keeps;
      };
      near = moved_small;
    }

-- Sound rules with such a placement are consistent: what the theorems of the reduction ask.
pub placement_consistent : {L : Type 0} (k : Kind L) (n : ℕ) (rules : List (Numbered L)) (start : List L) → 1 ≤ n → Setting k n rules start → NearPlacement k n (plain rules) → Consistent k n gap_limit (plain rules)
placement_consistent k n rules start some setting p = record {
  some_marks = some;
  few_marks = setting.few_marks;
  marks = marks_below_all k n rules start setting;
  small = gaps_small k n rules start setting;
  row = p.row;
  long = p.placed.is_row.long;
  border = p.placed.is_row.border;
  near = p.near;
  keeps = p.placed.keeps;
}

-- A row that settled from zeros is at the longest path lengths from mark 0, where no rule lets a mark left of it.
use Rattle.std.proofs.Common.{◌≡◌, ℕ, zero, suc, ◌*◌, ◌<◌, ◌≤◌, true, ◌&&◌, leb, List, ◌∷◌, length, take, drop, replicate, Some, Ok, Err, Result, sym, refl, ap, ◌∙◌, subst, ⊎_elim, arith}
use Rattle.std.specs.List.{ContainsAt as Has, AllByRecursion as Every}
use Rattle.std.proofs.ByRecursion.{all-has}
use Rattle.std.proofs.lemmas.List.{length-replicate, take_at}
use Rattle.std.proofs.lemmas.Bool.{and_from, cases_lt, le-leb, true≢false}
use Rattle.lengths.specs.Kind.{Kind, Laws}
use Rattle.lengths.proofs.Algebra.{reflexive, unit_left}
use Rattle.rules.specs.Rule.{gap_limit, minimum}
use Rattle.rules.specs.declared.rule.Rule.{Rule}
use Rattle.graph.specs.declared.numbered.Numbered.{Numbered}
use Rattle.graph.specs.declared.positions.PackingFault.{PackingFault}
use Rattle.graph.specs.declared.positions.PackingFault.TheVariants.{Unready, OverConstrained}
use Rattle.graph.specs.Cycles.{Shows, Written}
use Rattle.graph.specs.Listed.{plain}
use Rattle.graph.specs.Outcome.{Settles}
use Rattle.graph.specs.Packing.{Bordered, PacksFrom, Packed, Refuted}
use Rattle.graph.specs.Paths.{Leads, path_length, Longest}
use Rattle.graph.specs.Positions.{cleared, Positioned}
use Rattle.graph.specs.Ready.{all_near, ready, sound, start_limit}
use Rattle.graph.specs.Rounds.{most_raises, Reached, Setting}
use Rattle.graph.specs.Rows.{position, row_limit, Keeps, Placement, Row}
use Rattle.graph.proofs.Clearing.{cleared_same, drop_cleared, length_cleared, position_cleared, zeros_setting}
use Rattle.graph.proofs.Cycles.{positive_cycle_no_row}
use Rattle.graph.proofs.Ending.{settles_least, settles_no_cycle}
use Rattle.graph.proofs.Readiness.{sound_parts}
use Rattle.graph.proofs.Raising.{gaps_small, marks_below_all}
use Rattle.graph.proofs.Shortening.{closed_drawn, tight_longest}
use Rattle.graph.proofs.Walks.{GapAtMost, MarksBelow, measure_path_length}
use Rattle.graph.proofs.Membership.{all_drawn}

zero_from : (m : ℕ) → m ≤ 0 → m ≡ 0
zero_from m h = omega arith

module _ {L : Type 0} (k : Kind L) (laws : Laws k) where
  near_zeros : (n : ℕ) → all_near k (replicate n k.zero) ≡ true
  near_zeros zero = refl
  near_zeros (suc n) = and_from (leb (k.measure k.zero) start_limit) (all_near k (replicate n k.zero)) (le-leb (k.measure k.zero) start_limit (omega (arith, laws.measure_zero))) (near_zeros n)

  -- zeros are ready
  pub ready_zeros : (n : ℕ) (rules : List (Numbered L)) (row zeros : List L) → sound k n rules ≡ true → n ≤ length row → zeros ≡ cleared k n row → ready k n rules zeros ≡ true
  ready_zeros n rules row zeros ok l is =
      let long : n ≤ length zeros = omega (arith, ap length is, length_cleared k n row l) in
      let front : take n zeros ≡ replicate n k.zero = ap (take n) is ∙ take_at (replicate n k.zero) (drop n row) n (length-replicate n k.zero) in
      and_from (sound k n rules) (leb n (length zeros) && all_near k (take n zeros)) ok
      (and_from (leb n (length zeros)) (all_near k (take n zeros)) (le-leb n (length zeros) long) (ap (all_near k) front ∙ near_zeros n))

  pub packs_from : (n : ℕ) (rules : List (Numbered L)) (row zeros : List L) → sound k n rules ≡ true → n ≤ length row → zeros ≡ cleared k n row →
      (r : Result (Unit {0}) PackingFault) (row' : List L) → Positioned k n rules zeros r row' → PacksFrom k n rules row r row'
  packs_from n rules row zeros ok l is (Err Unready) row' p = absurd (true≢false (sym (ready_zeros n rules row zeros ok l is) ∙ p.0))
  packs_from n rules row zeros ok l is (Ok _) row' p =
      (and_from (sound k n rules) (leb n (length row)) ok (le-leb n (length row) l), subst (λ (ys : List L). Settles k n rules ys row') is p.1, p.2)
  packs_from n rules row zeros ok l is (Err OverConstrained) row' p = (
    and_from (sound k n rules) (leb n (length row)) ok (le-leb n (length row) l),
    p.1,
    p.2 ∙ cleared_same k n zeros row (ap (drop n) is ∙ drop_cleared k n row),
  )

  module _ (n : ℕ) (rules : List (Numbered L)) (before row : List L) (some : 1 ≤ n) (setting : Setting k n rules (cleared k n before))
      (settles : Settles k n rules (cleared k n before) row) (bordered : Bordered k n rules) where
    small : Every (GapAtMost k gap_limit) (plain rules)
    small = gaps_small k n rules (cleared k n before) setting

    marks : Every (MarksBelow n) (plain rules)
    marks = marks_below_all k n rules (cleared k n before) setting

    near : (m : ℕ) → m < n → k.measure (position k row m) ≤ row_limit
    near m l = omega (arith, settles.near m l)

    -- a walk from mark 0 as long as the position: the one that reached the mark, behind a boundary rule
    record From_zero (m : ℕ) : Type 0 where
      walk : List (Rule L)
      short : length walk * gap_limit ≤ 4_000_000_000_000
      drawn : Every (Has (plain rules)) walk
      leads : Leads 0 m walk
      is : position k row m ≡ path_length k walk

    from_zero : (m : ℕ) → m < n → From_zero m
    from_zero m l = ⊎_elim behind at_zero (cases_lt 0 r.origin)
      where
        r : Reached k n (plain rules) (cleared k n before) most_raises m (position k row m)
        r = settles.reached m l

        from_start : position k row m ≡ k.sum k.zero (path_length k r.walk)
        from_start = r.is ∙ ap (λ x. k.sum x (path_length k r.walk)) (position_cleared k n before r.origin r.origin_below)

        behind : 0 < r.origin → From_zero m
        behind h = record {
          walk = minimum 0 r.origin k.zero ∷ r.walk;
          short = omega (arith, r.short);
          drawn = (bordered r.origin h r.origin_below, r.drawn);
          leads = (refl, r.leads);
          is = from_start;
        }

        at_zero : r.origin ≤ 0 → From_zero m
        at_zero h =
            let a = measure_path_length k laws gap_limit r.walk (all_drawn (GapAtMost k gap_limit) (plain rules) r.walk r.drawn small) (omega (arith, r.short)) in
            record {
              walk = r.walk;
              short = omega (arith, r.short);
              drawn = r.drawn;
              leads = subst (λ (u : ℕ). Leads u m r.walk) (zero_from r.origin h) r.leads;
              is = from_start ∙ unit_left k laws (path_length k r.walk) (omega (arith, r.short));
            }

    -- mark 0 stays at zero: its position is the length of a closed walk, and it never fell
    border : position k row 0 ≡ k.zero
    border =
        let f = from_zero 0 (omega arith) in
        let z = laws.measure_zero in
        let a = near 0 (omega arith) in
        let down = closed_drawn k laws n gap_limit (plain rules) marks small row near settles.keeps f.walk 0 (omega arith) f.drawn f.short f.leads in
        laws.antisymmetric (position k row 0) k.zero (omega arith)
        (subst (λ (x : L). k.at_most x k.zero ≡ true) (sym f.is) down)
        (subst (λ (x : L). k.at_most x (position k row 0) ≡ true) (position_cleared k n before 0 (omega arith)) (settles.risen 0 (omega arith)))

    longest : (m : ℕ) → m < n → Longest k n (plain rules) 0 m (position k row m)
    longest m l =
        let f = from_zero m l in
        let a = near m l in
        let b = ap k.measure f.is in
        let tight : position k row m ≡ k.sum (position k row 0) (path_length k f.walk) =
        f.is ∙ sym (unit_left k laws (path_length k f.walk) (omega arith)) ∙ ap (λ x. k.sum x (path_length k f.walk)) (sym border) in
        subst (λ (x : L). Longest k n (plain rules) 0 m x) (sym f.is)
        (tight_longest k laws n gap_limit (plain rules) marks small row near settles.keeps f.walk 0 m (omega arith) (omega (arith, setting.few_marks)) f.drawn f.short f.leads tight)

    -- a placement has no mark left of zero
    above : (other : List L) → Placement k n (plain rules) other → (m : ℕ) → m < n → k.at_most (position k (cleared k n before) m) (position k other m) ≡ true
    above other p m l =
        subst (λ (x : L). k.at_most x (position k other m) ≡ true) (sym (position_cleared k n before m l)) (⊎_elim kept itself (cases_lt 0 m))
      where
        z : k.measure k.zero ≡ 0
        z = laws.measure_zero

        kept : 0 < m → k.at_most k.zero (position k other m) ≡ true
        kept h =
            subst (λ (x : L). k.at_most x (position k other m) ≡ true)
            (ap (λ x. k.sum x k.zero) p.is_row.border ∙ laws.unit k.zero (omega (arith, z)))
            (all-has (Keeps k other) (plain rules) (minimum 0 m k.zero) p.keeps (bordered m h l))

        itself : m ≤ 0 → k.at_most k.zero (position k other m) ≡ true
        itself h =
            subst (λ (x : L). k.at_most k.zero x ≡ true) (sym p.is_row.border ∙ ap (position k other) (sym (zero_from m h))) (reflexive k laws k.zero (omega (arith, z)))

    -- a row that settled from zeros is packed
    pub packed : Packed k n (plain rules) before row
    packed = record {
      longest = longest;
      placement = record {
        is_row = record { long = omega (arith, settles.same_length, setting.long); border = border; near = near };
        keeps = settles.keeps;
      };
      leftmost = λ other p. settles_least k n rules (cleared k n before) setting laws row other settles p.is_row.near p.keeps (above other p);
      feasible = settles_no_cycle k n rules (cleared k n before) setting laws row settles;
      beyond = settles.beyond ∙ drop_cleared k n before;
    }

  -- a cycle that is shown refutes every row
  pub refuted : (n d : ℕ) (rules : List (Numbered L)) (before row : List L) (list list' : List ℕ) → Setting k n rules (cleared k n before) → Written k n rules d list list' → row ≡ cleared k n before →
      Refuted k n d rules before row list list'
  refuted n d rules before row list list' setting shown zeros =
      let small = gaps_small k n rules (cleared k n before) setting in
      let marks = marks_below_all k n rules (cleared k n before) setting in
      let none : (other : List L) → Row k n other → Every (Keeps k other) (plain shown.cycle) → ⊥ =
      positive_cycle_no_row n (plain rules) marks k laws gap_limit small (omega (arith, setting.few_marks)) shown.mark (plain shown.cycle) shown.shows.positive in
      record {
        shown = shown;
        unkept = none;
        unplaced = λ other p. none other p.is_row (all_drawn (Keeps k other) (plain rules) (plain shown.cycle) shown.shows.positive.cycle.drawn p.keeps);
        zeros = zeros;
      }

  -- what packing and showing answer, as findings
  pub settled : (n : ℕ) (rules : List (Numbered L)) (row row' : List L) → sound k n rules ≡ true → n ≤ length row → Bordered k n rules → PacksFrom k n rules row (Ok tt) row' → Packed k n (plain rules) row row'
  settled n rules row row' ok l bordered p =
      packed n rules row row' (sound_parts k n rules ok).0 (zeros_setting k laws n rules row (cleared k n row) ok l refl) p.1 bordered

  pub over_constrained : (n d : ℕ) (rules : List (Numbered L)) (row between row' : List L) (list list' : List ℕ) → sound k n rules ≡ true → n ≤ length row →
      PacksFrom k n rules row (Err OverConstrained) between → Shows k n rules between list (Ok (Some d)) row' list' → Refuted k n d rules row row' list list'
  over_constrained n d rules row between row' list list' ok l p s =
      refuted n d rules row row' list list' (zeros_setting k laws n rules row (cleared k n row) ok l refl) s.2
      (s.1 ∙ cleared_same k n between row (ap (drop n) p.2 ∙ drop_cleared k n row))

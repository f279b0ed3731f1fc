-- A closed chain of last rules is a positive cycle, and a raise in round n leaves one.
use Rattle.std.proofs.Common.{◌≡◌, ℕ, zero, suc, ◌+◌, ◌-◌, ◌*◌, ◌<◌, ◌≤◌, true, false, ◌⊎◌, List, [], ◌∷◌, length, Option, sym, ap, ◌∙◌, inl, inr, ⊎_elim, arith}
use Rattle.std.specs.List.{ContainsAt as Has, AllByRecursion as Every}
use Rattle.std.proofs.lemmas.List.{length-map}
use Rattle.std.proofs.lemmas.Bool.{cases_lt}
use Rattle.lengths.specs.Kind.{Kind, Laws}
use Rattle.lengths.proofs.Algebra.{reflexive, at_most_below, below_at_most, monotone_below, zero_below}
use Rattle.rules.specs.Rule.{gap_limit}
use Rattle.graph.specs.declared.numbered.Numbered.{Numbered}
use Rattle.graph.specs.Rows.{position}
use Rattle.graph.specs.Paths.{path_length, left_marks, PositiveCycle}
use Rattle.graph.specs.Listed.{plain, rule_at}
use Rattle.graph.specs.Rounds.{most_raises, Setting, last_of, Rounds}
use Rattle.graph.specs.Chains.{before_mark, back, chain, NoReturn, Returns}
use Rattle.graph.specs.Outcome.{entry_limit, ShownCycle}
use Rattle.graph.proofs.Membership.{has_map, all_drawn, all_from_has}
use Rattle.graph.proofs.Pigeonhole.{pigeonhole_function}
use Rattle.graph.proofs.Walks.{GapAtMost, measure_path_length, path_length_push}
use Rattle.graph.proofs.Raising.{gaps_small, measure_reached}
use Rattle.graph.proofs.Following.{before_raised, back_add, back_raised, returns_along, distinct_on_way, chain_length, chain_plain, chain_drawn, chain_leads, chain_leaves, chain_apart}

-- Rules drawn from numbered rules are drawn from the plain ones.
pub plain_drawn : {L : Type 0} (rules p : List (Numbered L)) → Every (Has rules) p → Every (Has (plain rules)) (plain p)
plain_drawn {L} rules [] a = tt
plain_drawn {L} rules (q ∷ p) a = (has_map (λ (x : Numbered L). x.rule) rules q a.0, plain_drawn rules p a.1)

module _ {L : Type 0} (k : Kind L) (n : ℕ) (rules : List (Numbered L)) (start : List L) (setting : Setting k n rules start) (laws : Laws k)
    (row : List L) (last : List (Option ℕ)) (clock round : ℕ → ℕ) (tries current : ℕ) (done : ℕ → Type 0)
    (few : tries ≤ most_raises) (rounds : Rounds k n rules start row last clock round tries current done) where
  abbrev way : ℕ → ℕ → ℕ
  way = back k n rules last

  abbrev links : ℕ → ℕ → List (Numbered L)
  links = chain k n rules last

  near : (m : ℕ) → m < n → k.measure (position k row m) ≤ entry_limit
  near m l = measure_reached k n rules start setting laws tries m (position k row m) few (rounds.reached m l)

  chain_small : (d m : ℕ) → way d m < n → Every (GapAtMost k gap_limit) (plain (links d m))
  chain_small d m h = all_drawn (GapAtMost k gap_limit) (plain rules) (plain (links d m)) (plain_drawn rules (links d m) (chain_drawn k n rules last d m h)) (gaps_small k n rules start setting)

  chain_measure : (d m : ℕ) → d ≤ 256 → way d m < n → k.measure (path_length k (plain (links d m))) ≤ d * gap_limit
  chain_measure d m f h =
      let e : length (plain (links d m)) ≡ d = length-map (links d m) (λ (q : Numbered L). q.rule) ∙ chain_length k n rules last d m in
      rw e at (measure_path_length k laws gap_limit (plain (links d m)) (chain_small d m h) (omega arith))

  -- Along a chain of last rules: its end lies at most the chain's length beyond its beginning, and less than that unless
  -- each of its marks was raised after the one before.
  pub along_chain : (d m : ℕ) → d ≤ 256 → m < n → way d m < n →
      (k.at_most (position k row m) (k.sum (position k row (way d m)) (path_length k (plain (links d m)))) ≡ true)
      × ((clock (way d m) + d ≤ clock m) ⊎ (k.at_most (k.sum (position k row (way d m)) (path_length k (plain (links d m)))) (position k row m) ≡ false))
  along_chain zero m f l h =
      let a = near m l in
      (rw (laws.unit (position k row m) (omega arith)) (reflexive k laws (position k row m) (omega arith)), inl (omega arith))
  along_chain (suc d) m f l h =
      let r = back_raised k n rules last d m h in
      let i = last_of k rules last m in
      let rule = rule_at k rules i in
      let b = before_mark k n rules last m in
      let is_from : b ≡ rule.from = before_raised k n rules last m r.0 r.1 in
      let fits = setting.fitting i r.1 in
      let lb : b < n = omega (arith, fits.from_below) in
      let rest = along_chain d b (omega arith) lb h in
      let far = way d b in
      let p = plain (links d b) in
      let x = position k row far in
      let y = position k row b in
      let z = position k row m in
      let c = chain_measure d b (omega arith) h in
      let nx = near far h in
      let ny = near b lb in
      let nz = near m l in
      let ng = fits.small in
      let mp = laws.measure_sum x (path_length k p) (omega arith) in
      let my = laws.measure_sum y rule.gap (omega arith) in
      let mq = laws.measure_sum (k.sum x (path_length k p)) rule.gap (omega arith) in
      let e : length p ≡ d = length-map (links d b) (λ (q : Numbered L). q.rule) ∙ chain_length k n rules last d b in
      let whole : k.sum x (path_length k (plain (links (suc d) m))) ≡ k.sum (k.sum x (path_length k p)) rule.gap =
      ap (λ q. k.sum x (path_length k q)) (chain_plain k n rules last d m)
      ∙ ap (k.sum x) (path_length_push k laws gap_limit p rule (chain_small d b h) ng (omega arith))
      ∙ sym (laws.associative x (path_length k p) rule.gap (omega arith)) in
      let pushed : k.at_most z (k.sum y rule.gap) ≡ true = rw (← is_from) at (rounds.pushed m l r.1) in
      let timed : (clock b < clock m) ⊎ (k.at_most (k.sum y rule.gap) z ≡ false) = rw (← is_from) at (rounds.timed m l r.1) in
      let on : k.at_most (k.sum y rule.gap) (k.sum (k.sum x (path_length k p)) rule.gap) ≡ true = laws.monotone y (k.sum x (path_length k p)) rule.gap (omega arith) rest.0 in (
        rw whole (laws.transitive z (k.sum y rule.gap) (k.sum (k.sum x (path_length k p)) rule.gap) (omega arith) pushed on),
        rw whole (⊎_elim
            (λ (t : clock b < clock m). ⊎_elim
            (λ (s : clock far + d ≤ clock b). inl (omega arith))
            (λ s. inr (at_most_below k laws z (k.sum y rule.gap) (k.sum (k.sum x (path_length k p)) rule.gap) (omega arith) pushed (monotone_below k laws y (k.sum x (path_length k p)) rule.gap (omega arith) s)))
            rest.1)
            (λ t. inr (below_at_most k laws z (k.sum y rule.gap) (k.sum (k.sum x (path_length k p)) rule.gap) (omega arith) t on))
            timed),
      )

  -- So a closed chain is a positive cycle: clocks cannot fall all the way round.
  pub closed_positive : (v d : ℕ) → Returns k n rules last v d → PositiveCycle k (plain rules) v (plain (links d v))
  closed_positive v d r =
      let mark = r.mark in
      let home : way d v < n = omega (arith, r.closed) in
      let most : d ≤ 256 = omega (arith, r.most, setting.few_marks) in
      let a = along_chain d v most mark home in
      let nv = near v mark in
      let c = chain_measure d v most home in
      let p = plain (links d v) in
      record {
        cycle = record {
          some = omega (arith, r.some, length-map (links d v) (λ (q : Numbered L). q.rule), chain_length k n rules last d v);
          drawn = plain_drawn rules (links d v) (chain_drawn k n rules last d v home);
          leads = rw r.closed at (chain_leads k n rules last rounds.ends d v home);
          once = chain_apart k n rules last d v home (distinct_on_way k n rules last v d r);
        };
        positive = ⊎_elim
            (λ (t : clock (way d v) + d ≤ clock v). absurd (omega (arith, ap clock r.closed, r.some)))
            (λ s. zero_below k laws (position k row v) (path_length k p) (omega arith) (rw r.closed at s))
            a.1;
      }

  -- From its smallest mark on, where no smaller mark is on a closed chain.
  pub closed_shows : (v d : ℕ) → ((w : ℕ) → w < v → NoReturn k n rules last w) → Returns k n rules last v d → ShownCycle k n rules v (links d v)
  closed_shows v d none_before r =
      let home : way d v < n = omega (arith, r.closed, r.mark) in
      record {
        drawn = chain_drawn k n rules last d v home;
        short = omega (arith, chain_length k n rules last d v, r.most);
        positive = closed_positive v d r;
        smallest_mark = all_from_has (λ m. v ≤ m) (left_marks (plain (links d v)))
            (λ x h. let s = chain_leaves k n rules last d v x home h in
            ⊎_elim
            (λ (lower : x < v). absurd (none_before x lower d r.some r.most (rw s.3 at (returns_along k n rules last v d s.0 r.closed))))
            (λ (upper : v ≤ x). upper) (cases_lt x v));
      }

  -- From a mark raised in a late round the way back is long.
  back_round : (i m : ℕ) → m < n → i ≤ round m → way i m < n
  back_round zero m l h = l
  back_round (suc i) m l h =
      let raised = rounds.noted m l (omega arith) in
      let is_from = before_raised k n rules last m l raised in
      let fits = setting.fitting (last_of k rules last m) raised in
      back_round i (before_mark k n rules last m) (omega (arith, fits.from_below)) (omega (arith, rounds.follows m l raised, ap round is_from))

  -- A raise in round n: the way back from it has n steps among n marks, so one mark comes twice.
  pub late_raise : (v : ℕ) → v < n → n ≤ round v → ((w : ℕ) → w < n → NoReturn k n rules last w) → ⊥
  late_raise v l h none =
      let s = pigeonhole_function n (λ i. way i v) (λ i li. back_round i v l (omega arith)) in
      let a = s.0 in
      let b = s.1 in
      let e : a + (b - a) ≡ b = omega (arith, s.2) in
      none (way a v) (back_round a v l (omega (arith, s.2, s.3))) (b - a) (omega (arith, s.2)) (omega (arith, s.3))
      (sym (back_add k n rules last a (b - a) v) ∙ ap (λ (x : ℕ). way x v) e ∙ sym s.4)

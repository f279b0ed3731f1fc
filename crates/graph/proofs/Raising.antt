-- A raise keeps what holds while the rounds run.
use Rattle.std.proofs.Common.{◌≡◌, ℕ, ◌+◌, ◌-◌, ◌<◌, ◌≤◌, true, false, eqb, ◌≢◌, ◌⊎◌, List, [], ◌∷◌, ◌++◌, length, get_or, set, Some, None, Option, unwrap_or, sym, refl, ap, ◌∙◌, inl, inr, ⊎_elim, arith}
use Rattle.std.specs.List.{ContainsAt as Has, AllByRecursion as Every}
use Rattle.std.proofs.lemmas.List.{length-set, length-map, length_push, get_or-set_same, get_or-set_other, get_or-map, drop-set-lt}
use Rattle.std.proofs.ByRecursion.{All-push, has_get_or, All-from_get_or}
use Rattle.std.proofs.lemmas.Bool.{both_ways, cases_eq, cases_lt, cond-true, cond-false, eq-eqb, ne_eqb}
use Rattle.lengths.specs.Kind.{Kind, Laws}
use Rattle.lengths.proofs.Algebra.{reflexive, at_most_from_below, at_most_below, monotone_below}
use Rattle.rules.specs.Rule.{gap_limit}
use Rattle.rules.specs.declared.rule.Rule.{Rule}
use Rattle.graph.specs.declared.numbered.Numbered.{Numbered}
use Rattle.graph.specs.Rows.{position, Keeps}
use Rattle.graph.specs.Paths.{path_length}
use Rattle.graph.specs.Listed.{plain, rule_at, blank}
use Rattle.graph.specs.Rounds.{most_raises, Setting, Reached, last_of, Rounds, updated}
use Rattle.graph.specs.Outcome.{entry_limit}
use Rattle.graph.proofs.Membership.{has_map, all_drawn}
use Rattle.graph.proofs.Walks.{MarksBelow, GapAtMost, measure_path_length, path_length_push, leads_append}

pub updated_same : (f : ℕ → ℕ) (v x m : ℕ) → m ≡ v → updated f v x m ≡ x
updated_same f v x m e = cond-true (eqb m v) x (f m) (eq-eqb m v e)

pub updated_other : (f : ℕ → ℕ) (v x m : ℕ) → m ≢ v → updated f v x m ≡ f m
updated_other f v x m e = cond-false (eqb m v) x (f m) (ne_eqb m v e)

module _ {L : Type 0} (k : Kind L) (n : ℕ) (rules : List (Numbered L)) (start : List L) (setting : Setting k n rules start) where
  -- The rule at an index is one of the rules.
  pub rule_listed : (i : ℕ) → i < length rules → Has (plain rules) (rule_at k rules i)
  rule_listed i l = has_map (λ (q : Numbered L). q.rule) rules (get_or rules i (blank k)) (has_get_or rules i (blank k) l)

  -- What holds of the rule at each index holds of every rule.
  pub all_from_rules : (P : Rule L → Type 0) → ((i : ℕ) → i < length rules → P (rule_at k rules i)) → Every P (plain rules)
  all_from_rules P each =
      All-from_get_or P (plain rules) (blank k).rule
      (λ i l. let inside : i < length rules = omega (arith, length-map rules (λ (q : Numbered L). q.rule)) in
      rw (get_or-map (λ (q : Numbered L). q.rule) rules i (blank k) (blank k).rule inside) (each i inside))

  -- Every gap is within the limit, and every mark below n.
  pub gaps_small : Every (GapAtMost k gap_limit) (plain rules)
  gaps_small = all_from_rules (GapAtMost k gap_limit) (λ i l. (setting.fitting i l).small)

  pub marks_below_all : Every (MarksBelow n) (plain rules)
  marks_below_all = all_from_rules (MarksBelow n) (λ i l. let f = setting.fitting i l in (f.from_below, f.to_below))

  module _ (laws : Laws k) where
    -- A reached length is within the limit.
    pub measure_reached : (most m : ℕ) (x : L) → most ≤ most_raises → Reached k n (plain rules) start most m x → k.measure x ≤ entry_limit
    measure_reached most m x few r =
        let small = all_drawn (GapAtMost k gap_limit) (plain rules) r.walk r.drawn gaps_small in
        let short = r.short in
        let a = measure_path_length k laws gap_limit r.walk small (omega arith) in
        let b = setting.near r.origin r.origin_below in
        let e = r.is in
        rw e (omega (arith, laws.measure_sum (position k start r.origin) (path_length k r.walk) (omega arith)))

    -- A rule that a walk ends with leads the walk on.
    pub reached_more : (row : List L) (tries i : ℕ) → tries + 1 ≤ most_raises → i < length rules → Reached k n (plain rules) start tries (rule_at k rules i).from (position k row (rule_at k rules i).from) → Reached k n (plain rules) start (tries + 1) (rule_at k rules i).to (k.sum (position k row (rule_at k rules i).from) (rule_at k rules i).gap)
    reached_more row tries i few inside r =
        let small = all_drawn (GapAtMost k gap_limit) (plain rules) r.walk r.drawn gaps_small in
        let short = r.short in
        let rule = rule_at k rules i in
        let fits = setting.fitting i inside in
        let a = measure_path_length k laws gap_limit r.walk small (omega arith) in
        let b = setting.near r.origin r.origin_below in
        record {
          origin = r.origin;
          origin_below = r.origin_below;
          walk = r.walk ++ rule ∷ [];
          short = rw length_push (omega arith);
          drawn = All-push (Has (plain rules)) r.walk rule r.drawn (rule_listed i inside);
          leads = leads_append r.walk (rule ∷ []) r.origin rule.from rule.to r.leads (refl, refl);
          is = ap (λ x. k.sum x rule.gap) r.is
              ∙ laws.associative (position k start r.origin) (path_length k r.walk) rule.gap (omega arith)
              ∙ ap (k.sum (position k start r.origin)) (sym (path_length_push k laws gap_limit r.walk rule small fits.small (omega arith)));
        }

    -- What is reached by few rules is reached by few more.
    pub reached_later : (tries later m : ℕ) (x : L) → tries ≤ later → Reached k n (plain rules) start tries m x → Reached k n (plain rules) start later m x
    reached_later tries later m x more r = let short = r.short in record { origin = r.origin; origin_below = r.origin_below; walk = r.walk; short = omega arith; drawn = r.drawn; leads = r.leads; is = r.is }

    module _ (row : List L) (last : List (Option ℕ)) (clock round : ℕ → ℕ) (tries current : ℕ) (done : ℕ → Type 0)
        (few : tries + 1 ≤ most_raises) (before : Rounds k n rules start row last clock round tries current done)
        (j : ℕ) (inside : j < length rules)
        (unkept : k.at_most (k.sum (position k row (rule_at k rules j).from) (rule_at k rules j).gap) (position k row (rule_at k rules j).to) ≡ false) where
      abbrev u : ℕ
      u = (rule_at k rules j).from

      abbrev v : ℕ
      v = (rule_at k rules j).to

      abbrev new : L
      new = k.sum (position k row u) (rule_at k rules j).gap

      abbrev row' : List L
      row' = set row v new

      abbrev last' : List (Option ℕ)
      last' = set last v (Some j)

      abbrev clock' : ℕ → ℕ
      clock' = updated clock v (tries + 1)

      abbrev round' : ℕ → ℕ
      round' = updated round v current

      entry_near : (m : ℕ) → m < n → k.measure (position k row m) ≤ entry_limit
      entry_near m l = measure_reached tries m (position k row m) (omega arith) (before.reached m l)

      -- The raised mark, and the others.
      here : (m : ℕ) → m ≡ v → (position k row' m ≡ new) × (clock' m ≡ tries + 1) × (round' m ≡ current) × (last_of k rules last' m ≡ j)
      here m e =
          let fits = setting.fitting j inside in
          let in_row : v < length row = omega (arith, before.same_length, setting.long, fits.to_below) in
          let in_last : v < length last = omega (arith, before.room, fits.to_below) in (
            ap (position k row') e ∙ get_or-set_same row v new k.zero in_row,
            updated_same clock v (tries + 1) m e,
            updated_same round v current m e,
            ap (last_of k rules last') e ∙ ap (λ (o : Option ℕ). unwrap_or o (length rules)) (get_or-set_same last v (Some j) None in_last),
          )

      elsewhere : (m : ℕ) → m ≢ v → (position k row' m ≡ position k row m) × (clock' m ≡ clock m) × (round' m ≡ round m) × (last_of k rules last' m ≡ last_of k rules last m)
      elsewhere m e = (get_or-set_other row v m new k.zero e, updated_other clock v (tries + 1) m e, updated_other round v current m e, ap (λ (o : Option ℕ). unwrap_or o (length rules)) (get_or-set_other last v m (Some j) None e))

      -- The new entry is larger, and within the limit with its gap.
      raised_near : k.measure new ≤ entry_limit + gap_limit
      raised_near =
          let fits = setting.fitting j inside in
          let a = entry_near u fits.from_below in
          let b = fits.small in
          omega (arith, laws.measure_sum (position k row u) (rule_at k rules j).gap (omega arith))

      -- No entry falls.
      grown : (m : ℕ) → m < n → k.at_most (position k row m) (position k row' m) ≡ true
      grown m l =
          let a = entry_near m l in
          let b = raised_near in
          ⊎_elim
          (λ (e : m ≡ v). rw ((here m e).0, e) (at_most_from_below k laws (position k row v) new (omega (arith, entry_near v (setting.fitting j inside).to_below)) unkept))
          (λ (e : m ≢ v). rw (elsewhere m e).0 (reflexive k laws (position k row m) (omega arith)))
          (cases_eq m v)

      entry_near' : (m : ℕ) → m < n → k.measure (position k row' m) ≤ entry_limit + gap_limit
      entry_near' m l =
          let a = entry_near m l in
          let b = raised_near in
          ⊎_elim
          (λ (e : m ≡ v). rw (here m e).0 b)
          (λ (e : m ≢ v). rw (elsewhere m e).0 (omega arith))
          (cases_eq m v)

      -- Rounds only grow.
      round_grown : (m : ℕ) → round m ≤ round' m
      round_grown m =
          ⊎_elim (λ (e : m ≡ v). omega (arith, (here m e).2, before.so_far m)) (λ (e : m ≢ v). omega (arith, (elsewhere m e).2)) (cases_eq m v)

      -- A kept rule that does not leave the raised mark stays kept: only the mark that it leads to can rise.
      still_kept : (i : ℕ) → i < length rules → (rule_at k rules i).from ≢ v → Keeps k row (rule_at k rules i) → Keeps k row' (rule_at k rules i)
      still_kept i l e keeps =
          let r = rule_at k rules i in
          let fits = setting.fitting i l in
          let a = entry_near r.from fits.from_below in
          let b = entry_near r.to fits.to_below in
          let c = entry_near' r.to fits.to_below in
          let d = fits.small in
          rw (elsewhere r.from e).0
          (laws.transitive (k.sum (position k row r.from) r.gap) (position k row r.to) (position k row' r.to)
          (omega (arith, laws.measure_sum (position k row r.from) r.gap (omega arith))) keeps (grown r.to fits.to_below))

      -- The rule that raised is kept.
      now_kept : Keeps k row' (rule_at k rules j)
      now_kept =
          let b = raised_near in
          rw ((elsewhere u (setting.fitting j inside).apart).0, (here v refl).0) (reflexive k laws new (omega arith))

      -- I1 of the raised row.
      reached' : (m : ℕ) → m < n → Reached k n (plain rules) start (tries + 1) m (position k row' m)
      reached' m l =
          ⊎_elim
          (λ (e : m ≡ v). rw ((here m e).0, e) (reached_more row tries j few inside (before.reached u (setting.fitting j inside).from_below)))
          (λ (e : m ≢ v). rw (elsewhere m e).0 (reached_later tries (tries + 1) m (position k row m) (omega arith) (before.reached m l)))
          (cases_eq m v)

      risen' : (m : ℕ) → m < n → k.at_most (position k start m) (position k row' m) ≡ true
      risen' m l =
          let a = entry_near m l in
          let b = entry_near' m l in
          let c = setting.near m l in
          laws.transitive (position k start m) (position k row m) (position k row' m) (omega arith) (before.risen m l) (grown m l)

      -- I2, at the raised mark and at another.
      ends' : (w : ℕ) → w < n → last_of k rules last' w < length rules → (rule_at k rules (last_of k rules last' w)).to ≡ w
      ends' w l raised =
          ⊎_elim
          (λ (e : w ≡ v). rw (here w e).3 (sym e))
          (λ (e : w ≢ v). rw (elsewhere w e).3 (before.ends w l (rw (elsewhere w e).3 at raised)))
          (cases_eq w v)

      pushed' : (w : ℕ) → w < n → last_of k rules last' w < length rules → k.at_most (position k row' w) (k.sum (position k row' (rule_at k rules (last_of k rules last' w)).from) (rule_at k rules (last_of k rules last' w)).gap) ≡ true
      pushed' w l raised =
          ⊎_elim
          (λ (e : w ≡ v). let b = raised_near in rw ((here w e).3, (here w e).0, (elsewhere u (setting.fitting j inside).apart).0) (reflexive k laws new (omega arith)))
          (λ (e : w ≢ v). rw ((elsewhere w e).3, (elsewhere w e).0) (other (last_of k rules last w) (rw (elsewhere w e).3 at raised) (before.pushed w l (rw (elsewhere w e).3 at raised))))
          (cases_eq w v)
        where
          other : (i : ℕ) → i < length rules → k.at_most (position k row w) (k.sum (position k row (rule_at k rules i).from) (rule_at k rules i).gap) ≡ true → k.at_most (position k row w) (k.sum (position k row' (rule_at k rules i).from) (rule_at k rules i).gap) ≡ true
          other i li h =
              let r = rule_at k rules i in
              let fits = setting.fitting i li in
              let a = entry_near r.from fits.from_below in
              let b = entry_near' r.from fits.from_below in
              let c = entry_near w l in
              let d = fits.small in
              laws.transitive (position k row w) (k.sum (position k row r.from) r.gap) (k.sum (position k row' r.from) r.gap)
              (omega (arith, laws.measure_sum (position k row r.from) r.gap (omega arith), laws.measure_sum (position k row' r.from) r.gap (omega arith))) h
              (laws.monotone (position k row r.from) (position k row' r.from) r.gap (omega arith) (grown r.from fits.from_below))

      timed' : (w : ℕ) → w < n → last_of k rules last' w < length rules →
          (clock' (rule_at k rules (last_of k rules last' w)).from < clock' w)
          ⊎ (k.at_most (k.sum (position k row' (rule_at k rules (last_of k rules last' w)).from) (rule_at k rules (last_of k rules last' w)).gap) (position k row' w) ≡ false)
      timed' w l raised =
          ⊎_elim
          (λ (e : w ≡ v). rw ((here w e).3, (here w e).1, (elsewhere u (setting.fitting j inside).apart).1) (inl (omega (arith, before.clocked u))))
          (λ (e : w ≢ v). rw ((elsewhere w e).3, (elsewhere w e).1, (elsewhere w e).0) (other (last_of k rules last w) (rw (elsewhere w e).3 at raised) (before.pushed w l (rw (elsewhere w e).3 at raised)) (before.timed w l (rw (elsewhere w e).3 at raised))))
          (cases_eq w v)
        where
          other : (i : ℕ) → i < length rules → k.at_most (position k row w) (k.sum (position k row (rule_at k rules i).from) (rule_at k rules i).gap) ≡ true →
              (clock (rule_at k rules i).from < clock w) ⊎ (k.at_most (k.sum (position k row (rule_at k rules i).from) (rule_at k rules i).gap) (position k row w) ≡ false) →
              (clock' (rule_at k rules i).from < clock w) ⊎ (k.at_most (k.sum (position k row' (rule_at k rules i).from) (rule_at k rules i).gap) (position k row w) ≡ false)
          other i li h t =
              let r = rule_at k rules i in
              let fits = setting.fitting i li in
              let a = entry_near r.from fits.from_below in
              let b = raised_near in
              let c = entry_near w l in
              let d = fits.small in
              let x = entry_near v (setting.fitting j inside).to_below in
              ⊎_elim
              (λ (f : r.from ≡ v). inr (rw (here r.from f).0
              (at_most_below k laws (position k row w) (k.sum (position k row v) r.gap) (k.sum new r.gap)
              (omega (arith, laws.measure_sum (position k row v) r.gap (omega arith), laws.measure_sum new r.gap (omega arith)))
              (rw f at h) (monotone_below k laws (position k row v) new r.gap (omega arith) unkept))))
              (λ (f : r.from ≢ v). rw ((elsewhere r.from f).1, (elsewhere r.from f).0) t)
              (cases_eq r.from v)

      clocked' : (m : ℕ) → clock' m ≤ tries + 1
      clocked' m = ⊎_elim (λ (e : m ≡ v). omega (arith, (here m e).1)) (λ (e : m ≢ v). omega (arith, (elsewhere m e).1, before.clocked m)) (cases_eq m v)

      -- I3: had the mark that the rule leaves not been raised in this round or the one before, the rule would be kept.
      recent : current ≤ round u + 1
      recent = ⊎_elim (λ (h : round u + 1 < current). absurd (both_ways _ unkept (before.kept_before j inside h))) (λ (h : current ≤ round u + 1). h) (cases_lt (round u + 1) current)

      noted' : (w : ℕ) → w < n → 0 < round' w → last_of k rules last' w < length rules
      noted' w l h =
          ⊎_elim
          (λ (e : w ≡ v). rw (here w e).3 inside)
          (λ (e : w ≢ v). rw (elsewhere w e).3 (before.noted w l (rw (elsewhere w e).2 at h)))
          (cases_eq w v)

      follows' : (w : ℕ) → w < n → last_of k rules last' w < length rules → round' w ≤ round' (rule_at k rules (last_of k rules last' w)).from + 1
      follows' w l raised =
          ⊎_elim
          (λ (e : w ≡ v). rw ((here w e).3, (here w e).2) (omega (arith, recent, round_grown u)))
          (λ (e : w ≢ v). rw ((elsewhere w e).3, (elsewhere w e).2) (omega (arith, round_grown (rule_at k rules (last_of k rules last w)).from, before.follows w l (rw (elsewhere w e).3 at raised))))
          (cases_eq w v)

      so_far' : (m : ℕ) → round' m ≤ current
      so_far' m = ⊎_elim (λ (e : m ≡ v). omega (arith, (here m e).2)) (λ (e : m ≢ v). omega (arith, (elsewhere m e).2, before.so_far m)) (cases_eq m v)

      -- I4: a rule that leaves the raised mark is excused, and any other stays kept.
      kept' : (i most : ℕ) → i < length rules → most ≤ current → round' (rule_at k rules i).from < most → (round (rule_at k rules i).from < most → Keeps k row (rule_at k rules i)) → Keeps k row' (rule_at k rules i)
      kept' i most l h late keeps =
          ⊎_elim
          (λ (e : (rule_at k rules i).from ≡ v). absurd (omega (arith, (here (rule_at k rules i).from e).2)))
          (λ (e : (rule_at k rules i).from ≢ v). still_kept i l e (keeps (omega (arith, (elsewhere (rule_at k rules i).from e).2))))
          (cases_eq (rule_at k rules i).from v)

      -- A raise keeps everything, with the rule among those tried.
      pub raise : (done' : ℕ → Type 0) → ((i : ℕ) → done' i → done i ⊎ (i ≡ j)) → Rounds k n rules start row' last' clock' round' (tries + 1) current done'
      raise done' which =
          record {
            same_length = length-set row v new ∙ before.same_length;
            beyond = drop-set-lt n row v new (setting.fitting j inside).to_below ∙ before.beyond;
            room = omega (arith, before.room, length-set last v (Some j));
            reached = reached';
            risen = risen';
            ends = ends';
            pushed = pushed';
            timed = timed';
            clocked = clocked';
            noted = noted';
            follows = follows';
            so_far = so_far';
            kept_before = λ i l h. kept' i (current - 1) l (omega arith) (omega arith) (λ h'. before.kept_before i l (omega arith));
            kept_now = λ i l d h. ⊎_elim (λ e. kept' i current l (omega arith) h (before.kept_now i l e)) (λ e. rw e now_kept) (which i d);
          }

      -- The raised mark was raised in this round.
      pub raised_round : round' v ≡ current
      raised_round = (here v refl).2

-- From step to step and from round to round.
use Rattle.std.proofs.Common.{◌≡◌, ℕ, ◌+◌, ◌-◌, ◌<◌, ◌≤◌, Bool, true, false, ◌⊎◌, List, [], length, get_or, set, replicate, Some, None, Option, sym, refl, ap, ◌∙◌, inl, inr, ⊎_elim, arith}
use Rattle.std.specs.List.{AllByRecursion as Every}
use Rattle.std.proofs.lemmas.List.{length-replicate, get_or-replicate}
use Rattle.std.proofs.lemmas.Bool.{both_ways, cases_lt, cases_Bool, not-true, not-false}
use Rattle.lengths.specs.Kind.{Kind, Laws}
use Rattle.lengths.proofs.Algebra.{reflexive}
use Rattle.graph.specs.declared.numbered.Numbered.{Numbered}
use Rattle.graph.specs.Rows.{position, Keeps}
use Rattle.graph.specs.Listed.{plain, rule_at}
use Rattle.graph.specs.Rounds.{most_raises, Setting, last_of, Rounds, tried_at, Done, updated}
use Rattle.graph.specs.Outcome.{Relaxed, RoundAt, Settles}
use Rattle.graph.proofs.Readiness.{last_none, numbered_read}
use Rattle.graph.proofs.Raising.{all_from_rules, measure_reached, reached_later, raise, raised_round}

-- One step more: the rules tried before, and the one tried now.
pub done_more : (forwards : Bool) (count s i : ℕ) → Done forwards count (s + 1) i → Done forwards count s i ⊎ (i ≡ tried_at forwards count s)
done_more forwards count s i d =
    ⊎_elim (λ (h : d.0 < s). inl (d.0, h, d.2))
    (λ (h : s ≤ d.0). let e : d.0 ≡ s = omega (arith, d.1) in inr (sym d.2 ∙ ap (tried_at forwards count) e)) (cases_lt d.0 s)

-- A round tries every rule.
pub done_all : (forwards : Bool) (count i : ℕ) → i < count → Done forwards count count i
done_all true count i l = (i, l, refl)
done_all false count i l = (count - 1 - i, omega arith, omega arith)

pub tried_inside : (forwards : Bool) (count s : ℕ) → s < count → tried_at forwards count s < count
tried_inside true count s l = l
tried_inside false count s l = omega arith

module _ {L : Type 0} (k : Kind L) (n : ℕ) (rules : List (Numbered L)) (start : List L) (setting : Setting k n rules start) (laws : Laws k) where
  -- More time passes, a new round begins or more rules are tried: what is known stays known.
  pub later : (row : List L) (last : List (Option ℕ)) (clock round : ℕ → ℕ) (tries tries' current current' : ℕ) (done done' : ℕ → Type 0) → tries ≤ tries' → current ≤ current' →
      Rounds k n rules start row last clock round tries current done →
      ((i : ℕ) → i < length rules → round (rule_at k rules i).from + 1 < current' → Keeps k row (rule_at k rules i)) →
      ((i : ℕ) → i < length rules → done' i → round (rule_at k rules i).from < current' → Keeps k row (rule_at k rules i)) →
      Rounds k n rules start row last clock round tries' current' done'
  later row last clock round tries tries' current current' done done' more_tries more_rounds r kept_before kept_now =
      record {
        same_length = r.same_length;
        beyond = r.beyond;
        room = r.room;
        reached = λ m l. reached_later k n rules start setting laws tries tries' m (position k row m) more_tries (r.reached m l);
        risen = r.risen;
        ends = r.ends;
        pushed = r.pushed;
        timed = r.timed;
        clocked = λ m. omega (arith, r.clocked m);
        noted = r.noted;
        follows = r.follows;
        so_far = λ m. omega (arith, r.so_far m);
        kept_before = kept_before;
        kept_now = kept_now;
      }

  module _ (forwards : Bool) (tries current s : ℕ) (raised : Bool) (row : List L) (last : List (Option ℕ))
      (before : RoundAt k n rules start tries current forwards s raised row last) (inside : s < length rules) where
    abbrev place : ℕ
    place = tried_at forwards (length rules) s

    -- A step at a rule that is kept.
    pub unraised_step : Keeps k row (rule_at k rules place) → RoundAt k n rules start (tries + 1) current forwards (s + 1) raised row last
    unraised_step keeps =
        record {
          clock = before.clock;
          round = before.round;
          rounds = later row last before.clock before.round tries (tries + 1) current current _ _ (omega arith) (omega arith) before.rounds before.rounds.kept_before
              (λ i l d h. ⊎_elim (λ e. before.rounds.kept_now i l e h) (λ e. rw e keeps) (done_more forwards (length rules) s i d));
          quiet = before.quiet;
          loud = before.loud;
        }

    -- A step at a rule that is broken: it raises its mark.
    pub raised_step : tries + 1 ≤ most_raises → k.at_most (k.sum (position k row (rule_at k rules place).from) (rule_at k rules place).gap) (position k row (rule_at k rules place).to) ≡ false →
        RoundAt k n rules start (tries + 1) current forwards (s + 1) true (set row (rule_at k rules place).to (k.sum (position k row (rule_at k rules place).from) (rule_at k rules place).gap)) (set last (rule_at k rules place).to (Some place))
    raised_step few unkept =
        let l = tried_inside forwards (length rules) s inside in
        let v = (rule_at k rules place).to in
        record {
          clock = updated before.clock v (tries + 1);
          round = updated before.round v current;
          rounds = raise k n rules start setting laws row last before.clock before.round tries current _ few before.rounds place l unkept
              (Done forwards (length rules) (s + 1)) (done_more forwards (length rules) s);
          quiet = λ e. absurd (both_ways _ e refl);
          loud = λ _. (v, (setting.fitting place l).to_below, raised_round k n rules start setting laws row last before.clock before.round tries current _ few before.rounds place l unkept);
        }

    -- A step of the loop, as the code takes it.
    pub one_step : (index : ℕ) (q : Numbered L) (r raised' : Bool) (row' : List L) (last' : List (Option ℕ)) → tries + 1 ≤ most_raises → index ≡ place → q ≡ get_or rules index q →
        Relaxed k q.rule index row last r row' last' → (r ≡ true → raised' ≡ true) → (r ≡ false → raised' ≡ raised) → RoundAt k n rules start (tries + 1) current forwards (s + 1) raised' row' last'
    one_step index q r raised' row' last' few at read relaxed on off =
        let l : index < length rules = rw at (tried_inside forwards (length rules) s inside) in
        let same : q.rule ≡ rule_at k rules place = ap (λ (x : Numbered L). x.rule) (numbered_read k rules index q l read) ∙ ap (rule_at k rules) at in
        let known : Relaxed k (rule_at k rules place) place row last r row' last' = rw (same, at) at relaxed in
        ⊎_elim
        (λ (e : r ≡ true). let s = known.raises e in
        rw (on e, s.0, s.1) (raised_step few (not-true _ (sym known.is ∙ e))))
        (λ (e : r ≡ false). let s = known.leaves e in
        rw (off e, s.0, s.1) (unraised_step (not-false _ (sym known.is ∙ e))))
        (cases_Bool r)

  -- The rounds begin with the start, and with no last rules.
  pub fresh_round : (forwards : Bool) → RoundAt k n rules start 0 1 forwards 0 false start (replicate 256 None)
  fresh_round forwards =
      record {
        clock = λ _. 0;
        round = λ _. 0;
        rounds = record {
          same_length = refl;
          beyond = refl;
          room = omega (arith, setting.few_marks, length-replicate {A = Option ℕ} 256 None);
          reached = λ m l. record { origin = m; origin_below = l; walk = []; short = omega arith; drawn = tt; leads = refl; is = sym (laws.unit (position k start m) (omega (arith, setting.near m l))) };
          risen = λ m l. reflexive k laws (position k start m) (omega (arith, setting.near m l));
          ends = λ v l h. absurd (omega (arith, unraised v l));
          pushed = λ v l h. absurd (omega (arith, unraised v l));
          timed = λ v l h. absurd (omega (arith, unraised v l));
          clocked = λ m. omega arith;
          noted = λ v l h. absurd (omega arith);
          follows = λ v l h. absurd (omega (arith, unraised v l));
          so_far = λ m. omega arith;
          kept_before = λ i l h. absurd (omega arith);
          kept_now = λ i l d h. absurd (omega (arith, d.1));
        };
        quiet = λ _ m. omega arith;
        loud = λ e. absurd (both_ways _ refl e);
      }
    where
      unraised : (m : ℕ) → m < n → length rules ≤ last_of k rules (replicate 256 None) m
      unraised m l = last_none k rules (replicate 256 None) m (get_or-replicate {A = Option ℕ} 256 m None None (omega (arith, setting.few_marks)))

  -- A round is over, and the next begins, in either direction.
  unfoldable pub next_round : (forwards forwards' : Bool) (tries tries' current : ℕ) (raised : Bool) (row : List L) (last : List (Option ℕ)) → tries ≤ tries' →
      RoundAt k n rules start tries current forwards (length rules) raised row last → RoundAt k n rules start tries' (current + 1) forwards' 0 false row last
  next_round forwards forwards' tries tries' current raised row last more before =
      record {
        clock = before.clock;
        round = before.round;
        rounds = later row last before.clock before.round tries tries' current (current + 1) _ _ more (omega arith) before.rounds
            (λ i l h. before.rounds.kept_now i l (done_all forwards (length rules) i l) (omega arith))
            (λ i l d h. absurd (omega (arith, d.1)));
        quiet = λ _ m. omega (arith, before.rounds.so_far m);
        loud = λ e. absurd (both_ways _ refl e);
      }

  -- After a round without a raise every rule is kept.
  pub quiet_keeps : (forwards : Bool) (tries current : ℕ) (raised : Bool) (row : List L) (last : List (Option ℕ)) → raised ≡ false → RoundAt k n rules start tries current forwards (length rules) raised row last → Every (Keeps k row) (plain rules)
  quiet_keeps forwards tries current raised row last e before =
      all_from_rules k n rules start setting (Keeps k row) (λ i l. before.rounds.kept_now i l (done_all forwards (length rules) i l) (before.quiet e (rule_at k rules i).from))

  -- So the row has settled.
  pub quiet_settles : (forwards : Bool) (tries current : ℕ) (raised : Bool) (row : List L) (last : List (Option ℕ)) → tries ≤ most_raises → raised ≡ false → RoundAt k n rules start tries current forwards (length rules) raised row last → Settles k n rules start row
  quiet_settles forwards tries current raised row last few e before =
      record {
        same_length = before.rounds.same_length;
        beyond = before.rounds.beyond;
        keeps = quiet_keeps forwards tries current raised row last e before;
        reached = λ m l. reached_later k n rules start setting laws tries most_raises m (position k row m) few (before.rounds.reached m l);
        near = λ m l. measure_reached k n rules start setting laws tries m (position k row m) few (before.rounds.reached m l);
        risen = before.rounds.risen;
      }

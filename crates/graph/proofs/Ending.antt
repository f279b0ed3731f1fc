-- How the rounds go on and end.
use Rattle.std.proofs.Common.{◌≡◌, ℕ, ◌+◌, ◌*◌, ◌<◌, ◌≤◌, Bool, true, false, List, length, Some, None, Option, replicate, arith}
use Rattle.std.specs.List.{AllByRecursion as Every}
use Rattle.lengths.specs.Kind.{Kind, Laws}
use Rattle.rules.specs.Rule.{gap_limit}
use Rattle.rules.specs.declared.rule.Rule.{Rule}
use Rattle.graph.specs.Rows.{row_limit, position, Keeps}
use Rattle.graph.specs.Paths.{path_length, PositiveCycle}
use Rattle.graph.specs.Listed.{plain}
use Rattle.graph.specs.declared.numbered.Numbered.{Numbered}
use Rattle.graph.specs.Ready.{most_rules}
use Rattle.graph.specs.Rounds.{most_raises, Setting}
use Rattle.graph.specs.Outcome.{RoundAt, Found, Ended, Going, Settles}
use Rattle.graph.proofs.Membership.{all_drawn}
use Rattle.graph.proofs.Walks.{MarksBelow, GapAtMost, measure_path_length, along_walk, positive_cycle_unkept}
use Rattle.graph.proofs.Cycles.{cycle_short}
use Rattle.graph.proofs.Raising.{gaps_small, marks_below_all}
use Rattle.graph.proofs.Trying.{fresh_round, next_round, quiet_settles}
use Rattle.graph.proofs.Closing.{closed_shows, late_raise}

module _ {L : Type 0} (k : Kind L) (n : ℕ) (rules : List (Numbered L)) (start : List L) (setting : Setting k n rules start) (laws : Laws k) where
  -- A settled row excludes a positive cycle.
  pub settles_no_cycle : (row : List L) → Settles k n rules start row → (i : ℕ) (p : List (Rule L)) → PositiveCycle k (plain rules) i p → ⊥
  settles_no_cycle row settles i p c =
      let marks = marks_below_all k n rules start setting in
      let drawn = c.cycle.drawn in
      positive_cycle_unkept k laws gap_limit n row (λ m l. omega (arith, settles.near m l)) (plain rules) p i c
      (all_drawn (MarksBelow n) (plain rules) p drawn marks) (all_drawn (GapAtMost k gap_limit) (plain rules) p drawn (gaps_small k n rules start setting))
      (omega (arith, cycle_short n (plain rules) marks i p c.cycle, setting.few_marks)) (all_drawn (Keeps k row) (plain rules) p drawn settles.keeps)

  -- A settled row is the least above the start: any row that keeps every rule and puts no mark left of the start puts none left of it.
  pub settles_least : (row other : List L) → Settles k n rules start row → ((m : ℕ) → m < n → k.measure (position k other m) ≤ row_limit) → Every (Keeps k other) (plain rules) →
      ((m : ℕ) → m < n → k.at_most (position k start m) (position k other m) ≡ true) → (m : ℕ) → m < n → k.at_most (position k row m) (position k other m) ≡ true
  settles_least row other settles near keeps above m l =
      let r = settles.reached m l in
      let u = r.origin in
      let x = position k start u in
      let y = position k other u in
      let p = path_length k r.walk in
      let small = all_drawn (GapAtMost k gap_limit) (plain rules) r.walk r.drawn (gaps_small k n rules start setting) in
      let marks = all_drawn (MarksBelow n) (plain rules) r.walk r.drawn (marks_below_all k n rules start setting) in
      let short = r.short in
      let a = measure_path_length k laws gap_limit r.walk small (omega arith) in
      let b = near u r.origin_below in
      let c = near m l in
      let d = setting.near u r.origin_below in
      let on = along_walk k laws gap_limit n other near r.walk u m r.origin_below marks small (omega arith) (all_drawn (Keeps k other) (plain rules) r.walk r.drawn keeps) r.leads in
      rw r.is
      (laws.transitive (k.sum x p) (k.sum y p) (position k other m) (omega (arith, laws.measure_sum x p (omega arith), laws.measure_sum y p (omega arith)))
      (laws.monotone x y p (omega arith) (above u r.origin_below)) on)

  pub going_first : (forwards : Bool) → Going k n rules start 0 forwards start (replicate 256 None)
  going_first forwards = (fresh_round k n rules start setting laws forwards, λ h. absurd (omega arith))

  module _ (past : ℕ) (more : past < n) (forwards : Bool) (raised : Bool) (row : List L) (last : List (Option ℕ))
      (over : RoundAt k n rules start (past * most_rules + length rules) (past + 1) forwards (length rules) raised row last) where
    few : past * most_rules + length rules ≤ most_raises
    few = omega (arith, setting.few_marks, setting.few_rules)

    pub ended_quiet : raised ≡ false → Ended k n rules start None row
    ended_quiet e = quiet_settles k n rules start setting laws forwards (past * most_rules + length rules) (past + 1) raised row last few e over

    pub ended_closed : (v d : ℕ) → Found k n rules last (Some (v, d)) → Ended k n rules start (Some (record { mark = v; count = d; last = last })) row
    ended_closed v d found =
        record {
          same_length = over.rounds.same_length;
          beyond = over.rounds.beyond;
          none_before = found.0;
          returns = found.1;
          shows = closed_shows k n rules start setting laws row last over.clock over.round (past * most_rules + length rules) (past + 1) _ few over.rounds v d found.0 found.1;
        }

    pub going_on : (forwards' : Bool) → raised ≡ true → Found k n rules last None → Going k n rules start (past + 1) forwards' row last
    unfolding next_round
    going_on forwards' e none =
        let loud = over.loud e in (
          next_round k n rules start setting laws forwards forwards' (past * most_rules + length rules) ((past + 1) * most_rules) (past + 1) raised row last (omega (arith, setting.few_rules)) over,
          λ _. ((loud.0, loud.1, omega (arith, loud.2)), none),
        )

  -- A raise in round n leaves a closed chain, which was looked for.
  pub ended_late : (past : ℕ) (forwards : Bool) (row : List L) (last : List (Option ℕ)) → 1 ≤ n → n ≤ past → past ≤ n → Going k n rules start past forwards row last → Ended k n rules start None row
  ended_late past forwards row last some late most going =
      let a = going.0 in
      let b = going.1 (omega arith) in
      absurd (late_raise k n rules start setting laws row last a.clock a.round (past * most_rules) (past + 1) _ (omega (arith, setting.few_marks)) a.rounds b.0.0 b.0.1 (omega (arith, b.0.2)) b.1)

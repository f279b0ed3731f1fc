-- A worked case that passes the test follows from the definitions, and all of them pass.
use Rattle.std.proofs.Common.{◌≡◌, ℕ, ◌<◌, ◌≤◌, true, not, ◌&&◌, eqb, leb, List, [], length, get_or, is_ok, Ok, Option, refl, ap, ◌∙◌, subst, arith, rules}
use Rattle.std.specs.List.{ContainsAt as Has, AllByRecursion as Every}
use Rattle.std.proofs.ByRecursion.{All-map, All-weaker}
use Rattle.std.proofs.lemmas.List.{length-map}
use Rattle.std.proofs.lemmas.Bool.{and_parts, eqb-true, leb-true, not-true, not-false}
use Rattle.lengths.specs.Grid.{grid_kind}
use Rattle.lengths.specs.Kind.{Kind, Laws}
use Rattle.lengths.specs.Strict.{strict_kind}
use Rattle.lengths.proofs.Algebra.{unit_left}
use Rattle.lengths.specs.StrictLaws.{strict_laws}
use Rattle.rules.specs.Rule.{gap_limit}
use Rattle.rules.specs.declared.rule.Rule.{Rule}
use Rattle.graph.specs.Cycles.{numbers}
use Rattle.graph.specs.Distances.{Distances}
use Rattle.graph.specs.Listed.{plain}
use Rattle.graph.specs.Outcome.{ShownCycle}
use Rattle.graph.specs.Packing.{Packed}
use Rattle.graph.specs.Paths.{left_marks, path_length, Longest, PositiveCycle}
use Rattle.graph.specs.Rivals.{rival_limit}
use Rattle.graph.specs.Rows.{position, row_limit, Keeps, Placement}
use Rattle.graph.specs.Trial.{breaks}
use Rattle.graph.specs.declared.numbered.Numbered.{Numbered}
use Rattle.graph.proofs.Cycles.{positive_cycle_no_placement}
use Rattle.graph.proofs.Layers.{longest_to, layers_distances}
use Rattle.graph.proofs.Membership.{all_drawn, has_map}
use Rattle.graph.proofs.Readiness.{fitting_rule}
use Rattle.graph.proofs.Walks.{MarksBelow, GapAtMost, along_walk, measure_path_length}
use Rattle.reduction.specs.Reduction.{reduced_list}
use Rattle.cell.specs.Calls.{marks_check}
use Rattle.cell.specs.Force.{in_force, source_check}
use Rattle.cell.specs.Trial.{trial_answer}
use Rattle.cell.specs.declared.record.Record.{Record}
use Rattle.cell.proofs.ForceFits.{Fit, force_fits}
use Rattle.cases.specs.Worked.{Outcome, Case, Worked, packed, over_constrained, tried, reduced, of_grid, of_strict, book_after, Means, FollowsFor, Follows, worked}
use Rattle.cases.proofs.Testing.{alike, every, every_below, apart, leads_to, same, same_some, same_rule, all_accepted, from_zero, places_all, packs, chosen, circles, shows, reduces, meant, passes_for, passes, all_pass}
use Rattle.cases.proofs.Passing.{every_below_at, every_all, alike_same, ok_unit, answers_ok, marks_some, marks_few, apart_marks, leads_marks, chosen_drawn, accepted_from, same_is, same_some_is, same_rule_is}

module _ {L : Type 0} (k : Kind L) (laws : Laws k) where
  module _ (n : ℕ) (rules : List (Rule L)) (some : 1 ≤ n) (few : n ≤ 256) (marks : Every (MarksBelow n) rules) (small : Every (GapAtMost k gap_limit) rules) where
    distances : Distances k n rules (λ i j. longest_to k rules j n i)
    distances = layers_distances k laws n rules few (All-weaker (GapAtMost k gap_limit) (GapAtMost k rival_limit) (λ r h. omega arith) rules small)

    placement : (row : List L) → places_all k n rules row ≡ true → Placement k n rules row
    placement row h =
        let near = λ (m : ℕ). leb (k.measure (position k row m)) row_limit in
        let keeps = λ (r : Rule L). not (breaks k row r) in
        let a = and_parts (leb n (length row)) (same k (position k row 0) k.zero && (every_below near n && every keeps rules)) h in
        let b = and_parts (same k (position k row 0) k.zero) (every_below near n && every keeps rules) a.1 in
        let c = and_parts (every_below near n) (every keeps rules) b.1 in
        record {
          is_row = record {
            long = leb-true n (length row) a.0;
            border = same_is k laws (position k row 0) k.zero b.0;
            near = λ m l. leb-true (k.measure (position k row m)) row_limit (every_below_at near n c.0 m l);
          };
          keeps = All-weaker (λ r. keeps r ≡ true) (Keeps k row) (λ r e. not-false _ (not-true _ e)) rules (every_all keeps rules c.1);
        }

    feasible : (row : List L) → Placement k n rules row → (i : ℕ) (p : List (Rule L)) → PositiveCycle k rules i p → ⊥
    feasible row placed i p c = positive_cycle_no_placement n rules marks k laws gap_limit small (omega arith) i p c row placed

    -- A placement has every mark at least as far as the longest path from mark 0.
    no_further_left : (other : List L) → Placement k n rules other → (m : ℕ) (x : L) → Longest k n rules 0 m x → k.at_most x (position k other m) ≡ true
    no_further_left other placed m x s =
        let p = s.path in
        let drawn = s.is_path.drawn in
        let short = s.is_path.short in
        let below = all_drawn (MarksBelow n) rules p drawn marks in
        let gaps = all_drawn (GapAtMost k gap_limit) rules p drawn small in
        let measured = measure_path_length k laws gap_limit p gaps (omega arith) in
        let along = along_walk k laws gap_limit n other placed.is_row.near p 0 m (omega arith) below gaps (omega arith) (all_drawn (Keeps k other) rules p drawn placed.keeps) s.is_path.leads in
        let is : k.sum (position k other 0) (path_length k p) ≡ x =
        ap (λ y. k.sum y (path_length k p)) placed.is_row.border ∙ unit_left k laws (path_length k p) (omega arith) ∙ s.length_is in
        subst (λ (y : L). k.at_most y (position k other m) ≡ true) is along

    pub packed_row : (row : List L) → packs k n rules row ≡ true → (length row ≡ n) × Packed k n rules row row
    packed_row row h =
        let longest = λ (m : ℕ). same_some k (longest_to k rules m n 0) (position k row m) in
        let a = and_parts (eqb (length row) n) (places_all k n rules row && every_below longest n) h in
        let b = and_parts (places_all k n rules row) (every_below longest n) a.1 in
        let placed = placement row b.0 in
        let at : (m : ℕ) → m < n → Longest k n rules 0 m (position k row m) =
        λ m l. distances.longest 0 m (omega arith) l (position k row m) (same_some_is k laws (longest_to k rules m n 0) (position k row m) (every_below_at longest n b.1 m l)) in (
          eqb-true (length row) n a.0,
          record {
            longest = at;
            placement = placed;
            leftmost = λ other p m l. no_further_left other p m (position k row m) (at m l);
            feasible = feasible row placed;
            beyond = refl;
          },
        )

    pub reduced_rules : (list : List (Rule L)) → reduces k n rules list ≡ true →
        ((i : ℕ) (p : List (Rule L)) → PositiveCycle k rules i p → ⊥) × ((d : ℕ → ℕ → Option L) × Distances k n rules d × (reduced_list k d n ≡ list))
    reduced_rules list h =
        let d : ℕ → ℕ → Option L = λ i j. longest_to k rules j n i in
        let a = and_parts (places_all k n rules (from_zero k n rules)) (alike (same_rule k) (reduced_list k d n) list) h in
        (feasible (from_zero k n rules) (placement (from_zero k n rules) a.0), (d, distances, alike_same (same_rule k) (same_rule_is k laws) (reduced_list k d n) list a.1))

  module _ (n : ℕ) (rules : List (Numbered L)) where
    shown_cycle : (i : ℕ) (p : List (Numbered L)) → Every (Has rules) p → circles k n i (plain p) ≡ true → ShownCycle k n rules i p
    shown_cycle i p drawn h =
        let q = plain p in
        let some = leb 1 (length q) in
        let few = leb (length q) n in
        let back = leads_to i i q in
        let once = apart (left_marks q) in
        let above = every (leb i) (left_marks q) in
        let more = not (k.at_most (path_length k q) k.zero) in
        let a = and_parts (some && few) (back && (once && (above && more))) h in
        let b = and_parts some few a.0 in
        let c = and_parts back (once && (above && more)) a.1 in
        let d = and_parts once (above && more) c.1 in
        let e = and_parts above more d.1 in
        record {
          drawn = drawn;
          short = omega (arith, leb-true (length q) n b.1, length-map p (λ (x : Numbered L). x.rule));
          positive = record {
            cycle = record {
              some = leb-true 1 (length q) b.0;
              drawn = All-map (Has (plain rules)) (λ (x : Numbered L). x.rule) p (All-weaker (Has rules) (λ x. Has (plain rules) x.rule) (λ x has. has_map (λ (y : Numbered L). y.rule) rules x has) p drawn);
              leads = leads_marks i i q c.0;
              once = apart_marks (left_marks q) d.0;
            };
            positive = not-true (k.at_most (path_length k q) k.zero) e.1;
          };
          smallest_mark = All-weaker (λ m. leb i m ≡ true) (λ m. i ≤ m) (λ m t. leb-true i m t) (left_marks q) (every_all (leb i) (left_marks q) e.0);
        }

    pub shown_rules : (shown : List ℕ) → shows k n rules shown ≡ true → (i : ℕ) × (p : List (Numbered L)) × ShownCycle k n rules i p × (numbers p ≡ shown)
    shown_rules shown h =
        let p = chosen k rules shown in
        let i = get_or (left_marks (plain p)) 0 0 in
        let a = and_parts (alike eqb (numbers p) shown) (circles k n i (plain p)) h in
        (i, p, shown_cycle i p (chosen_drawn k rules shown) a.1, alike_same eqb eqb-true (numbers p) shown a.0)

  module _ (n : ℕ) (book : List (Record L)) (places : List (Option (Rule L))) (marked : is_ok (marks_check n) ≡ true) (fit : source_check k n places ≡ Ok tt) where
    fits : Every (Fit k n) (in_force k n book places)
    fits = force_fits k n laws (marks_some n marked) book places fit

    marks_of : Every (MarksBelow n) (plain (in_force k n book places))
    marks_of =
        All-map (MarksBelow n) (λ (q : Numbered L). q.rule) (in_force k n book places)
        (All-weaker (Fit k n) (λ q. MarksBelow n q.rule) (λ q h. let f = fitting_rule k n q.rule h in (f.from_below, f.to_below)) (in_force k n book places) fits)

    gaps_of : Every (GapAtMost k gap_limit) (plain (in_force k n book places))
    gaps_of =
        All-map (GapAtMost k gap_limit) (λ (q : Numbered L). q.rule) (in_force k n book places)
        (All-weaker (Fit k n) (λ q. GapAtMost k gap_limit q.rule) (λ q h. (fitting_rule k n q.rule h).small) (in_force k n book places) fits)

    -- An outcome that passes is what the definitions say.
    pub outcome_means : (o : Outcome L) → meant k n book places o ≡ true → Means k n book places o
    outcome_means (packed row) h = packed_row n (plain (in_force k n book places)) (marks_some n marked) (marks_few n marked) marks_of gaps_of row h
    outcome_means (over_constrained shown) h = shown_rules n (in_force k n book places) shown h
    outcome_means (tried row number) h = answers_ok (trial_answer k n book places row) number h
    outcome_means (reduced list) h = reduced_rules n (plain (in_force k n book places)) (marks_some n marked) (marks_few n marked) marks_of gaps_of list h

  -- A case that passes follows from the definitions.
  pub passes_follows : (c : Case L) → passes_for k c ≡ true → FollowsFor k c
  passes_follows c h =
      let n = c.marks in
      let book = book_after k n c.entries in
      let marks = is_ok (marks_check n) in
      let entries = all_accepted k n [] c.entries in
      let source = is_ok (source_check k n c.places) in
      let outcome = meant k n book c.places c.outcome in
      let a = and_parts marks (entries && (source && outcome)) h in
      let b = and_parts entries (source && outcome) a.1 in
      let d = and_parts source outcome b.1 in
      let fit = ok_unit (source_check k n c.places) d.0 in
      record {
        marked = ok_unit (marks_check n) a.0;
        accepted = accepted_from k n [] c.entries b.0;
        fit = fit;
        means = outcome_means n book c.places a.0 fit c.outcome d.1;
      }

grid_laws : Laws grid_kind
grid_laws = search rules

pub follows : (c : Worked) → passes c ≡ true → Follows c
follows (of_grid c) h = passes_follows grid_kind grid_laws c h
follows (of_strict c) h = passes_follows strict_kind strict_laws c h

-- Every worked case follows from the definitions.
pub all_follow : Every Follows worked
all_follow = All-weaker (λ c. passes c ≡ true) Follows follows worked (every_all passes worked all_pass)

-- From the rounds and the midpoints to the answers of the distances.
use Rattle.std.proofs.Common.{◌≡◌, ℕ, ◌+◌, ◌-◌, ◌*◌, ◌<◌, ◌≤◌, true, leb, List, length, drop, replicate, Ok, Err, sym, ap, ◌∙◌, subst, arith}
use Rattle.std.proofs.lemmas.Nat.{mul-le}
use Rattle.std.proofs.lemmas.List.{length-replicate, get_or-replicate, drop-drop}
use Rattle.std.proofs.lemmas.Bool.{and_parts, and_from, le-leb}
use Rattle.lengths.specs.Kind.{Kind, Laws}
use Rattle.rules.specs.Rule.{gap_limit}
use Rattle.graph.specs.declared.chain.ClosedChain.{ClosedChain}
use Rattle.graph.specs.declared.numbered.Numbered.{Numbered}
use Rattle.graph.specs.declared.positions.PackingFault.TheVariants.{OverConstrained}
use Rattle.graph.specs.Rows.{position, Keeps, Placement}
use Rattle.graph.specs.Listed.{plain}
use Rattle.graph.specs.Ready.{sound}
use Rattle.graph.specs.Rivals.{rival_limit}
use Rattle.graph.specs.Rounds.{Setting}
use Rattle.graph.specs.Chains.{chain}
use Rattle.graph.specs.Outcome.{Settles, Closed}
use Rattle.graph.specs.Positions.{cleared}
use Rattle.graph.specs.Distances.{table_distance}
use Rattle.graph.specs.Filling.{begun}
use Rattle.graph.specs.Overs.{Overs}
use Rattle.graph.specs.Distancing.{tabled, Distanced}
use Rattle.graph.proofs.Readiness.{sound_parts, sound_setting}
use Rattle.graph.proofs.Clearing.{length_cleared, position_cleared, drop_cleared, cleared_same}
use Rattle.graph.proofs.Cycles.{positive_cycle_no_row}
use Rattle.graph.proofs.Ending.{settles_no_cycle}
use Rattle.graph.proofs.Membership.{all_drawn}
use Rattle.graph.proofs.Raising.{gaps_small, marks_below_all}
use Rattle.graph.proofs.Distances.{Consistent, consistent_wider}
use Rattle.graph.proofs.Sourcing.{begun_holds, begun_beyond, begun_stage}
use Rattle.graph.proofs.Converging.{table_converges}
use Rattle.graph.proofs.Placing.{near_placement, placement_consistent}

-- Some marks have at least as many entries.
pub square_above : (n : ℕ) → 1 ≤ n → n ≤ n * n
square_above n some = omega (arith, mul-le 1 n n n some (omega arith))

module _ {L : Type 0} (k : Kind L) (laws : Laws k) (n : ℕ) (rules : List (Numbered L)) (table zeros row : List L)
    (is_sound : sound k n rules ≡ true) (long : n * n ≤ length table) (is_zeros : zeros ≡ cleared k (n * n) table) where
  some : 1 ≤ n
  some = (sound_parts k n rules is_sound).0

  wide : n ≤ n * n
  wide = square_above n some

  pub zeros_length : length zeros ≡ length table
  zeros_length = ap length is_zeros ∙ length_cleared k (n * n) table long

  at_zero : (m : ℕ) → m < n → position k zeros m ≡ k.zero
  at_zero m l = ap (λ (t : List L). position k t m) is_zeros ∙ position_cleared k (n * n) table m (omega (arith, wide))

  pub setting : Setting k n rules zeros
  setting = sound_setting k n rules zeros is_sound (omega (arith, zeros_length, wide)) (λ m l. omega (arith, ap k.measure (at_zero m l), laws.measure_zero))

  is_tabled : tabled k n rules table ≡ true
  is_tabled = and_from (sound k n rules) (leb (n * n) (length table)) is_sound (le-leb (n * n) (length table) long)

  -- What lies past the entries between marks is past the marks.
  past : (now : List L) → drop n now ≡ drop n zeros → drop (n * n) now ≡ drop (n * n) table
  past now same = go (split (n * n) wide)
    where
      split : (b : ℕ) → n ≤ b → (a : ℕ) × (b ≡ n + a)
      split b l = (b - n, omega arith)

      go : (a : ℕ) × (n * n ≡ n + a) → drop (n * n) now ≡ drop (n * n) table
      go s =
          ap (λ (x : ℕ). drop x now) s.1 ∙ sym (drop-drop s.0 n now) ∙ ap (drop s.0) same ∙ drop-drop s.0 n zeros ∙ sym (ap (λ (x : ℕ). drop x zeros) s.1)
          ∙ ap (drop (n * n)) is_zeros ∙ drop_cleared k (n * n) table

  pub distances_over : (c : ClosedChain) (after : List L) → Closed k n rules zeros row c → after ≡ cleared k (n * n) row → Distanced k n rules table (Err OverConstrained) after
  distances_over c after closed is =
      (is_tabled, (c.mark, plain (chain k n rules c.last c.count c.mark), closed.shows.positive), is ∙ cleared_same k (n * n) row table (past row closed.beyond))

  pub distances_done : (first after : List L) → Settles k n rules zeros row → n * n ≤ length row → first ≡ begun k n rules row → Overs k n n first after → Distanced k n rules table (Ok tt) after
  distances_done first after settles row_long begins overs =
      let marks = marks_below_all k n rules zeros setting in
      let small = gaps_small k n rules zeros setting in
      let placement = near_placement k laws n rules zeros setting at_zero row settles some in
      let consistent = consistent_wider k n gap_limit rival_limit (plain rules) (omega arith) (placement_consistent k n rules zeros some setting placement) in
      let t = begun k n rules row in
      let come =
      table_converges k laws n (plain rules) consistent (table_distance k t n) (begun_stage k laws n rules marks small row row_long consistent) t (begun_holds k laws n rules marks small row row_long)
      after (subst (λ (u : List L). Overs k n n u after) begins overs) in (
        is_tabled,
        record {
          distances = come.0;
          beyond = come.1 ∙ begun_beyond k laws n rules marks small row row_long ∙ past row settles.beyond;
          no_cycle = settles_no_cycle k n rules zeros setting laws row settles;
          placement = placement;
        },
      )

-- Rules whose distances were found are consistent.
module _ {L : Type 0} (k : Kind L) (laws : Laws k) (n : ℕ) (rules : List (Numbered L)) (table table' : List L) (done : Distanced k n rules table (Ok tt) table') where
  done_sound : sound k n rules ≡ true
  done_sound = (and_parts (sound k n rules) (leb (n * n) (length table)) done.0).0

  pub done_consistent : Consistent k n gap_limit (plain rules)
  done_consistent =
      let parts = sound_parts k n rules done_sound in
      let p = done.1.placement in
      let setting = sound_setting k n rules (replicate n k.zero) done_sound (omega (arith, length-replicate n k.zero)) (λ m l. omega (arith, ap k.measure (get_or-replicate n m k.zero k.zero l), laws.measure_zero)) in
      placement_consistent k n rules (replicate n k.zero) parts.0 setting p

-- A positive cycle leaves no placement.
pub over_no_placement : {L : Type 0} (k : Kind L) (laws : Laws k) (n : ℕ) (rules : List (Numbered L)) (table table' : List L) → Distanced k n rules table (Err OverConstrained) table' →
    (other : List L) → Placement k n (plain rules) other → ⊥
over_no_placement k laws n rules table table' over other p =
    let ok = (and_parts (sound k n rules) (leb (n * n) (length table)) over.0).0 in
    let zeros = replicate n k.zero in
    let setting = sound_setting k n rules zeros ok (omega (arith, length-replicate n k.zero)) (λ m l. omega (arith, ap k.measure (get_or-replicate n m k.zero k.zero l), laws.measure_zero)) in
    let cycle = over.1.2 in
    positive_cycle_no_row n (plain rules) (marks_below_all k n rules zeros setting) k laws gap_limit (gaps_small k n rules zeros setting) (omega (arith, setting.few_marks)) over.1.0 over.1.1 cycle
    other p.is_row (all_drawn (Keeps k other) (plain rules) over.1.1 cycle.cycle.drawn p.keeps)

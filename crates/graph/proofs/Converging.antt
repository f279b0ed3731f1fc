-- Tables changed over one mark after another come to hold the distances.
use Rattle.std.proofs.Common.{◌≡◌, ℕ, zero, suc, ◌+◌, ◌*◌, ◌<◌, ◌≤◌, true, List, length, get_or, drop, Some, None, Option, sym, refl, ap, ◌∙◌, ⊎_elim, arith}
use Rattle.std.proofs.lemmas.List.{ext_get_or, length-drop, get_or-drop}
use Rattle.std.proofs.lemmas.Bool.{both_ways}
use Rattle.lengths.specs.Kind.{Kind, Laws}
use Rattle.lengths.proofs.Algebra.{reflexive}
use Rattle.rules.specs.declared.rule.Rule.{Rule}
use Rattle.graph.specs.Rivals.{rival_limit}
use Rattle.graph.specs.Distances.{DistanceTable, table_entry, as_entry}
use Rattle.graph.specs.Midpoints.{longer, joint, over, over_all}
use Rattle.graph.specs.Filling.{none}
use Rattle.graph.specs.Overs.{over_entry, Still, TableUpto, Overs}
use Rattle.graph.proofs.Distances.{distance_limit, Consistent}
use Rattle.graph.proofs.Layers.{MeasureWithin}
use Rattle.graph.proofs.Tables.{above_none, distances_table}
use Rattle.graph.proofs.Stages.{Stage, stage_measure}
use Rattle.graph.proofs.Midpoints.{over_row_same, stage_steps, over_all_distances}

module _ {L : Type 0} (k : Kind L) (laws : Laws k) where
  none_none : k.at_most (none k) (none k) ≡ true
  none_none = let mf = laws.measure_far in reflexive k laws (none k) (omega (arith, laws.measure_opposite k.far (omega arith)))

  -- None lies below every near length.
  none_below : (x : L) → k.measure x ≤ 512_000_000_000 → k.at_most (none k) x ≡ true
  none_below x h =
      let mf = laws.measure_far in
      ⊎_elim (λ e. e) (λ e. absurd (both_ways _ (above_none k laws x (omega arith)) e)) (laws.total (none k) x (omega (arith, laws.measure_opposite k.far (omega arith))))

  -- An entry over a midpoint holds the length over it.
  pub over_entry_as : (u v w : Option L) → MeasureWithin k distance_limit u → MeasureWithin k distance_limit v → over_entry k (as_entry k u) (as_entry k v) (as_entry k w) ≡ as_entry k (longer k w (joint k u v))
  unfolding over_entry as_entry longer joint
  over_entry_as None v None mu mv = rw none_none refl
  over_entry_as None v (Some z) mu mv = rw none_none refl
  over_entry_as (Some x) None None mu mv = rw (above_none k laws x (omega (arith, mu x refl)), none_none) refl
  over_entry_as (Some x) None (Some z) mu mv = rw (above_none k laws x (omega (arith, mu x refl)), none_none) refl
  over_entry_as (Some x) (Some y) None mu mv =
      let a = mu x refl in
      let b = mv y refl in
      rw (above_none k laws x (omega arith), above_none k laws y (omega arith), none_below (k.sum x y) (omega (arith, laws.measure_sum x y (omega arith)))) refl
  over_entry_as (Some x) (Some y) (Some z) mu mv =
      let a = mu x refl in
      let b = mv y refl in
      rw (above_none k laws x (omega arith), above_none k laws y (omega arith)) refl

module _ {L : Type 0} (k : Kind L) (laws : Laws k) (n : ℕ) (rules : List (Rule L)) (c : Consistent k n rival_limit rules) where
  -- A table that holds lengths between marks.
  abbrev pub Holds : List L → (ℕ → ℕ → Option L) → Type 0
  Holds table d = (i j : ℕ) → i < n → j < n → table_entry k table n i j ≡ as_entry k (d i j)

  -- The same past the entries between marks.
  pub record Beyond (table table' : List L) : Type 0 where
    pub same_length : length table' ≡ length table
    pub same : (x : ℕ) → n * n ≤ x → get_or table' x k.zero ≡ get_or table x k.zero

  module _ (m : ℕ) (lm : m < n) (d : ℕ → ℕ → Option L) (s : Stage k n rules m d) (table : List L) (holds : Holds table d) where
    over_is : (i j : ℕ) → i < n → j < n → over_entry k (table_entry k table n i m) (table_entry k table n m j) (table_entry k table n i j) ≡ as_entry k (over k m d i j)
    unfolding over
    over_is i j li lj =
        ap (λ x. over_entry k x (table_entry k table n m j) (table_entry k table n i j)) (holds i m li lm)
        ∙ ap (λ x. over_entry k (as_entry k (d i m)) x (table_entry k table n i j)) (holds m j lm lj)
        ∙ ap (over_entry k (as_entry k (d i m)) (as_entry k (d m j))) (holds i j li lj)
        ∙ over_entry_as k laws (d i m) (d m j) (d i j) (λ x e. stage_measure k laws n rules c m d s i m li lm x e) (λ x e. stage_measure k laws n rules c m d s m j lm lj x e)

    pub still_here : Still k n m table
    still_here j lj = over_is m j lm lj ∙ ap (as_entry k) (over_row_same k laws n rules c m lm d s j lj) ∙ sym (holds m j lm lj)

    pub holds_over : (table' : List L) → TableUpto k n m n table table' → Holds table' (over k m d)
    holds_over table' t i j li lj = t.here i j li lj ∙ over_is i j li lj

  module _ (d : ℕ → ℕ → Option L) (s : Stage k n rules 0 d) (table : List L) (holds : Holds table d) where
    pub holds_all : (m : ℕ) → m ≤ n → (table' : List L) → Overs k n m table table' → Holds table' (over_all k m d) × Beyond table table'
    unfolding Overs over_all
    holds_all zero l table' e = (λ i j li lj. ap (λ (t : List L). table_entry k t n i j) e ∙ holds i j li lj, record { same_length = ap length e; same = λ x h. ap (λ (t : List L). get_or t x k.zero) e })
    holds_all (suc m) l table' o =
        let u = o.0 in
        let before = holds_all m (omega arith) u o.1 in
        let lm : m < n = omega arith in
        let stage = stage_steps k laws n rules c d s m (omega arith) in
        let t = o.2 (still_here m lm (over_all k m d) stage u before.0) in (
          holds_over m lm (over_all k m d) stage u before.0 table' t,
          record { same_length = t.same_length ∙ before.1.same_length; same = λ x h. t.elsewhere x h ∙ before.1.same x h },
        )

    pub table_converges : (table' : List L) → Overs k n n table table' → DistanceTable k n rules table' × (drop (n * n) table' ≡ drop (n * n) table)
    table_converges table' o =
        let h = holds_all n (omega arith) table' o in
        let b = h.1 in (
          distances_table k laws n rules c.few_marks c.small table' (over_all k n d) (over_all_distances k laws n rules c d s) h.0,
          ext_get_or k.zero (drop (n * n) table') (drop (n * n) table) (omega (arith, length-drop (n * n) table', length-drop (n * n) table, b.same_length))
              (λ x l. get_or-drop (n * n) table' x k.zero ∙ b.same (n * n + x) (omega arith) ∙ sym (get_or-drop (n * n) table x k.zero)),
        )

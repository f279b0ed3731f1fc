-- A turn that packs or reduces answers and leaves what its call does.
use Rattle.std.proofs.Common.{◌≡◌, ℕ, List, length, vec_items, Some, Option, Result, Vec, sym, refl, ap, ◌∙◌, subst}
use Rattle.std.specs.Vec.{with_items}
use Rattle.std.proofs.lemmas.List.{with_items_is}
use Rattle.lengths.specs.Kind.{Kind}
use Rattle.rules.specs.declared.rule.Rule.{Rule}
use Rattle.faults.specs.declared.fault.CompactionFault.{CompactionFault}
use Rattle.faults.specs.declared.fault.ReductionFault.{ReductionFault}
use Rattle.cell.specs.Compaction.{Compacts}
use Rattle.cell.specs.Findings.{CompactionFinding, ReductionFinding}
use Rattle.cell.specs.Force.{in_force}
use Rattle.cell.specs.Reduction.{Reduces}
use Rattle.cell.specs.declared.record.Record.{Record}
use Rattle.run.specs.Promise.{Answers, Performs}
use Rattle.run.specs.declared.turn.Answer.TheVariants.{Compacted, Reduced}
use Rattle.run.specs.declared.turn.Call.{Call}
use Rattle.run.specs.declared.turn.Call.TheVariants.{Compact, Reduce}
use Rattle.run.specs.declared.turn.Turn.{Turn}

-- The elements of a Vec after others of the same number were written.
written : {X Z : Type 0} (v : Vec X Z) (before after : List X) → before ≡ vec_items v → length after ≡ length before → vec_items (with_items v after) ≡ after
written v before after is same = with_items_is v after (same ∙ ap length is ∙ sym v.ok.0)

module _ {L S : Type 0} (k : Kind L) (listing : S → List (Option (Rule L))) (n records : ℕ) (book : List (Record L)) (t : Turn L S) where
  -- the turn t after a compaction or a reduction
  abbrev packed : (row : List L) (cycle : List ℕ) → Result (Unit {0}) CompactionFault → Turn L S
  packed row cycle r = record { call = t.call; source = t.source; row = with_items t.row row; cycle = with_items t.cycle cycle; table = t.table; list = t.list; answer = Some (Compacted r) }

  abbrev reduced : (table : List L) (list : List (Rule L)) → Result ℕ ReductionFault → Turn L S
  reduced table list r = record { call = t.call; source = t.source; row = t.row; cycle = t.cycle; table = with_items t.table table; list = with_items t.list list; answer = Some (Reduced r) }

  pub packs : t.call ≡ Compact → (row row' : List L) (cycle cycle' : List ℕ) (r : Result (Unit {0}) CompactionFault) → row ≡ vec_items t.row → cycle ≡ vec_items t.cycle →
      length row' ≡ length row → length cycle' ≡ length cycle → Compacts k n book (listing t.source) row cycle r row' cycle' →
      (CompactionFinding k n (in_force k n book (listing t.source)) r row' cycle' → ⊥) → Performs k listing n records book t (packed row' cycle' r)
  packs is row row' cycle cycle' r row_is cycle_is row_long cycle_long does right =
      let u = packed row' cycle' r in
      let row_now : vec_items (with_items t.row row') ≡ row' = written t.row row row' row_is row_long in
      let cycle_now : vec_items (with_items t.cycle cycle') ≡ cycle' = written t.cycle cycle cycle' cycle_is cycle_long in
      record {
        same_call = refl;
        same_source = refl;
        answers = subst (λ (call : Call L). Answers k listing n records book call t u) (sym is) (
          (
            r,
            refl,
            rw (row_now, cycle_now, ← row_is, ← cycle_is) does,
            rw (row_now, cycle_now) right,
          ),
          record { table = refl; list = refl },
        );
      }

  pub reduces : t.call ≡ Reduce → (table table' : List L) (list list' : List (Rule L)) (r : Result ℕ ReductionFault) → table ≡ vec_items t.table → list ≡ vec_items t.list →
      length table' ≡ length table → length list' ≡ length list → Reduces k n book (listing t.source) table list r table' list' →
      (ReductionFinding k n (in_force k n book (listing t.source)) r list' → ⊥) → Performs k listing n records book t (reduced table' list' r)
  reduces is table table' list list' r table_is list_is table_long list_long does right =
      let u = reduced table' list' r in
      let table_now : vec_items (with_items t.table table') ≡ table' = written t.table table table' table_is table_long in
      let list_now : vec_items (with_items t.list list') ≡ list' = written t.list list list' list_is list_long in
      record {
        same_call = refl;
        same_source = refl;
        answers = subst (λ (call : Call L). Answers k listing n records book call t u) (sym is) (
          (
            r,
            refl,
            rw (table_now, list_now, ← table_is, ← list_is) does,
            rw list_now right,
          ),
          record { row = refl; cycle = refl },
        );
      }

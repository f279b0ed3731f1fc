use Rattle.std.proofs.Common.{◌-◌, List, [], ◌∷◌, ◌++◌, length, map, sym, ap, ◌∙◌, ap₂, arith}
use Rattle.std.specs.List.{range_with_len}
use Rattle.std.proofs.lemmas.List.{append_assoc, length_push}
use Rattle.std.proofs.lemmas.List.FromFn.{map-range_with_len_more}
use Rattle.rules.specs.Rule.{minimum}
use Rattle.rules.specs.declared.rule.Rule.{Rule}
use Rattle.graph.specs.declared.numbered.Numbered.{Numbered}
use Rattle.cell.specs.Force.{boundary_rule}
use Rattle.cell.proofs.gathered.Gathered.add_boundary.Goals as goal

pub loop-mark-preserved : goal.loop-mark-preserved
loop-mark-preserved g c =
    let k = g.L.Length.kind in
    let m = c.loop-mark.mark in
    let told = boundary_rule k c.args.marks in
    let rules = map told (range_with_len 1 (m - 1)) in
    let rule = c.minimum-rule.ensures ∙ ap (minimum 0 m) c.zero.ensures in (
      omega arith,
      omega (arith, ap length c.push.ensures, length_push c.loop-mark.self (record { number = c.from-number.result; rule = c.minimum-rule.result }), c.loop-mark.invariant.1),
      c.push.ensures
          ∙ ap₂ (λ (xs : List (Numbered _)) (q : Numbered _). xs ++ q ∷ []) c.loop-mark.invariant.2
          (ap₂ (λ n (r : Rule _). record { number = n; rule = r }) c.from-number.ensures rule)
          ∙ append_assoc c.args.self.now rules (told m ∷ [])
          ∙ ap (λ (xs : List (Numbered _)). c.args.self.now ++ xs)
          (sym (map-range_with_len_more told 1 (m - 1) m (omega arith)) ∙ ap (λ j. map told (range_with_len 1 j)) (omega arith)),
    )

use Rattle.std.proofs.Common.{◌+◌, [], ◌∷◌, ◌++◌, length, sym, ap, ◌∙◌, arith}
use Rattle.std.proofs.lemmas.List.{length_push, take_all}
use Rattle.cell.specs.Force.{place_rules, places_check}
use Rattle.cell.proofs.Gathering.{place_empty, place_told, place_unfit, few_checked}
use Rattle.cell.proofs.gathered.Gathered.add_source.Goals as goal
use Rattle.cell.proofs.gathered.Gathered.add_source.Goals.{in_default, in-Some+in_default-check}

pub loop-place-preserved : goal.loop-place-preserved
loop-place-preserved g c =
    let k = g.L.Length.kind in
    let places = g.S.Source.listing c.args.source.now in
    let i = c.loop-place.place in
    let inv = c.loop-place.invariant in
    let before = c.loop-place.self in
    elim c.match-rule.branch [
      | in_default w ↦
          let p = place_empty k c.args.marks places i c.args.self.now before (omega (arith, c.places-places.ensures)) (sym c.rule.ensures ∙ w.in_default.is) inv.1 inv.2 in
          (omega (arith, ap length w.self-is, inv.0), p.0, w.self-is ∙ p.1)
      | in-Some+in_default-check w ↦
          let next = w.self-is ∙ w.push.ensures ∙ ap (λ m. before ++ record { number = m; rule = w.in-Some.rule } ∷ []) w.from-number.ensures in
          let p = place_told k c.args.marks places i w.in-Some.rule c.args.self.now before (omega (arith, c.places-places.ensures)) (sym c.rule.ensures ∙ w.in-Some.is)
          (sym w.check.ensures ∙ w.in_default-check.is) inv.1 inv.2 in
          (omega (arith, ap length next, length_push before (record { number = 100_000 + i; rule = w.in-Some.rule }), inv.0), p.0, next ∙ p.1)
    ]

pub returns-in-Err : goal.returns-in-Err
returns-in-Err g c =
    let k = g.L.Length.kind in
    let places = g.S.Source.listing c.args.source.now in
    few_checked k c.args.marks places (omega (arith, c.places-places.ensures))
    ∙ place_unfit k c.args.marks places c.loop-place.place c.in-Some.rule c.in-Err.cause
    (omega (arith, c.places-places.ensures)) (sym c.in-Some.ensures) (sym c.in-Err.ensures) c.loop-place.invariant.1

pub returns : goal.returns
returns g c =
    let k = g.L.Length.kind in
    let places = g.S.Source.listing c.args.source.now in
    let all = take_all c.loop-place.place places (omega (arith, c.places-places.ensures)) in
    let inv = c.loop-place.invariant in (
      few_checked k c.args.marks places (omega (arith, c.places-places.ensures)) ∙ ap (places_check k c.args.marks 0) (sym all) ∙ inv.1,
      inv.2 ∙ ap (λ told. c.args.self.now ++ place_rules k c.args.marks 0 told) all,
    )

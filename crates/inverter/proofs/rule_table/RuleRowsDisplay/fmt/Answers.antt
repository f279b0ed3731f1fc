use Rattle.std.proofs.Common.{rules, ◌≡◌, ◌<◌, ◌+◌, ap, arith, get_or, length, None, refl}
use Rattle.std.proofs.Output.{has_written_append, has_written_of_eq}
use Rattle.boxes.specs.Held.{bounded_source, source_places}
use Rattle.inverter.specs.Tables.{place_row}
use Rattle.inverter.proofs.Numbered.{all_numbered, numbered_more}
use Rattle.inverter.proofs.rule_table.RuleRowsDisplay.fmt.Goals as goal

pub overflow_cast-place : goal.overflow_cast-place
overflow_cast-place g c = omega (arith, (bounded_source c.args.self.now.0.now).most, c.places-place-end.ensures, c.loop-place-test.true)

pub loop-place-preserved : goal.loop-place-preserved
loop-place-preserved g c p =
    let places = source_places c.args.self.now.0.now in
    let i = c.loop-place.place in
    let within : i < length places = omega (arith, c.places-place-end.ensures, c.loop-place-test.true) in
    let row : place_row (100_000 + i, c.rule.result) ≡ place_row (100_000 + i, get_or places i None) = ap (λ r. place_row (100_000 + i, r)) c.rule.ensures in
    has_written_of_eq _ _ _ _ _ (numbered_more place_row 100_000 places i (100_000 + i) None within refl)
    (has_written_append _ _ _ _ _ _ (c.loop-place.invariant p) (has_written_of_eq _ _ _ _ _ row (search rules)))

pub returns-clause-writes : goal.returns-clause-writes
returns-clause-writes g c p _ = has_written_of_eq _ _ _ _ _ (all_numbered place_row 100_000 (source_places c.args.self.now.0.now) c.loop-place.place (omega (arith, c.places-place-end.ensures, c.loop-place-test.false))) (c.loop-place.invariant p)

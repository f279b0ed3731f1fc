use Rattle.std.proofs.Common.{rules, ◌≡◌, ◌<◌, ap, arith, get_or, length}
use Rattle.std.proofs.Output.{has_written_append, has_written_of_eq}
use Rattle.inverter.specs.Tables.{box_row, box_row_at}
use Rattle.inverter.proofs.Numbered.{all_numbered, numbered_more}
use Rattle.inverter.proofs.box_table.BoxRowsDisplay.fmt.Goals as goal

pub loop-place-preserved : goal.loop-place-preserved
loop-place-preserved g c p =
    let boxes = c.args.self.now.0.now in
    let i = c.loop-place.place in
    let within : i < length boxes = omega (arith, c.loop-place-test.true) in
    let row : box_row i c.made-item.result.figures ≡ box_row_at (i, get_or boxes i c.made-item.result) = ap (λ b. box_row i b.figures) c.made-item.is in
    has_written_of_eq _ _ _ _ _ (numbered_more box_row_at 0 boxes i i c.made-item.result within (omega arith))
    (has_written_append _ _ _ _ _ _ (c.loop-place.invariant p) (has_written_of_eq _ _ _ _ _ row (search rules)))

pub returns-clause-writes : goal.returns-clause-writes
returns-clause-writes g c p _ = has_written_of_eq _ _ _ _ _ (all_numbered box_row_at 0 c.args.self.now.0.now c.loop-place.place (omega (arith, c.loop-place-test.false))) (c.loop-place.invariant p)

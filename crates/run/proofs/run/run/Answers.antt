use Rattle.std.proofs.Common.{◌≡◌, get_or, sym, ap, ◌∙◌}
use Rattle.cell.specs.Calls.{cell_marks}
use Rattle.cell.specs.Memory.{memory}
use Rattle.run.proofs.Stepping.{again, ends}
use Rattle.run.proofs.run.run.Goals as goal

pub loop-turn-preserved : goal.loop-turn-preserved
loop-turn-preserved g c =
    let inv = c.loop-turn.invariant in
    let done = c.perform.ensures in
    let turns = c.loop-turn.turns in
    let i = c.loop-turn.turn-index in
    let t = get_or turns i c.turn-item.result in
    again g.L.Length.kind g.S.Source.listing (cell_marks c.args.marks) c.new-cell.result c.loop-turn.cell c.perform.new.cell c.args.turns.now turns i t c.perform.new.turn
    c.loop-turn-test.true c.loop-turn.auto.turns (ap (get_or turns i) c.turn-item.is) inv done.marks done.lent done.book done.memory done.performs

pub returns : goal.returns
returns g c =
    let back = c.records-1.given in
    let same : back.0 ≡ memory c.loop-turn.cell = back.1.1 (sym c.new-cell.ensures.lent ∙ sym c.loop-turn.invariant.0) in
    let told = ends g.L.Length.kind g.S.Source.listing (cell_marks c.args.marks) c.new-cell.result c.loop-turn.cell c.args.turns.now c.loop-turn.turns c.loop-turn.turn-index
    c.loop-turn-test.false c.loop-turn.auto.turns c.loop-turn.invariant c.args.records.now c.new-cell.ensures.memory_is back.0 same in
    record { faithful = told.0; book = told.1; memory = told.2 }

use Rattle.std.proofs.Common.{◌≡◌, true, List, length, sym, ap, subst, ◌∙◌, arith}
use Rattle.graph.specs.Packing.{Bordered}
use Rattle.graph.specs.Ready.{sound}
use Rattle.graph.specs.declared.numbered.Numbered.{Numbered}
use Rattle.cell.specs.Memory.{book}
use Rattle.cell.specs.Compaction.{Sought}
use Rattle.cell.proofs.Compactions.{compacts, room_passed}
use Rattle.cell.proofs.ForceFits.{force_bordered, force_sound}
use Rattle.cell.proofs.NoFindings.{no_compaction_finding}
use Rattle.cell.proofs.Tables.{gathered_fits}
use Rattle.cell.proofs.cell.Cell.compact.Goals as goal

pub new-rules-requires : goal.new-rules-requires
new-rules-requires g c = gathered_fits g.row.L g.met.L.Stored.small

pub gather-requires : goal.gather-requires
gather-requires g c = (gathered_fits g.row.L g.met.L.Stored.small, c.new-rules.ensures)

pub rules-requires : goal.rules-requires
rules-requires g c = gathered_fits g.row.L g.met.L.Stored.small

pub settle-requires-clause-sound : goal.settle-requires-clause-sound
settle-requires-clause-sound g c =
    let k = g.L.Length.kind in
    let told = c.args.self.now in
    let places = g.S.Source.listing c.args.source.now in
    let gathered = c.in_ok-gather.ensures in
    let is = c.rules.ensures.is ∙ gathered.1 in
    subst (λ (rules : List (Numbered _)). sound k told.marks rules ≡ true) (sym is)
    (force_sound k told.marks g.met.L.Length.laws told.some told.few (book told) places gathered.0 (omega (arith, ap length is, c.rules.ensures.few)))

pub settle-requires-clause-bordered : goal.settle-requires-clause-bordered
settle-requires-clause-bordered g c =
    let told = c.args.self.now in
    subst (Bordered g.L.Length.kind told.marks) (sym (c.rules.ensures.is ∙ c.in_ok-gather.ensures.1)) (force_bordered g.L.Length.kind told.marks (book told) (g.S.Source.listing c.args.source.now))

pub returns : goal.returns
returns g c =
    let k = g.L.Length.kind in
    let told = c.args.self.now in
    let places = g.S.Source.listing c.args.source.now in
    let gathered = c.in_ok-gather.ensures in
    let room = room_passed told.marks (length c.args.row.now) (length c.args.cycle.now) (sym c.in_ok-check_room.ensures) in
    let does = compacts k told.marks (book told) places c.args.row.now c.args.cycle.now gathered.0 room.0 room.1 c.settle.result c.settle.new.row c.settle.new.cycle
    (subst (λ (rules : List (Numbered _)). Sought k told.marks rules c.args.row.now c.args.cycle.now c.settle.result c.settle.new.row c.settle.new.cycle) (c.rules.ensures.is ∙ gathered.1) c.settle.ensures) in
    record {
      does = does;
      right = no_compaction_finding k told.marks (book told) places c.args.row.now c.args.cycle.now c.settle.result c.settle.new.row c.settle.new.cycle does;
    }

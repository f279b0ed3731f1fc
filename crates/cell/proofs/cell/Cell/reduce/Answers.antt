use Rattle.std.proofs.Common.{◌≡◌, true, List, length, sym, ap, subst, ◌∙◌, arith}
use Rattle.graph.specs.Ready.{sound}
use Rattle.graph.specs.declared.numbered.Numbered.{Numbered}
use Rattle.cell.specs.Memory.{book}
use Rattle.cell.specs.Reduction.{Sought}
use Rattle.cell.proofs.Reductions.{reduces}
use Rattle.cell.proofs.ForceFits.{force_sound}
use Rattle.cell.proofs.NoFindings.{no_reduction_finding}
use Rattle.cell.proofs.Tables.{gathered_fits}
use Rattle.cell.proofs.cell.Cell.reduce.Goals as goal

pub new-rules-requires : goal.new-rules-requires
new-rules-requires g c = gathered_fits g.row.L g.met.L.Stored.small

pub gather-requires : goal.gather-requires
gather-requires g c = (gathered_fits g.row.L g.met.L.Stored.small, c.new-rules.ensures)

pub rules-requires : goal.rules-requires
rules-requires g c = gathered_fits g.row.L g.met.L.Stored.small

pub shorten-requires-clause-sound : goal.shorten-requires-clause-sound
shorten-requires-clause-sound g c =
    let k = g.L.Length.kind in
    let told = c.args.self.now in
    let places = g.S.Source.listing c.args.source.now in
    let gathered = c.in_ok-gather.ensures in
    let is = c.rules.ensures.is ∙ gathered.1 in
    subst (λ (rules : List (Numbered _)). sound k told.marks rules ≡ true) (sym is)
    (force_sound k told.marks g.met.L.Length.laws told.some told.few (book told) places gathered.0 (omega (arith, ap length is, c.rules.ensures.few)))

pub returns : goal.returns
returns g c =
    let k = g.L.Length.kind in
    let told = c.args.self.now in
    let places = g.S.Source.listing c.args.source.now in
    let gathered = c.in_ok-gather.ensures in
    let does = reduces k told.marks (book told) places c.args.table.now c.args.list.now gathered.0 c.if-table-self.false c.shorten.result c.shorten.new.table c.shorten.new.list
    (subst (λ (rules : List (Numbered _)). Sought k told.marks rules c.args.table.now c.args.list.now c.shorten.result c.shorten.new.table c.shorten.new.list) (c.rules.ensures.is ∙ gathered.1) c.shorten.ensures) in
    record {
      does = does;
      right = no_reduction_finding k told.marks (book told) places c.args.table.now c.args.list.now c.shorten.result c.shorten.new.table c.shorten.new.list does;
    }

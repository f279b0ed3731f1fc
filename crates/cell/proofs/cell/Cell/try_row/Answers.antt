use Rattle.std.proofs.Common.{List, sym, subst, ◌∙◌}
use Rattle.graph.specs.Trial.{Tried}
use Rattle.graph.specs.declared.numbered.Numbered.{Numbered}
use Rattle.cell.specs.Memory.{book}
use Rattle.cell.proofs.Sound.{sound_to}
use Rattle.cell.proofs.Tables.{gathered_fits}
use Rattle.cell.proofs.Trying.{answered_is, some_answer, tries}
use Rattle.cell.proofs.cell.Cell.try_row.Goals as goal

pub new-rules-requires : goal.new-rules-requires
new-rules-requires g c = gathered_fits g.row.L g.met.L.Stored.small

pub gather-requires : goal.gather-requires
gather-requires g c = (gathered_fits g.row.L g.met.L.Stored.small, c.new-rules.ensures)

pub rules-requires : goal.rules-requires
rules-requires g c = gathered_fits g.row.L g.met.L.Stored.small

pub unwrap-broken-requires : goal.unwrap-broken-requires
unwrap-broken-requires g c =
    let k = g.L.Length.kind in
    let told = c.args.self.now in
    let row = c.args.row.now in
    let gathered = c.in_ok-gather.ensures in
    some_answer k g.met.L.Length.laws told.marks (book told) (g.S.Source.listing c.args.source.now) row told.some gathered.0 c.if-row-self.false c.trial.result
    (subst (λ (rules : List (Numbered _)). Tried k told.marks rules row c.trial.result) (c.rules.ensures.is ∙ gathered.1) c.trial.ensures)

pub returns : goal.returns
returns g c =
    let k = g.L.Length.kind in
    let told = c.args.self.now in
    let row = c.args.row.now in
    let gathered = c.in_ok-gather.ensures in
    rw (c.unwrap_or.ensures, answered_is k g.met.L.Length.laws c.unwrap-broken.result)
    (tries k g.met.L.Length.laws told.marks (book told) (g.S.Source.listing c.args.source.now) row told.some gathered.0 c.if-row-self.false
    (sym c.in_default.ensures) (sound_to told.marks (book told) told.sound).tagged c.trial.result
    (subst (λ (rules : List (Numbered _)). Tried k told.marks rules row c.trial.result) (c.rules.ensures.is ∙ gathered.1) c.trial.ensures)
    c.unwrap-broken.result c.unwrap-broken.ensures)

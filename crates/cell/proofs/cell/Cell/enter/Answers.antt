use Rattle.std.proofs.Common.{◌≡◌, ◌<◌, leb, length, sym, ap, ◌∙◌, arith}
use Rattle.std.proofs.lemmas.Bool.{leb-false}
use Rattle.std.proofs.lemmas.Result.{err_from_is_err_and}
use Rattle.cell.specs.Book.{has_tag, used}
use Rattle.cell.specs.Memory.{book, memory}
use Rattle.cell.proofs.Entries.{accepted, admitted_free, admitted_new, appended, fits_joins, length_book, no_tag_not_full, refused, tag_known, turned_away, unfit, unfit_not_full, zero_tag}
use Rattle.cell.proofs.Sound.{sound_push}
use Rattle.cell.proofs.cell.Cell.enter.Goals as goal

pub returns-then-tag-eq0 : goal.returns-then-tag-eq0
returns-then-tag-eq0 g c =
    let told = c.args.self.now in
    refused g.L.Length.kind told c.args.tag c.args.rule _
    (zero_tag g.L.Length.kind told.marks (used (length (memory told))) (book told) c.args.tag c.args.rule c.if-tag-eq0.true) (λ e. absurd (no_tag_not_full e))

pub returns-in_err-check : goal.returns-in_err-check
returns-in_err-check g c =
    let told = c.args.self.now in
    let p = err_from_is_err_and c.from_residual.result c.from_residual.ensures.1 in
    rw (p.1, p.2)
    (refused g.L.Length.kind told c.args.tag c.args.rule _
    (unfit g.L.Length.kind told.marks (used (length (memory told))) (book told) c.args.tag c.args.rule _ c.if-tag-eq0.false (sym c.in_err-check.ensures)) (λ e. absurd (unfit_not_full _ e)))

pub returns-in_err-admit : goal.returns-in_err-admit
returns-in_err-admit g c =
    let told = c.args.self.now in
    let p = err_from_is_err_and c.from_residual-in_err-admit.result c.from_residual-in_err-admit.ensures.1 in
    rw (p.1, p.2)
    (turned_away g.L.Length.kind told c.args.tag c.args.rule c.if-tag-eq0.false (sym c.in_ok-check.ensures) c.is_some-known.result (leb c.used.result told.filled)
    (c.is_some-known.ensures ∙ tag_known (book told) c.args.tag c.place_of.result c.place_of.ensures) (ap (λ cap. leb cap told.filled) c.used.ensures) _ (sym c.in_err-admit.ensures))

pub append-requires : goal.append-requires
append-requires g c =
    let told = c.args.self.now in
    let known : c.is_some-known.result ≡ has_tag (book told) c.args.tag = c.is_some-known.ensures ∙ tag_known (book told) c.args.tag c.place_of.result c.place_of.ensures in
    let new = sym known ∙ admitted_new c.is_some-known.result (leb c.used.result told.filled) (sym c.in_ok-admit.ensures) in
    let free = admitted_free c.is_some-known.result (leb c.used.result told.filled) (sym c.in_ok-admit.ensures) in
    record {
      room = omega (arith, c.used.ensures, leb-false c.used.result told.filled free);
      sound =
          sound_push told.marks (book told) (record { tag = c.args.tag; rule = c.args.rule }) told.sound c.if-tag-eq0.false
          (fits_joins g.L.Length.kind told.marks c.args.rule (sym c.in_ok-check.ensures)) new;
    }

pub returns : goal.returns
returns g c =
    let told = c.args.self.now in
    let known : c.is_some-known.result ≡ has_tag (book told) c.args.tag = c.is_some-known.ensures ∙ tag_known (book told) c.args.tag c.place_of.result c.place_of.ensures in
    let new = sym known ∙ admitted_new c.is_some-known.result (leb c.used.result told.filled) (sym c.in_ok-admit.ensures) in
    let free = admitted_free c.is_some-known.result (leb c.used.result told.filled) (sym c.in_ok-admit.ensures) in
    let room : told.filled < used (length (memory told)) = omega (arith, c.used.ensures, leb-false c.used.result told.filled free) in
    appended g.L.Length.kind told c.append.new.self c.args.tag c.args.rule
    (accepted g.L.Length.kind told.marks (used (length (memory told))) (book told) c.args.tag c.args.rule c.if-tag-eq0.false (sym c.in_ok-check.ensures) new (omega (arith, length_book told)))
    new room c.append.ensures

use Rattle.std.proofs.Common.{◌≡◌, ◌+◌, List, [], ◌∷◌, ◌++◌, take, sym, ap, ◌∙◌, subst}
use Rattle.std.proofs.lemmas.List.{map_more, take_all}
use Rattle.boxes.specs.Held.{Holds, all_figures}
use Rattle.boxes.specs.Places.{TellsPairs}
use Rattle.boxes.specs.declared.layout_box.LayoutBox.{LayoutBox}
use Rattle.boxes.proofs.Holding.{held_places, pairs_told}
use Rattle.boxes.proofs.source.BoxSource.from_boxes.Goals as goal

pub loop-given-preserved : goal.loop-given-preserved
loop-given-preserved c =
    let boxes = c.args.boxes.now in
    let i = c.loop-given.given-index in
    let b : LayoutBox = c.given-item.result in
    let more : all_figures (take (i + 1) boxes) ≡ all_figures (take i boxes) ++ b.figures ∷ [] =
    map_more (λ (x : LayoutBox). x.figures) boxes i b c.loop-given-test.true
    ∙ ap (λ (x : LayoutBox). all_figures (take i boxes) ++ x.figures ∷ []) (sym c.given-item.is) in
    subst (Holds c.give.new.self c.args.factor) (sym more)
    (c.give.ensures.holds c.args.factor (all_figures (take i boxes)) c.loop-given.invariant)

pub returns : goal.returns
returns c =
    let boxes = c.args.boxes.now in
    let holds : Holds c.loop-given.source c.args.factor (all_figures boxes) =
    subst (λ (xs : List LayoutBox). Holds c.loop-given.source c.args.factor (all_figures xs))
    (take_all c.loop-given.given-index boxes c.loop-given-test.false) c.loop-given.invariant in
    let places = held_places c.loop-given.source c.args.factor (all_figures boxes) holds in
    record {
      holds = holds;
      places = places;
      pairs = subst (TellsPairs c.args.factor (all_figures boxes)) (sym places) (pairs_told c.args.factor (all_figures boxes));
    }

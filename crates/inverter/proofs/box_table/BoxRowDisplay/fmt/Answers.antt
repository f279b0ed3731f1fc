-- What is written is the row of the name and the figures that the box answers; those are the name of its layer and its figures.
use Rattle.std.proofs.Common.{rules, append_assoc, ◌≡◌, ◌∙◌, ◌-◌, ◌^◌, ◌++◌, ap, codes, ℕ, List}
use Rattle.std.proofs.Output.{has_written_append, has_written_of_eq}
use Rattle.std.specs.Fmt.{format_spec, styled_text}
use Rattle.boxes.specs.declared.figures.Figures.{Figures}
use Rattle.inverter.specs.Layers.{layer_name}
use Rattle.inverter.specs.Phrases.{right, right_signed}
use Rattle.inverter.specs.Tables.{box_row, line_end}
use Rattle.inverter.proofs.box_table.BoxRowDisplay.fmt.Goals as goal

-- The row up to the marks, and from the span on.
abbrev marks : ℕ → List ℕ → Figures → List ℕ
marks place name b =
    right 3 place ++ (codes "  " ++ (styled_text (format_spec 32 1 0 11 (2 ^ 64 - 1)) name
    ++ (codes "  " ++ (right 4 b.left ++ (codes "  " ++ right 5 b.right)))))

abbrev span : Figures → List ℕ
span b = codes "  " ++ (right_signed 6 b.bottom ++ (codes "  " ++ (right_signed 6 b.top ++ line_end)))

joined : (place : ℕ) (b : Figures) → marks place (layer_name b.layer) b ++ span b ≡ box_row place b
joined place b = simp append_assoc

pub returns-clause-writes : goal.returns-clause-writes
returns-clause-writes g c p ok =
    let place = c.args.self.now.place in
    let b = c.args.self.now.made.figures in
    let name : c.layer_name-name.result.now ≡ layer_name b.layer = c.layer_name-name.ensures ∙ ap layer_name c.layer.ensures in
    let head = marks place c.layer_name-name.result.now c.figures-figures.result in
    let tail = span c.figures-figures.result in
    let named = ap (λ n. marks place n c.figures-figures.result ++ tail) name in
    let figured = ap (λ x. marks place (layer_name b.layer) x ++ span x) c.figures-figures.ensures.value in
    has_written_of_eq _ _ (head ++ tail) _ _ (named ∙ figured ∙ joined place b)
    (has_written_append _ _ head c.write.new.self tail _ (search (rules, c.write.ensures.writes, c.in_ok-write.was)) (search (rules, c.write-2.ensures.writes)))

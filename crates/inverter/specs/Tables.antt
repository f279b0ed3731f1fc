-- Boxes, rules and what is made of them, as tables.
use Rattle.std.specs.Prelude.{ℕ, ◌-◌, ◌^◌, List, [], ◌∷◌, ◌++◌, None, Option, Some, codes, count_by, decimal, is_some, length}
use Rattle.std.specs.Fmt.{format_spec, signed_decimal, styled_text}
use Rattle.std.specs.List.{enumerate_from, flat_map, fold}
use Rattle.lengths.specs.Grid.{grid_kind}
use Rattle.lengths.specs.declared.grid.Grid.{Grid}
use Rattle.rules.specs.declared.rule.Rule.{Rule}
use Rattle.boxes.specs.Held.{source_places}
use Rattle.boxes.specs.declared.figures.Figures.{Figures}
use Rattle.boxes.specs.declared.layout_box.LayoutBox.{LayoutBox}
use Rattle.boxes.specs.declared.source.BoxSource.{BoxSource}
use Rattle.inverter.specs.Layers.{layer_name}
use Rattle.inverter.specs.Phrases.{right, right_signed, rule_columns}
use Rattle.graph.specs.declared.numbered.Numbered.{Numbered}

-- The end of a line.
abbrev pub line_end : List ℕ
line_end = 10 ∷ []

-- A box in its row: its place, its layer, its marks and its span.
abbrev pub box_row : ℕ → Figures → List ℕ
box_row place b =
    right 3 place ++ (codes "  " ++ (styled_text (format_spec 32 1 0 11 (2 ^ 64 - 1)) (layer_name b.layer)
    ++ (codes "  " ++ (right 4 b.left ++ (codes "  " ++ (right 5 b.right
    ++ (codes "  " ++ (right_signed 6 b.bottom ++ (codes "  " ++ (right_signed 6 b.top ++ line_end))))))))))

abbrev pub box_row_at : ℕ × LayoutBox → List ℕ
box_row_at p = box_row p.0 p.1.figures

abbrev pub box_rows : List LayoutBox → List ℕ
box_rows boxes = flat_map box_row_at (enumerate_from 0 boxes)

abbrev pub box_table : List LayoutBox → List ℕ
box_table boxes = codes "box  layer        left  right  bottom     top" ++ (line_end ++ box_rows boxes)

-- A rule of a source in its row, under its number.
abbrev pub rule_row : ℕ → Rule Grid → List ℕ
rule_row number r = right 6 number ++ (codes "  " ++ (right 4 r.from ++ (codes "  " ++ (right 4 r.to ++ (codes "  " ++ (right_signed 8 r.gap.steps ++ line_end))))))

abbrev pub place_row : ℕ × Option (Rule Grid) → List ℕ
place_row (number, None) = []
place_row (number, Some r) = rule_row number r

abbrev pub rule_rows : BoxSource → List ℕ
rule_rows s = flat_map place_row (enumerate_from 100_000 (source_places s))

abbrev pub rule_table : BoxSource → List ℕ
rule_table s =
    codes "rule    from    to  at least" ++ (line_end ++ (rule_rows s
    ++ (decimal (count_by is_some (source_places s)) ++ (codes " rules from the boxes" ++ line_end))))

-- A rule of a cycle, under its number.
abbrev pub cycle_row : Numbered Grid → List ℕ
cycle_row row = codes "  rule " ++ (right 6 row.number ++ (codes ": " ++ (rule_columns row.rule ++ line_end)))

-- What the gaps of rules add to, as grid lengths add.
abbrev pub sum_of_gaps : List (Numbered Grid) → Grid
sum_of_gaps rows = fold (λ sum row. grid_kind.sum sum row.rule.gap) grid_kind.zero rows

abbrev pub cycle_text : List (Numbered Grid) → List ℕ
cycle_text rows =
    flat_map cycle_row rows
    ++ (codes "  together they ask a mark to lie " ++ (signed_decimal (sum_of_gaps rows).steps ++ (codes " beyond itself" ++ line_end)))

-- A rule of a reduced list.
abbrev pub list_row : Rule Grid → List ℕ
list_row r = codes "  " ++ (rule_columns r ++ line_end)

-- A reduced list, after how many rules were reduced.
abbrev pub reduced_text : ℕ → ℕ → List (Rule Grid) → List ℕ
reduced_text entered told list =
    decimal entered ++ (codes " entered rules, " ++ (decimal told ++ (codes " of the boxes and " ++ (decimal 12 ++ (codes " of the border are reduced to "
    ++ (decimal (length list) ++ (codes ":" ++ (line_end ++ flat_map list_row list))))))))

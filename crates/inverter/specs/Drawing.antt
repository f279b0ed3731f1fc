-- A packed cell as text: its row, and its boxes drawn with ten grid steps to a column.
use Rattle.std.specs.Prelude.{ℕ, ◌-◌, ◌/◌, List, [], ◌∷◌, ◌++◌, codes, min, pos, replicate, slice_index_or, unsigned_abs}
use Rattle.std.specs.Fmt.{signed_decimal}
use Rattle.std.specs.List.{flat_map}
use Rattle.lengths.specs.Grid.{grid}
use Rattle.lengths.specs.declared.grid.Grid.{Grid}
use Rattle.boxes.specs.declared.figures.Figures.{Figures}
use Rattle.boxes.specs.declared.layout_box.LayoutBox.{LayoutBox}
use Rattle.inverter.specs.Layers.{symbol}

-- Where the marks lie, in grid steps.
abbrev pub row_text : List Grid → List ℕ
row_text row = flat_map (λ x. codes " " ++ signed_decimal x.steps) row

-- The column of a mark; columns end at 200, and a mark that the row lacks has column 0.
abbrev pub column : List Grid → ℕ → ℕ
column row mark = min (unsigned_abs (slice_index_or row mark (grid (pos 0))).steps / 10) 200

-- A box from its left mark to its right mark.
abbrev pub bar : List Grid → Figures → List ℕ
bar row b =
    let left = column row b.left in
    codes "  " ++ (replicate left 32 ++ (replicate (column row b.right - left) (symbol b.layer) ++ 10 ∷ []))

abbrev pub drawing : List Grid → List LayoutBox → List ℕ
drawing row boxes = flat_map (λ b. bar row b.figures) boxes

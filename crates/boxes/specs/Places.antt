-- The places of boxes under the lambda table: n boxes have n × n places.
use Rattle.std.specs.Prelude.{◌≡◌, ℕ, ◌+◌, ◌*◌, ◌/◌, ◌%◌, ◌<◌, ◌≤◌, Bool, cond, ◌&&◌, List, map, length, pos, Some, None, Option, ◌==◌, int_lt, nat_le, nat_lt, slice_index_or}
use Rattle.std.specs.List.{range_with_len}
use Rattle.std.specs.Option.{option_map}
use Rattle.lengths.specs.Grid.{grid}
use Rattle.lengths.specs.declared.grid.Grid.{Grid}
use Rattle.rules.specs.Rule.{minimum}
use Rattle.rules.specs.Source.{too_many}
use Rattle.rules.specs.declared.rule.Rule.{Rule}
use Rattle.boxes.specs.Lambda.{lambda_width, lambda_spacing}
use Rattle.boxes.specs.declared.figures.Figures.{Figures}

-- The most boxes that a source tells rules of.
abbrev pub box_limit : ℕ
box_limit = 90

-- Spans overlap when each bottom is below the other top.
abbrev pub overlap : Figures → Figures → Bool
overlap a b = int_lt a.bottom b.top && int_lt b.bottom a.top

-- The width rule of a box, from its left to its right mark.
abbrev pub width_rule : ℕ → Figures → Rule Grid
width_rule factor b = minimum b.left b.right (grid (pos (factor * lambda_width b.layer)))

-- The spacing rule of two boxes, from the right mark of the first to the left mark of the second: where
-- their layers have a spacing and their spans overlap.
abbrev pub spacing_rule : ℕ → Figures → Figures → Option (Rule Grid)
spacing_rule factor a b =
    cond (overlap a b)
    (option_map (λ s. minimum a.right b.left (grid (pos (factor * s)))) (lambda_spacing a.layer b.layer))
    None

-- What the place of the boxes i and j tells.
abbrev pub told : ℕ → ℕ → ℕ → Figures → Figures → Option (Rule Grid)
told factor i j a b = cond (i == j) (Some (width_rule factor a)) (cond (nat_lt i j) (spacing_rule factor a b) None)

-- Figures that stand past the last box; no place reads them.
abbrev pub blank : Figures
blank = record { layer = 0; left = 0; right = 0; bottom = pos 0; top = pos 0 }

-- Place i × n + j belongs to the boxes in the rows i and j.
abbrev pub table_place : ℕ → ℕ → List Figures → ℕ → Option (Rule Grid)
table_place factor n rows p = told factor (p / n) (p % n) (slice_index_or rows (p / n) blank) (slice_index_or rows (p % n) blank)

-- The places of the boxes in the first n rows.
abbrev pub table_places : ℕ → ℕ → List Figures → List (Option (Rule Grid))
table_places factor n rows = map (table_place factor n rows) (range_with_len 0 (n * n))

-- The places of these boxes; above 90 boxes too many.
abbrev pub box_places : ℕ → List Figures → List (Option (Rule Grid))
box_places factor boxes = cond (nat_le (length boxes) box_limit) (table_places factor (length boxes) boxes) too_many

-- With at most 90 boxes, place i × n + j tells what the boxes i and j give.
abbrev pub TellsPairs : ℕ → List Figures → List (Option (Rule Grid)) → Type 0
TellsPairs factor boxes places =
    let n = length boxes in
    (i j : ℕ) → n ≤ box_limit → i < n → j < n → slice_index_or places (i * n + j) None ≡ told factor i j (slice_index_or boxes i blank) (slice_index_or boxes j blank)

-- What a box source holds.
use Rattle.std.specs.Prelude.{◌≡◌, ℕ, ◌*◌, ◌<◌, ◌≤◌, List, map, length, take, Some, None, Option, refl}
use Rattle.std.proofs.Common.{mul-le-mul, arith}
use Rattle.std.proofs.lemmas.List.FromFn.{length-map-range_with_len}
use Rattle.std.specs.Option.{ForSome}
use Rattle.lengths.specs.declared.grid.Grid.{Grid}
use Rattle.rules.specs.Limited.{bounded_few, bounded_many}
use Rattle.rules.specs.Source.{Bounded, too_many}
use Rattle.rules.specs.declared.rule.Rule.{Rule}
use Rattle.boxes.specs.Places.{box_limit, table_place, table_places}
use Rattle.boxes.specs.declared.figures.Figures.{Figures}
use Rattle.boxes.specs.declared.layout_box.LayoutBox.{LayoutBox}
use Rattle.boxes.specs.declared.source.BoxSource.{BoxSource}

-- A source of this factor was given these boxes, in this order: it has the figures of up to 90 in its
-- first rows, and of more only that they are more.
pub record Holds (s : BoxSource) (factor : ℕ) (boxes : List Figures) : Type 0 where
  pub of : s.factor ≡ factor
  pub few : length boxes ≤ box_limit → (s.count ≡ Some (length boxes)) × (take (length boxes) s.rows ≡ boxes)
  pub many : box_limit < length boxes → s.count ≡ None

-- The figures of boxes, in their order.
abbrev pub all_figures : List LayoutBox → List Figures
all_figures boxes = map (λ b. b.figures) boxes

-- The places of so many rows, and too many where nobody counts them.
abbrev pub counted_places : ℕ → List Figures → Option ℕ → List (Option (Rule Grid))
counted_places factor rows None = too_many
counted_places factor rows (Some n) = table_places factor n rows

-- The places of a source, read off what it holds.
abbrev pub source_places : BoxSource → List (Option (Rule Grid))
source_places s = counted_places s.factor s.rows s.count

-- They keep the law of every source: 90 × 90 places are fewer than 8,192.
bounded_count : (factor : ℕ) (rows : List Figures) (count : Option ℕ) → ForSome count (λ n. n ≤ 90) → Bounded (counted_places factor rows count)
bounded_count factor rows None few = bounded_many
bounded_count factor rows (Some n) few = bounded_few _ (omega (arith, length-map-range_with_len (table_place factor n rows) 0 (n * n), mul-le-mul (few n refl) (few n refl)))

pub bounded_source : (s : BoxSource) → Bounded (source_places s)
bounded_source s = bounded_count s.factor s.rows s.count s.few

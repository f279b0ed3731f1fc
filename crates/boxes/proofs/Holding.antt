-- A source that holds boxes has the places of these boxes.
use Rattle.std.proofs.Common.{◌≡◌, ℕ, ◌+◌, ◌*◌, ◌/◌, ◌%◌, ◌<◌, ◌≤◌, leb, List, length, get_or, None, Option, sym, ap, ◌∙◌, ap₂, ⊎_elim, zero-add, arith}
use Rattle.std.proofs.lemmas.Nat.{mul-add-lt, div-mul-add, mod-mul-add}
use Rattle.std.proofs.lemmas.List.FromFn.{length-map-range_with_len, get_or-map-range_with_len}
use Rattle.std.proofs.lemmas.List.{ext_get_or, get_or-take}
use Rattle.std.proofs.lemmas.Bool.{cases_lt, cond-true, cond-false, le-leb, lt-leb}
use Rattle.lengths.specs.declared.grid.Grid.{Grid}
use Rattle.rules.specs.Source.{too_many}
use Rattle.rules.specs.declared.rule.Rule.{Rule}
use Rattle.boxes.specs.Held.{Holds, counted_places, source_places}
use Rattle.boxes.specs.Places.{blank, box_limit, box_places, table_place, table_places, told, TellsPairs}
use Rattle.boxes.specs.declared.figures.Figures.{Figures}
use Rattle.boxes.specs.declared.source.BoxSource.{BoxSource}
use Rattle.boxes.proofs.Tables.{row_below, column_below}

-- tables of rows that agree below n are equal
same_table : (factor n : ℕ) (rows boxes : List Figures) → ((i : ℕ) → i < n → get_or rows i blank ≡ get_or boxes i blank) →
    table_places factor n rows ≡ table_places factor n boxes
same_table factor n rows boxes agree =
    ext_get_or None _ _ (length-map-range_with_len (table_place factor n rows) 0 (n * n) ∙ sym (length-map-range_with_len (table_place factor n boxes) 0 (n * n)))
    (λ p h.
    let l : p < n * n = omega (arith, length-map-range_with_len (table_place factor n rows) 0 (n * n)) in
    get_or-map-range_with_len (table_place factor n rows) 0 (n * n) p p None l (zero-add p)
    ∙ ap₂ (told factor (p / n) (p % n)) (agree (p / n) (row_below p n l)) (agree (p % n) (column_below p n l))
    ∙ sym (get_or-map-range_with_len (table_place factor n boxes) 0 (n * n) p p None l (zero-add p)))

pub held_places : (s : BoxSource) (factor : ℕ) (boxes : List Figures) → Holds s factor boxes → source_places s ≡ box_places factor boxes
held_places s factor boxes h =
    ⊎_elim
    (λ (over : 90 < length boxes).
    ap (counted_places s.factor s.rows) (h.many over)
    ∙ sym (cond-false (leb (length boxes) box_limit) (table_places factor (length boxes) boxes) too_many (lt-leb (length boxes) box_limit over)))
    (λ (within : length boxes ≤ 90).
    ap (counted_places s.factor s.rows) (h.few within).0
    ∙ ap (λ f. table_places f (length boxes) s.rows) h.of
    ∙ same_table factor (length boxes) s.rows boxes (agree within)
    ∙ sym (cond-true (leb (length boxes) box_limit) (table_places factor (length boxes) boxes) too_many (le-leb (length boxes) box_limit within)))
    (cases_lt 90 (length boxes))
  where
    agree : length boxes ≤ 90 → (i : ℕ) → i < length boxes → get_or s.rows i blank ≡ get_or boxes i blank
    agree within i l =
        sym (get_or-take (length boxes) s.rows i blank l)
        ∙ ap (λ (xs : List Figures). get_or xs i blank) (h.few within).1

pub pairs_told : (factor : ℕ) (boxes : List Figures) → TellsPairs factor boxes (box_places factor boxes)
pairs_told factor boxes i j h p q =
    let n = length boxes in
    ap (λ (xs : List (Option (Rule Grid))). get_or xs (i * n + j) None) (cond-true (leb n box_limit) (table_places factor n boxes) too_many (le-leb n box_limit h))
    ∙ get_or-map-range_with_len (table_place factor n boxes) 0 (n * n) (i * n + j) (i * n + j) None (mul-add-lt i n j n p q) (zero-add (i * n + j))
    ∙ ap₂ (λ a b. told factor a b (get_or boxes a blank) (get_or boxes b blank)) (div-mul-add i n j q) (mod-mul-add i n j q)

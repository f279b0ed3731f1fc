-- The inverter: six boxes, and thirteen marks that were drawn by hand.
use Rattle.std.specs.Prelude.{ℕ, ℤ, List, [], ◌∷◌, map, pos}
use Rattle.boxes.specs.declared.figures.Figures.{Figures}

abbrev pub figures : ℕ → ℕ → ℕ → ℤ → ℤ → Figures
figures layer left right bottom top = record { layer = layer; left = left; right = right; bottom = bottom; top = top }

-- The n-well, the diffusion of the p-channel half and of the n-channel half on the left, the polysilicon gate, and the
-- two diffusions on the right.
abbrev pub inverter_figures : List Figures
inverter_figures =
    figures 0 1 2 (pos 340) (pos 800)
    ∷ figures 1 3 4 (pos 400) (pos 740)
    ∷ figures 1 5 6 (pos 60) (pos 240)
    ∷ figures 2 7 8 (pos 0) (pos 800)
    ∷ figures 1 9 10 (pos 400) (pos 740)
    ∷ figures 1 11 12 (pos 60) (pos 240)
    ∷ []

-- Where the thirteen marks were drawn, in grid steps.
abbrev pub hand_drawn_steps : List ℤ
hand_drawn_steps = map pos (0 ∷ 20 ∷ 320 ∷ 90 ∷ 130 ∷ 90 ∷ 130 ∷ 160 ∷ 180 ∷ 195 ∷ 260 ∷ 195 ∷ 260 ∷ [])

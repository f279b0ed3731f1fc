-- The layers: 0 is n-well, 1 diffusion, and 2 polysilicon, as is every number above it, which no box has.
use Rattle.std.specs.Prelude.{ℕ, cond, List, codes, ◌==◌}

abbrev pub layer_name : ℕ → List ℕ
layer_name layer = cond (layer == 0) (codes "n-well") (cond (layer == 1) (codes "diffusion") (codes "polysilicon"))

-- What a box is drawn with: n-well `-`, diffusion `#`, polysilicon `|`.
abbrev pub symbol : ℕ → ℕ
symbol layer = cond (layer == 0) 45 (cond (layer == 1) 35 124)

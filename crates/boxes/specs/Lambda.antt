-- The lambda table: layer 0 is n-well, 1 diffusion, 2 polysilicon; distances in lambdas.
use Rattle.std.specs.Prelude.{ℕ, cond, ◌&&◌, ◌||◌, Some, None, Option, ◌==◌}

-- The least width of a box: n-well 12, diffusion 4, polysilicon 2.
abbrev pub lambda_width : ℕ → ℕ
lambda_width layer = cond (layer == 0) 12 (cond (layer == 1) 4 (cond (layer == 2) 2 0))

-- The least spacing of two boxes: n-well to its own kind 12, diffusion 4, polysilicon 3, diffusion and
-- polysilicon 2 either way round, other pairs none.
abbrev pub lambda_spacing : ℕ → ℕ → Option ℕ
lambda_spacing a b =
    cond (a == 0 && b == 0) (Some 12)
    (cond (a == 1 && b == 1) (Some 4)
    (cond (a == 2 && b == 2) (Some 3)
    (cond ((a == 1 && b == 2) || (a == 2 && b == 1)) (Some 2)
    None)))

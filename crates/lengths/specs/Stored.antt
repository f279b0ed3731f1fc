-- How many bytes the values of a type take.
use Rattle.std.specs.Prelude.{ℕ, ◌+◌}
use prog.Memory.{size, align}
use mir.Raw.{raw}
use denote.Param.{layout}
use Rattle.std.specs.Borrow.{RattleType}

-- The size of a value and its alignment, added.
abbrev pub stored_bytes : RattleType → ℕ
stored_bytes T = size (raw (layout T)) + align (raw (layout T))

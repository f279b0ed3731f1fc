-- The layers by their numbers.
use Rattle.std.specs.Prelude.{ℕ, Ok, Err, Result, cond, ◌==◌}
use Rattle.boxes.specs.declared.fault.BoxFault.{BoxFault}
use Rattle.boxes.specs.declared.fault.BoxFault.TheVariants.{NoSuchLayer}
use Rattle.boxes.specs.declared.layer.Layer.{Layer}
use Rattle.boxes.specs.declared.layer.Layer.TheVariants.{NWell, Diffusion, Polysilicon}

abbrev pub layer_number : Layer → ℕ
layer_number NWell = 0
layer_number Diffusion = 1
layer_number Polysilicon = 2

-- The layer of a number; there is none above 2.
abbrev pub layer_of : ℕ → Result Layer BoxFault
layer_of n = cond (n == 0) (Ok NWell) (cond (n == 1) (Ok Diffusion) (cond (n == 2) (Ok Polysilicon) (Err NoSuchLayer)))

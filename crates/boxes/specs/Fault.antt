-- The numbers of a box's faults.
use Rattle.std.specs.Prelude.{ℕ}
use Rattle.boxes.specs.declared.fault.BoxFault.{BoxFault}
use Rattle.boxes.specs.declared.fault.BoxFault.TheVariants.{LeftNotBelowRight, BottomNotBelowTop, NoSuchLayer}

abbrev pub box_fault_number : BoxFault → ℕ
box_fault_number LeftNotBelowRight = 17
box_fault_number BottomNotBelowTop = 18
box_fault_number NoSuchLayer = 19

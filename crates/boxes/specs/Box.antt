-- Which figures make a box.
use Rattle.std.specs.Prelude.{cond, not, Ok, Err, Result, int_lt, nat_lt}
use Rattle.boxes.specs.declared.fault.BoxFault.{BoxFault}
use Rattle.boxes.specs.declared.fault.BoxFault.TheVariants.{LeftNotBelowRight, BottomNotBelowTop, NoSuchLayer}
use Rattle.boxes.specs.declared.figures.Figures.{Figures}

-- The figures themselves where they make a box, and the first cause if not.
abbrev pub box_check : Figures → Result Figures BoxFault
box_check b =
    cond (not (nat_lt b.left b.right)) (Err LeftNotBelowRight)
    (cond (not (int_lt b.bottom b.top)) (Err BottomNotBelowTop)
    (cond (nat_lt 2 b.layer) (Err NoSuchLayer)
    (Ok b)))

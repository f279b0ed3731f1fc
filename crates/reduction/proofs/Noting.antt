-- Arrays made from a function of the index, as the notes of leaders are.
use Rattle.std.proofs.Common.{◌≡◌, ℕ, zero, suc, ◌+◌, ◌<◌, ◌≤◌, List, get_or, ◌∙◌, ⊎_elim, arith}
use Rattle.std.proofs.lemmas.Bool.{cases_eq}
use Rattle.std.specs.Array.{IsFromFnResultFrom}
use Rattle.std.specs.Fn.{Called}
use denote.Param.Members.{Mut}

-- Where each call leaves the closure as it was and gives h of the index, so is each element.
pub element_is : {F B : Type 0} (g : Mut F (ℕ × Unit {0}) B) (f : F) (ys : List B) (h : ℕ → B) → ((i : ℕ) (y : B) (q : F) → Called g f (i, tt) y q → (q ≡ f) × (y ≡ h i)) →
    (i n : ℕ) → IsFromFnResultFrom g f ys i n → (k : ℕ) (e : B) → i ≤ k → k < i + n → get_or ys k e ≡ h k
element_is g f ys h each i zero r k e from to = absurd (omega arith)
element_is g f ys h each i (suc n) r k e from to =
    let one = each i r.1 r.0 r.3 in
    let rest = rw one.0 at r.4 in
    ⊎_elim (λ (q : i ≡ k). rw (← q) (r.2.1 e ∙ one.1)) (λ q. element_is g f ys h each (i + 1) n rest k e (omega arith) (omega arith)) (cases_eq i k)

-- The text of numbered items, one after the other.
use Rattle.std.proofs.Common.{◌≡◌, ◌∙◌, ◌++◌, ℕ, ◌+◌, ◌<◌, ◌≤◌, List, [], ◌∷◌, ap, length, get_or, sym, take, arith}
use Rattle.std.specs.List.{enumerate_from, flat_map}
use Rattle.std.proofs.lemmas.List.{flat_map_more, take_all, take_more}
use Rattle.std.proofs.lemmas.List.FromFn.{get_or-enumerate_from, length-enumerate_from}

-- The text of numbered items grows by the text of the next one.
pub numbered_more : {X A : Type 0} (f : ℕ × X → List A) (n : ℕ) (xs : List X) (i j : ℕ) (d : X) → i < length xs → n + i ≡ j → flat_map f (take i (enumerate_from n xs)) ++ f (j, get_or xs i d) ≡ flat_map f (take (i + 1) (enumerate_from n xs))
numbered_more f n xs i j d lt at =
    let es = enumerate_from n xs in
    let within : i < length es = omega (arith, lt, length-enumerate_from n xs) in
    let item : get_or es i (n, d) ≡ (j, get_or xs i d) = get_or-enumerate_from n xs i (n, d) lt ∙ ap (λ (m : ℕ). (m, get_or xs i d)) at in
    let next = take_more es i (n, d) within ∙ ap (λ x. take i es ++ x ∷ []) item in
    flat_map_more f [] (take i es) (j, get_or xs i d) ∙ sym (ap (flat_map f) next)

-- No more than all numbered items are taken.
pub all_numbered : {X A : Type 0} (f : ℕ × X → List A) (n : ℕ) (xs : List X) (i : ℕ) → length xs ≤ i → flat_map f (take i (enumerate_from n xs)) ≡ flat_map f (enumerate_from n xs)
all_numbered f n xs i h = ap (flat_map f) (take_all i (enumerate_from n xs) (omega (arith, h, length-enumerate_from n xs)))

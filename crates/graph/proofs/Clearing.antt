-- Rows and tables that are filled with one length, and rows with their marks at zero.
use Rattle.std.proofs.Common.{◌≡◌, ℕ, ◌+◌, ◌<◌, ◌≤◌, true, List, [], ◌∷◌, ◌++◌, length, get_or, drop, set, replicate, sym, ap, ◌∙◌, arith}
use Rattle.std.proofs.lemmas.List.{append_assoc, length-append, length-replicate, length-drop, set_at, drop_more, drop_at, replicate_more, get_or_append_left, get_or-replicate}
use Rattle.lengths.specs.Kind.{Kind, Laws}
use Rattle.graph.specs.declared.numbered.Numbered.{Numbered}
use Rattle.graph.specs.Rows.{position}
use Rattle.graph.specs.Ready.{sound}
use Rattle.graph.specs.Rounds.{Setting}
use Rattle.graph.specs.Filling.{filled}
use Rattle.graph.specs.Positions.{cleared}
use Rattle.graph.proofs.Readiness.{sound_setting}

-- One more entry is filled.
pub filled_more : {L : Type 0} (table now : List L) (i : ℕ) (x : L) → i < length table → now ≡ filled i x table → set now i x ≡ filled (i + 1) x table
filled_more {L} table now i x l is =
    let split : filled i x table ≡ replicate i x ++ get_or table i x ∷ drop (i + 1) table = ap (λ (ys : List L). replicate i x ++ ys) (drop_more table i x l) in
    ap (λ (ys : List L). set ys i x) (is ∙ split)
    ∙ set_at (replicate i x) (get_or table i x) (drop (i + 1) table) x i (length-replicate i x)
    ∙ sym (append_assoc (replicate i x) (x ∷ []) (drop (i + 1) table))
    ∙ ap (λ (ys : List L). ys ++ drop (i + 1) table) (replicate_more i x)

module _ {L : Type 0} (k : Kind L) where
  -- What lies past the marks is as it was.
  pub drop_cleared : (n : ℕ) (row : List L) → drop n (cleared k n row) ≡ drop n row
  drop_cleared n row = drop_at (replicate n k.zero) (drop n row) n (length-replicate n k.zero)

  pub length_cleared : (n : ℕ) (row : List L) → n ≤ length row → length (cleared k n row) ≡ length row
  length_cleared n row l = length-append (replicate n k.zero) (drop n row) ∙ omega (arith, length-replicate n k.zero, length-drop n row)

  pub position_cleared : (n : ℕ) (row : List L) (m : ℕ) → m < n → position k (cleared k n row) m ≡ k.zero
  position_cleared n row m l =
      get_or_append_left (replicate n k.zero) (drop n row) k.zero m (omega (arith, length-replicate n k.zero)) ∙ get_or-replicate n m k.zero k.zero l

  -- Zeros are a start for sound rules.
  pub zeros_setting : Laws k → (n : ℕ) (rules : List (Numbered L)) (row zeros : List L) → sound k n rules ≡ true → n ≤ length row → zeros ≡ cleared k n row → Setting k n rules zeros
  zeros_setting laws n rules row zeros is_sound l is =
      sound_setting k n rules zeros is_sound (omega (arith, ap length is, length_cleared n row l))
      (λ m h. omega (arith, ap (λ (ys : List L). k.measure (position k ys m)) is, ap k.measure (position_cleared n row m h), laws.measure_zero))

  -- A row that is as zeros were past the marks is cleared to zeros.
  pub cleared_again : (n : ℕ) (row zeros moved after : List L) → zeros ≡ cleared k n row → drop n moved ≡ drop n zeros → after ≡ cleared k n moved → after ≡ cleared k n row
  cleared_again n row zeros moved after is same last = last ∙ ap (λ (ys : List L). replicate n k.zero ++ ys) (same ∙ ap (drop n) is ∙ drop_cleared n row)

  -- Rows that agree past the marks are cleared to the same.
  pub cleared_same : (n : ℕ) (row start : List L) → drop n row ≡ drop n start → cleared k n row ≡ cleared k n start
  cleared_same n row start e = ap (λ (ys : List L). replicate n k.zero ++ ys) e

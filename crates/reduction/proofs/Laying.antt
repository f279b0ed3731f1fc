-- Laying rules into a list one after another.
use Rattle.std.proofs.Common.{◌≡◌, ℕ, ◌+◌, ◌-◌, ◌<◌, ◌≤◌, Bool, true, false, List, [], ◌∷◌, ◌++◌, length, get_or, take, drop, set, filter, sym, refl, ap, ◌∙◌, subst, ⊎_elim, add-one, arith}
use Rattle.std.proofs.lemmas.Bool.{cases_lt}
use Rattle.std.specs.List.{range_with_len}
use Rattle.std.proofs.lemmas.List.{append_assoc, append-nil, length-append, length-take-le, length_push, take_all, take-append-le, length-drop, drop_all, drop_more, set_at}
use Rattle.rules.specs.declared.rule.Rule.{Rule}
use Rattle.reduction.specs.declared.listing.Laying.{Laying}
use Rattle.reduction.specs.Listing.{laid, Laid, Appends}
use Rattle.reduction.specs.Laying.{Lays, Progress}

module _ {X : Type 0} where
  -- One more, where the list is full and where it has room.
  pub put_past : (x : X) (list : List X) (count : ℕ) → length list ≤ count → Appends (x ∷ []) list count list (count + 1)
  unfolding laid
  put_past x list count l ys start h =
      let same = ap length h.is in
      let counted = h.counted in
      record { counted = length_push ys x ∙ omega arith; is = h.is ∙ full ys start x (past ys start list h.is (omega arith)) }
    where
      past : (ys start list : List X) → list ≡ laid ys start → length list ≤ length ys → length start ≤ length ys
      past ys start list is l = ⊎_elim (λ (a : length ys < length start). absurd (omega (arith, ap length is, length-append (take (length start) ys) (drop (length ys) start), ap length (take_all (length start) ys (omega arith)), length-drop (length ys) start))) (λ (a : length start ≤ length ys). a) (cases_lt (length ys) (length start))

      full : (ys start : List X) (x : X) → length start ≤ length ys → laid ys start ≡ laid (ys ++ x ∷ []) start
      full ys start x l =
          ap (λ (zs : List X). take (length start) ys ++ zs) (drop_all (length ys) start l ∙ sym (drop_all (length (ys ++ x ∷ [])) start (omega (arith, length_push ys x))))
          ∙ ap (λ (zs : List X). zs ++ drop (length (ys ++ x ∷ [])) start) (sym (take-append-le (length start) ys (x ∷ []) l))

  pub put_here : (x : X) (list : List X) (count : ℕ) → count < length list → Appends (x ∷ []) list count (set list count x) (count + 1)
  unfolding laid
  put_here x list count l ys start h =
      let counted = h.counted in
      let room = inside ys start list h.is (omega arith) in
      record { counted = length_push ys x ∙ omega arith; is = ap (λ (zs : List X). set zs count x) h.is ∙ placed ys start count x h.counted room }
    where
      inside : (ys start list : List X) → list ≡ laid ys start → length ys < length list → length ys < length start
      inside ys start list is l = ⊎_elim (λ (a : length ys < length start). a) (λ (a : length start ≤ length ys). absurd (omega (arith, ap length is, length-append (take (length start) ys) (drop (length ys) start), length-take-le (length start) ys a, length-drop (length ys) start))) (cases_lt (length ys) (length start))

      placed : (ys start : List X) (count : ℕ) (x : X) → length ys ≡ count → length ys < length start → set (laid ys start) count x ≡ laid (ys ++ x ∷ []) start
      placed ys start count x e l =
          let t = take_all (length start) ys (omega arith) in
          let d = drop_more start (length ys) x l in
          let t' = take_all (length start) (ys ++ x ∷ []) (omega (arith, length_push ys x)) in
          ap (λ (zs : List X). set (zs ++ drop (length ys) start) count x) t ∙ ap (λ (zs : List X). set (ys ++ zs) count x) d
          ∙ set_at ys (get_or start (length ys) x) (drop (length ys + 1) start) x count e
          ∙ sym (ap (λ (zs : List X). zs ++ drop (length (ys ++ x ∷ [])) start) t' ∙ append_assoc ys (x ∷ []) (drop (length (ys ++ x ∷ [])) start) ∙ ap (λ (m : ℕ). ys ++ x ∷ drop m start) (length_push ys x))

  -- Laying some and then others.
  pub appends_both : (xs ys list : List X) (count : ℕ) (list' : List X) (count' : ℕ) (list'' : List X) (count'' : ℕ) → Appends xs list count list' count' → Appends ys list' count' list'' count'' → Appends (xs ++ ys) list count list'' count''
  appends_both xs ys list count list' count' list'' count'' a b zs start h = subst (λ (ws : List X). Laid ws start list'' count'') (append_assoc zs xs ys) (b (zs ++ xs) start (a zs start h))

module _ {L : Type 0} where
  -- Progress: at the start, one step on, and at the end.
  pub progress_start : (whole : List (Rule L)) (now : Laying L) → Progress whole whole now now
  progress_start whole now = record { done = []; lays = (refl, λ ys start h. subst (λ (zs : List (Rule L)). Laid zs start now.list.now now.count) (sym (append-nil ys)) h); is = refl }

  pub progress_more : {whole rest : List (Rule L)} (xs rest' : List (Rule L)) {before now : Laying L} (after : Laying L) → rest ≡ xs ++ rest' → Lays xs now after → Progress whole rest before now → Progress whole rest' before after
  progress_more {whole} {rest} xs rest' {before} {now} after e a p = record {
    done = p.done ++ xs;
    lays = (a.0 ∙ p.lays.0, appends_both p.done xs before.list.now before.count now.list.now now.count after.list.now after.count p.lays.1 a.1);
    is = append_assoc p.done xs rest' ∙ ap (λ (zs : List (Rule L)). p.done ++ zs) (sym e) ∙ p.is;
  }

  pub progress_skip : {whole rest rest' : List (Rule L)} {before now : Laying L} → rest ≡ rest' → Progress whole rest before now → Progress whole rest' before now
  progress_skip {whole} {rest} {rest'} {before} {now} e p = subst (λ (zs : List (Rule L)). Progress whole zs before now) e p

  pub progress_end : {whole rest : List (Rule L)} {before now : Laying L} → rest ≡ [] → Progress whole rest before now → Lays whole before now
  progress_end {whole} {rest} {before} {now} e p = subst (λ (zs : List (Rule L)). Lays zs before now) (sym (append-nil p.done) ∙ ap (λ (zs : List (Rule L)). p.done ++ zs) (sym e) ∙ p.is) p.lays

-- What is left of the marks.
abbrev pub left_from : (ℕ → Bool) → ℕ → ℕ → List ℕ
left_from test n i = filter test (range_with_len i (n - i))

counting_more : (n i : ℕ) → i < n → range_with_len i (n - i) ≡ i ∷ range_with_len (i + 1) (n - (i + 1))
counting_more n i l = let e : n - i ≡ (n - (i + 1)) + 1 = omega arith in ap (range_with_len i) (e ∙ add-one (n - (i + 1)))

module _ (test : ℕ → Bool) (n i : ℕ) where
  pub left_kept : i < n → test i ≡ true → left_from test n i ≡ i ∷ left_from test n (i + 1)
  left_kept l e = ap (filter test) (counting_more n i l) ∙ rw e refl

  pub left_skipped : i < n → test i ≡ false → left_from test n i ≡ left_from test n (i + 1)
  left_skipped l e = ap (filter test) (counting_more n i l) ∙ rw e refl

  pub left_none : n ≤ i → left_from test n i ≡ []
  left_none l = let e : n - i ≡ 0 = omega arith in ap (λ m. filter test (range_with_len i m)) e

-- What a withdrawal makes of a book: the last record moves into the place of the one struck.
use Rattle.std.proofs.Common.{◌≡◌, ℕ, ◌-◌, ◌<◌, ◌≤◌, true, false, ◌⊎◌, List, [], ◌∷◌, length, get_or, take, set, Some, sym, refl, ap, ◌∙◌, inl, inr, ⊎_elim, arith}
use lib.Seq.{take-set-lt}
use Rattle.std.proofs.lemmas.List.{get_or-take, get_or_default, get_or-set_same, get_or-set_other, length-set, length-take, set-get_or, set_past, take-set-le, take-take}
use Rattle.std.proofs.lemmas.Bool.{cases_eq, cases_lt}
use Rattle.cell.specs.Book.{has_tag, look_up, sound, FoundAt}
use Rattle.cell.specs.Calls.{copied}
use Rattle.cell.specs.declared.record.Record.{Record}
use Rattle.cell.proofs.Sound.{Sound, differ, rule_at, sound_from, sound_to}
use Rattle.cell.proofs.Tags.{copied_is, find_first, found_rule, no_rule, no_tag_from, no_tag_at}

-- The book without the record at place i.
abbrev pub struck : {X : Type 0} → List X → ℕ → List X
struck book i = take (length book - 1) (copied book (length book - 1) i)

module _ {X : Type 0} where
  take_set_any : (n : ℕ) (xs : List X) (i : ℕ) (x : X) → take n (set xs i x) ≡ set (take n xs) i x
  take_set_any n xs i x =
      ⊎_elim (λ (h : i < n). take-set-lt n xs i x h)
      (λ (h : n ≤ i). take-set-le n xs i x h ∙ sym (set_past (take n xs) i x (omega (arith, length-take n xs))))
      (cases_lt i n)

  pub copied_any : (xs : List X) (from to : ℕ) (d : X) → from < length xs → copied xs from to ≡ set xs to (get_or xs from d)
  copied_any xs from to d h = copied_is xs from to (get_or xs from d) h (get_or_default xs from d (get_or xs from d) h)

  -- some entry of a list that has one
  pub some_entry : (xs : List X) → 0 < length xs → X
  some_entry [] h = absurd (omega arith)
  some_entry (x ∷ xs) h = x

  -- an entry copied onto itself changes nothing
  pub copied_itself : (xs : List X) (i : ℕ) → i < length xs → copied xs i i ≡ xs
  copied_itself xs i h = let d = some_entry xs (omega arith) in copied_any xs i i d h ∙ set-get_or xs i d

  -- the first n of a memory, struck there, are the first of the memory struck
  pub struck_front : (xs : List X) (n i : ℕ) (d : X) → 0 < n → n ≤ length xs → i < n → take (n - 1) (copied xs (n - 1) i) ≡ struck (take n xs) i
  struck_front xs n i d some h l =
      let long : length (take n xs) ≡ n = omega (arith, length-take n xs) in
      let last : n - 1 < n = omega arith in
      let less : n - 1 ≤ n = omega arith in
      ap (take (n - 1)) (copied_any xs (n - 1) i d (omega arith))
      ∙ take_set_any (n - 1) xs i (get_or xs (n - 1) d)
      ∙ ap (λ ys. set ys i (get_or xs (n - 1) d)) (sym (take-take (n - 1) n xs less))
      ∙ ap (set (take (n - 1) (take n xs)) i) (sym (get_or-take n xs (n - 1) d last))
      ∙ sym (take_set_any (n - 1) (take n xs) i (get_or (take n xs) (n - 1) d))
      ∙ sym (ap (take (n - 1)) (copied_any (take n xs) (n - 1) i d (omega arith)))
      ∙ ap (λ m. take (m - 1) (copied (take n xs) (m - 1) i)) (sym long)

  pub length_struck : (book : List X) (i : ℕ) (d : X) → i < length book → length (struck book i) ≡ length book - 1
  length_struck book i d h =
      length-take (length book - 1) (copied book (length book - 1) i)
      ∙ omega (arith, ap length (copied_any book (length book - 1) i d (omega arith)), length-set book i (get_or book (length book - 1) d))

  -- where the record at a place comes from
  pub record Source (book : List X) (i k m : ℕ) : Type 0 where
    pub within : m < length book
    pub same : (d : X) → get_or (struck book i) k d ≡ get_or book m d
    pub which : ((k ≡ i) × (m ≡ length book - 1)) ⊎ ((k ≡ i → ⊥) × (m ≡ k))

  pub source : (book : List X) (i k : ℕ) → i < length book → k < length book - 1 → (m : ℕ) × Source book i k m
  source book i k h l =
      ⊎_elim
      (λ (e : k ≡ i). (
        length book - 1,
        record {
          within = omega arith;
          same = λ d. moved d ∙ ap (λ j. get_or (set book i (get_or book (length book - 1) d)) j d) e ∙ get_or-set_same book i (get_or book (length book - 1) d) d h;
          which = inl (e, refl);
        },
      ))
      (λ (ne : k ≡ i → ⊥). (
        k,
        record {
          within = omega arith;
          same = λ d. moved d ∙ get_or-set_other book i k (get_or book (length book - 1) d) d ne;
          which = inr (ne, refl);
        },
      ))
      (cases_eq k i)
    where
      moved : (d : X) → get_or (struck book i) k d ≡ get_or (set book i (get_or book (length book - 1) d)) k d
      moved d =
          get_or-take (length book - 1) (copied book (length book - 1) i) k d l
          ∙ ap (λ xs. get_or xs k d) (copied_any book (length book - 1) i d (omega arith))

module _ {L : Type 0} (n : ℕ) (book : List (Record L)) (i : ℕ) (s : Sound n book) (h : i < length book) where
  tag_of : {x y : Record L} → x ≡ y → x.tag ≡ y.tag
  tag_of = ap (λ (r : Record L). r.tag)

  from_where : (k : ℕ) (d : Record L) → k < length (struck book i) → (m : ℕ) × Source book i k m
  from_where k d l = source book i k h (omega (arith, length_struck book i d h))

  two_sources : (j k a b : ℕ) → j < k → k < length book - 1 → Source book i j a → Source book i k b → a ≡ b → ⊥
  two_sources j k a b below l p q e = omega (arith, p.which, q.which)

  not_struck : (k m : ℕ) → k < length book - 1 → Source book i k m → m ≡ i → ⊥
  not_struck k m l q e = omega (arith, q.which)

  pub sound_struck : sound n (struck book i) ≡ true
  sound_struck = sound_from n (struck book i) (record {
    tagged = λ k d l e. let q = from_where k d l in s.tagged q.0 d q.1.within (sym (tag_of (q.1.same d)) ∙ e);
    joining = λ k d l. let q = from_where k d l in rw (q.1.same d) (s.joining q.0 d q.1.within);
    apart = λ j k d below l e.
        let p = from_where j d (omega arith) in
        let q = from_where k d l in
        let long = length_struck book i d h in
        differ n book p.0 q.0 d s p.1.within q.1.within (two_sources j k p.0 q.0 below (omega arith) p.1 q.1)
        (sym (tag_of (p.1.same d)) ∙ e ∙ tag_of (q.1.same d));
  })

  -- the tag struck is gone
  pub struck_tag : (tag : ℕ) (d : Record L) → (get_or book i d).tag ≡ tag → has_tag (struck book i) tag ≡ false
  struck_tag tag d e = no_tag_from (struck book i) tag (λ k d' l same.
      let q = from_where k d' l in
      differ n book q.0 i d' s q.1.within h (not_struck k q.0 (omega (arith, length_struck book i d' h)) q.1) (sym (tag_of (q.1.same d')) ∙ same ∙ sym e ∙ tag_of (get_or_default book i d d' h)))

  -- every other record is still there
  target : (m : ℕ) → m < length book → (m ≡ i → ⊥) → (k : ℕ) × (k < length book - 1) × ((d : Record L) → get_or (struck book i) k d ≡ get_or book m d)
  target m l ne =
      ⊎_elim
      (λ (below : m < length book - 1).
      let q = source book i m h below in
      let stays : q.0 ≡ m = omega (arith, q.1.which) in
      (m, below, λ d. q.1.same d ∙ ap (λ j. get_or book j d) stays))
      (λ (end : length book - 1 ≤ m).
      let room : i < length book - 1 = omega arith in
      let q = source book i i h room in
      let moved : q.0 ≡ m = omega (arith, q.1.which) in
      (i, room, λ d. q.1.same d ∙ ap (λ j. get_or book j d) moved))
      (cases_lt m (length book - 1))

  -- every other rule is kept
  pub struck_others : (tag other : ℕ) (d : Record L) → (get_or book i d).tag ≡ tag → (other ≡ tag → ⊥) → look_up (struck book i) other ≡ look_up book other
  struck_others tag other d e ne = ⊎_elim there (λ none. no_rule (struck book i) other (gone none) ∙ sym (no_rule book other none)) (find_first book other)
    where
      gone : has_tag book other ≡ false → has_tag (struck book i) other ≡ false
      gone none = no_tag_from (struck book i) other (λ k d' l same.
          let q = from_where k d' l in
          no_tag_at book other none q.0 d' q.1.within (sym (tag_of (q.1.same d')) ∙ same))

      there : (m : ℕ) × FoundAt book other m → look_up (struck book i) other ≡ look_up book other
      there f =
          let t = target f.0 f.1.within (λ same. ne (sym (f.1.here d) ∙ ap (λ j. (get_or book j d).tag) same ∙ e)) in
          let long = length_struck book i d h in
          rule_at n (struck book i) t.0 other d (sound_to n (struck book i) sound_struck) (omega (arith, t.1)) (tag_of (t.2 d) ∙ f.1.here d)
          ∙ ap (λ (r : Record L). Some r.rule) (t.2 d)
          ∙ sym (found_rule book other f.0 d f.1)

-- the filled records stay sound when the last one moves into a freed place
pub sound_front : {L : Type 0} (n : ℕ) (xs : List (Record L)) (filled place : ℕ) → sound n (take filled xs) ≡ true → filled ≤ length xs → place < filled →
    sound n (take (filled - 1) (copied xs (filled - 1) place)) ≡ true
sound_front n xs filled place s h l =
    let d = some_entry xs (omega arith) in
    ap (sound n) (struck_front xs filled place d (omega arith) h l)
    ∙ sound_struck n (take filled xs) place (sound_to n (take filled xs) s) (omega (arith, length-take filled xs))

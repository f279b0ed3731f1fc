-- A ring, laid mark by mark.
use Rattle.std.proofs.Common.{◌≡◌, ℕ, ◌+◌, ◌-◌, ◌<◌, ◌≤◌, true, false, ◌⊎◌, List, [], ◌∷◌, Some, None, filter, Option, sym, refl, ap, ◌∙◌, inl, inr, ⊎_elim, arith}
use Rattle.std.specs.List.{range_with_len}
use Rattle.lengths.specs.Kind.{Kind}
use Rattle.reduction.specs.Reduction.{distance_rule, tied, ring_from, ring, group}
use Rattle.reduction.specs.declared.listing.Laying.{Laying}
use Rattle.reduction.specs.Laying.{Lays, Progress}
use Rattle.reduction.proofs.Laying.{progress_start, progress_more, progress_skip, progress_end, left_from, left_kept, left_skipped, left_none}

module _ {L : Type 0} (k : Kind L) (d : ℕ → ℕ → Option L) (n a : ℕ) where
  -- The ring before a mark, with the first and the last mark of the group so far: nothing yet, one mark, or more.
  abbrev pub Ringing : (mark : ℕ) (ends : Option (ℕ × ℕ)) (before now : Laying L) → Type 0
  Ringing mark None before now = Progress (ring k d (group k d n a)) (ring k d (left_from (tied k d a) n mark)) before now
  Ringing mark (Some p) before now = (p.1 < mark) × (
      ((p.0 ≡ p.1) × Progress (ring k d (group k d n a)) (ring k d (p.0 ∷ left_from (tied k d a) n mark)) before now)
      ⊎ ((p.0 < p.1) × Progress (ring k d (group k d n a)) (ring_from k d p.0 p.1 (left_from (tied k d a) n mark)) before now))

  pub ringing_start : (now : Laying L) → Ringing 0 None now now
  unfolding group
  ringing_start now =
      let e : n ≡ n - 0 = omega arith in
      progress_skip (ap (λ (m : ℕ). ring k d (filter (tied k d a) (range_with_len 0 m))) e) (progress_start (ring k d (group k d n a)) now)

  module _ (mark : ℕ) (l : mark < n) where
    -- A mark outside the group, its first mark, and a further one.
    pub ringing_skip : (ends : Option (ℕ × ℕ)) (before now : Laying L) → false ≡ tied k d a mark → Ringing mark ends before now → Ringing (mark + 1) ends before now
    ringing_skip None before now e s = progress_skip (ap (ring k d) (left_skipped (tied k d a) n mark l (sym e))) s
    ringing_skip (Some p) before now e s =
        let same = left_skipped (tied k d a) n mark l (sym e) in (
          omega (arith, s.0),
          ⊎_elim (λ q. inl (q.0, progress_skip (ap (λ (ms : List ℕ). ring k d (p.0 ∷ ms)) same) q.1))
              (λ q. inr (q.0, progress_skip (ap (ring_from k d p.0 p.1) same) q.1)) s.1,
        )

    pub ringing_first : {before now : Laying L} → true ≡ tied k d a mark → Ringing mark None before now → Ringing (mark + 1) (Some (mark, mark)) before now
    ringing_first e s = (omega arith, inl (refl, progress_skip (ap (ring k d) (left_kept (tied k d a) n mark l (sym e))) s))

    pub ringing_more : (first last : ℕ) {before : Laying L} (now after : Laying L) → true ≡ tied k d a mark → Lays (distance_rule k d last mark ∷ []) now after → Ringing mark (Some (first, last)) before now → Ringing (mark + 1) (Some (first, mark)) before after
    unfolding ring ring_from
    ringing_more first last now after e put s =
        let kept = left_kept (tied k d a) n mark l (sym e) in
        let rest = ring_from k d first mark (left_from (tied k d a) n (mark + 1)) in (
          omega arith,
          inr (⊎_elim
              (λ q. (omega (arith, q.0, s.0), progress_more (distance_rule k d last mark ∷ []) rest after (ap (λ (ms : List ℕ). ring k d (first ∷ ms)) kept ∙ ap (λ (x : ℕ). distance_rule k d x mark ∷ rest) q.0) put q.1))
              (λ q. (omega (arith, q.0, s.0), progress_more (distance_rule k d last mark ∷ []) rest after (ap (ring_from k d first last) kept) put q.1)) s.1),
        )

  module _ (mark : ℕ) (l : n ≤ mark) where
    none_left : left_from (tied k d a) n mark ≡ []
    none_left = left_none (tied k d a) n mark l

    -- The end: no mark, one mark, and more, where the ring is to be closed.
    pub ringing_none : {before now : Laying L} → Ringing mark None before now → Lays (ring k d (group k d n a)) before now
    unfolding ring
    ringing_none s = progress_end (ap (ring k d) none_left) s

    pub ringing_one : (first last : ℕ) {before now : Laying L} → first ≡ last → Ringing mark (Some (first, last)) before now → Lays (ring k d (group k d n a)) before now
    unfolding ring
    ringing_one first last e s =
        ⊎_elim (λ q. progress_end (ap (λ (ms : List ℕ). ring k d (first ∷ ms)) none_left) q.1) (λ q. absurd (omega (arith, q.0))) s.1

    pub ringing_last : (first last : ℕ) {before : Laying L} (now after : Laying L) → (first ≡ last → ⊥) → Lays (distance_rule k d last first ∷ []) now after → Ringing mark (Some (first, last)) before now → Lays (ring k d (group k d n a)) before after
    unfolding ring_from
    ringing_last first last now after ne put s =
        ⊎_elim (λ q. absurd (ne q.0))
        (λ q. progress_end refl (progress_more (distance_rule k d last first ∷ []) [] after (ap (ring_from k d first last) none_left) put q.1)) s.1

-- The state of a run between two turns, one turn on, and at the end.
use Rattle.std.proofs.Common.{◌≡◌, ℕ, ◌+◌, ◌<◌, ◌≤◌, List, [], ◌∷◌, ◌++◌, length, get_or, take, drop, set, Option, sym, refl, ap, ◌∙◌, subst, ap₂, arith, take_all}
use Rattle.std.proofs.lemmas.List.{get_or-drop, take_more, take_more_set, drop-set-lt, drop-drop, map_more}
use Rattle.lengths.specs.Kind.{Kind}
use Rattle.rules.specs.declared.rule.Rule.{Rule}
use Rattle.cell.specs.Book.{used}
use Rattle.cell.specs.Memory.{book, memory}
use Rattle.cell.specs.declared.cell.Cell.{Cell}
use Rattle.cell.specs.declared.record.Record.{Record}
use Rattle.cell.proofs.Entries.{length_book}
use Rattle.run.specs.Course.{after, after_memory, book_after, memory_after}
use Rattle.run.specs.Promise.{calls, Faithful, Performs}
use Rattle.run.specs.declared.turn.Call.{Call}
use Rattle.run.specs.declared.turn.Turn.{Turn}
use Rattle.run.proofs.BookFits.{in_force_after}
use Rattle.run.proofs.Courses.{book_more, faithful_more, length_after, memory_more}

-- What holds after the turns past, of a cell made as `made`.
abbrev pub State : {L S : Type 0} (k : Kind L) (listing : S → List (Option (Rule L))) (n : ℕ) (made cell : Cell L) (first turns : List (Turn L S)) (i : ℕ) → Type 0
State k listing n made cell first turns i =
    (cell.records.ghost_name ≡ made.records.ghost_name) × (cell.marks ≡ n) × (length (memory cell) ≡ length (memory made))
    × (drop i turns ≡ drop i first)
    × (book cell ≡ after k n (used (length (memory made))) (calls (take i first)))
    × (memory cell ≡ after_memory k n (memory made) (calls (take i first)))
    × Faithful k listing n (used (length (memory made))) [] (take i first) (take i turns)

module _ {L S : Type 0} (k : Kind L) (listing : S → List (Option (Rule L))) (n : ℕ) (made : Cell L) where
  abbrev cap : ℕ
  cap = used (length (memory made))

  module _ (cell next : Cell L) (first turns : List (Turn L S)) (i : ℕ) (t u : Turn L S) (l : i < length first) (long : length turns ≡ length first) (read : t ≡ get_or turns i t)
      (state : State k listing n made cell first turns i) (marks : next.marks ≡ cell.marks) (lent : next.records.ghost_name ≡ cell.records.ghost_name)
      (booked : book next ≡ book_after k cell.marks (used (length (memory cell))) (book cell) t.call)
      (wrote : memory next ≡ memory_after k cell.marks (memory cell) (book cell) t.call)
      (performs : Performs k listing cell.marks (used (length (memory cell))) (book cell) t u) where
    abbrev past : List (Call L)
    past = calls (take i first)

    -- the turn has not been touched yet
    untouched : t ≡ get_or first i t
    untouched =
        let plus : i + 0 ≡ i = omega arith in
        read
        ∙ ap (λ (m : ℕ). get_or turns m t) (sym plus)
        ∙ sym (get_or-drop i turns 0 t)
        ∙ ap (λ (ts : List (Turn L S)). get_or ts 0 t) state.3
        ∙ get_or-drop i first 0 t
        ∙ ap (λ (m : ℕ). get_or first m t) plus

    first_more : take (i + 1) first ≡ take i first ++ t ∷ []
    first_more = take_more first i t l ∙ ap (λ (x : Turn L S). take i first ++ x ∷ []) (sym untouched)

    calls_more : calls (take (i + 1) first) ≡ past ++ t.call ∷ []
    calls_more = map_more (λ (x : Turn L S). x.call) first i t l ∙ ap (λ (x : Turn L S). past ++ x.call ∷ []) (sym untouched)

    book_now : book next ≡ book_after k n cap (after k n cap past) t.call
    book_now =
        booked
        ∙ ap (λ (m : ℕ). book_after k m (used (length (memory cell))) (book cell) t.call) state.1
        ∙ ap (λ (m : ℕ). book_after k n (used m) (book cell) t.call) state.2
        ∙ ap (λ (b : List (Record L)). book_after k n cap b t.call) state.4

    memory_now : memory next ≡ memory_after k n (after_memory k n (memory made) past) (after k n cap past) t.call
    memory_now =
        wrote
        ∙ ap (λ (m : ℕ). memory_after k m (memory cell) (book cell) t.call) state.1
        ∙ ap₂ (λ (m b : List (Record L)). memory_after k n m b t.call) state.5 state.4

    performs_now : Performs k listing n cap (after k n cap past) t u
    performs_now =
        subst (λ (b : List (Record L)). Performs k listing n cap b t u) state.4
        (subst (λ (m : ℕ). Performs k listing n (used m) (book cell) t u) state.2
        (subst (λ (m : ℕ). Performs k listing m (used (length (memory cell))) (book cell) t u) state.1 performs))

    faithful_now : Faithful k listing n cap [] (take (i + 1) first) (take (i + 1) (set turns i u))
    faithful_now =
        subst (λ (ts : List (Turn L S)). Faithful k listing n cap [] ts (take (i + 1) (set turns i u))) (sym first_more)
        (subst (Faithful k listing n cap [] (take i first ++ t ∷ [])) (sym (take_more_set turns i u (omega (arith, l, long))))
        (faithful_more k listing n cap [] (take i first) (take i turns) t u state.6 (in_force_after k n cap past) performs_now))

    pub again : State k listing n made next first (set turns i u) (i + 1)
    again = (
      lent ∙ state.0,
      marks ∙ state.1,
      ap length wrote ∙ length_after k cell.marks (memory cell) (book cell) t.call ∙ state.2,
      drop-set-lt (i + 1) turns i u (omega arith) ∙ sym (drop-drop 1 i turns) ∙ ap (drop 1) state.3 ∙ drop-drop 1 i first,
      book_now ∙ sym (book_more k n cap [] past t.call) ∙ sym (ap (after k n cap) calls_more),
      memory_now ∙ sym (memory_more k n cap (memory made) [] past t.call refl) ∙ sym (ap (after_memory k n (memory made)) calls_more),
      faithful_now,
    )

  pub ends : (cell : Cell L) (first turns : List (Turn L S)) (i : ℕ) → length first ≤ i → length turns ≡ length first → State k listing n made cell first turns i →
      (passed : List (Record L)) → memory made ≡ passed → (back : List (Record L)) → back ≡ memory cell →
      Faithful k listing n (used (length passed)) [] first turns
      × (take (length (after k n (used (length passed)) (calls first))) back ≡ after k n (used (length passed)) (calls first))
      × (back ≡ after_memory k n passed (calls first))
  ends cell first turns i over long state passed made_is back back_is =
      let all : take i first ≡ first = take_all i first over in
      let all_turns : take i turns ≡ turns = take_all i turns (omega (arith, over, long)) in
      let book_is : book cell ≡ after k n (used (length passed)) (calls first) = state.4 ∙ ap (λ (ts : List (Turn L S)). after k n cap (calls ts)) all ∙ ap (λ (m : List (Record L)). after k n (used (length m)) (calls first)) made_is in (
        subst (λ (m : List (Record L)). Faithful k listing n (used (length m)) [] first turns) made_is
            (subst (Faithful k listing n cap [] first) all_turns (subst (λ (ts : List (Turn L S)). Faithful k listing n cap [] ts (take i turns)) all state.6)),
        ap₂ take (sym (ap length book_is) ∙ length_book cell) back_is ∙ book_is,
        back_is ∙ state.5 ∙ ap (λ (ts : List (Turn L S)). after_memory k n (memory made) (calls ts)) all ∙ ap (λ (m : List (Record L)). after_memory k n m (calls first)) made_is,
      )

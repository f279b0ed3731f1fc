-- Shortening: where closed walks have lengths of at most zero, every walk has one beside it that visits no mark twice and is at least as long.
use Rattle.std.proofs.Common.{◌≡◌, ℕ, ◌*◌, ◌<◌, ◌≤◌, true, ◌⊎◌, List, [], ◌∷◌, ◌++◌, length, sym, refl, ap, ◌∙◌, inl, inr, ⊎_elim, arith}
use Rattle.std.specs.List.{ContainsAt as Has, AllByRecursion as Every}
use Rattle.std.proofs.lemmas.List.{length-append, length-map, map-append}
use Rattle.std.proofs.ByRecursion.{all-has, All-append, All-map, All-weaker, has_append_left, has_append_right}
use Rattle.std.proofs.lemmas.Bool.{cases_eq}
use Rattle.lengths.specs.Kind.{Kind, Laws}
use Rattle.lengths.proofs.Algebra.{reflexive, monotone_left, sum_at_most_itself_left, cancel_at_most_left}
use Rattle.rules.specs.declared.rule.Rule.{Rule}
use Rattle.graph.specs.Rows.{row_limit, position, Keeps}
use Rattle.graph.specs.Paths.{Leads, Apart, left_marks, path_length, Path, Longest}
use Rattle.graph.proofs.Membership.{has_here, has_there, has_cases, has_none, has_append_cases, has_map, all_left, all_right, all_drawn, all_from_has}
use Rattle.graph.proofs.Pigeonhole.{apart_left, apart_disjoint, apart_no_longer}
use Rattle.graph.proofs.Walks.{MarksBelow, GapAtMost, walk_limit, fewer_within, measure_path_length, path_length_append, leads_below, along_walk, closed_walk}

-- The marks that a walk to j visits, in order.
abbrev pub visited_marks : {L : Type 0} → List (Rule L) → ℕ → List ℕ
visited_marks p j = left_marks p ++ (j ∷ [])

-- q is a walk from i to j of rules of p that visits no mark twice, and its length is at least that of p.
pub record Shortened {L : Type 0} (k : Kind L) (p : List (Rule L)) (i j : ℕ) (q : List (Rule L)) : Type 0 where
  pub drawn : Every (Has p) q
  pub leads : Leads i j q
  pub apart : Apart (visited_marks q j)
  pub no_more : length q ≤ length p
  pub no_shorter : k.at_most (path_length k p) (path_length k q) ≡ true

module _ {L : Type 0} where
  -- A walk that visits i splits there, or it does not visit i.
  pub cut_at : (i : ℕ) (q : List (Rule L)) (x j : ℕ) → Leads x j q → Apart (visited_marks q j) → ((a b : List (Rule L)) × (q ≡ a ++ b) × Leads x i a × Leads i j b × Apart (visited_marks b j)) ⊎ (Has (visited_marks q j) i → ⊥)
  cut_at i [] x j leads apart =
      ⊎_elim (λ e. inl ([], [], refl, leads ∙ e, sym e, apart))
      (λ ne. inr (λ h. ⊎_elim ne (has_none i) (has_cases j i [] h)))
      (cases_eq j i)
  cut_at i (r ∷ q) x j leads apart =
      ⊎_elim (λ e. inl ([], r ∷ q, refl, sym leads.0 ∙ e, (e, leads.1), apart))
      (λ ne. ⊎_elim
      (λ s. inl (r ∷ s.0, s.1, ap (λ t. r ∷ t) s.2, (leads.0, s.3), s.4, s.5))
      (λ no. inr (λ h. ⊎_elim ne no (has_cases r.from i (visited_marks q j) h)))
      (cut_at i q r.to j leads.1 apart.1))
      (cases_eq r.from i)

module _ {L : Type 0} (k : Kind L) (laws : Laws k) (n g : ℕ) (rules : List (Rule L)) (marks : Every (MarksBelow n) rules) (small : Every (GapAtMost k g) rules)
    (closed : (c : List (Rule L)) (m : ℕ) → m < n → Every (Has rules) c → length c * g ≤ walk_limit → Leads m m c → k.at_most (path_length k c) k.zero ≡ true) where
  measured : (p : List (Rule L)) → Every (Has rules) p → length p * g ≤ walk_limit → k.measure (path_length k p) ≤ walk_limit
  measured p drawn short = omega (arith, measure_path_length k laws g p (all_drawn (GapAtMost k g) rules p drawn small) short)

  -- The first rule before the shortened rest is at least as long as before the rest.
  longer_rest : (r : Rule L) (p q : List (Rule L)) (i j : ℕ) → Every (Has rules) (r ∷ p) → length (r ∷ p) * g ≤ walk_limit → Shortened k p i j q → k.at_most (path_length k (r ∷ p)) (path_length k (r ∷ q)) ≡ true
  longer_rest r p q i j drawn short s =
      let a = all-has (GapAtMost k g) rules r small drawn.0 in
      let b = measured p drawn.1 (omega arith) in
      let c = measured q (all_drawn (Has rules) p q s.drawn drawn.1) (fewer_within g (length q) (length p) s.no_more (omega arith)) in
      monotone_left k laws (path_length k p) (path_length k q) r.gap (omega arith) s.no_shorter

  -- A closed walk in front adds nothing.
  without_closed : (a b : List (Rule L)) (i : ℕ) → i < n → Every (Has rules) (a ++ b) → length (a ++ b) * g ≤ walk_limit → Leads i i a → k.at_most (path_length k (a ++ b)) (path_length k b) ≡ true
  without_closed a b i l drawn short leads =
      let counted = length-append a b in
      let drawn_a = all_left (Has rules) a b drawn in
      let drawn_b = all_right (Has rules) a b drawn in
      let within_a = fewer_within g (length a) (length (a ++ b)) (omega arith) short in
      let c = measured a drawn_a within_a in
      let d = measured b drawn_b (fewer_within g (length b) (length (a ++ b)) (omega arith) short) in
      let sums = path_length_append k laws g a b (all_drawn (GapAtMost k g) rules a drawn_a small) (all_drawn (GapAtMost k g) rules b drawn_b small) (rw (← counted) short) in
      rw sums (sum_at_most_itself_left k laws (path_length k b) (path_length k a) (omega arith) (closed a i l drawn_a within_a leads))

  cut_step : (r : Rule L) (p a b : List (Rule L)) (i j : ℕ) → i < n → Every (Has rules) (r ∷ p) → length (r ∷ p) * g ≤ walk_limit → r.from ≡ i → Shortened k p r.to j (a ++ b) → Leads r.to i a → Leads i j b → Apart (visited_marks b j) → Shortened k (r ∷ p) i j b
  cut_step r p a b i j l drawn short from s leads_a leads_b apart =
      let counted = length-append a b in
      let drawn_q = all_drawn (Has rules) p (a ++ b) s.drawn drawn.1 in
      let within = fewer_within g (length (r ∷ (a ++ b))) (length (r ∷ p)) (omega arith) short in
      let c = measured (r ∷ p) drawn short in
      let d = measured (r ∷ (a ++ b)) (drawn.0, drawn_q) within in
      let e = measured b (all_right (Has rules) a b drawn_q) (fewer_within g (length b) (length (r ∷ p)) (omega arith) short) in
      record {
        drawn = all_right (Has (r ∷ p)) a b (All-weaker (Has p) (Has (r ∷ p)) (λ x h. has_there r x p h) (a ++ b) s.drawn);
        leads = leads_b;
        apart = apart;
        no_more = omega arith;
        no_shorter = laws.transitive (path_length k (r ∷ p)) (path_length k (r ∷ (a ++ b))) (path_length k b) (omega arith)
            (longer_rest r p (a ++ b) r.to j drawn short s)
            (without_closed (r ∷ a) b i l (drawn.0, drawn_q) within (from, leads_a));
      }

  shorten_step : (r : Rule L) (p q : List (Rule L)) (i j : ℕ) → i < n → Every (Has rules) (r ∷ p) → length (r ∷ p) * g ≤ walk_limit → r.from ≡ i → Shortened k p r.to j q → (o : List (Rule L)) × Shortened k (r ∷ p) i j o
  shorten_step r p q i j l drawn short from s =
      ⊎_elim
      (λ c. (c.1, cut_step r p c.0 c.1 i j l drawn short from (rw c.2 at s) c.3 c.4 c.5))
      (λ no. (
        r ∷ q,
        record {
          drawn = (has_here r p, All-weaker (Has p) (Has (r ∷ p)) (λ x h. has_there r x p h) q s.drawn);
          leads = (from, s.leads);
          apart = (λ h. no (rw from at h), s.apart);
          no_more = omega arith;
          no_shorter = longer_rest r p q r.to j drawn short s;
        },
      ))
      (cut_at i q r.to j s.leads s.apart)

  -- Shorten what follows the first rule. If that comes back to the start, the first rule and the way back are a closed walk: leave them out.
  pub shorten : (p : List (Rule L)) (i j : ℕ) → i < n → Every (Has rules) p → length p * g ≤ walk_limit → Leads i j p → (q : List (Rule L)) × Shortened k p i j q
  shorten [] i j l drawn short leads =
      ([], record { drawn = tt; leads = leads; apart = (has_none j, tt); no_more = omega arith; no_shorter = reflexive k laws k.zero (omega arith) })
  shorten (r ∷ p) i j l drawn short leads =
      let on = shorten p r.to j (all-has (MarksBelow n) rules r marks drawn.0).1 drawn.1 (omega arith) leads.1 in
      shorten_step r p on.0 i j l drawn short leads.0 on.1

module _ {L : Type 0} (k : Kind L) (p : List (Rule L)) (i j : ℕ) (q : List (Rule L)) (s : Shortened k p i j q) where
  -- A shortened walk visits only marks that the walk visits.
  pub shortened_visits : Every (Has (visited_marks p j)) (visited_marks q j)
  shortened_visits =
      All-append (Has (visited_marks p j)) (left_marks q) (j ∷ [])
      (All-map (Has (visited_marks p j)) (λ r. r.from) q (All-weaker (Has p) (λ r. Has (visited_marks p j) r.from) (λ r h. has_append_left (left_marks p) (j ∷ []) r.from (has_map (λ (r : Rule L). r.from) p r h)) q s.drawn))
      (has_append_right (left_marks p) (j ∷ []) j (has_here j []), tt)

  -- It leaves no mark twice.
  pub shortened_once : Apart (left_marks q)
  shortened_once = apart_left (left_marks q) (j ∷ []) s.apart

  -- Among n marks it has fewer than n rules.
  pub shortened_below : (n : ℕ) → i < n → Every (MarksBelow n) p → length q < n
  shortened_below n l marks =
      let marks_q = all_drawn (MarksBelow n) p q s.drawn marks in
      let visited = All-append (λ m. m < n) (left_marks q) (j ∷ [])
      (All-map (λ m. m < n) (λ r. r.from) q (All-weaker (MarksBelow n) (λ r. r.from < n) (λ r h. h.0) q marks_q))
      (leads_below n q i j l marks_q s.leads, tt) in
      omega (arith, apart_no_longer n (visited_marks q j) s.apart visited, length-append (left_marks q) (j ∷ []), length-map q (λ (r : Rule L). r.from))

  -- It is a path.
  pub shortened_path : (n : ℕ) (rules : List (Rule L)) → i < n → Every (MarksBelow n) rules → Every (Has rules) p → Path n rules i j q
  shortened_path n rules l marks drawn = record {
    short = omega (arith, shortened_below n l (all_drawn (MarksBelow n) rules p drawn marks));
    drawn = all_drawn (Has rules) p q s.drawn drawn;
    leads = s.leads;
  }

-- The marks between the ends of a walk.
abbrev pub inner_marks : {L : Type 0} → List (Rule L) → List ℕ
inner_marks [] = []
inner_marks (r ∷ p) = left_marks p

module _ {L : Type 0} (P : ℕ → Type 0) where
  -- The marks between the ends of two joined walks are those of each, and the mark where they meet.
  pub inner_marks_append : (p q : List (Rule L)) (i x j : ℕ) → Leads i x p → Leads x j q → Every P (inner_marks p) → P x → Every P (inner_marks q) → Every P (inner_marks (p ++ q))
  inner_marks_append [] q i x j leads_p leads_q a m b = b
  inner_marks_append (r ∷ p) q i x j leads_p leads_q a m b = rw (map-append (λ (r : Rule L). r.from) p q) (All-append P (left_marks p) (left_marks q) a (left_all q leads_q b))
    where
      left_all : (o : List (Rule L)) → Leads x j o → Every P (inner_marks o) → Every P (left_marks o)
      left_all [] leads b = tt
      left_all (t ∷ o) leads b = (rw leads.0 m, b)

  -- A mark that a walk visits, and that is not one of its ends, lies between them.
  visited_inner : (p : List (Rule L)) (i j m : ℕ) → Leads i j p → Every P (inner_marks p) → Has (visited_marks p j) m → (i ≡ m → ⊥) → (j ≡ m → ⊥) → P m
  visited_inner [] i j m leads a h not_first not_last = absurd (⊎_elim not_last (has_none m) (has_cases j m [] h))
  visited_inner (r ∷ p) i j m leads a h not_first not_last =
      ⊎_elim (λ e. absurd (not_first (sym leads.0 ∙ e)))
      (λ t. ⊎_elim (λ b. all-has P (left_marks p) m a b) (λ e. absurd (⊎_elim not_last (has_none m) (has_cases j m [] e))) (has_append_cases (left_marks p) (j ∷ []) m t))
      (has_cases r.from m (visited_marks p j) h)

  -- What holds of the marks between the ends of a walk holds of those of a shortened one: it visits its ends only at its ends.
  pub shortened_inner : (k : Kind L) (p : List (Rule L)) (i j : ℕ) (q : List (Rule L)) → Shortened k p i j q → Leads i j p → Every P (inner_marks p) → Every P (inner_marks q)
  shortened_inner k p i j [] s leads a = tt
  shortened_inner k p i j (r ∷ q) s leads a =
      all_from_has P (left_marks q) (λ m h.
      visited_inner p i j m leads a
      (all-has (Has (visited_marks p j)) (visited_marks q j) m (shortened_visits k p i j (r ∷ q) s).1 (has_append_left (left_marks q) (j ∷ []) m h))
      (λ e. s.apart.0 (has_append_left (left_marks q) (j ∷ []) r.from (rw (s.leads.0, e) h)))
      (λ e. apart_disjoint (left_marks q) (j ∷ []) m s.apart.1 h (rw (← e) (has_here j []))))

module _ {L : Type 0} (k : Kind L) (laws : Laws k) (n g : ℕ) (rules : List (Rule L)) (marks : Every (MarksBelow n) rules) (small : Every (GapAtMost k g) rules)
    (row : List L) (near : (m : ℕ) → m < n → k.measure (position k row m) ≤ row_limit) (keeps : Every (Keeps k row) rules) where
  -- Where a row keeps the rules, closed walks have lengths of at most zero.
  pub closed_drawn : (c : List (Rule L)) (m : ℕ) → m < n → Every (Has rules) c → length c * g ≤ walk_limit → Leads m m c → k.at_most (path_length k c) k.zero ≡ true
  closed_drawn c m l drawn short leads =
      closed_walk k laws g n row near c m l (all_drawn (MarksBelow n) rules c drawn marks) (all_drawn (GapAtMost k g) rules c drawn small) short (all_drawn (Keeps k row) rules c drawn keeps) leads

  pub along_drawn : (p : List (Rule L)) (i j : ℕ) → i < n → Every (Has rules) p → length p * g ≤ walk_limit → Leads i j p → k.at_most (k.sum (position k row i) (path_length k p)) (position k row j) ≡ true
  along_drawn p i j l drawn short leads =
      along_walk k laws g n row near p i j l (all_drawn (MarksBelow n) rules p drawn marks) (all_drawn (GapAtMost k g) rules p drawn small) short (all_drawn (Keeps k row) rules p drawn keeps) leads

  -- Shortening, where a row keeps the rules.
  pub shorten_kept : (p : List (Rule L)) (i j : ℕ) → i < n → Every (Has rules) p → length p * g ≤ walk_limit → Leads i j p → (q : List (Rule L)) × Shortened k p i j q
  shorten_kept = shorten k laws n g rules marks small closed_drawn

  -- If the row is tight on the walk, the shortened walk has the same length: the row lets it be no longer.
  pub shortened_tight : (p : List (Rule L)) (i j : ℕ) (q : List (Rule L)) → i < n → Every (Has rules) p → length p * g ≤ walk_limit → Shortened k p i j q → position k row j ≡ k.sum (position k row i) (path_length k p) → path_length k q ≡ path_length k p
  shortened_tight p i j q l drawn short s tight =
      let drawn_q = all_drawn (Has rules) p q s.drawn drawn in
      let within = fewer_within g (length q) (length p) s.no_more short in
      let a = near i l in
      let b = measure_path_length k laws g p (all_drawn (GapAtMost k g) rules p drawn small) short in
      let c = measure_path_length k laws g q (all_drawn (GapAtMost k g) rules q drawn_q small) within in
      let along = rw tight at (along_drawn q i j l drawn_q within s.leads) in
      laws.antisymmetric (path_length k q) (path_length k p) (omega arith) (cancel_at_most_left k laws (path_length k q) (path_length k p) (position k row i) (omega arith) along) s.no_shorter

  -- The length of a walk on which the row is tight is the longest: a longer path would lead beyond the row's position.
  pub tight_longest : (p : List (Rule L)) (i j : ℕ) → i < n → n * g ≤ walk_limit → Every (Has rules) p → length p * g ≤ walk_limit → Leads i j p → position k row j ≡ k.sum (position k row i) (path_length k p) → Longest k n rules i j (path_length k p)
  tight_longest p i j l few drawn short leads tight =
      let s = shorten_kept p i j l drawn short leads in
      record {
        path = s.0;
        is_path = shortened_path k p i j s.0 s.1 n rules l marks drawn;
        length_is = shortened_tight p i j s.0 l drawn short s.1 tight;
        most = λ q path.
            let within = fewer_within g (length q) n path.short few in
            let a = near i l in
            let b = measure_path_length k laws g p (all_drawn (GapAtMost k g) rules p drawn small) short in
            let c = measure_path_length k laws g q (all_drawn (GapAtMost k g) rules q path.drawn small) within in
            cancel_at_most_left k laws (path_length k q) (path_length k p) (position k row i) (omega arith) (rw tight at (along_drawn q i j l path.drawn within path.leads));
      }

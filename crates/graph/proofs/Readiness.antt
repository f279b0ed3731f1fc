-- What readiness says of marks, rules and row, and how the tests go through a list.
use Rattle.std.proofs.Common.{◌≡◌, ℕ, ◌<◌, ◌≤◌, Bool, true, false, cond, not, ◌&&◌, eqb, ltb, leb, List, [], ◌∷◌, length, get_or, take, Some, None, Option, unwrap_or, is_ok, Ok, Err, Result, IsSome, sym, refl, ap, subst, arith}
use Rattle.std.specs.List.{AllByRecursion as Every}
use Rattle.std.proofs.lemmas.List.{get_or_read, get_or-take, length-take-le}
use Rattle.std.proofs.ByRecursion.{All-get_or}
use Rattle.std.proofs.lemmas.Bool.{both_ways, and_parts, and_from, leb-true, ltb-true, ltb-false, eqb-false, le-leb}
use Rattle.lengths.specs.Kind.{Kind}
use Rattle.rules.specs.Rule.{rule_check, gap_limit}
use Rattle.rules.specs.declared.fault.RuleFault.{RuleFault}
use Rattle.rules.specs.declared.fault.RuleFault.TheVariants.{NoSuchMark, SameMark, GapTooLarge}
use Rattle.rules.specs.declared.rule.Rule.{Rule}
use Rattle.graph.specs.declared.numbered.Numbered.{Numbered}
use Rattle.graph.specs.Rows.{position}
use Rattle.graph.specs.Listed.{rule_at, numbered_at, blank}
use Rattle.graph.specs.Ready.{all_fit, all_near, start_limit, sound, ready, showable}
use Rattle.graph.specs.Rounds.{Fitting, Setting, last_of}

-- The check of a rule, by its four tests.
abbrev checked : Bool → Bool → Bool → Bool → Result (Unit {0}) RuleFault
checked a b c d = cond (not (a && b)) (Err NoSuchMark) (cond c (Err SameMark) (cond d (Err GapTooLarge) (Ok tt)))

module _ {L : Type 0} (k : Kind L) where
  -- A rule that passes the check fits.
  pub fitting_rule : (n : ℕ) (r : Rule L) → is_ok (rule_check k n r) ≡ true → Fitting k n r
  fitting_rule n r h = go (ltb r.from n) (ltb r.to n) (eqb r.from r.to) (ltb gap_limit (k.measure r.gap)) refl refl refl refl h
    where
      go : (a b c d : Bool) → ltb r.from n ≡ a → ltb r.to n ≡ b → eqb r.from r.to ≡ c → ltb gap_limit (k.measure r.gap) ≡ d →
          is_ok (checked a b c d) ≡ true → Fitting k n r
      go true true false false ea eb ec ed h = record { from_below = ltb-true r.from n ea; to_below = ltb-true r.to n eb; apart = eqb-false r.from r.to ec; small = ltb-false gap_limit (k.measure r.gap) ed }
      go true true true d ea eb ec ed h = absurd (both_ways _ refl h)
      go true true false true ea eb ec ed h = absurd (both_ways _ refl h)
      go true false c d ea eb ec ed h = absurd (both_ways _ refl h)
      go false b c d ea eb ec ed h = absurd (both_ways _ refl h)

  all_fitting : (n : ℕ) (rules : List (Numbered L)) → all_fit k n rules ≡ true → Every (λ q. Fitting k n q.rule) rules
  all_fitting n [] h = tt
  all_fitting n (q ∷ rules) h = let parts = and_parts (is_ok (rule_check k n q.rule)) (all_fit k n rules) h in (fitting_rule n q.rule parts.0, all_fitting n rules parts.1)

  near_entries : (row : List L) → all_near k row ≡ true → Every (λ x. k.measure x ≤ start_limit) row
  near_entries [] h = tt
  near_entries (x ∷ row) h = let parts = and_parts (leb (k.measure x) start_limit) (all_near k row) h in (leb-true (k.measure x) start_limit parts.0, near_entries row parts.1)

  -- What soundness says.
  pub sound_parts : (n : ℕ) (rules : List (Numbered L)) → sound k n rules ≡ true → (1 ≤ n) × (n ≤ 256) × (length rules ≤ 12543) × ((i : ℕ) → i < length rules → Fitting k n (rule_at k rules i))
  sound_parts n rules h =
      let a = and_parts (leb 1 n) (leb n 256 && (leb (length rules) 12543 && all_fit k n rules)) h in
      let b = and_parts (leb n 256) (leb (length rules) 12543 && all_fit k n rules) a.1 in
      let c = and_parts (leb (length rules) 12543) (all_fit k n rules) b.1 in (
        leb-true 1 n a.0,
        leb-true n 256 b.0,
        leb-true (length rules) 12543 c.0,
        λ i l. All-get_or (λ (q : Numbered L). Fitting k n q.rule) rules i (blank k) l (all_fitting n rules c.1),
      )

  pub sound_setting : (n : ℕ) (rules : List (Numbered L)) (start : List L) → sound k n rules ≡ true → n ≤ length start → ((m : ℕ) → m < n → k.measure (position k start m) ≤ start_limit) → Setting k n rules start
  sound_setting n rules start s long near = let parts = sound_parts n rules s in record { few_marks = parts.1; few_rules = parts.2; fitting = parts.3; long = long; near = near }

  pub showable_from : (n : ℕ) (rules : List (Numbered L)) (row : List L) (list : List ℕ) → sound k n rules ≡ true → n ≤ length row → n ≤ length list → showable k n rules row list ≡ true
  showable_from n rules row list s a b =
      and_from (sound k n rules) (leb n (length row) && leb n (length list)) s (and_from (leb n (length row)) (leb n (length list)) (le-leb n (length row) a) (le-leb n (length list) b))

  -- What readiness says.
  pub ready_parts : (n : ℕ) (rules : List (Numbered L)) (row : List L) → ready k n rules row ≡ true → (sound k n rules ≡ true) × (n ≤ length row) × Setting k n rules row
  ready_parts n rules row h =
      let a = and_parts (sound k n rules) (leb n (length row) && all_near k (take n row)) h in
      let b = and_parts (leb n (length row)) (all_near k (take n row)) a.1 in
      let long = leb-true n (length row) b.0 in (
        a.0,
        long,
        sound_setting n rules row a.0 long
            (λ m l. rw (get_or-take n row m k.zero l) at (All-get_or (λ (x : L). k.measure x ≤ start_limit) (take n row) m k.zero (omega (arith, length-take-le n row long)) (near_entries (take n row) b.1))),
      )

-- The last rule of a mark, as it is read.
pub last_read : {L : Type 0} (k : Kind L) (rules : List (Numbered L)) (last : List (Option ℕ)) (at i : ℕ) → get_or last at None ≡ Some i → last_of k rules last at ≡ i
last_read k rules last at i read = ap (λ (o : Option ℕ). unwrap_or o (length rules)) read

pub last_none : {L : Type 0} (k : Kind L) (rules : List (Numbered L)) (last : List (Option ℕ)) (at : ℕ) → get_or last at None ≡ None → length rules ≤ last_of k rules last at
last_none k rules last at read = omega (arith, ap (λ (o : Option ℕ). unwrap_or o (length rules)) read)

pub last_some : {L : Type 0} (k : Kind L) (rules : List (Numbered L)) (last : List (Option ℕ)) (at : ℕ) → last_of k rules last at < length rules → IsSome (get_or last at None)
last_some k rules last at raised = go (get_or last at None) raised
  where
    go : (o : Option ℕ) → unwrap_or o (length rules) < length rules → IsSome o
    go None l = absurd (omega arith)
    go (Some i) l = refl

-- The numbered rule read at an index.
pub numbered_read : {L : Type 0} (k : Kind L) (rules : List (Numbered L)) (i : ℕ) (q : Numbered L) → i < length rules → q ≡ get_or rules i q → q ≡ numbered_at k rules i
numbered_read k rules i q l is = get_or_read rules i q l is (blank k)

-- Its marks are among the n.
pub read_inside : {L : Type 0} (k : Kind L) (n : ℕ) (rules : List (Numbered L)) → sound k n rules ≡ true → (i : ℕ) (q : Numbered L) → i < length rules → q ≡ get_or rules i q → (q.rule.from < n) × (q.rule.to < n)
read_inside {L} k n rules is_sound i q l is =
    let fits = (sound_parts k n rules is_sound).3 i l in
    subst (λ (x : Numbered L). (x.rule.from < n) × (x.rule.to < n)) (sym (numbered_read k rules i q l is)) (fits.from_below, fits.to_below)

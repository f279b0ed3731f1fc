-- Distances: a mark's distance to itself is zero, the triangle inequality, and the gaps below them.
use Rattle.std.proofs.Common.{◌≡◌, ℕ, ◌*◌, ◌<◌, ◌≤◌, true, ◌⊎◌, List, [], ◌∷◌, ◌++◌, length, Some, None, Option, refl, ap, ◌∙◌, inl, inr, ⊎_elim, arith}
use Rattle.std.specs.List.{ContainsAt as Has, AllByRecursion as Every}
use Rattle.std.proofs.lemmas.List.{length-append}
use Rattle.std.proofs.ByRecursion.{all-has, All-append, All-weaker}
use Rattle.lengths.specs.Kind.{Kind, Laws}
use Rattle.rules.specs.declared.rule.Rule.{Rule}
use Rattle.graph.specs.Rows.{row_limit, position, Keeps, Placement}
use Rattle.graph.specs.Paths.{path_length, Path}
use Rattle.graph.specs.Rivals.{rival_limit}
use Rattle.graph.specs.Distances.{Distances}
use Rattle.graph.proofs.Membership.{all_drawn}
use Rattle.graph.proofs.Walks.{MarksBelow, GapAtMost, walk_limit, measure_path_length, path_length_append, leads_append}
use Rattle.graph.proofs.Shortening.{closed_drawn, shorten_kept, shortened_path}

-- The largest measure of a path of at most 256 rules with gaps up to the rivals' limit.
abbrev pub distance_limit : ℕ
distance_limit = 256_000_000_000

-- The largest measure of the lengths of the row that shows the rules to be consistent.
abbrev pub near_limit : ℕ
near_limit = 512_000_000

-- Rules between n marks with gaps of measure at most g, kept by a row of small measures.
pub record Consistent {L : Type 0} (k : Kind L) (n g : ℕ) (rules : List (Rule L)) : Type 0 where
  pub some_marks : 1 ≤ n
  pub few_marks : n ≤ 256
  pub marks : Every (MarksBelow n) rules
  pub small : Every (GapAtMost k g) rules
  pub row : List L
  pub long : n ≤ length row
  pub border : position k row 0 ≡ k.zero
  pub near : (m : ℕ) → m < n → k.measure (position k row m) ≤ near_limit
  pub keeps : Every (Keeps k row) rules

-- Larger gaps may be allowed.
pub consistent_wider : {L : Type 0} (k : Kind L) (n g h : ℕ) (rules : List (Rule L)) → g ≤ h → Consistent k n g rules → Consistent k n h rules
consistent_wider k n g h rules l c = record {
  some_marks = c.some_marks;
  few_marks = c.few_marks;
  marks = c.marks;
  small = All-weaker (GapAtMost k g) (GapAtMost k h) (λ r s. omega arith) rules c.small;
  row = c.row;
  long = c.long;
  border = c.border;
  near = c.near;
  keeps = c.keeps;
}

-- The row of consistent rules is a placement of them.
pub consistent_placement : {L : Type 0} (k : Kind L) (n g : ℕ) (rules : List (Rule L)) (c : Consistent k n g rules) → Placement k n rules c.row
consistent_placement k n g rules c = record {
  is_row = record { long = c.long; border = c.border; near = λ m l. omega (arith, c.near m l) };
  keeps = c.keeps;
}

-- What the distances share with any lengths between marks that obey the triangle inequality.
pub record Metric {L : Type 0} (k : Kind L) (n : ℕ) (d : ℕ → ℕ → Option L) : Type 0 where
  pub measured : (i j : ℕ) → i < n → j < n → (x : L) → d i j ≡ Some x → k.measure x ≤ distance_limit
  pub itself : (i : ℕ) → i < n → d i i ≡ Some k.zero
  pub triangle : (i x j : ℕ) → i < n → x < n → j < n → (a b : L) → d i x ≡ Some a → d x j ≡ Some b → (c : L) × (d i j ≡ Some c) × (k.at_most (k.sum a b) c ≡ true)

-- The sum of at most n gaps of at most a thousand million stays within the limit.
few_gaps : (a n : ℕ) → a ≤ n → n ≤ 256 → a * rival_limit ≤ distance_limit
few_gaps a n l h = omega arith

-- A length is there or not.
pub cases_option : {L : Type 0} (o : Option L) → ((x : L) × (o ≡ Some x)) ⊎ (o ≡ None)
cases_option None = inr refl
cases_option (Some x) = inl (x, refl)

module _ {L : Type 0} (k : Kind L) (laws : Laws k) (n : ℕ) (rules : List (Rule L)) (d : ℕ → ℕ → Option L)
    (c : Consistent k n rival_limit rules) (dist : Distances k n rules d) where
  -- A path's length.
  pub measure_path : (i j : ℕ) (p : List (Rule L)) → Path n rules i j p → k.measure (path_length k p) ≤ distance_limit
  measure_path i j p path =
      let few = c.few_marks in
      let short = path.short in
      let within = few_gaps (length p) n short few in
      omega (arith, measure_path_length k laws rival_limit p (all_drawn (GapAtMost k rival_limit) rules p path.drawn c.small) (omega arith))

  pub distance_measured : (i j : ℕ) → i < n → j < n → (x : L) → d i j ≡ Some x → k.measure x ≤ distance_limit
  distance_measured i j l m x e =
      let s = dist.longest i j l m x e in
      rw s.length_is at (measure_path i j s.path s.is_path)

  -- A path's length is at most the distance, which exists.
  pub path_within : (i j : ℕ) → i < n → j < n → (p : List (Rule L)) → Path n rules i j p → (x : L) × (d i j ≡ Some x) × (k.at_most (path_length k p) x ≡ true)
  path_within i j l m p path =
      ⊎_elim (λ s. (s.0, s.1, (dist.longest i j l m s.0 s.1).most p path))
      (λ e. absurd (dist.no_path i j l m e p path))
      (cases_option (d i j))

  row_near : (m : ℕ) → m < n → k.measure (position k c.row m) ≤ row_limit
  row_near m l = omega (arith, c.near m l)

  -- The empty path says that the distance is at least zero, and closed walks have lengths of at most zero.
  pub distance_itself : (i : ℕ) → i < n → d i i ≡ Some k.zero
  distance_itself i l =
      let w = path_within i i l l [] (record { short = omega arith; drawn = tt; leads = refl }) in
      let s = dist.longest i i l l w.0 w.1 in
      let few = c.few_marks in
      let short = s.is_path.short in
      let within = few_gaps (length s.path) n short few in
      let measured = distance_measured i i l l w.0 w.1 in
      let closed = rw s.length_is at (closed_drawn k laws n rival_limit rules c.marks c.small c.row row_near c.keeps s.path i l s.is_path.drawn (omega arith) s.is_path.leads) in
      w.1 ∙ ap Some (laws.antisymmetric w.0 k.zero (omega (arith, laws.measure_zero)) closed w.2)

  -- Join the two longest paths and shorten: the distance is at least that path's length.
  pub distance_triangle : (i x j : ℕ) → i < n → x < n → j < n → (a b : L) → d i x ≡ Some a → d x j ≡ Some b → (y : L) × (d i j ≡ Some y) × (k.at_most (k.sum a b) y ≡ true)
  distance_triangle i x j li lx lj a b ea eb =
      let s = dist.longest i x li lx a ea in
      let t = dist.longest x j lx lj b eb in
      let few = c.few_marks in
      let short_s = few_gaps (length s.path) n s.is_path.short few in
      let short_t = few_gaps (length t.path) n t.is_path.short few in
      let both = s.path ++ t.path in
      let drawn = All-append (Has rules) s.path t.path s.is_path.drawn t.is_path.drawn in
      let within : length both * rival_limit ≤ walk_limit = rw (length-append s.path t.path) (omega arith) in
      let sums = path_length_append k laws rival_limit s.path t.path (all_drawn (GapAtMost k rival_limit) rules s.path s.is_path.drawn c.small) (all_drawn (GapAtMost k rival_limit) rules t.path t.is_path.drawn c.small) (omega arith) in
      let o = shorten_kept k laws n rival_limit rules c.marks c.small c.row row_near c.keeps both i j li drawn within (leads_append s.path t.path i x j s.is_path.leads t.is_path.leads) in
      let path_o = shortened_path k both i j o.0 o.1 n rules li c.marks drawn in
      let w = path_within i j li lj o.0 path_o in
      let ma = distance_measured i x li lx a ea in
      let mb = distance_measured x j lx lj b eb in
      let mo = measure_path i j o.0 path_o in
      let mw = distance_measured i j li lj w.0 w.1 in
      let sum_is : path_length k both ≡ k.sum a b = sums ∙ ap (λ u. k.sum u (path_length k t.path)) s.length_is ∙ ap (k.sum a) t.length_is in
      let first : k.at_most (k.sum a b) (path_length k o.0) ≡ true = rw sum_is at o.1.no_shorter in
      (w.0, w.1, laws.transitive (k.sum a b) (path_length k o.0) w.0 (omega arith) first w.2)

  pub distances_metric : Metric k n d
  distances_metric = record { measured = distance_measured; itself = distance_itself; triangle = distance_triangle }

  -- Each rule is a path of one, so its gap is at most the distance between its marks.
  pub gap_within : (r : Rule L) → Has rules r → (x : L) × (d r.from r.to ≡ Some x) × (k.at_most r.gap x ≡ true)
  gap_within r h =
      let below = all-has (MarksBelow n) rules r c.marks h in
      let some = c.some_marks in
      let w = path_within r.from r.to below.0 below.1 (r ∷ []) (record { short = omega arith; drawn = (h, tt); leads = (refl, refl) }) in
      let small = all-has (GapAtMost k rival_limit) rules r c.small h in
      (w.0, w.1, rw (laws.unit r.gap (omega arith)) at w.2)

-- Tied marks, and marks through which a distance runs.
use Rattle.std.proofs.Common.{◌≡◌, ℕ, ◌+◌, ◌<◌, ◌≤◌, true, Some, Option, sym, ap, ◌∙◌, arith}
use Rattle.lengths.specs.Kind.{Kind, Laws, reach}
use Rattle.lengths.proofs.Algebra.{unit_left, monotone_left, exchange_middle, cancel, cancel_left}
use Rattle.graph.proofs.Distances.{Metric}

-- Marks i and j are tied: both distances exist and add to zero.
pub record Tied {L : Type 0} (k : Kind L) (d : ℕ → ℕ → Option L) (i j : ℕ) : Type 0 where
  pub there : L
  pub back : L
  pub there_is : d i j ≡ Some there
  pub back_is : d j i ≡ Some back
  pub closes : k.sum there back ≡ k.zero

-- The distance from a to b runs through c: the distances from a to c and from c to b exist and add up to it.
pub record Through {L : Type 0} (k : Kind L) (d : ℕ → ℕ → Option L) (a c b : ℕ) : Type 0 where
  pub first : L
  pub last : L
  pub whole : L
  pub first_is : d a c ≡ Some first
  pub last_is : d c b ≡ Some last
  pub whole_is : d a b ≡ Some whole
  pub adds : k.sum first last ≡ whole

-- One distance is one length.
pub same_length : {L : Type 0} (o : Option L) (x y : L) → o ≡ Some x → o ≡ Some y → x ≡ y
same_length o x y p q = cc

module _ {L : Type 0} (k : Kind L) (laws : Laws k) where
  -- Going there and back and then on is going on.
  pub there_and_back : (a b c : L) → k.measure a + k.measure b + k.measure c ≤ reach → k.sum a b ≡ k.zero → k.sum a (k.sum b c) ≡ c
  there_and_back a b c h e = sym (laws.associative a b c h) ∙ ap (λ u. k.sum u c) e ∙ unit_left k laws c (omega arith)

  pub on_and_back : (a b c : L) → k.measure a + k.measure b + k.measure c ≤ reach → k.sum a b ≡ k.zero → k.sum (k.sum c a) b ≡ c
  on_and_back a b c h e = laws.associative c a b (omega arith) ∙ ap (k.sum c) e ∙ laws.unit c (omega arith)

  pub two_ties : (a b u v : L) → k.measure a + k.measure b + k.measure u + k.measure v ≤ reach → k.sum a b ≡ k.zero → k.sum u v ≡ k.zero → k.sum (k.sum a u) (k.sum v b) ≡ k.zero
  two_ties a b u v h p q =
      ap (k.sum (k.sum a u)) (laws.commutative v b (omega arith)) ∙ exchange_middle k laws a u b v (omega arith)
      ∙ ap (λ w. k.sum w (k.sum u v)) p ∙ ap (k.sum k.zero) q ∙ laws.unit k.zero (omega (arith, laws.measure_zero))

module _ {L : Type 0} (k : Kind L) (laws : Laws k) (n : ℕ) (d : ℕ → ℕ → Option L) (m : Metric k n d) where
  -- By the triangle inequality a distance that is at most the two together runs through the third mark.
  pub through_when : (a c b : ℕ) → a < n → c < n → b < n → (u v w : L) → d a c ≡ Some u → d c b ≡ Some v → d a b ≡ Some w → k.at_most w (k.sum u v) ≡ true → Through k d a c b
  through_when a c b la lc lb u v w eu ev ew h =
      let t = m.triangle a c b la lc lb u v eu ev in
      let same = same_length (d a b) t.0 w t.1 ew in
      let mu = m.measured a c la lc u eu in
      let mv = m.measured c b lc lb v ev in
      let mw = m.measured a b la lb w ew in
      record { first = u; last = v; whole = w; first_is = eu; last_is = ev; whole_is = ew; adds = laws.antisymmetric (k.sum u v) w (omega arith) (rw same at t.2) h }

  -- Marks are tied when the way there and back is at least zero, since it is never more.
  pub tied_when : (i j : ℕ) → i < n → j < n → (x y : L) → d i j ≡ Some x → d j i ≡ Some y → k.at_most k.zero (k.sum x y) ≡ true → Tied k d i j
  tied_when i j li lj x y ex ey h =
      let t = through_when i j i li lj li x y k.zero ex ey (m.itself i li) h in
      record {
        there = x;
        back = y;
        there_is = ex;
        back_is = ey;
        closes = ap (λ u. k.sum u y) (same_length (d i j) x t.first ex t.first_is) ∙ ap (k.sum t.first) (same_length (d j i) y t.last ey t.last_is) ∙ t.adds ∙ same_length (d i i) t.whole k.zero t.whole_is (m.itself i li);
      }

  -- Tied is an equivalence.
  pub tied_itself : (i : ℕ) → i < n → Tied k d i i
  tied_itself i l = record { there = k.zero; back = k.zero; there_is = m.itself i l; back_is = m.itself i l; closes = laws.unit k.zero (omega (arith, laws.measure_zero)) }

  pub tied_turned : (i j : ℕ) → i < n → j < n → Tied k d i j → Tied k d j i
  tied_turned i j li lj t =
      let mx = m.measured i j li lj t.there t.there_is in
      let my = m.measured j i lj li t.back t.back_is in
      record { there = t.back; back = t.there; there_is = t.back_is; back_is = t.there_is; closes = laws.commutative t.back t.there (omega arith) ∙ t.closes }

  -- Distances run through every mark tied to one of their ends.
  pub through_first : (i x j : ℕ) → i < n → x < n → j < n → Tied k d i x → (b : L) → d x j ≡ Some b → Through k d i x j
  through_first i x j li lx lj t b eb =
      let a = t.there in
      let on = m.triangle i x j li lx lj a b t.there_is eb in
      let c = on.0 in
      let off = m.triangle x i j lx li lj t.back c t.back_is on.1 in
      let ma = m.measured i x li lx a t.there_is in
      let ma' = m.measured x i lx li t.back t.back_is in
      let mb = m.measured x j lx lj b eb in
      let mc = m.measured i j li lj c on.1 in
      let under : k.at_most (k.sum t.back c) b ≡ true = rw (same_length (d x j) off.0 b off.1 eb) at off.2 in
      let more = monotone_left k laws (k.sum t.back c) b a (omega arith) under in
      through_when i x j li lx lj a b c t.there_is eb on.1 (rw (there_and_back k laws a t.back c (omega arith) t.closes) at more)

  pub through_last : (i x j : ℕ) → i < n → x < n → j < n → Tied k d x j → (a : L) → d i x ≡ Some a → Through k d i x j
  through_last i x j li lx lj t a ea =
      let b = t.there in
      let on = m.triangle i x j li lx lj a b ea t.there_is in
      let c = on.0 in
      let off = m.triangle i j x li lj lx c t.back on.1 t.back_is in
      let mb = m.measured x j lx lj b t.there_is in
      let mb' = m.measured j x lj lx t.back t.back_is in
      let ma = m.measured i x li lx a ea in
      let mc = m.measured i j li lj c on.1 in
      let under : k.at_most (k.sum c t.back) a ≡ true = rw (same_length (d i x) off.0 a off.1 ea) at off.2 in
      let more = laws.monotone (k.sum c t.back) a b (omega arith) under in
      through_when i x j li lx lj a b c ea t.there_is on.1 (rw (on_and_back k laws t.back b c (omega arith) (laws.commutative t.back b (omega arith) ∙ t.closes)) at more)

  pub tied_joined : (i x j : ℕ) → i < n → x < n → j < n → Tied k d i x → Tied k d x j → Tied k d i j
  tied_joined i x j li lx lj s t =
      let u = through_first i x j li lx lj s t.there t.there_is in
      let v = through_first j x i lj lx li (tied_turned x j lx lj t) s.back s.back_is in
      let ms = m.measured i x li lx s.there s.there_is in
      let ms' = m.measured x i lx li s.back s.back_is in
      let mt = m.measured x j lx lj t.there t.there_is in
      let mt' = m.measured j x lj lx t.back t.back_is in
      let e₁ = same_length (d i x) u.first s.there u.first_is s.there_is in
      let e₂ = same_length (d x j) u.last t.there u.last_is t.there_is in
      let e₃ = same_length (d j x) v.first t.back v.first_is t.back_is in
      let e₄ = same_length (d x i) v.last s.back v.last_is s.back_is in
      let zero = two_ties k laws s.there s.back t.there t.back (omega arith) s.closes t.closes in
      let u_adds = u.adds in
      let v_adds = v.adds in
      record { there = u.whole; back = v.whole; there_is = u.whole_is; back_is = v.whole_is; closes = cc }

  -- A mark through which the distance between two tied marks runs is tied to them.
  pub tied_between : (u w v : ℕ) → u < n → w < n → v < n → Tied k d u v → Through k d u w v → Tied k d u w
  tied_between u w v lu lw lv t s =
      let on = m.triangle w v u lw lv lu s.last t.back s.last_is t.back_is in
      let m₁ = m.measured u w lu lw s.first s.first_is in
      let m₂ = m.measured w v lw lv s.last s.last_is in
      let m₃ = m.measured v u lv lu t.back t.back_is in
      let m₄ = m.measured w u lw lu on.0 on.1 in
      let around : k.sum s.first (k.sum s.last t.back) ≡ k.zero =
      sym (laws.associative s.first s.last t.back (omega arith)) ∙ ap (λ z. k.sum z t.back) (s.adds ∙ same_length (d u v) s.whole t.there s.whole_is t.there_is) ∙ t.closes in
      tied_when u w lu lw s.first on.0 s.first_is on.1 (rw around at (monotone_left k laws (k.sum s.last t.back) on.0 s.first (omega arith) on.2))

  -- A distance that runs through y runs through the marks tied to y.
  pub through_tied : (a y c b : ℕ) → a < n → y < n → c < n → b < n → Through k d a y b → Tied k d y c → Through k d a c b
  through_tied a y c b la ly lc lb s t =
      let u = through_last a y c la ly lc t s.first s.first_is in
      let v = through_first c y b lc ly lb (tied_turned y c ly lc t) s.last s.last_is in
      let e₁ = same_length (d a y) u.first s.first u.first_is s.first_is in
      let e₂ = same_length (d y c) u.last t.there u.last_is t.there_is in
      let e₃ = same_length (d c y) v.first t.back v.first_is t.back_is in
      let e₄ = same_length (d y b) v.last s.last v.last_is s.last_is in
      let m₁ = m.measured a y la ly s.first s.first_is in
      let m₂ = m.measured y c ly lc t.there t.there_is in
      let m₃ = m.measured c y lc ly t.back t.back_is in
      let m₄ = m.measured y b ly lb s.last s.last_is in
      let f₁ = laws.associative s.first t.there (k.sum t.back s.last) (omega arith) in
      let f₂ = there_and_back k laws t.there t.back s.last (omega arith) t.closes in
      let u_adds = u.adds in
      let v_adds = v.adds in
      let s_adds = s.adds in
      record { first = u.whole; last = v.whole; whole = s.whole; first_is = u.whole_is; last_is = v.whole_is; whole_is = s.whole_is; adds = cc }

  -- If the distance from a to c runs through b and that from a to b through c, then b and c are tied.
  pub tied_last : (a b c : ℕ) → a < n → b < n → c < n → Through k d a b c → Through k d a c b → Tied k d b c
  tied_last a b c la lb lc s t =
      let m₁ = m.measured a b la lb s.first s.first_is in
      let m₂ = m.measured b c lb lc s.last s.last_is in
      let m₃ = m.measured c b lc lb t.last t.last_is in
      let e₁ = same_length (d a c) s.whole t.first s.whole_is t.first_is in
      let e₂ = same_length (d a b) t.whole s.first t.whole_is s.first_is in
      let f = laws.associative s.first s.last t.last (omega arith) in
      let g = laws.unit s.first (omega arith) in
      let s_adds = s.adds in
      let t_adds = t.adds in
      record {
        there = s.last;
        back = t.last;
        there_is = s.last_is;
        back_is = t.last_is;
        closes = cancel_left k laws (k.sum s.last t.last) k.zero s.first (omega (arith, laws.measure_zero)) (cc);
      }

  pub tied_first : (c a b : ℕ) → c < n → a < n → b < n → Through k d c a b → Through k d a c b → Tied k d a c
  tied_first c a b lc la lb s t =
      let m₁ = m.measured a c la lc t.first t.first_is in
      let m₂ = m.measured c a lc la s.first s.first_is in
      let m₃ = m.measured a b la lb s.last s.last_is in
      let e₁ = same_length (d c b) s.whole t.last s.whole_is t.last_is in
      let e₂ = same_length (d a b) t.whole s.last t.whole_is s.last_is in
      let f = laws.associative t.first s.first s.last (omega arith) in
      let g = unit_left k laws s.last (omega arith) in
      let s_adds = s.adds in
      let t_adds = t.adds in
      record {
        there = t.first;
        back = s.first;
        there_is = t.first_is;
        back_is = s.first_is;
        closes = cancel k laws (k.sum t.first s.first) k.zero s.last (omega (arith, laws.measure_zero)) (cc);
      }

  -- What the way to a mark between runs through, the whole way runs through.
  pub through_early : (a x c b : ℕ) → a < n → x < n → c < n → b < n → Through k d a x c → Through k d a c b → Through k d a x b
  through_early a x c b la lx lc lb s t =
      let on = m.triangle x c b lx lc lb s.last t.last s.last_is t.last_is in
      let m₁ = m.measured a x la lx s.first s.first_is in
      let m₂ = m.measured x c lx lc s.last s.last_is in
      let m₃ = m.measured c b lc lb t.last t.last_is in
      let m₄ = m.measured x b lx lb on.0 on.1 in
      let e = same_length (d a c) s.whole t.first s.whole_is t.first_is in
      let f = laws.associative s.first s.last t.last (omega arith) in
      let s_adds = s.adds in
      let t_adds = t.adds in
      let regrouped : k.sum s.first (k.sum s.last t.last) ≡ t.whole = cc in
      through_when a x b la lx lb s.first on.0 t.whole s.first_is on.1 t.whole_is
      (rw regrouped at (monotone_left k laws (k.sum s.last t.last) on.0 s.first (omega arith) on.2))

  pub through_late : (a c x b : ℕ) → a < n → c < n → x < n → b < n → Through k d c x b → Through k d a c b → Through k d a x b
  through_late a c x b la lc lx lb s t =
      let on = m.triangle a c x la lc lx t.first s.first t.first_is s.first_is in
      let m₁ = m.measured a c la lc t.first t.first_is in
      let m₂ = m.measured c x lc lx s.first s.first_is in
      let m₃ = m.measured x b lx lb s.last s.last_is in
      let m₄ = m.measured a x la lx on.0 on.1 in
      let e = same_length (d c b) s.whole t.last s.whole_is t.last_is in
      let f = laws.associative t.first s.first s.last (omega arith) in
      let s_adds = s.adds in
      let t_adds = t.adds in
      let regrouped : k.sum (k.sum t.first s.first) s.last ≡ t.whole = cc in
      through_when a x b la lx lb on.0 s.last t.whole on.1 s.last_is t.whole_is
      (rw regrouped at (laws.monotone (k.sum t.first s.first) on.0 s.last (omega arith) on.2))

-- The book: the rules entered and not withdrawn, with their tags. It follows from the calls alone.
use Rattle.std.specs.Prelude.{◌≡◌, ℕ, ◌<◌, min, Bool, true, false, cond, not, ◌&&◌, ◌||◌, List, [], ◌∷◌, length, take, Some, None, Option, ◌==◌, ◌≢◌, nat_lt, slice_index_or}
use Rattle.std.specs.List.{HoldsAt}
use Rattle.rules.specs.declared.rule.Rule.{Rule}
use Rattle.cell.specs.declared.record.Record.{Record}

-- How many of the records passed are used: the first 4,096, or all if there are fewer.
abbrev pub used : ℕ → ℕ
used passed = min passed 4096

module _ {L : Type 0} where
  -- Whether a rule joins two different marks below n.
  abbrev pub joins : ℕ → Rule L → Bool
  joins n r = nat_lt r.from n && nat_lt r.to n && not (r.from == r.to)

  -- Whether a tag is in the book.
  abbrev pub has_tag : List (Record L) → ℕ → Bool
  has_tag [] tag = false
  has_tag (r ∷ book) tag = r.tag == tag || has_tag book tag

  -- The rule under a tag, or nothing.
  abbrev pub look_up : List (Record L) → ℕ → Option (Rule L)
  look_up [] tag = None
  look_up (r ∷ book) tag = cond (r.tag == tag) (Some r.rule) (look_up book tag)

  -- No tag stands twice in the book.
  abbrev pub Once : List (Record L) → Type 0
  Once book = (i j : ℕ) (d : Record L) → i < j → j < length book → (slice_index_or book i d).tag ≢ (slice_index_or book j d).tag

  -- Tags are not 0 and no tag stands twice, and every rule joins two different marks below n.
  abbrev pub sound : ℕ → List (Record L) → Bool
  sound n [] = true
  sound n (r ∷ book) = not (r.tag == 0) && joins n r.rule && not (has_tag book r.tag) && sound n book

  -- Place i of the book is the first under the tag.
  pub record FoundAt (book : List (Record L)) (tag i : ℕ) : Type 0 where
    pub within : i < length book
    pub first : has_tag (take i book) tag ≡ false
    pub here : HoldsAt (λ r. r.tag ≡ tag) book i

-- From the end of the rounds to the answers.
use Rattle.std.proofs.Common.{◌≡◌, ℕ, ◌≤◌, true, List, ◌++◌, length, drop, Some, None, Ok, Err, refl, ◌∙◌}
use Rattle.lengths.specs.Kind.{Kind, Laws}
use Rattle.graph.specs.declared.chain.ClosedChain.{ClosedChain}
use Rattle.graph.specs.declared.numbered.Numbered.{Numbered}
use Rattle.graph.specs.declared.positions.PackingFault.TheVariants.{OverConstrained}
use Rattle.graph.specs.Listed.{plain}
use Rattle.graph.specs.Ready.{sound, ready}
use Rattle.graph.specs.Rounds.{Setting}
use Rattle.graph.specs.Chains.{chain}
use Rattle.graph.specs.Outcome.{Settles, Closed}
use Rattle.graph.specs.Positions.{cleared, Positioned}
use Rattle.graph.specs.Cycles.{numbers, Shows}
use Rattle.graph.proofs.Readiness.{ready_parts, showable_from}
use Rattle.graph.proofs.Clearing.{zeros_setting, cleared_again, cleared_same}
use Rattle.graph.proofs.Following.{chain_length}
use Rattle.graph.proofs.Ending.{settles_no_cycle}

module _ {L : Type 0} (k : Kind L) (laws : Laws k) (n : ℕ) (rules : List (Numbered L)) where
  -- The answers of positions.
  module _ (start row : List L) (is_ready : ready k n rules start ≡ true) where
    pub setting : Setting k n rules start
    setting = (ready_parts k n rules start is_ready).2

    pub answer_settled : Settles k n rules start row → Positioned k n rules start (Ok tt) row
    answer_settled settles = (is_ready, settles, settles_no_cycle k n rules start setting laws row settles)

    pub answer_over : (c : ClosedChain) (after : List L) → Closed k n rules start row c → after ≡ cleared k n row → Positioned k n rules start (Err OverConstrained) after
    answer_over c after closed is =
        (is_ready, (c.mark, plain (chain k n rules c.last c.count c.mark), closed.shows.positive), is ∙ cleared_same k n row start closed.beyond)

  -- The answers of the search for a cycle, which starts from zeros.
  module _ (row : List L) (list : List ℕ) (zeros moved : List L) (is_sound : sound k n rules ≡ true) (long : n ≤ length row) (room : n ≤ length list) (is_zeros : zeros ≡ cleared k n row) where
    pub from_zeros : Setting k n rules zeros
    from_zeros = zeros_setting k laws n rules row zeros is_sound long is_zeros

    pub answer_feasible : (after : List L) → Settles k n rules zeros moved → after ≡ cleared k n moved → Shows k n rules row list (Ok None) after list
    answer_feasible after settles is =
        (showable_from k n rules row list is_sound long room, cleared_again k n row zeros moved after is_zeros settles.beyond is, refl, settles_no_cycle k n rules zeros from_zeros laws moved settles)

    pub answer_cycle : (c : ClosedChain) (after : List L) (list' : List ℕ) → Closed k n rules zeros moved c → after ≡ cleared k n moved →
        list' ≡ numbers (chain k n rules c.last c.count c.mark) ++ drop c.count list → Shows k n rules row list (Ok (Some c.count)) after list'
    answer_cycle c after list' closed is written = (
      showable_from k n rules row list is_sound long room,
      cleared_again k n row zeros moved after is_zeros closed.beyond is,
      record { mark = c.mark; cycle = chain k n rules c.last c.count c.mark; shows = closed.shows; counted = chain_length k n rules c.last c.count c.mark; listed = written },
    )

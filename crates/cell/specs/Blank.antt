-- What fills a rule memory before a rule is entered.
use Rattle.lengths.specs.Kind.{Kind}
use Rattle.rules.specs.Rule.{minimum}
use Rattle.cell.specs.declared.record.Record.{Record}

-- No tag, and a rule from mark 0 to itself.
abbrev pub blank : {L : Type 0} → Kind L → Record L
blank k = record { tag = 0; rule = minimum 0 0 k.zero }

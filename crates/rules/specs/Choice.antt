-- A source of one of two makes keeps the law of a source, since both makes do.
use Rattle.std.specs.Prelude.{List, Option}
use Rattle.either.specs.Either.{either}
use Rattle.either.specs.declared.Either.{Either}
use Rattle.either.specs.declared.Either.TheVariants.{Left, Right}
use Rattle.rules.specs.Source.{Bounded}

module _ {R S T : Type 0} (left : S → List (Option R)) (right : T → List (Option R)) where
  pub either_bounded : ((s : S) → Bounded (left s)) → ((t : T) → Bounded (right t)) → (e : Either S T) → Bounded (either left right e)
  either_bounded keeps keeps' (Left s) = keeps s
  either_bounded keeps keeps' (Right t) = keeps' t

-- What a parser makes of the bytes, without those that it leaves.
use Rattle.std.specs.Prelude.{List, ℕ}
use Rattle.definitions.specs.Basics.{Outcome, given, when_given}
use Rattle.definitions.specs.Bytes.{Parser}

unfoldable pub outcome : {A : Type 0} → Parser A → List ℕ → Outcome A
outcome p s = when_given (p s) (λ t. given t.value)

-- What is found for refusal 8, from its test.
use mathlib.Core.Path.{◌≡◌, sym, ap}
use mathlib.Core.Bool.{true, false, not, false≢true}
use mathlib.Core.List.{List}
use Prim.Native.Nat.{ℕ}
use Rattle.data_relations.specs.Sets.{AnchorSets}
use Rattle.definitions.specs.Answers.{closes_circle}
use Rattle.definitions.specs.Links.{Edge}
use Rattle.order_forward.specs.Sorting.{Sorting}

module _ {n : ℕ} {g : List Edge} {sets : List ℕ} where
  -- Forward edges close a circle; and they close none.
  pub sorting_circle : closes_circle n g ≡ true → Sorting n g sets false
  sorting_circle h = record { passes = ap not (sym h); found = λ t. absurd (false≢true t) }

  pub sorting_sets : closes_circle n g ≡ false → AnchorSets n g sets → Sorting n g sets true
  sorting_sets h anchors = record { passes = ap not (sym h); found = λ t. anchors }

-- Judging by 8, 10 and 11 alone, and what the test of 11 is given.
use Rattle.std.specs.Prelude.{◌≡◌, List, ℕ}
use Rattle.definitions.specs.Answers.{closes_circle, infeasible, inconsistent}
use Rattle.definitions.specs.Basics.{Outcome, given, refuse_if}
use Rattle.definitions.specs.Links.{Edge, members}
use Rattle.data_relations.specs.Sets.{AnchorSets}
use Rattle.judge_edges.specs.Analysis.{judge_order}
use Rattle.theory.specs.Graphs.{Shape}

unfoldable pub judge_possible : ℕ → List Edge → Outcome (Unit {0})
judge_possible n g = refuse_if (closes_circle n g) 8 (refuse_if (infeasible n g) 10 (refuse_if (inconsistent n g) 11 (given tt)))

-- Edges that pass 8, with their anchor sets, whatever their leasts.
pub record Passing (n : ℕ) (g : List Edge) (sets : List ℕ) : Type 0 where
  pub shape : Shape n (members g)
  pub anchors : AnchorSets n g sets
  pub passes : judge_order n g ≡ given tt

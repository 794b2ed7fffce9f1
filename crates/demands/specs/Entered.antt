-- The planner without request L3: the links and edges are those of the records, and 9 has its place behind 8. All else is worked out from the steps and the edges, by definitions that request L3 left alone.
use Rattle.std.specs.Prelude.{Bool, cond, not, ◌&&◌, List, ℕ}
use Rattle.definitions.specs.Basics.{any_below, Outcome, given, refuse_if}
use Rattle.definitions.specs.Bytes.{Records}
use Rattle.definitions.specs.Links.{Edge, constraints, edges, forwards}
use Rattle.definitions.specs.Rounds.{reaches}
use Rattle.definitions.specs.Waits.{needs_waits}
use Rattle.definitions.specs.Answers.{closes_circle, infeasible, inconsistent, unserializable}

-- The edges of a sheet's records.
abbrev pub sent_edges : Records → List Edge
sent_edges q = edges q.steps (constraints q.pairs)

-- "9. A step has no forward chain from step 0."
unfoldable pub unreached : ℕ → List Edge → Bool
unreached n es = any_below (λ v. not (reaches n (forwards es) 0 v)) n

unfoldable pub judge_with_9 : ℕ → (ℕ → ℕ) → List Edge → Bool → Outcome ℕ
judge_with_9 n least es allow =
    refuse_if (closes_circle n es) 8
    (refuse_if (unreached n es) 9
    (refuse_if (infeasible n es) 10
    (refuse_if (inconsistent n es) 11
    (refuse_if (unserializable n least es) 28
    (refuse_if (needs_waits n es && not allow) 12
    (given (cond (needs_waits n es) 1 0)))))))

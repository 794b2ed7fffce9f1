-- What the analysis of a sheet's edges finds: the verdict, what reaches what, and the waits.
use Rattle.std.specs.Prelude.{◌≡◌, Bool, true, false, cond, not, ◌&&◌, ◌↔◌, List, ℕ, ◌≤◌, length, replicate}
use Rattle.definitions.specs.Numbers.{Verdict, verdict_of}
use Rattle.definitions.specs.Answers.{closes_circle, infeasible, inconsistent, unserializable, judge_edges}
use Rattle.definitions.specs.Basics.{Outcome, given, refused, refuse_if}
use Rattle.definitions.specs.Limits.{most_edges, most_steps}
use Rattle.definitions.specs.Links.{Edge, members}
use Rattle.definitions.specs.Waits.{wait_maps, wait_count, needs_waits}
use Rattle.data_relations.specs.Sets.{AnchorSets}
use Rattle.theory.specs.Graphs.{SheetGraph}
use Rattle.judge_waits.specs.Reaching.{Reaches}
use Rattle.judge_edges.specs.declared.Found.{Found}

-- What is lent for what reaches what and for the waits, blank; and with an order, to be filled.
pub record BlankRows (reach maps : List ℕ) : Type 0 where
  pub no_reach : reach ≡ replicate 64 0
  pub no_maps : maps ≡ replicate 64 0

pub record Lent (order reach maps : List ℕ) : Type 0 where
  pub long : length order ≡ 64
  pub rows : BlankRows reach maps

-- Judging in parts: 8, with 10, and from 11 on.
unfoldable pub judge_order : ℕ → List Edge → Outcome (Unit {0})
judge_order n g = refuse_if (closes_circle n g) 8 (given tt)

unfoldable pub judge_first : ℕ → List Edge → Outcome (Unit {0})
judge_first n g = refuse_if (closes_circle n g) 8 (refuse_if (infeasible n g) 10 (given tt))

unfoldable pub judge_waits : ℕ → List Edge → Bool → Outcome ℕ
judge_waits n g allow = refuse_if (needs_waits n g && not allow) 12 (given (cond (needs_waits n g) 1 0))

unfoldable pub judge_serial : ℕ → (ℕ → ℕ) → List Edge → Bool → Outcome ℕ
judge_serial n least g allow = refuse_if (unserializable n least g) 28 (judge_waits n g allow)

unfoldable pub judge_rest : ℕ → (ℕ → ℕ) → List Edge → Bool → Outcome ℕ
judge_rest n least g allow = refuse_if (inconsistent n g) 11 (judge_serial n least g allow)

-- An answer that lists nothing; one that lists as many waits as are counted.
pub record NoneListed (sorted : Bool) (r : Found) : Type 0 where
  pub none : r.count ≡ 0
  pub sorts : r.sorted ≡ sorted

pub record WaitsCounted (count : ℕ) (allow : Bool) (r : Found) : Type 0 where
  pub sorts : r.sorted ≡ true
  pub counts : r.count ≡ count
  pub judges : (n : ℕ) (g : List Edge) → count ≡ wait_count n g → verdict_of r.verdict ≡ judge_waits n g allow

-- Edges that pass 8, with their anchor sets.
pub record Rooting (n : ℕ) (least : ℕ → ℕ) (g : List Edge) (sets : List ℕ) : Type 0 where
  pub sheet : SheetGraph n least (members g)
  pub anchors : AnchorSets n g sets
  pub passes : judge_order n g ≡ given tt

-- The verdict, by a way of judging, and the waits with their count: where it refuses though waits are allowed, none are listed.
pub record Listed (n : ℕ) (g : List Edge) (judge : Bool → Outcome ℕ) (allow : Bool) (verdict : Verdict) (maps : List ℕ) (count : ℕ) : Type 0 where
  pub judges : verdict_of verdict ≡ judge allow
  pub found : (v : ℕ) → judge true ≡ given v → (maps ≡ wait_maps n g) × (count ≡ wait_count n g)
  pub blank : (k : ℕ) → judge true ≡ refused k → (maps ≡ replicate 64 0) × (count ≡ 0)

-- The analysis from 11 on, of edges that pass 8.
pub record Unweighed (n : ℕ) (least : ℕ → ℕ) (g : List Edge) (allow : Bool) (verdict : Verdict) (reach maps : List ℕ) (count : ℕ) : Type 0 where
  pub long : length reach ≡ 64
  pub reaches : Reaches n g reach
  pub serialized : judge_first n g ≡ given tt → Listed n g (judge_rest n least g) allow verdict maps count

-- The whole with 10 left out: what is listed counts where 8 refuses, and where 10 does not. Of what reaches what nothing is said where 8 refuses.
pub record Presumed (n : ℕ) (least : ℕ → ℕ) (g : List Edge) (allow sorted : Bool) (verdict : Verdict) (reach maps : List ℕ) (count : ℕ) : Type 0 where
  pub sorts : (sorted ≡ true) ↔ (judge_order n g ≡ given tt)
  pub long : sorted ≡ true → length reach ≡ 64
  pub reaches : sorted ≡ true → Reaches n g reach
  pub unsorted : sorted ≡ false → Listed n g (judge_edges n least g) allow verdict maps count
  pub feasible : judge_first n g ≡ given tt → Listed n g (judge_edges n least g) allow verdict maps count

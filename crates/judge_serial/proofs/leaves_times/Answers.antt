-- `judge_serial::leaves_times` meets its contract: edges that can be scheduled pass 10, and the source's column is tried.
use Prim.Native.Nat.{ℕ, ◌≤◌}
use native.Mathlib.Omega.{arith}
use mathlib.Core.Bool.{Bool, true}
use mathlib.Core.Path.{◌≡◌, ap, sym, ◌∙◌}
use mathlib.Core.List.{List}
use lib.Dec.{eqb}
use lib.IntN.{ℤ}
use lib.ListN.{replicate}
use borrow.Author.Tests.{eqb-false, eqb-true}
use Rattle.definitions.specs.Basics.{all}
use Rattle.definitions.specs.Limits.{most_steps}
use Rattle.definitions.specs.Links.{Edge, members}
use Rattle.definitions.specs.Rounds.{entry}
use Rattle.definitions.specs.Waits.{serialized, wait_maps}
use Rattle.data_edges.specs.Serial.{leasts_in}
use Rattle.data_edges.specs.Words.{graph}
use Rattle.data_edges.proofs.Places.{ends_below_64}
use Rattle.walk_cells.specs.Tables.{Square, said}
use Rattle.walk_cells.proofs.Tables.{read_says}
use Rattle.walk_heaviest.specs.Settling.{Found}
use Rattle.walk_heaviest.proofs.Bare.{blank_found, empty_found}
use Rattle.laws.proofs.Bools.{both_ways}
use Rattle.walk_settled.specs.Settled.{handed_on}
use Rattle.theory.specs.Graphs.{SheetLeasts, Well}
use Rattle.theory.proofs.Feasibility.{stable_nonpositive_iff}
use Rattle.judge_serial.proofs.Trying.{Offsets, edges_waited, first_column, maps_within, settled_feasible, sole_source, untried_infeasible, walks_offsets}
use Rattle.judge_serial.proofs.leaves_times.Goals as goal

-- The first column of the table that is found holds the source's offsets over the edges and the waits.
offsets : {n : ℕ} {es maps number : List ℕ} {least : ℕ → ℕ} {d d' : List (List ℤ)} {r : Bool} → n ≤ most_steps → Found n es least maps (replicate 64 1) number d d' r → r ≡ true
    → Well n (members (graph es)) → SheetLeasts least (members (graph es)) → maps ≡ wait_maps n (graph es) → Offsets n (serialized n least (graph es)) (replicate 64 1) (said d')
offsets {number = number} {least = least} {d' = d'} few F found well leasts waits =
    walks_offsets least few well.shape waits (replicate 64 1) (said d')
    (λ within. first_column number d' few (F.first 0 well.some (sole_source 0 (omega arith))) (F.cells found within leasts))

pub walks_if_possible-requires : goal.walks_if_possible-requires
walks_if_possible-requires c =
    record { some = c.requires.some; few = c.requires.few; inside = omega arith; bare = empty_found 64; blank = blank_found; ends = λ k b. omega (arith, ends_below_64 c.args.es.words.now k b) }

pub returns-then-not-walks_if_possible : goal.returns-then-not-walks_if_possible
returns-then-not-walks_if_possible c = λ well gains leasts waits no_circle.
    let told = c.walks_if_possible.ensures.told well.shape well.rooted gains leasts (λ v b. sole_source v (omega arith)) in
    absurd (both_ways (told ∙ (stable_nonpositive_iff well.some well.shape well.rooted).1 well.never) c.if-not-walks_if_possible.true)

pub returns-then-is_none : goal.returns-then-is_none
returns-then-is_none c = λ well gains leasts waits no_circle.
    let w = c.walks_if_possible in
    let square : Square 64 w.new.d = w.ensures.square in
    let told : c.is_none.result ≡ eqb (entry (said w.new.d) 0 0) 0 = rw (read_says w.new.d square {v = 0} {k = 0} (omega arith) (omega arith) c.is_none-arg-1.given) at c.is_none.ensures in
    let none = eqb-true (entry (said w.new.d) 0 0) 0 (sym told ∙ c.if-is_none.true) in
    let found = offsets c.requires.few w.ensures c.if-not-walks_if_possible.false well leasts waits in
    untried_infeasible (leasts_in c.args.leasts.now) c.requires.few well gains leasts.leasts no_circle (said w.new.d) found (λ T. omega (arith, T.source, none))

pub returns : goal.returns
returns c = λ well gains leasts waits no_circle.
    let w = c.walks_if_possible in
    let least = leasts_in c.args.leasts.now in
    let few = c.requires.few in
    let square : Square 64 w.new.d = w.ensures.square in
    let told : c.is_none.result ≡ eqb (entry (said w.new.d) 0 0) 0 = rw (read_says w.new.d square {v = 0} {k = 0} (omega arith) (omega arith) c.is_none-arg-1.given) at c.is_none.ensures in
    let some = eqb-false (entry (said w.new.d) 0 0) 0 (sym told ∙ c.if-is_none.false) in
    let found = offsets few w.ensures c.if-not-walks_if_possible.false well leasts waits in
    c.settled.ensures (maps_within least few well.shape waits)
    ∙ ap (λ (l : List Edge). all (handed_on (said w.new.d)) l) (edges_waited least few well.shape waits)
    ∙ settled_feasible least few well gains leasts.leasts no_circle (said w.new.d) found (omega (arith, some))

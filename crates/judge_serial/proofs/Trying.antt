-- Trying the source's column of the working table. A column in which every edge has handed on shows that no closed walk is above 0; and where none is, the table holds the offsets, and these are settled.
use mathlib.Core.Path.{◌≡◌, ap, refl, subst, sym, ◌∙◌}
use mathlib.Core.Bool.{Bool, true, false, not, ◌||◌}
use mathlib.Core.Logic.{◌↔◌, ◌⊎◌, inl, inr}
use mathlib.Core.List.{List, ◌++◌}
use Prim.Native.Nat.{ℕ, zero, suc, ◌%◌, ◌<◌, ◌≤◌}
use native.Mathlib.Omega.{arith}
use lib.IntN.{ℤ}
use lib.ListN.{get_or, replicate, get_or-replicate}
use borrow.Author.Tests.{le-leb, leb-true, lt-ltb, not-true}
use Rattle.definitions.specs.Answers.{closes_circle, infeasible, unserializable}
use Rattle.definitions.specs.Anchors.{WellPosed, is_source}
use Rattle.definitions.specs.Basics.{all, any, tabulate, test_bit}
use Rattle.definitions.specs.Limits.{most_gain}
use Rattle.definitions.specs.Links.{Edge, members}
use Rattle.definitions.specs.Plan.{offset_row}
use Rattle.definitions.specs.Rounds.{cell, entry, extend}
use Rattle.definitions.specs.Waits.{serialized, wait_maps}
use Rattle.demands.proofs.Sheets.{feasible_iff, not_8, serializable_iff, serialized_rooted}
use Rattle.data_edges.specs.Serial.{Within, wait_edges}
use Rattle.data_edges.proofs.Serializing.{serialized_maps}
use Rattle.walk_cells.specs.Cells.{value}
use Rattle.walk_cells.specs.Tables.{cell_at, read_by, said}
use Rattle.walk_cells.proofs.Tables.{read_by_at, said_at}
use Rattle.walk_heaviest.specs.Settling.{Supported}
use Rattle.laws.proofs.Bools.{bool_cases, both_ways, not_passing, or_left}
use Rattle.laws.proofs.Maps.{test_above}
use Rattle.laws.proofs.Tests.{all_by, all_each, any_none, tabulate_at}
use Rattle.data_relations.specs.Rows.{row_bit}
use Rattle.walk_settled.specs.Settled.{hand, handed_on, source_column}
use Rattle.theory.specs.Graphs.{ForwardAcyclic, Gains, Leasts, NonPositive, Rooted, Serializable, Shape, Well}
use Rattle.theory.proofs.Feasibility.{stable_nonpositive}
use Rattle.theory.proofs.Offsets.{offset_row_iff}
use Rattle.theory.proofs.Plans.{plan_posed, plan_timely, plan_well}
use Rattle.theory.proofs.Serialization.{waited_gains}
use Rattle.theory.proofs.Sweeping.{source_settles}
use Rattle.theory.proofs.WaitLists.{serialized_shape, serialized_waited, wait_anchor_below, wait_maps_iff}

-- The column has its empty walk, and every edge has handed on. Here a table is what the cells of the working table say.
pub record Tried (es : List Edge) (d : List (List ℕ)) : Type 0 where
  pub source : 1 ≤ entry d 0 0
  pub settled : all (handed_on d) es ≡ true

-- What the table holds of edges that can be scheduled and are well-posed: the offsets for each anchor whose members in sets are the steps that have them.
abbrev pub Offsets : ℕ → List Edge → List ℕ → List (List ℕ) → Type 0
Offsets n es sets d = Well n (members es) → WellPosed (members es) → Gains (members es) most_gain → (a : ℕ) → a < n → Supported n es sets a → (v : ℕ) → v < n → row_bit sets v a ≡ true → entry d v a ≡ cell (offset_row n es a) v

-- The maps of waits hold no step at n or above; and the edges with the waits that they hold are the sheet with its waits in. So this is what `walk_heaviest::walks_if_possible` promises.
module _ (least : ℕ → ℕ) {n : ℕ} {g : List Edge} {maps : List ℕ} (few : n ≤ 64) (shape : Shape n (members g)) (waits : maps ≡ wait_maps n g) where
  pub maps_within : Within n maps
  maps_within i a h = wait_anchor_below shape ((wait_maps_iff few shape i a).0 (ap (λ (l : List ℕ). row_bit l i a) (sym waits) ∙ h))

  pub edges_waited : g ++ wait_edges n least maps ≡ serialized n least g
  edges_waited = ap (λ (m : List ℕ). g ++ wait_edges n least m) waits ∙ serialized_maps n least g few

  pub walks_offsets : (sets : List ℕ) (d : List (List ℕ)) → (Within n maps → Offsets n (g ++ wait_edges n least maps) sets d) → Offsets n (serialized n least g) sets d
  walks_offsets sets d cells = subst (λ (l : List Edge). Offsets n l sets d) edges_waited (cells maps_within)

-- Rows that hold the source alone.
pub sole_source : (v : ℕ) → v < 64 → row_bit (replicate 64 1) v 0 ≡ true
unfolding test_bit
sole_source v b = ap (λ (m : ℕ). test_bit m 0) (get_or-replicate 64 v 1 0 b)

source_alone : (v a : ℕ) → v < 64 → row_bit (replicate 64 1) v a ≡ true → a ≡ 0
source_alone v zero b h = refl
source_alone v (suc a) b h = absurd (both_ways (ap (λ (m : ℕ). test_bit m (suc a)) (sym (get_or-replicate 64 v 1 0 b)) ∙ h) (test_above 1 1 (suc a) (omega arith) (omega arith)))

-- Where its column is the first, that column says what is read by its number.
pub first_column : {n : ℕ} {es : List Edge} (number : List ℕ) (d : List (List ℤ)) → n ≤ 64 → get_or number 0 0 ≡ 0 → Offsets n es (replicate 64 1) (read_by number d) → Offsets n es (replicate 64 1) (said d)
first_column number d few first cells well posed gains a inside support v b member =
    let e = source_alone v a (omega arith) member in
    let k : get_or number 0 0 % 64 ≡ 0 = omega (arith, first) in
    ap (entry (said d) v) e
    ∙ said_at d v 0
    ∙ ap (λ (j : ℕ). value (cell_at d v j)) (sym k)
    ∙ sym (read_by_at number d v 0 (omega arith))
    ∙ ap (entry (read_by number d) v) (sym e)
    ∙ cells well posed gains a inside support v b member

-- A tried column shows that no closed walk is above 0.
tried_nonpositive : {n : ℕ} {es : List Edge} {d : List (List ℕ)} → 0 < n → Shape n (members es) → Rooted n (members es) → Tried es d → NonPositive (members es)
tried_nonpositive {n} {es} {d} some shape rooted T =
    stable_nonpositive some shape rooted (tabulate (source_column d) n) stable (omega (arith, T.source, tabulate_at (source_column d) n 0 0 some))
  where
    at : (v : ℕ) → v < n → cell (tabulate (source_column d) n) v ≡ source_column d v
    at v b = tabulate_at (source_column d) n v 0 b

    stable : (e : Edge) → members es e → extend (cell (tabulate (source_column d) n) e.from) e.gain e.loss ≤ cell (tabulate (source_column d) n) e.to
    stable e m =
        omega (
          arith,
          leb-true (hand (source_column d) e) (source_column d e.to) (all_each (handed_on d) es T.settled e m),
          at e.to (shape.to_below e m),
          ap (λ (x : ℕ). extend x e.gain e.loss) (at e.from (shape.from_below e m)),
        )

-- And where none is, the column is so: the source has an offset at every step.
nonpositive_tried : {n : ℕ} {es : List Edge} {d : List (List ℕ)} → n ≤ 64 → Well n (members es) → WellPosed (members es) → Gains (members es) most_gain → Offsets n es (replicate 64 1) d → Tried es d
nonpositive_tried {n} {es} {d} few well posed gains cells =
    record { source = omega (arith, at 0 well.some, (offset_row_iff well posed 0 0 well.some).1 (is_source refl)); settled = all_by (handed_on d) es settled }
  where
    at : (v : ℕ) → v < n → entry d v 0 ≡ cell (offset_row n es 0) v
    at v b = cells well posed gains 0 well.some (λ w c. sole_source w (omega arith) ∙ sym (lt-ltb 0 (cell (offset_row n es 0) w) ((offset_row_iff well posed 0 w c).1 (is_source refl)))) v b (sole_source v (omega arith))

    -- Offsets are settled over every edge.
    settled : (e : Edge) → members es e → handed_on d e ≡ true
    settled e m =
        le-leb (hand (source_column d) e) (source_column d e.to)
        (omega (
          arith,
          source_settles well posed e m,
          ap (λ (x : ℕ). extend x e.gain e.loss) (at e.from (well.shape.from_below e m)),
          at e.to (well.shape.to_below e m),
        ))

module _ (least : ℕ → ℕ) {n : ℕ} {g : List Edge} (few : n ≤ 64) (well : Well n (members g)) where
  feasible : (infeasible n (serialized n least g) ≡ false) ↔ NonPositive (members (serialized n least g))
  feasible = feasible_iff well.some (serialized_shape well.shape least) (serialized_rooted least well.some well.shape well.rooted)

  -- Start times are left with the waits in exactly if the column is tried.
  module _ (gains : Gains (members g) most_gain) (leasts : Leasts least (members g)) (no_circle : closes_circle n (serialized n least g) ≡ false) (d : List (List ℕ)) (cells : Offsets n (serialized n least g) (replicate 64 1) d) where
    tried : infeasible n (serialized n least g) ≡ false → Tried (serialized n least g) d
    tried h =
        let serial : Serializable (members (serialized n least g)) = record { acyclic = not_8 well.some (serialized_shape well.shape least) no_circle; never = feasible.0 h } in
        nonpositive_tried few (plan_well least well serial) (plan_posed least well serial) (waited_gains (serialized_waited well.shape) leasts gains) cells

    pub untried_infeasible : ¬ Tried (serialized n least g) d → false ≡ not (infeasible n (serialized n least g))
    untried_infeasible h = sym (not_passing (not (infeasible n (serialized n least g))) (λ t. h (tried (not-true (infeasible n (serialized n least g)) t))))

    pub settled_feasible : 1 ≤ entry d 0 0 → all (handed_on d) (serialized n least g) ≡ not (infeasible n (serialized n least g))
    settled_feasible source = go (bool_cases (all (handed_on d) (serialized n least g)))
      where
        go : (all (handed_on d) (serialized n least g) ≡ true) ⊎ (all (handed_on d) (serialized n least g) ≡ false) → all (handed_on d) (serialized n least g) ≡ not (infeasible n (serialized n least g))
        go (inl t) =
            t ∙ sym (ap not (feasible.1 (tried_nonpositive {d = d} well.some (serialized_shape well.shape least) (serialized_rooted least well.some well.shape well.rooted) (record { source = source; settled = t }))))
        go (inr f) = f ∙ untried_infeasible (λ T. both_ways T.settled f)

  -- 28, from its two parts; and where no edge is late it is not given.
  pub circle_refused : closes_circle n (serialized n least g) ≡ true → false ≡ not (unserializable n least g)
  unfolding unserializable
  circle_refused h = sym (ap not (or_left (infeasible n (serialized n least g)) h))

  pub times_refused : closes_circle n (serialized n least g) ≡ false → not (infeasible n (serialized n least g)) ≡ not (unserializable n least g)
  unfolding unserializable
  times_refused h = ap (λ (b : Bool). not (b || infeasible n (serialized n least g))) (sym h)

  pub timely_passes : ForwardAcyclic (members g) → any (λ e. e.late) g ≡ false → true ≡ not (unserializable n least g)
  timely_passes once h =
      sym (ap not ((serializable_iff least well.some well.shape well.rooted).1 (plan_timely least (λ e m. any_none (λ e. e.late) g h e m) well once)))

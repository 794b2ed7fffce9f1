-- From what the analysis found of accepted edges to the tables that plans and start times are made from.
use mathlib.Core.Path.{◌≡◌, refl, ap, ◌∙◌}
use mathlib.Core.Bool.{Bool, true, false, ◌&&◌, ◌||◌, and-true}
use mathlib.Core.Logic.{◌⊎◌, inl, inr}
use mathlib.Core.List.{List, ◌++◌}
use Prim.Native.Nat.{ℕ, ◌<◌, ◌≤◌}
use native.Mathlib.Omega.{arith}
use lib.Dec.{eqb, ltb}
use lib.ListN.{get_or}
use borrow.Author.Tests.{eq-eqb, eqb-true, lt-ltb, ltb-true}
use Rattle.definitions.specs.Anchors.{InAnchorSet, WellPosed, is_source, chain, in_anchor_set}
use Rattle.definitions.specs.Limits.{most_steps}
use Rattle.definitions.specs.Links.{Edge, members, usable}
use Rattle.definitions.specs.Plan.{offset_row}
use Rattle.definitions.specs.Rounds.{after_reaches, cell}
use Rattle.definitions.specs.Waits.{serialized}
use Rattle.data_edges.specs.Serial.{Within, wait_edges}
use Rattle.data_edges.specs.Words.{EndsBelow, graph, unpack}
use Rattle.data_edges.proofs.Places.{graph_at}
use Rattle.laws.proofs.Bools.{and_join, and_split, or_left, or_right, or_split, same_test}
use Rattle.data_relations.specs.Rows.{row_bit}
use Rattle.walk_heaviest.specs.Settling.{Supported}
use Rattle.plan_deciding.specs.Working.{Holds}
use Rattle.judge_serial.proofs.Trying.{Offsets, walks_offsets}
use Rattle.theory.specs.Graphs.{Serializable, Shape, SheetLeasts, Well}
use Rattle.theory.proofs.Offsets.{offset_row_iff}
use Rattle.theory.proofs.Plans.{plan_posed, plan_well}
use Rattle.theory.proofs.Reachability.{dec_member, in_anchor_set_iff}
use Rattle.theory.proofs.Serialization.{chain_reach, forward_acyclic, reach_chain, waited_gains}
use Rattle.theory.proofs.Usables.{usable_shape}
use Rattle.theory.proofs.WaitLists.{serialized_shape, serialized_waited, usable_reaches_iff}
use Rattle.theory.proofs.Walks.{after_mono, after_start_below, some_after}
use Rattle.plan_walks.specs.Tables.{Plannable}

-- With the waits in, the members of an anchor set other than 0 are the anchors whose end reaches the step on the sheet as sent: each wait stands for such a walk, and well-posedness carries a member along
-- every walk that its end may take.
module _ (least : ℕ → ℕ) {n : ℕ} {g : List Edge} (well : Well n (members g)) (serial : Serializable (members (serialized n least g))) where
  pub member_reaches : (a v : ℕ) → (after_reaches n (usable g a) a v || eqb a 0) ≡ (ltb a n && in_anchor_set n (serialized n least g) a v)
  member_reaches a v = same_test (after_reaches n (usable g a) a v || eqb a 0) (ltb a n && in_anchor_set n (serialized n least g) a v) forth back
    where
      shape : Shape n (members (serialized n least g))
      shape = serialized_shape well.shape least

      forth_by : (after_reaches n (usable g a) a v ≡ true) ⊎ (eqb a 0 ≡ true) → (ltb a n && in_anchor_set n (serialized n least g) a v) ≡ true
      forth_by (inl h) =
          let A = (usable_reaches_iff well.shape a v).0 h in
          and_join (lt-ltb a n (after_start_below (usable_shape well.shape a) A))
          ((in_anchor_set_iff shape a v).1 (chain (reach_chain shape (plan_posed least well serial) (some_after (after_mono (λ e m. ((serialized_waited well.shape).keeps_all e m.0, m.1)) A.walk)))))
      forth_by (inr h) = and_join (lt-ltb a n (omega (arith, well.some, eqb-true a 0 h))) ((in_anchor_set_iff shape a v).1 (is_source (eqb-true a 0 h)))

      forth : (after_reaches n (usable g a) a v || eqb a 0) ≡ true → (ltb a n && in_anchor_set n (serialized n least g) a v) ≡ true
      forth h = forth_by (or_split (after_reaches n (usable g a) a v) (eqb a 0) h)

      back_by : InAnchorSet (members (serialized n least g)) a v → (after_reaches n (usable g a) a v || eqb a 0) ≡ true
      back_by (is_source e) = or_right (after_reaches n (usable g a) a v) (eq-eqb a 0 e)
      back_by (chain A) = or_left (eqb a 0) ((usable_reaches_iff well.shape a v).1 (chain_reach well.shape (serialized_waited well.shape) (dec_member well.shape) (forward_acyclic serial.acyclic) A))

      back : (ltb a n && in_anchor_set n (serialized n least g) a v) ≡ true → (after_reaches n (usable g a) a v || eqb a 0) ≡ true
      back h = back_by ((in_anchor_set_iff shape a v).0 (and_split (ltb a n) (in_anchor_set n (serialized n least g) a v) h).1)

-- The tables hold the plan's walks and anchor sets: the edges with their waits are those of the sheet with its waits in, which can be scheduled and is well-posed. The members of an anchor are the steps
-- that have an offset for it, so the table holds these.
module _ {n : ℕ} {least : ℕ → ℕ} {g : List Edge} {reach maps : List ℕ} (sets : List ℕ) (d : List (List ℕ)) (few : n ≤ most_steps) (p : Plannable n least g reach maps) (cells : Within n maps → SheetLeasts least (members g) → Offsets n (g ++ wait_edges n least maps) sets d) (sets-are : (v a : ℕ) → v < n → row_bit sets v a ≡ ((row_bit reach v a || eqb a 0) && ltb a n)) where
  well : Well n (members (serialized n least g))
  well = plan_well least p.well p.serial

  posed : WellPosed (members (serialized n least g))
  posed = plan_posed least p.well p.serial

  are_members : (a v : ℕ) → v < n → row_bit sets v a ≡ (ltb a n && in_anchor_set n (serialized n least g) a v)
  are_members a v b =
      sets-are v a b
      ∙ ap (λ (t : Bool). (t || eqb a 0) && ltb a n) (p.reaches.bits a v b)
      ∙ ap (λ (t : Bool). t && ltb a n) (member_reaches least p.well p.serial a v)
      ∙ twice (ltb a n) (in_anchor_set n (serialized n least g) a v)
    where
      twice : (s t : Bool) → ((s && t) && s) ≡ (s && t)
      twice true t = and-true t
      twice false t = refl

  supported : (a : ℕ) → a < n → Supported n (serialized n least g) sets a
  supported a inside v b =
      are_members a v b
      ∙ ap (λ (t : Bool). t && in_anchor_set n (serialized n least g) a v) (lt-ltb a n inside)
      ∙ same_test (in_anchor_set n (serialized n least g) a v) (ltb 0 (cell (offset_row n (serialized n least g) a) v))
      (λ h. lt-ltb 0 (cell (offset_row n (serialized n least g) a) v) ((offset_row_iff well posed a v b).1 ((in_anchor_set_iff well.shape a v).0 h)))
      (λ h. (in_anchor_set_iff well.shape a v).1 ((offset_row_iff well posed a v b).0 (ltb-true 0 (cell (offset_row n (serialized n least g) a) v) h)))

  pub plannable_holds : Holds n (serialized n least g) d sets
  plannable_holds =
      record { cells = λ a v inside b m. walks_offsets least few p.well.shape p.waits sets d (λ within. cells within p.leasts) well posed (waited_gains (serialized_waited p.well.shape) p.leasts.leasts p.gains) a inside (supported a inside) v b m; members = are_members }

-- Edges within n steps end within as many rows.
pub ends_within : {n : ℕ} (es : List ℕ) (rows : ℕ) → Shape n (members (graph es)) → n ≤ rows → EndsBelow es rows
ends_within es rows shape few k b = omega (arith, shape.to_below (unpack (get_or es k 0)) (graph_at es k b))

-- What an order of the steps, or its lack, says of the edges: forward edges close no circle, or one. Ranks rise along each forward edge of an order, so no chain comes back. Steps that each have one of them right before
-- it have chains of any length into them, and a chain of n edges goes round (the pigeonhole principle).
use mathlib.Core.Path.{◌≡◌, refl, sym, ap, ◌∙◌}
use mathlib.Core.Bool.{Bool, true, false, not, ◌&&◌}
use mathlib.Core.List.{List}
use Prim.Native.Nat.{ℕ, zero, suc, ◌+◌, ◌<◌, ◌≤◌}
use native.Mathlib.Omega.{arith}
use lib.Dec.{eqb}
use borrow.Author.Tests.{eq-eqb, eqb-true, not-true}
use Rattle.definitions.specs.Answers.{closes_circle}
use Rattle.definitions.specs.Basics.{test_bit}
use Rattle.definitions.specs.Links.{Edge, Forward, Walk, forwards, members, step, stop}
use Rattle.laws.proofs.Bools.{and_join, and_split}
use Rattle.laws.proofs.Tests.{any_by, any_has}
use Rattle.data_relations.specs.Rows.{row_bit}
use Rattle.theory.specs.Graphs.{ForwardAcyclic, Shape}
use Rattle.theory.proofs.Feasibility.{forward_acyclic_iff}
use Rattle.theory.proofs.Pigeonhole.{walk_loop}
use Rattle.theory.proofs.Reachability.{forwards_mem, forwards_shape, mem_forwards}
use Rattle.theory.proofs.Walks.{walk_mono, walk_none}
use Rattle.order_steps.specs.Orders.{Arranged, Ordered, Predecessors, Stuck, precedes}

-- A bit of the rows is a forward edge.
pub record Direct (g : List Edge) (u v : ℕ) : Type 0 where
  pub edge : Edge
  pub mem : Forward (members g) edge
  pub leaves : edge.from ≡ u
  pub ends : edge.to ≡ v

module _ {g : List Edge} {rows : List ℕ} (direct : Predecessors g rows) where
  pub bit_edge : (v u : ℕ) → row_bit rows v u ≡ true → Direct g u v
  bit_edge v u h =
      let r = any_has (precedes v u) g (sym (direct.bits v u) ∙ h) in
      let s = and_split (eqb v r.0.to) (not r.0.back && eqb u r.0.from) r.2 in
      let t = and_split (not r.0.back) (eqb u r.0.from) s.1 in
      record { edge = r.0; mem = (r.1, not-true r.0.back t.0); leaves = sym (eqb-true u r.0.from t.1); ends = sym (eqb-true v r.0.to s.0) }

  pub edge_bit : (e : Edge) → Forward (members g) e → row_bit rows e.to e.from ≡ true
  edge_bit e m =
      direct.bits e.to e.from ∙ any_by (precedes e.to e.from) g m.0 (and_join (eq-eqb e.to e.to refl) (and_join (ap not m.1) (eq-eqb e.from e.from refl)))

  module _ {n : ℕ} (shape : Shape n (members g)) where
    module _ {order : List ℕ} (O : Ordered n rows order) where
      edge_rises : (e : Edge) → Forward (members g) e → O.rank e.from < O.rank e.to
      edge_rises e m = O.rises e.from e.to (shape.from_below e m.0) (shape.to_below e m.0) (edge_bit e m)

      walk_rises : {x y k p q : ℕ} → Walk (Forward (members g)) x y k p q → k + O.rank x ≤ O.rank y
      walk_rises (stop e hk hp hq) = omega (arith, ap O.rank e)
      walk_rises (step w e m f o hk hp hq) = omega (arith, walk_rises w, edge_rises e m, ap O.rank f, ap O.rank o)

      pub ordered_acyclic : ForwardAcyclic (members g)
      ordered_acyclic x k p q w = omega (arith, walk_rises w)

    -- A chain of k edges into v from one of the steps that are left.
    record Back (left v k : ℕ) : Type 0 where
      start : ℕ
      member : test_bit left start ≡ true
      p : ℕ
      q : ℕ
      walk : Walk (members (forwards g)) start v k p q

    back : (S : Stuck n rows) (k v : ℕ) → test_bit S.left v ≡ true → Back S.left v k
    back S zero v h = record { start = v; member = h; p = 0; q = 0; walk = walk_none v }
    back S (suc k) v h =
        let b = S.blocked v h in
        let d = bit_edge v b.step b.comes in
        let r = back S k b.step b.stays in
        record { start = r.start; member = r.member; p = _; q = _; walk = step r.walk d.edge (forwards_mem g d.edge d.mem) d.leaves d.ends refl refl refl }

    pub stuck_circle : Stuck n rows → ForwardAcyclic (members g) → ⊥
    stuck_circle S never =
        let r = back S n S.some S.member in
        let l = walk_loop (forwards_shape shape) (S.within r.start r.member) (omega arith) r.walk in
        never l.z l.k₂ l.p₂ l.q₂ (walk_mono (mem_forwards g) l.round)

    pub arranged_circle : {order : List ℕ} {found : Bool} → Arranged n rows order found → closes_circle n g ≡ not found
    unfolding closes_circle
    arranged_circle {found = true} A = (forward_acyclic_iff shape).1 (ordered_acyclic (A.ordered refl))
    arranged_circle {found = false} A = passing (closes_circle n g) (λ h. stuck_circle (A.circle refl) ((forward_acyclic_iff shape).0 h))
      where
        passing : (b : Bool) → (b ≡ false → ⊥) → b ≡ true
        passing true h = refl
        passing false h = absurd (h refl)

-- Where forward edges lead into every step other than 0 and close no circle, every step has a chain from step 0: 9 never occurs (request L3). Follow edges backwards; that ends, and only step 0 can be the end.
-- And a graph whose forward edges stand for chains of such a graph closes no circle either, as a part of a sheet that is completed afresh (request L14).
use mathlib.Core.Path.{◌≡◌, refl, sym}
use mathlib.Core.Logic.{◌≢◌, ◌⊎◌, inl, inr}
use Prim.Native.Nat.{◌+◌, ◌<◌, ◌≤◌, suc, zero, ℕ}
use native.Mathlib.Omega.{arith}
use Rattle.definitions.specs.Links.{Edge, Forward, Graph, Joined, Walk, step, stop}
use Rattle.laws.proofs.Bools.{same_or_not}
use Rattle.theory.specs.Graphs.{Entered, ForwardAcyclic, Rooted, Shape}
use Rattle.theory.proofs.AnchorOrder.{induct}
use Rattle.theory.proofs.Walks.{join, walk_edge, walk_from, walk_to}

-- A chain of at least one edge. Where none closes a circle it does not come back.
pub record Chain (E : Graph) (x y : ℕ) : Type 0 where
  pub k : ℕ
  pub p : ℕ
  pub q : ℕ
  pub some : 1 ≤ k
  pub walk : Walk (Forward E) x y k p q

chain_open : {E : Graph} → ForwardAcyclic E → (x : ℕ) → ¬ Chain E x x
chain_open {E} once x c = go c.k c.some c.walk
  where
    go : {p q : ℕ} (k : ℕ) → 1 ≤ k → Walk (Forward E) x x k p q → ⊥
    go zero h w = omega arith
    go (suc k) h w = once x k _ _ w

-- By induction along chains: the edge into v comes from a step that has a chain from step 0.
module _ {n : ℕ} {E : Graph} (shape : Shape n E) (entered : Entered n E) (once : ForwardAcyclic E) where
  pub entered_rooted : Rooted n E
  entered_rooted = induct n (Chain E) longer (chain_open once) (λ v. Joined (Forward E) 0 v) each
    where
      longer : (a b c : ℕ) → Chain E a b → Chain E b c → Chain E a c
      longer a b c r s = record { k = r.k + s.k; p = _; q = _; some = omega (arith, r.some); walk = join r.walk s.walk }

      each : (v : ℕ) → v < n → ((a : ℕ) → a < n → Chain E a v → Joined (Forward E) 0 a) → Joined (Forward E) 0 v
      each v b below = go (same_or_not v 0)
        where
          go : (v ≡ 0) ⊎ (v ≢ 0) → Joined (Forward E) 0 v
          go (inl e) = record { k = 0; p = 0; q = 0; walk = stop (sym e) refl refl refl }
          go (inr z) =
              let x = entered v b z in
              let last = walk_to (walk_edge {E = Forward E} x.edge (x.mem, x.forward)) x.enters refl refl refl in
              record { k = _; p = _; q = _; walk = join (below x.edge.from (shape.from_below x.edge x.mem) (record { k = 1; p = _; q = _; some = omega arith; walk = last })).walk last }

-- Chains: of one edge; between two steps that differ; after another walk of forward edges.
pub edge_chain : {E : Graph} (e : Edge) → Forward E e → Chain E e.from e.to
edge_chain e m = record { k = 1; p = _; q = _; some = omega arith; walk = walk_edge e m }

pub joined_chain : {E : Graph} {x y : ℕ} → Joined (Forward E) x y → x ≢ y → Chain E x y
joined_chain {E} J apart = record { k = J.k; p = _; q = _; some = some_edge J.walk apart; walk = J.walk }
  where
    some_edge : {x y k p q : ℕ} → Walk (Forward E) x y k p q → x ≢ y → 1 ≤ k
    some_edge (stop e hk hp hq) apart = absurd (apart e)
    some_edge (step w e m f o hk hp hq) apart = omega arith

-- Where every forward edge of E stands for a chain of F, and forward edges of F close no circle, those of E close none: a circle of E would be one of F.
module _ {E F : Graph} (each : (e : Edge) → Forward E e → Chain F e.from e.to) where
  one_more : {x y z : ℕ} → Joined (Forward F) x y → (e : Edge) → Forward E e → e.from ≡ y → e.to ≡ z → Chain F x z
  one_more J e m f o =
      let c = each e m in
      record { k = J.k + c.k; p = _; q = _; some = omega (arith, c.some); walk = join J.walk (walk_from (sym f) (walk_to c.walk o refl refl refl)) }

  carried : {x y k p q : ℕ} → Walk (Forward E) x y k p q → Joined (Forward F) x y
  carried (stop e hk hp hq) = record { k = 0; p = 0; q = 0; walk = stop e refl refl refl }
  carried (step w e m f o hk hp hq) = let c = one_more (carried w) e m f o in record { k = c.k; p = _; q = _; walk = c.walk }

  pub chained_acyclic : ForwardAcyclic F → ForwardAcyclic E
  chained_acyclic once x k p q (stop e hk hp hq) = absurd (omega arith)
  chained_acyclic once x k p q (step w e m f o hk hp hq) = chain_open once x (one_more (carried w) e m f o)

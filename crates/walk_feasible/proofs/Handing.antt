-- Edges out of one step, and visits one after another, on one row.
use mathlib.Core.Path.{◌≡◌, refl, sym, ap, ◌∙◌}
use mathlib.Core.Bool.{Bool, true, false}
use mathlib.Core.Logic.{◌⊎◌, inl, inr, ◌≢◌}
use Prim.Native.Nat.{ℕ, ◌+◌, ◌*◌, ◌≤◌, ◌<◌}
use native.Mathlib.Omega.{arith}
use Rattle.definitions.specs.Limits.{most_gain}
use Rattle.definitions.specs.Links.{Edge, Graph, ◌⊑◌}
use Rattle.laws.proofs.Bools.{bool_cases, both_ways, same_or_not, mark_back}
use Rattle.theory.specs.Graphs.{Gains}
use Rattle.theory.proofs.Walks.{join, walk_edge, walk_from, walk_to}
use Rattle.walk_feasible.specs.Search.{Attained, Came, Covered, Grows, HandedOut, Pass}

-- A mark that is new after both is new after the first, or after the second.
grows_then : {r s t : ℕ → ℕ} {f g h : ℕ → Bool} → ((v : ℕ) → r v ≤ s v) → ((v : ℕ) → s v ≤ t v) → Grows r s f g → Grows s t g h → Grows r t f h
grows_then {r} {s} {t} {f} {g} up up' G H v q o = by (bool_cases (g v))
  where
    by : (g v ≡ true) ⊎ (g v ≡ false) → r v < t v
    by (inl k) = omega (arith, G v k o, up' v)
    by (inr k) = omega (arith, up v, H v q k)

-- One graph and then another make a third, where the edges out of u are in one of them.
pub handed_both : {E F G : Graph} {u own : ℕ} {r s t : ℕ → ℕ} {f g h : ℕ → Bool} → E ⊑ G → F ⊑ G → ((e : Edge) → G e → e.from ≡ u → E e ⊎ F e) → HandedOut E u own r s f g → HandedOut F u own s t g h → HandedOut G u own r t f h
handed_both {E} {F} {G} {u} {own} {r} {s} {t} i j split H K =
    record {
      up = λ v. omega (arith, H.up v, K.up v);
      hands = λ e m o. by e o (split e m o);
      came = λ v. came v (H.came v) (K.came v);
      marks = λ v q. K.marks v (H.marks v q);
      marked = λ v q. K.marked v q ∙ H.marked v (mark_back (K.marks v) q);
      grows = grows_then H.up K.up H.grows K.grows;
    }
  where
    by : (e : Edge) → e.from ≡ u → E e ⊎ F e → own + e.gain ≤ t e.to + e.loss
    by e o (inl m) = omega (arith, H.hands e m o, K.up e.to)
    by e o (inr m) = K.hands e m o

    came : (v : ℕ) → (s v ≡ r v) ⊎ Came E u own s v → (t v ≡ s v) ⊎ Came F u own t v → (t v ≡ r v) ⊎ Came G u own t v
    came v a (inr c) = inr (record { edge = c.edge; mem = j c.edge c.mem; leaves = c.leaves; ends = c.ends; weighs = c.weighs })
    came v (inl a) (inl b) = inl (b ∙ a)
    came v (inr c) (inl b) = inr (record { edge = c.edge; mem = i c.edge c.mem; leaves = c.leaves; ends = c.ends; weighs = omega (arith, c.weighs, b) })

-- A step hands on, and its own mark goes. Where its cell was not raised meanwhile, all of it is handed on.
module _ {E : Graph} {u : ℕ} {r s : ℕ → ℕ} {f f' g : ℕ → Bool} (gains : Gains E most_gain) (less : (v : ℕ) → f v ≡ false → f' v ≡ false) (rest : (v : ℕ) → v ≢ u → f' v ≡ f v) (gone : f' u ≡ false) (H : HandedOut E u (r u) r s f' g) where
  -- The walk to u goes on along the edge that raised a cell.
  went : ((v : ℕ) → Attained E r v) → (v : ℕ) → (s v ≡ r v) ⊎ Came E u (r u) s v → Attained E s v
  went a v (inl h) = let A = a v in record { x = A.x; k = A.k; p = A.p; q = A.q; walk = A.walk; weighs = omega (arith, A.weighs, h) }
  went a v (inr c) =
      let A = a u in
      record { x = A.x; k = _; p = _; q = _; walk = join A.walk (walk_from (sym c.leaves) (walk_to (walk_edge c.edge c.mem) c.ends refl refl refl)); weighs = omega (arith, A.weighs, c.weighs) }

  bounded : (b : ℕ) → ((v : ℕ) → r v ≤ b) → (v : ℕ) → (s v ≡ r v) ⊎ Came E u (r u) s v → s v ≤ b + most_gain * 1
  bounded b low v (inl h) = omega (arith, low v, h)
  bounded b low v (inr c) = omega (arith, low u, c.weighs, gains c.edge c.mem)

  covers : Covered E r f → (e : Edge) → E e → g e.from ≡ false → (e.from ≡ u) ⊎ (e.from ≢ u) → s e.from + e.gain ≤ s e.to + e.loss
  covers c e m q (inl o) = omega (arith, H.hands e m o, H.marked e.from q, ap r o)
  covers c e m q (inr o) = omega (arith, c e m (sym (rest e.from o) ∙ mark_back (H.marks e.from) q), H.up e.to, H.marked e.from q)

  pub pass_visit : Pass E (λ v. v ≡ u) 1 r s f g
  pass_visit =
      record {
        up = H.up;
        attained = λ a v. went a v (H.came v);
        small = λ b low v. bounded b low v (H.came v);
        covers = λ c e m q. covers c e m q (same_or_not e.from u);
        hands = λ c e m o. omega (arith, H.hands e m o, ap r o);
        grows = λ v h q. H.grows v h (less v q);
        clears = λ v o h. H.grows v h (ap f' o ∙ gone);
      }

-- Steps without a mark have nothing to hand on.
pub pass_idle : {E : Graph} {r : ℕ → ℕ} {f : ℕ → Bool} → Pass E (λ v. f v ≡ false) 0 r r f f
pass_idle =
    record { up = λ v. omega arith; attained = λ a. a; small = λ b low v. omega (arith, low v); covers = λ c. c; hands = λ c e m o. c e m o; grows = λ v h q. absurd (both_ways h q); clears = λ v o h. absurd (both_ways h o) }

-- Some steps and then others.
pub pass_both : {E : Graph} {On Then All : ℕ → Type 0} {c d b : ℕ} {r s t : ℕ → ℕ} {f g h : ℕ → Bool} → ((v : ℕ) → All v → On v ⊎ Then v) → c + d ≤ b → Pass E On c r s f g → Pass E Then d s t g h → Pass E All b r t f h
pass_both {E} {On} {Then} {All} {c} {d} {b} {r} {s} {t} {f} {g} {h} split few P Q =
    record {
      up = λ v. omega (arith, P.up v, Q.up v);
      attained = λ a. Q.attained (P.attained a);
      small = λ x low v. omega (arith, Q.small (x + most_gain * c) (P.small x low) v);
      covers = λ x. Q.covers (P.covers x);
      hands = λ x e m o. by x e m (split e.from o);
      grows = grows_then P.up Q.up P.grows Q.grows;
      clears = λ v o q. clears v q (split v o) (bool_cases (g v));
    }
  where
    by : Covered E r f → (e : Edge) → E e → On e.from ⊎ Then e.from → r e.from + e.gain ≤ t e.to + e.loss
    by x e m (inl o) = omega (arith, P.hands x e m o, Q.up e.to)
    by x e m (inr o) = omega (arith, Q.hands (P.covers x) e m o, P.up e.from)

    clears : (v : ℕ) → h v ≡ true → On v ⊎ Then v → (g v ≡ true) ⊎ (g v ≡ false) → r v < t v
    clears v q (inl o) (inl k) = omega (arith, P.clears v o k, Q.up v)
    clears v q (inl o) (inr k) = omega (arith, P.up v, Q.grows v q k)
    clears v q (inr o) k = omega (arith, P.up v, Q.clears v o q)

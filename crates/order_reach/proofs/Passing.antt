-- Steps that hand on, one after another.
use mathlib.Core.Path.{◌≡◌, sym, ap, ◌∙◌}
use mathlib.Core.Bool.{Bool, true, false, not, ◌&&◌}
use mathlib.Core.Logic.{◌⊎◌, inl, inr, ◌≢◌}
use mathlib.Core.List.{List}
use Prim.Native.Nat.{ℕ}
use lib.Dec.{eqb}
use lib.ListN.{length, get_or}
use borrow.Author.Tests.{ne_eqb}
use Rattle.definitions.specs.Basics.{test_bit}
use Rattle.definitions.specs.Links.{Edge, Graph}
use Rattle.laws.proofs.Bools.{both_ways, not_passing, same_or_not, stays}
use Rattle.laws.proofs.Maps.{test_zero}
use Rattle.theory.specs.Sweeps.{Leads}
use Rattle.order_reach.specs.Pushes.{Covered, Gives, Handed, HandedAll, Carried, CarriedAll}

-- What an edge has for a column it has for a larger one.
pub gives_on : {a : ℕ} (r s : ℕ → Bool) {e : Edge} → (r e.from ≡ true → s e.from ≡ true) → Gives a r e → Gives a s e
gives_on r s h (inl k) = inl (h k)
gives_on r s h (inr l) = inr l

-- A step with a mark hands on what it has, and its mark goes. Where it did not come into the column meanwhile, all of it is handed on.
carried_visit : {a : ℕ} {E : Graph} {u : ℕ} {r s f f' g : ℕ → Bool} → ((v : ℕ) → v ≢ u → f' v ≡ f v) → Handed a E u (r u) r s f' g → Carried a E (λ v. v ≡ u) r s f g
carried_visit {a} {E} {u} {r} {s} {f} {f'} {g} rest H =
    record { up = H.up; sound = λ t st below. H.sound t st (below u) below; covers = λ c e m q k. covers c e m q (gives_on s r (λ h. sym (H.marked e.from q) ∙ h) k) (same_or_not e.from u); hands = λ c e m o k. hands e m o k }
  where
    at_u : {e : Edge} → e.from ≡ u → Gives a r e → (r u ≡ true) ⊎ Leads a e
    at_u o (inl k) = inl (sym (ap r o) ∙ k)
    at_u o (inr l) = inr l

    hands : (e : Edge) → E e → e.from ≡ u → Gives a r e → s e.to ≡ true
    hands e m o k = H.hands e m o (at_u o k)

    covers : Covered a E r f → (e : Edge) → E e → g e.from ≡ false → Gives a r e → (e.from ≡ u) ⊎ (e.from ≢ u) → s e.to ≡ true
    covers c e m q k (inl o) = hands e m o k
    covers c e m q k (inr o) = H.up e.to (c e m (sym (rest e.from o) ∙ not_passing (f' e.from) (λ h. both_ways (H.marks e.from h) q)) k)

pub visited : {E : ℕ → Graph} (u : ℕ) {rows rows' : List ℕ} {k rest k' : ℕ} → ((v : ℕ) → test_bit rest v ≡ (test_bit k v && not (eqb v u))) → HandedAll E u (get_or rows u 0) rows rows' rest k' → CarriedAll E (λ v. v ≡ u) rows rows' k k'
visited u {k = k} bits H = record { long = H.long; each = λ a. carried_visit (λ v o. bits v ∙ stays (test_bit k v) (eqb v u) (ne_eqb v u o)) (H.each a) }

-- A step without a mark has nothing to hand on.
pub visited_idle : {E : ℕ → Graph} (u : ℕ) {rows : List ℕ} {k : ℕ} → length rows ≡ 64 → test_bit k u ≡ false → CarriedAll E (λ v. v ≡ u) rows rows k k
visited_idle u {k = k} long q =
    record { long = long; each = λ a. record { up = λ v h. h; sound = λ t st below. below; covers = λ c. c; hands = λ c e m o. c e m (ap (test_bit k) o ∙ q) } }

pub carried_none : {E : ℕ → Graph} {On : ℕ → Type 0} {rows : List ℕ} {k : ℕ} → length rows ≡ 64 → ((v : ℕ) → ¬ On v) → CarriedAll E On rows rows k k
carried_none long away =
    record { long = long; each = λ a. record { up = λ v h. h; sound = λ t st below. below; covers = λ c. c; hands = λ c e m o. absurd (away e.from o) } }

-- Nor has any step where no mark stands.
pub carried_rest : {E : ℕ → Graph} {On : ℕ → Type 0} {rows : List ℕ} {k : ℕ} → length rows ≡ 64 → k ≡ 0 → CarriedAll E On rows rows k k
carried_rest {k = k} long z =
    record { long = long; each = λ a. record { up = λ v h. h; sound = λ t st below. below; covers = λ c. c; hands = λ c e m o. c e m (ap (λ (x : ℕ). test_bit x e.from) z ∙ test_zero e.from) } }

-- Some steps and then others.
carried_both : {a : ℕ} {E : Graph} {On Then All : ℕ → Type 0} {r s t f g h : ℕ → Bool} → ((v : ℕ) → All v → On v ⊎ Then v) → Carried a E On r s f g → Carried a E Then s t g h → Carried a E All r t f h
carried_both {a} {E} {On} {Then} {All} {r} {s} {t} {f} split P Q =
    record { up = λ v k. Q.up v (P.up v k); sound = λ x st below. Q.sound x st (P.sound x st below); covers = λ c. Q.covers (P.covers c); hands = λ c e m o k. by c e m k (split e.from o) }
  where
    by : Covered a E r f → (e : Edge) → E e → Gives a r e → On e.from ⊎ Then e.from → t e.to ≡ true
    by c e m k (inl o) = Q.up e.to (P.hands c e m o k)
    by c e m k (inr o) = Q.hands (P.covers c) e m o (gives_on r s (P.up e.from) k)

pub carried_then : {E : ℕ → Graph} {On Then All : ℕ → Type 0} {rows rows' rows'' : List ℕ} {k k' k'' : ℕ} → ((v : ℕ) → All v → On v ⊎ Then v) → CarriedAll E On rows rows' k k' → CarriedAll E Then rows' rows'' k' k'' → CarriedAll E All rows rows'' k k''
carried_then split P Q = record { long = Q.long; each = λ a. carried_both split (P.each a) (Q.each a) }

-- The rows that rounds start from: the source's, with the weight 0 at vertex 0, and another anchor's, with the weight of each counted edge out of it.
use mathlib.Core.Path.{◌∙◌, ◌≡◌, refl, sym}
use mathlib.Core.Bool.{Bool, ◌&&◌, cond, false, true}
use mathlib.Core.Logic.{◌≢◌, ◌⊎◌, inl, inr}
use mathlib.Core.List.Memᴰ
use mathlib.Core.List.{List, Memᴰ, [], ◌∷◌}
use Prim.Native.Nat.{◌-◌, ◌<◌, ◌≤◌, suc, ℕ}
use native.Mathlib.Omega.{arith}
use native.Mathlib.Decide.{dec_le}
use lib.Dec.{T, eqb, eqb_refl, eqb→eq}
use lib.ListN.{length, length-replicate, replicate}
use Rattle.definitions.specs.Links.{Edge, Graph, members}
use Rattle.definitions.specs.Plan.{Span, after, source}
use Rattle.definitions.specs.Rounds.{after_row, cell, raise, seed, seeds, source_row}
pub use Rattle.laws.proofs.Lists.{zeros_at}
use Rattle.theory.specs.Graphs.{Shape}
use Rattle.theory.proofs.Relaxation.{Fits, Grounded, Reach, Start, Under, raise_length, raise_same, raise_under, raise_up}
use Rattle.theory.proofs.Walks.{after_edge, after_from, walk_none}

pub zeros_length : (n : ℕ) → length (replicate {A = ℕ} n 0) ≡ n
zeros_length n = length-replicate {A = ℕ} n 0

zeros_under : (E : Graph) (a n : ℕ) → Under E a (replicate n 0)
zeros_under E a n v o h = absurd (omega (arith, zeros_at n v))

-- The source's row.
pub source_start : {n : ℕ} {es : List Edge} → Shape n (members es) → 0 < n → Grounded n (members es) 0 → Start es 0 (source_row n 0)
unfolding source_row
source_start {n} {es} shape b G = record {
  fits = λ e m. omega (arith, shape.to_below e m, raise_length (replicate n 0) 0 1, zeros_length n);
  under = raise_under shape G (replicate n 0) 0 1 inside (λ o h. record { p = 0; q = 0; span = source refl (walk_none 0); under = omega arith }) (zeros_under (members es) 0 n);
  covers_source = λ h. record { some = omega (arith, raised); enough = omega (arith, raised) };
  covers_after = λ h. absurd (h refl);
}
  where
    inside : 0 < length (replicate {A = ℕ} n 0)
    inside = omega (arith, zeros_length n)

    raised : 1 ≤ cell (raise (replicate n 0) 0 1) 0
    raised = omega (arith, raise_same (replicate n 0) 0 1 inside)

seed_val : (b c : Bool) (x o : ℕ) → cond (b && c) x 0 ≡ suc o → (b ≡ true) × T c × (x ≡ suc o)
seed_val true true x o h = (refl, tt, h)
seed_val true false x o h = absurd (omega arith)
seed_val false true x o h = absurd (omega arith)
seed_val false false x o h = absurd (omega arith)

seed_on : (b c : Bool) (x : ℕ) → b ≡ true → T c → cond (b && c) x 0 ≡ x
seed_on true true x h t = refl
seed_on true false x h t = absurd t
seed_on false c x h t = let z : ◌≡◌ {A = ℕ} 0 1 = cc in absurd (omega arith)

pub seed_counted : (a : ℕ) (e : Edge) → e.counted ≡ true → e.from ≡ a → seed a e ≡ suc (e.gain - e.loss)
unfolding seed
seed_counted a e c f = seed_on e.counted (eqb e.from a) (suc (e.gain - e.loss)) c (rw f (eqb_refl a))

-- What the seeds leave in a row: each cell is the weight of a counted edge out of a, and each such edge is covered.
module _ {n : ℕ} {E : Graph} {a : ℕ} (shape : Shape n E) (inside : a ≢ 0) (G : Grounded n E a) where
  seed_reach : (e : Edge) → E e → (o : ℕ) → seed a e ≡ suc o → Reach E a e.to o
  unfolding seed
  seed_reach e m o h =
      let r = seed_val e.counted (eqb e.from a) (suc (e.gain - e.loss)) o h in
      go r (dec_le e.loss e.gain) (after (after_from (sym (eqb→eq e.from a r.1)) (after_edge e m r.0 (λ z. inside (sym (eqb→eq e.from a r.1) ∙ z)))))
    where
      go : (e.counted ≡ true) × T (eqb e.from a) × (suc (e.gain - e.loss) ≡ suc o) → Dec (e.loss ≤ e.gain) → Span E a e.to e.gain e.loss → Reach E a e.to o
      go r (yes c) s = record { p = e.gain; q = e.loss; span = s; under = omega (arith, r.2) }
      go r (no c) s =
          let R = G e.to e.gain e.loss (shape.to_below e m) s in
          record { p = R.p; q = R.q; span = R.span; under = omega (arith, R.under, r.2) }

  seeds_under : (es : List Edge) (row : List ℕ) → Fits es row → ((e : Edge) → Memᴰ e es → E e) → Under E a row → Under E a (seeds a es row)
  unfolding seeds
  seeds_under [] row h i U = U
  seeds_under (x ∷ es) row h i U =
      seeds_under
      es
      (raise row x.to (seed a x))
      (λ e m. omega (arith, h e (Memᴰ.tail m), raise_length row x.to (seed a x)))
      (λ e m. i e (Memᴰ.tail m))
      (raise_under shape G row x.to (seed a x) (h x (Memᴰ.head refl)) (seed_reach x (i x (Memᴰ.head refl))) U)

pub seeds_length : (a : ℕ) (es : List Edge) (row : List ℕ) → length (seeds a es row) ≡ length row
unfolding seeds
seeds_length a [] row = refl
seeds_length a (x ∷ es) row = seeds_length a es (raise row x.to (seed a x)) ∙ raise_length row x.to (seed a x)

fits_raise : {es : List Edge} (x : Edge) (row : List ℕ) (c : ℕ) → Fits (x ∷ es) row → Fits es (raise row x.to c)
fits_raise x row c h e m = omega (arith, h e (Memᴰ.tail m), raise_length row x.to c)

seeds_up : (a : ℕ) (es : List Edge) (row : List ℕ) → Fits es row → (v : ℕ) → cell row v ≤ cell (seeds a es row) v
unfolding seeds
seeds_up a [] row h v = omega arith
seeds_up a (x ∷ es) row h v =
    omega (arith, raise_up row x.to (seed a x) v (h x (Memᴰ.head refl)), seeds_up a es (raise row x.to (seed a x)) (fits_raise x row (seed a x) h) v)

seeds_hand : (a : ℕ) (es : List Edge) (row : List ℕ) → Fits es row → (e : Edge) → Memᴰ e es → seed a e ≤ cell (seeds a es row) e.to
unfolding seeds
seeds_hand a [] row h e m = absurd (Memᴰ.not-nil m)
seeds_hand a (x ∷ es) row h e m = go (Memᴰ.cases_cons m) (seeds_hand a es (raise row x.to (seed a x)) (fits_raise x row (seed a x) h) e)
  where
    here : seed a x ≤ cell (seeds a es (raise row x.to (seed a x))) x.to
    here = omega (arith, raise_same row x.to (seed a x) (h x (Memᴰ.head refl)), seeds_up a es (raise row x.to (seed a x)) (fits_raise x row (seed a x) h) x.to)

    go : (e ≡ x) ⊎ Memᴰ e es → (Memᴰ e es → seed a e ≤ cell (seeds a es (raise row x.to (seed a x))) e.to) → seed a e ≤ cell (seeds a es (raise row x.to (seed a x))) e.to
    go (inl i) below = rw i here
    go (inr i) below = below i

-- The row of the counted edges out of a.
pub after_start : {n : ℕ} {es : List Edge} {a : ℕ} → Shape n (members es) → a ≢ 0 → Grounded n (members es) a → Start es a (after_row n es a)
unfolding after_row
after_start {n} {es} {a} shape h G = record {
  fits = λ e m. omega (arith, fits e m, seeds_length a es (replicate n 0));
  under = seeds_under shape h G es (replicate n 0) fits (λ e m. m) (zeros_under (members es) a n);
  covers_source = λ z. absurd (h z);
  covers_after = λ z e m f c. let s = seeds_hand a es (replicate n 0) fits e m in let t = seed_counted a e c f in record { some = omega arith; enough = omega arith };
}
  where
    fits : Fits es (replicate n 0)
    fits e m = omega (arith, shape.to_below e m, zeros_length n)

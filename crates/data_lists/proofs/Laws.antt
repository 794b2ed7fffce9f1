-- What the last edge that leaves a step is: below the bound, it leaves the step, and no later one does.
use mathlib.Core.Path.{◌≡◌, refl, sym, ap, ◌∙◌}
use mathlib.Core.Bool.{Bool, true, false, cond}
use mathlib.Core.List.{List}
use mathlib.Core.Logic.{◌⊎◌, inl, inr, ◌≢◌}
use Prim.Native.Nat.{ℕ, zero, suc, ◌<◌, ◌≤◌}
use native.Mathlib.Omega.{arith}
use lib.Dec.{eqb}
use lib.ListN.{get_or}
use borrow.Author.Tests.{eqb-true, eqb-false}
use Rattle.data_edges.specs.Words.{unpack}
use Rattle.laws.proofs.Bools.{same_or_not}
use Rattle.data_lists.specs.Lists.{last_from}

pub last_below : (es : List ℕ) (u k : ℕ) → last_from es u k ≤ k
unfolding last_from
last_below es u zero = omega arith
last_below es u (suc k) = by (eqb (unpack (get_or es k 0)).from u) (last_below es u k)
  where
    by : (t : Bool) → last_from es u k ≤ k → cond t (suc k) (last_from es u k) ≤ suc k
    by true h = omega arith
    by false h = omega arith

pub last_leaves : (es : List ℕ) (u k i : ℕ) → last_from es u k ≡ suc i → ((unpack (get_or es i 0)).from ≡ u) × (i < k)
unfolding last_from
last_leaves es u zero i e = absurd (let f : ⊥ = omega arith in f)
last_leaves es u (suc k) i e = by (eqb (unpack (get_or es k 0)).from u) refl e (last_leaves es u k i)
  where
    by : (t : Bool) → eqb (unpack (get_or es k 0)).from u ≡ t → cond t (suc k) (last_from es u k) ≡ suc i → (last_from es u k ≡ suc i → ((unpack (get_or es i 0)).from ≡ u) × (i < k)) → ((unpack (get_or es i 0)).from ≡ u) × (i < suc k)
    by true q h ih =
        let s : k ≡ i = omega arith in
        (ap (λ (j : ℕ). (unpack (get_or es j 0)).from) (sym s) ∙ eqb-true (unpack (get_or es k 0)).from u q, omega arith)
    by false q h ih = let r = ih h in (r.0, omega (arith, r.1))

pub last_skips : (es : List ℕ) (u k j : ℕ) → last_from es u k ≤ j → j < k → (unpack (get_or es j 0)).from ≢ u
unfolding last_from
last_skips es u zero j h b = absurd (let f : ⊥ = omega arith in f)
last_skips es u (suc k) j h b = by (eqb (unpack (get_or es k 0)).from u) refl h (last_skips es u k j)
  where
    by : (t : Bool) → eqb (unpack (get_or es k 0)).from u ≡ t → cond t (suc k) (last_from es u k) ≤ j → (last_from es u k ≤ j → j < k → (unpack (get_or es j 0)).from ≢ u) → (unpack (get_or es j 0)).from ≢ u
    by true q l ih = absurd (let f : ⊥ = omega arith in f)
    by false q l ih = at (same_or_not j k)
      where
        at : (j ≡ k) ⊎ (j ≢ k) → (unpack (get_or es j 0)).from ≢ u
        at (inl e) = λ (x : (unpack (get_or es j 0)).from ≡ u). eqb-false (unpack (get_or es k 0)).from u q (ap (λ (i : ℕ). (unpack (get_or es i 0)).from) (sym e) ∙ x)
        at (inr d) = ih l (omega arith)

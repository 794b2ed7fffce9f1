-- What a loop over the returns has been at: the words from the first on, of which it passes over the forward ones.
use mathlib.Core.Path.{◌≡◌, sym, ap, subst, ◌∙◌}
use mathlib.Core.Bool.{true, false}
use mathlib.Core.List.{List}
use mathlib.Core.Logic.{◌⊎◌, inl, inr}
use Prim.Native.Nat.{ℕ, zero, suc, ◌+◌, ◌-◌, ◌≤◌, ◌<◌}
use native.Mathlib.Omega.{arith}
use lib.ListN.{length, get_or}
use Rattle.data_edges.specs.Words.{unpack}
use Rattle.laws.proofs.Bools.{bool_cases}
use Rattle.data_lists.specs.Lists.{AtReturn, Lists, ReturnOut, return_place, returns_before}
use Rattle.data_lists.proofs.Appending.{before_few, before_forward, before_return}

-- The loop over the returns, and P holds of how many words come before the one that comes next.
pub record Returning (P : ℕ → Type 0) (es : List ℕ) (at k : ℕ) : Type 0 where
  pub here : AtReturn es at k
  pub been : 1 ≤ k → P (k - 1)
  pub done : k ≡ 0 → P (length es)

-- A forward word may be passed over.
abbrev pub Passes : (ℕ → Type 0) → List ℕ → Type 0
Passes P es = (j : ℕ) → j < length es → (unpack (get_or es j 0)).back ≡ false → P j → P (j + 1)

returning_last : {P : ℕ → Type 0} {es : List ℕ} {at j x : ℕ} → j ≡ length es → x ≡ 0 → P j → Returning P es at x
returning_last {P = P} {es = es} {x = x} e z p =
    record { here = record { few = omega arith; stands = λ some. absurd (none some); back = λ some. absurd (none some) }; been = λ some. absurd (none some); done = λ h. subst P e p }
  where
    none : ¬ (1 ≤ x)
    none some = omega arith

returning_here : {P : ℕ → Type 0} {es : List ℕ} {at j x : ℕ} → j < length es → at ≡ return_place es j → x ≡ suc j → (unpack (get_or es j 0)).back ≡ true → P j → Returning P es at x
returning_here {P = P} {es = es} {at = at} {j = j} {x = x} b stands e back p =
    record {
      here = record { few = omega arith; stands = λ some. stands ∙ ap (return_place es) own; back = λ some. ap (λ (i : ℕ). (unpack (get_or es i 0)).back) (sym own) ∙ back };
      been = λ some. subst P own p;
      done = λ z. absurd (some_left z);
    }
  where
    own : j ≡ x - 1
    own = omega arith

    some_left : ¬ (x ≡ 0)
    some_left z = omega arith

module _ {P : ℕ → Type 0} {es lists : List ℕ} (A : Lists es lists) (passes : Passes P es) where
  -- The next return from word j on.
  returning_from : (left j at x : ℕ) → j + left ≡ length es → at ≡ return_place es j → x ≡ get_or lists at 0 → P j → Returning P es at x
  returning_from zero j at x e stands h p = let end : j ≡ length es = omega arith in returning_last end (h ∙ ap (λ (i : ℕ). get_or lists i 0) (stands ∙ ap (return_place es) end) ∙ A.last) p
  returning_from (suc left) j at x e stands h p = by (bool_cases (unpack (get_or es j 0)).back) (returning_from left (j + 1) at x (omega arith))
    where
      inside : j < length es
      inside = omega arith

      by : ((unpack (get_or es j 0)).back ≡ true) ⊎ ((unpack (get_or es j 0)).back ≡ false) → (at ≡ return_place es (j + 1) → x ≡ get_or lists at 0 → P (j + 1) → Returning P es at x) → Returning P es at x
      by (inl back) more = returning_here inside stands (h ∙ ap (λ (i : ℕ). get_or lists i 0) stands ∙ A.returns j inside back) back p
      by (inr ahead) more = more (omega (arith, before_forward es j ahead)) h (passes j inside ahead p)

  pub returning_start : {x : ℕ} → x ≡ get_or lists (64 + length es) 0 → P 0 → Returning P es (64 + length es) x
  unfolding returns_before
  returning_start {x} h p = returning_from (length es) 0 (64 + length es) x (omega arith) (omega arith) h p

  -- A turn: what holds before a return comes to hold after it, and so before the next one.
  pub returning_turn : {Q : ℕ → Type 0} {at k x : ℕ} → 1 ≤ k → x ≡ get_or lists (at + 1) 0 → (Q (k - 1) → P (k - 1 + 1)) → Returning Q es at k → Returning P es (at + 1) x
  returning_turn {at = at} {k = k} {x = x} some h more L =
      returning_from (length es - k) (k - 1 + 1) (at + 1) x (omega (arith, L.here.few)) (omega (arith, L.here.stands some, before_return es (k - 1) (L.here.back some))) h (more (L.been some))

  -- The same for the return that the list gives.
  pub returning_given : {Q : ℕ → Type 0} {at k i at' k' : ℕ} → ReturnOut es lists at k i at' k' → (Q i → P (i + 1)) → Returning Q es at k → Returning P es at' k'
  returning_given {k = k} {i = i} R more L =
      let some : 1 ≤ k = omega (arith, R.place) in
      let own : i ≡ k - 1 = omega (arith, R.place) in
      rw R.behind (returning_turn some (rw R.behind at R.follows) (rw own at more) L)

-- Returns are no more than words.
pub return_below : {es : List ℕ} {at k : ℕ} → 1 ≤ k → AtReturn es at k → at < 64 + length es + length es
return_below {es = es} {k = k} some L = omega (arith, L.few, L.stands some, before_few es (k - 1))

-- A place in the list of the returns, as the loop comes to it: nothing else is said of the words before.
module _ {es lists : List ℕ} (A : Lists es lists) where
  pub return_start : {x : ℕ} → x ≡ get_or lists (64 + length es) 0 → AtReturn es (64 + length es) x
  return_start h = (returning_start {P = λ k. ℕ} A (λ j b ahead p. p) h 0).here

  pub return_next : {at k x : ℕ} → 1 ≤ k → AtReturn es at k → x ≡ get_or lists (at + 1) 0 → AtReturn es (at + 1) x
  return_next some L h = (returning_turn {P = λ k. ℕ} A (λ j b ahead p. p) {Q = λ k. ℕ} some h (λ p. p) (record { here = L; been = λ some. 0; done = λ z. 0 })).here

-- Laws of rows of bits: what a store does to them, and how a pass over a list gathers them.
use mathlib.Core.Path.{◌≡◌, refl, sym, ap, subst, ◌∙◌}
use mathlib.Core.Bool.{Bool, true, false, not, ◌&&◌, ◌||◌, or-false}
use mathlib.Core.Logic.{◌⊎◌, inl, inr, ◌≢◌}
use mathlib.Core.List.{List, [], ◌∷◌, ◌++◌, map}
use Prim.Native.Nat.{ℕ, ◌+◌, ◌<◌, ◌≤◌}
use native.Mathlib.Omega.{arith}
use native.Mathlib.Decide.{dec_lt}
use lib.Dec.{eqb, ltb}
use lib.ListN.{length, get_or, set, take, replicate, length-replicate, length-set}
use lib.Seq.{ext_get_or, get_or-set_same, get_or-set_other, take_all}
use borrow.Author.Tests.{eq-eqb, eqb-true, le-ltb, lt-ltb, ne_eqb}
use Rattle.definitions.specs.Basics.{any, test_bit}
use Rattle.laws.proofs.Bools.{same_or_not}
use Rattle.laws.proofs.Lists.{zeros_at}
use Rattle.laws.proofs.Maps.{same_map, test_zero}
use Rattle.laws.proofs.Searches.{any_snoc, map_take_more}
use Rattle.data_relations.specs.Rows.{row_bit, Gathered}

-- A row that takes in what passes P: that row's bits have it, and no other row changes.
pub store_bit : (rows : List ℕ) (v m : ℕ) (P : ℕ → Bool) → v < length rows → ((k : ℕ) → test_bit m k ≡ (row_bit rows v k || P k)) → (w k : ℕ) → row_bit (set rows v m) w k ≡ (row_bit rows w k || (eqb w v && P k))
store_bit rows v m P b f w k = go (same_or_not w v)
  where
    go : (w ≡ v) ⊎ (w ≢ v) → row_bit (set rows v m) w k ≡ (row_bit rows w k || (eqb w v && P k))
    go (inl e) =
        ap (λ (i : ℕ). row_bit (set rows v m) i k) e
        ∙ ap (λ (x : ℕ). test_bit x k) (get_or-set_same rows v m 0 b)
        ∙ f k
        ∙ ap (λ (i : ℕ). row_bit rows i k || P k) (sym e)
        ∙ ap (λ (t : Bool). row_bit rows w k || (t && P k)) (sym (eq-eqb w v e))
    go (inr e) =
        ap (λ (x : ℕ). test_bit x k) (get_or-set_other rows v w m 0 e)
        ∙ sym (or-false (row_bit rows w k))
        ∙ ap (λ (t : Bool). row_bit rows w k || (t && P k)) (sym (ne_eqb w v e))

-- Empty rows hold what an empty list says.
pub zero_bit : (n v k : ℕ) → row_bit (replicate n 0) v k ≡ false
zero_bit n v k = ap (λ (x : ℕ). test_bit x k) (zeros_at n v) ∙ test_zero k

module _ {A : Type 0} (test : ℕ → ℕ → A → Bool) where
  pub gathered_none : Gathered test [] (replicate 64 0)
  unfolding any
  gathered_none = record { long = length-replicate {A = ℕ} 64 0; bits = zero_bit 64 }

  -- One element more, where one row takes in what that element passes for it.
  pub gathered_store : {xs : List A} {rows : List ℕ} (x : A) (v m : ℕ) (P : ℕ → Bool) → Gathered test xs rows → v < 64 → ((k : ℕ) → test_bit m k ≡ (row_bit rows v k || P k)) → ((w k : ℕ) → test w k x ≡ (eqb w v && P k)) → Gathered test (xs ++ x ∷ []) (set rows v m)
  gathered_store {xs} {rows} x v m P g b f t =
      record { long = length-set rows v m ∙ g.long; bits = λ w k. store_bit rows v m P (omega (arith, g.long)) f w k ∙ ap (λ (c : Bool). c || (eqb w v && P k)) (g.bits w k) ∙ ap (λ (c : Bool). any (test w k) xs || c) (sym (t w k)) ∙ sym (any_snoc (test w k) xs x) }

  -- Rows are what they hold: two maps with the same bits are the same.
  pub gathered_unique : {xs : List A} {rows rows' : List ℕ} → Gathered test xs rows → Gathered test xs rows' → rows ≡ rows'
  gathered_unique {xs} {rows} {rows'} g h = ext_get_or 0 rows rows' (g.long ∙ sym h.long) (λ v b. same_map (get_or rows v 0) (get_or rows' v 0) (λ k. g.bits v k ∙ sym (h.bits v k)))

  -- The same over a list that is passed over from its front, each element as f reads it.
  module _ {B : Type 0} (f : B → A) (l : List B) where
    pub pass_none : Gathered test (map f (take 0 l)) (replicate 64 0)
    pass_none = gathered_none

    pub pass_more : {rows : List ℕ} (i : ℕ) (z : B) (v m : ℕ) (P : ℕ → Bool) → i < length l → Gathered test (map f (take i l)) rows → v < 64 → ((k : ℕ) → test_bit m k ≡ (row_bit rows v k || P k)) → ((w k : ℕ) → test w k (f (get_or l i z)) ≡ (eqb w v && P k)) → Gathered test (map f (take (i + 1) l)) (set rows v m)
    pass_more {rows} i z v m P b g c h t = subst (λ (xs : List A). Gathered test xs (set rows v m)) (sym (map_take_more f l i z b)) (gathered_store (f (get_or l i z)) v m P g c h t)

    pub pass_all : {rows : List ℕ} (i : ℕ) → length l ≤ i → Gathered test (map f (take i l)) rows → Gathered test (map f l) rows
    pass_all {rows} i b g = subst (λ (xs : List B). Gathered test (map f xs) rows) (take_all i l b) g

-- The same where each element that passes puts one bit into one row: the row, the bit and whether it passes are found first.
module _ {A B : Type 0} (row bit : A → ℕ) (passes : A → Bool) (f : B → A) (l : List B) where
  abbrev pub relates : ℕ → ℕ → A → Bool
  relates v k x = eqb v (row x) && (passes x && eqb k (bit x))

  pub relate_more : {rows : List ℕ} (i : ℕ) (z : B) {v u : ℕ} {t : Bool} (m : ℕ) → i < length l → Gathered relates (map f (take i l)) rows → v ≡ row (f (get_or l i z)) → v < 64 → u ≡ bit (f (get_or l i z)) → t ≡ passes (f (get_or l i z)) → ((k : ℕ) → test_bit m k ≡ (row_bit rows v k || (t && eqb k u))) → Gathered relates (map f (take (i + 1) l)) (set rows v m)
  relate_more i z {v} {u} {t} m b g e c d h bits = pass_more relates f l i z v m (λ k. t && eqb k u) b g c bits (λ w k. rw (e, d, h))

and_comm : (a b : Bool) → (a && b) ≡ (b && a)
and_comm true true = refl
and_comm true false = refl
and_comm false true = refl
and_comm false false = refl

-- A test on the numbers below v, and then on v too.
below_or_at : (w v : ℕ) (s t : Bool) → (w ≡ v → s ≡ t) → ((ltb w v && t) || (eqb w v && s)) ≡ (ltb w (v + 1) && t)
below_or_at w v s t h = go (same_or_not w v)
  where
    beside : (b : Bool) → ((b && t) || false) ≡ (b && t)
    beside b = or-false (b && t)

    apart : w ≢ v → ltb w v ≡ ltb w (v + 1)
    apart d = side (dec_lt w v)
      where
        side : Dec (w < v) → ltb w v ≡ ltb w (v + 1)
        side (yes l) = lt-ltb w v l ∙ sym (lt-ltb w (v + 1) (omega arith))
        side (no l) = le-ltb w v (omega arith) ∙ sym (le-ltb w (v + 1) (omega arith))

    go : (w ≡ v) ⊎ (w ≢ v) → ((ltb w v && t) || (eqb w v && s)) ≡ (ltb w (v + 1) && t)
    go (inl e) =
        ap (λ (b : Bool). (b && t) || (eqb w v && s)) (le-ltb w v (omega arith))
        ∙ ap (λ (b : Bool). b && s) (eq-eqb w v e)
        ∙ h e
        ∙ sym (ap (λ (b : Bool). b && t) (lt-ltb w (v + 1) (omega arith)))
    go (inr d) =
        ap (λ (b : Bool). (ltb w v && t) || (b && s)) (ne_eqb w v d)
        ∙ beside (ltb w v)
        ∙ ap (λ (b : Bool). b && t) (apart d)

nothing_below : (w : ℕ) (t : Bool) → false ≡ (ltb w 0 && t)
nothing_below w t = sym (ap (λ (b : Bool). b && t) (le-ltb w 0 (omega arith)))

-- A map that is made number by number.
pub made_none : (P : ℕ → Bool) (k : ℕ) → test_bit 0 k ≡ (ltb k 0 && P k)
made_none P k = test_zero k ∙ nothing_below k (P k)

pub made_more : (P : ℕ → Bool) (m m' a : ℕ) → ((k : ℕ) → test_bit m k ≡ (ltb k a && P k)) → ((k : ℕ) → test_bit m' k ≡ (test_bit m k || (P a && eqb k a))) → (k : ℕ) → test_bit m' k ≡ (ltb k (a + 1) && P k)
made_more P m m' a f g k =
    g k
    ∙ ap (λ (b : Bool). b || (P a && eqb k a)) (f k)
    ∙ ap (λ (b : Bool). (ltb k a && P k) || b) (and_comm (P a) (eqb k a))
    ∙ below_or_at k a (P a) (P k) (λ e. ap P (sym e))

-- A member that moves from what is left to where it belongs.
pub moves : (a e l t : Bool) → (t ≡ true → l ≡ true) → ((a || (t && e)) || ((l && not t) && e)) ≡ (a || (l && e))
moves true e l t h = refl
moves false true true true h = refl
moves false true true false h = refl
moves false true false true h = sym (h refl)
moves false true false false h = refl
moves false false true true h = refl
moves false false true false h = refl
moves false false false true h = refl
moves false false false false h = refl

guarded : (t p q : Bool) → (t ≡ true → p ≡ q) → (t && p) ≡ (t && q)
guarded true p q h = h refl
guarded false p q h = refl

-- A map that is picked from another, one member of what is left at a time: what it has, with what passes of what is left, stays the same.
module _ (P : ℕ → Bool) (m : ℕ) where
  pub pick_none : (k : ℕ) → (test_bit 0 k || (test_bit m k && P k)) ≡ (test_bit m k && P k)
  pick_none k = ap (λ (b : Bool). b || (test_bit m k && P k)) (test_zero k)

  pub pick_more : (m' left left' a : ℕ) → test_bit left a ≡ true → ((k : ℕ) → test_bit m' k ≡ (test_bit m k || (P a && eqb k a))) → ((k : ℕ) → test_bit left' k ≡ (test_bit left k && not (eqb k a))) → (k : ℕ) → (test_bit m' k || (test_bit left' k && P k)) ≡ (test_bit m k || (test_bit left k && P k))
  pick_more m' left left' a stands f g k =
      ap (λ (b : Bool). b || (test_bit left' k && P k)) (f k)
      ∙ ap (λ (b : Bool). (test_bit m k || (P a && eqb k a)) || (b && P k)) (g k)
      ∙ ap (λ (b : Bool). (test_bit m k || b) || ((test_bit left k && not (eqb k a)) && P k)) (and_comm (P a) (eqb k a) ∙ guarded (eqb k a) (P a) (P k) (λ t. ap P (sym (eqb-true k a t))))
      ∙ moves (test_bit m k) (P k) (test_bit left k) (eqb k a) (λ t. ap (test_bit left) (eqb-true k a t) ∙ stands)

  pub pick_all : (left k : ℕ) {b : Bool} → left ≡ 0 → (test_bit m k || (test_bit left k && P k)) ≡ b → test_bit m k ≡ b
  pick_all left k e h = sym (or-false (test_bit m k)) ∙ ap (λ (t : Bool). test_bit m k || (t && P k)) (sym (ap (λ (x : ℕ). test_bit x k) e ∙ test_zero k)) ∙ h

-- Rows that are made one by one.
pub record Made (F : ℕ → ℕ → Bool) (v : ℕ) (rows : List ℕ) : Type 0 where
  pub long : length rows ≡ 64
  pub bits : (w k : ℕ) → row_bit rows w k ≡ (ltb w v && F w k)

pub made_no_row : (F : ℕ → ℕ → Bool) → Made F 0 (replicate 64 0)
made_no_row F = record { long = length-replicate {A = ℕ} 64 0; bits = λ w k. zero_bit 64 w k ∙ nothing_below w (F w k) }

pub made_row : (F : ℕ → ℕ → Bool) {v : ℕ} {rows : List ℕ} (m : ℕ) → v < 64 → Made F v rows → ((k : ℕ) → test_bit m k ≡ F v k) → Made F (v + 1) (set rows v m)
made_row F {v} {rows} m b h f = record { long = length-set rows v m ∙ h.long; bits = λ w k. at w k (same_or_not w v) }
  where
    at : (w k : ℕ) → (w ≡ v) ⊎ (w ≢ v) → row_bit (set rows v m) w k ≡ (ltb w (v + 1) && F w k)
    at w k (inl e) =
        ap (λ (i : ℕ). row_bit (set rows v m) i k) e
        ∙ ap (λ (x : ℕ). test_bit x k) (get_or-set_same rows v m 0 (omega (arith, h.long)))
        ∙ f k
        ∙ ap (λ (i : ℕ). F i k) (sym e)
        ∙ sym (ap (λ (t : Bool). t && F w k) (lt-ltb w (v + 1) (omega arith)))
    at w k (inr e) =
        ap (λ (x : ℕ). test_bit x k) (get_or-set_other rows v w m 0 e)
        ∙ h.bits w k
        ∙ sym (or-false (ltb w v && F w k))
        ∙ ap (λ (t : Bool). (ltb w v && F w k) || (t && F w k)) (sym (ne_eqb w v e))
        ∙ below_or_at w v (F w k) (F w k) (λ d. refl)

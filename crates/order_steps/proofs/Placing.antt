-- Steps are put into the order one after another: a step that is put there gets the next rank, above those of all that come right before it, which are there already.
use mathlib.Core.Path.{◌≡◌, refl, sym, ap, ◌∙◌}
use mathlib.Core.Bool.{Bool, true, false, cond, not, ◌&&◌}
use mathlib.Core.Logic.{◌⊎◌, inl, inr, ◌≢◌}
use mathlib.Core.List.{List}
use Prim.Native.Nat.{ℕ, ◌+◌, ◌^◌, ◌<◌, ◌≤◌}
use native.Mathlib.Omega.{arith}
use lib.Dec.{eqb, ltb}
use lib.ListN.{length, get_or, length-set}
use lib.Seq.{get_or-set_same, get_or-set_other}
use borrow.Author.Tests.{eq-eqb, lt-ltb, ltb-true, ne_eqb}
use Rattle.definitions.specs.Basics.{select_below, test_bit}
use Rattle.laws.proofs.Bools.{and_join, and_split, both_ways, cond_false, cond_true, not_passing, same_or_not}
use Rattle.laws.proofs.Maps.{any_member, test_zero}
use Rattle.laws.proofs.Tests.{any_below_has}
use Rattle.data_relations.specs.Rows.{row_bit}
use Rattle.order_steps.specs.Orders.{Arranged, Gone, Blocked, Kept, Ordered, PassedOver, Placing, Put, Tried}
use Rattle.order_steps.proofs.Counting.{all_count, count_less, counts_some, member_counts}

-- What both maps have in common: something is blocked where it is not 0, nothing where it is.
module _ (before left m : ℕ) (shared : (k : ℕ) → test_bit m k ≡ (test_bit before k && test_bit left k)) where
  pub blocked_by : m < 2 ^ 64 → m ≢ 0 → Blocked before left
  blocked_by b d =
      let r = any_below_has (test_bit m) 64 (any_member 64 m b ∙ ap not (ne_eqb m 0 d)) in
      let s = and_split (test_bit before r.0) (test_bit left r.0) (sym (shared r.0) ∙ r.2) in
      record { step = r.0; comes = s.0; stays = s.1 }

  pub none_blocks : m ≡ 0 → (k : ℕ) → test_bit before k ≡ true → test_bit left k ≡ false
  none_blocks z k h =
      not_passing (test_bit left k) (λ t. both_ways (shared k ∙ and_join h t) (ap (λ (x : ℕ). test_bit x k) z ∙ test_zero k))

-- None is in the order yet.
pub placing_none : {n : ℕ} {rows order : List ℕ} {left : ℕ} → length order ≡ 64 → ((v : ℕ) → test_bit left v ≡ ltb v n) → Placing n rows order left 0
placing_none {n} {rows} {order} {left} long all =
    record { long = long; within = λ v h. ltb-true v n (sym (all v) ∙ h); count = omega (arith, all_count (test_bit left) n (λ k b. all k ∙ lt-ltb k n b)); rank = λ v. 0; low = λ v g. never g; here = λ v g. never g; filled = λ i b. absurd (omega arith); ranked = λ i b. absurd (omega arith); behind = λ u v b g h. never g; rises = λ u v b g h. never g }
  where
    never : {A : Type 0} {v : ℕ} → Gone n left v → A
    never {v = v} g = absurd (both_ways (all v ∙ lt-ltb v n g.below) g.taken)

-- A step that is left has a place.
pub placing_room : {n : ℕ} {rows order : List ℕ} {left placed : ℕ} (u : ℕ) → Placing n rows order left placed → test_bit left u ≡ true → placed < n
placing_room {n} {left = left} u P h = omega (arith, P.count, member_counts (test_bit left) u n h (P.within u h))

module _ {n : ℕ} {rows order order' : List ℕ} {left left' placed placed' : ℕ} (u : ℕ) (few : n ≤ 64) (P : Placing n rows order left placed) (member : test_bit left u ≡ true) (Q : Put (get_or rows u 0) u order order' left left' placed placed') where
  abbrev rank' : ℕ → ℕ
  rank' v = cond (eqb v u) placed (P.rank v)

  at : {v : ℕ} → v ≡ u → rank' v ≡ placed
  at {v} o = cond_true placed (P.rank v) (eq-eqb v u o)

  off : {v : ℕ} → v ≢ u → rank' v ≡ P.rank v
  off {v} o = cond_false placed (P.rank v) (ne_eqb v u o)

  -- What is not left now is u, or was not before.
  stays : (v : ℕ) → test_bit left v ≡ false → test_bit left' v ≡ false
  stays v h = Q.leaves v ∙ ap (λ (b : Bool). b && not (eqb v u)) h

  went : test_bit left' u ≡ false
  went = not_passing (test_bit left' u) (λ h. both_ways (eq-eqb u u refl) (by (and_split (test_bit left u) (not (eqb u u)) (sym (Q.leaves u) ∙ h)).1))
    where
      by : not (eqb u u) ≡ true → eqb u u ≡ false
      by h = not_passing (eqb u u) (λ k. both_ways h (ap not k))

  before : {v : ℕ} → v ≢ u → Gone n left' v → Gone n left v
  before {v} o g =
      record { below = g.below; taken = not_passing (test_bit left v) (λ h. both_ways (Q.leaves v ∙ and_join h (ap not (ne_eqb v u o))) g.taken) }

  apart : {v : ℕ} → test_bit left v ≡ false → v ≢ u
  apart h o = both_ways member (sym (ap (test_bit left) o) ∙ h)

  room : placed < n
  room = placing_room u P member

  spot : get_or order' placed 0 ≡ u
  spot = ap (λ (l : List ℕ). get_or l placed 0) Q.stores ∙ get_or-set_same order placed u 0 (omega (arith, room, P.long))

  spots : (i : ℕ) → i < placed → get_or order' i 0 ≡ get_or order i 0
  spots i b = ap (λ (l : List ℕ). get_or l i 0) Q.stores ∙ get_or-set_other order placed i u 0 (λ e. omega arith)

  low' : (v : ℕ) → Gone n left' v → (v ≡ u) ⊎ (v ≢ u) → rank' v < placed'
  low' v g (inl o) = omega (arith, at o, Q.next)
  low' v g (inr o) = omega (arith, off o, P.low v (before o g), Q.next)

  here' : (v : ℕ) → Gone n left' v → (v ≡ u) ⊎ (v ≢ u) → get_or order' (rank' v) 0 ≡ v
  here' v g (inl o) = ap (λ (i : ℕ). get_or order' i 0) (at o) ∙ spot ∙ sym o
  here' v g (inr o) =
      let b = before o g in
      ap (λ (i : ℕ). get_or order' i 0) (off o) ∙ spots (P.rank v) (P.low v b) ∙ P.here v b

  new_gone : Gone n left' u
  new_gone = record { below = P.within u member; taken = went }

  filled' : (i : ℕ) → i < placed' → (i ≡ placed) ⊎ (i ≢ placed) → Gone n left' (get_or order' i 0)
  filled' i b (inl e) = rw (ap (λ (j : ℕ). get_or order' j 0) e ∙ spot) new_gone
  filled' i b (inr d) =
      let l : i < placed = omega (arith, Q.next) in
      let g = P.filled i l in
      rw (spots i l) (record { below = g.below; taken = stays (get_or order i 0) g.taken })

  ranked' : (i : ℕ) → i < placed' → (i ≡ placed) ⊎ (i ≢ placed) → rank' (get_or order' i 0) ≡ i
  ranked' i b (inl e) = at (ap (λ (j : ℕ). get_or order' j 0) e ∙ spot) ∙ sym e
  ranked' i b (inr d) =
      let l : i < placed = omega (arith, Q.next) in
      ap rank' (spots i l) ∙ off (apart (P.filled i l).taken) ∙ P.ranked i l

  behind' : (w v : ℕ) → w < n → Gone n left' v → row_bit rows v w ≡ true → (v ≡ u) ⊎ (v ≢ u) → test_bit left w ≡ false
  behind' w v b g h (inl o) = Q.free w (sym (ap (λ (x : ℕ). row_bit rows x w) o) ∙ h)
  behind' w v b g h (inr o) = P.behind w v b (before o g) h

  rises' : (w v : ℕ) → w < n → Gone n left' v → row_bit rows v w ≡ true → (v ≡ u) ⊎ (v ≢ u) → rank' w < rank' v
  rises' w v b g h (inl o) =
      let t = behind' w v b g h (inl o) in
      omega (arith, off (apart t), at o, P.low w (record { below = b; taken = t }))
  rises' w v b g h (inr o) =
      let t = behind' w v b g h (inr o) in
      omega (arith, off (apart t), off o, P.rises w v b (before o g) h)

  within' : (v : ℕ) → test_bit left' v ≡ true → v < n
  within' v h = P.within v (and_split (test_bit left v) (not (eqb v u)) (sym (Q.leaves v) ∙ h)).0

  count' : placed' + length (select_below (test_bit left') n) ≡ n
  count' = omega (arith, P.count, Q.next, count_less (test_bit left) (test_bit left') u member Q.leaves n (P.within u member))

  long' : length order' ≡ 64
  long' = ap length Q.stores ∙ length-set order placed u ∙ P.long

  own : (v : ℕ) → (v ≡ u) ⊎ (v ≢ u)
  own v = same_or_not v u

  last : (i : ℕ) → (i ≡ placed) ⊎ (i ≢ placed)
  last i = same_or_not i placed

  pub placing_put : Placing n rows order' left' placed'
  placing_put =
      record { long = long'; within = within'; count = count'; rank = rank'; low = λ v g. low' v g (own v); here = λ v g. here' v g (own v); filled = λ i b. filled' i b (last i); ranked = λ i b. ranked' i b (last i); behind = λ w v b g h. stays w (behind' w v b g h (own v)); rises = λ w v b g h. rises' w v b g h (own v) }

-- The loop of a pass: what of those that were left is still to be tried is left, and where none went each that was tried has one right before it that is left.
pub record Passing (n : ℕ) (rows order' : List ℕ) (left left' placed placed' rest : ℕ) : Type 0 where
  pub placing : Placing n rows order' left' placed'
  pub further : placed ≤ placed'
  pub untried : (v : ℕ) → test_bit rest v ≡ true → test_bit left' v ≡ true
  pub same : placed' ≡ placed → left' ≡ left
  pub stuck : placed' ≡ placed → (v : ℕ) → test_bit left v ≡ true → (test_bit rest v ≡ true) ⊎ Blocked (get_or rows v 0) left

pub passing_start : {n : ℕ} {rows order : List ℕ} {left placed : ℕ} → Placing n rows order left placed → Passing n rows order left left placed placed left
passing_start P = record { placing = P; further = omega arith; untried = λ v h. h; same = λ e. refl; stuck = λ e v h. inl h }

module _ {n : ℕ} {rows order : List ℕ} {left left₁ placed placed₁ rest : ℕ} (u rest' : ℕ) (few : n ≤ 64) (P : Passing n rows order left left₁ placed placed₁ rest) (member : test_bit rest u ≡ true) (less : (k : ℕ) → test_bit rest' k ≡ (test_bit rest k && not (eqb k u))) where
  old : (v : ℕ) → test_bit rest' v ≡ true → test_bit rest v ≡ true
  old v h = (and_split (test_bit rest v) (not (eqb v u)) (sym (less v) ∙ h)).0

  keeps : (v : ℕ) → v ≢ u → test_bit rest v ≡ true → test_bit rest' v ≡ true
  keeps v o h = less v ∙ and_join h (ap not (ne_eqb v u o))

  passing_kept : {order' : List ℕ} {left₂ placed₂ : ℕ} → Kept (get_or rows u 0) order order' left₁ left₂ placed₁ placed₂ → Passing n rows order' left left₂ placed placed₂ rest'
  passing_kept {order'} {left₂} {placed₂} K =
      record { placing = rw (K.same_order, K.same_left, K.same_placed) P.placing; further = omega (arith, P.further, K.same_placed); untried = untried'; same = λ e. K.same_left ∙ P.same (idle e); stuck = λ e v h. by (idle e) v (same_or_not v u) (P.stuck (idle e) v h) }
    where
      idle : placed₂ ≡ placed → placed₁ ≡ placed
      idle e = sym K.same_placed ∙ e

      untried' : (v : ℕ) → test_bit rest' v ≡ true → test_bit left₂ v ≡ true
      untried' v h = ap (λ (m : ℕ). test_bit m v) K.same_left ∙ P.untried v (old v h)

      here : placed₁ ≡ placed → Blocked (get_or rows u 0) left
      here e = rw (P.same e) at K.blocked

      by : placed₁ ≡ placed → (v : ℕ) → (v ≡ u) ⊎ (v ≢ u) → (test_bit rest v ≡ true) ⊎ Blocked (get_or rows v 0) left → (test_bit rest' v ≡ true) ⊎ Blocked (get_or rows v 0) left
      by e v o (inr h) = inr h
      by e v (inl o) (inl h) = inr (rw o (here e))
      by e v (inr o) (inl h) = inl (keeps v o h)

  passing_put : {order' : List ℕ} {left₂ placed₂ : ℕ} → Put (get_or rows u 0) u order order' left₁ left₂ placed₁ placed₂ → Passing n rows order' left left₂ placed placed₂ rest'
  passing_put {left₂ = left₂} {placed₂ = placed₂} Q =
      record { placing = placing_put u few P.placing (P.untried u member) Q; further = omega (arith, P.further, Q.next); untried = untried'; same = λ e. absurd (went_on e); stuck = λ e. absurd (went_on e) }
    where
      went_on : placed₂ ≡ placed → ⊥
      went_on e = omega (arith, P.further, Q.next)

      untried' : (v : ℕ) → test_bit rest' v ≡ true → test_bit left₂ v ≡ true
      untried' v h =
          let s = and_split (test_bit rest v) (not (eqb v u)) (sym (less v) ∙ h) in
          Q.leaves v ∙ and_join (P.untried v s.0) s.1

  pub passing_more : {order' : List ℕ} {left₂ placed₂ : ℕ} → Tried (get_or rows u 0) u order order' left₁ left₂ placed₁ placed₂ → Passing n rows order' left left₂ placed placed₂ rest'
  passing_more (inl K) = passing_kept K
  passing_more (inr Q) = passing_put Q

pub passing_end : {n : ℕ} {rows order' : List ℕ} {left left' placed placed' rest : ℕ} → rest ≡ 0 → Passing n rows order' left left' placed placed' rest → PassedOver n rows order' left left' placed placed'
passing_end {rows = rows} {left = left} {rest = rest} z P = record { placing = P.placing; further = P.further; stuck = λ e v h. by v (P.stuck e v h) }
  where
    by : (v : ℕ) → (test_bit rest v ≡ true) ⊎ Blocked (get_or rows v 0) left → Blocked (get_or rows v 0) left
    by v (inl h) = absurd (both_ways h (ap (λ (m : ℕ). test_bit m v) z ∙ test_zero v))
    by v (inr h) = h

-- All are in the order.
pub placing_all : {n : ℕ} {rows order : List ℕ} {left placed : ℕ} → n ≤ placed → Placing n rows order left placed → Arranged n rows order true
placing_all {n} {rows} {order} {left} {placed} b P = record { ordered = λ t. all; circle = λ f. absurd (both_ways refl f) }
  where
    gone : (v : ℕ) → v < n → Gone n left v
    gone v l = record { below = l; taken = not_passing (test_bit left v) (λ h. omega (arith, P.count, member_counts (test_bit left) v n h l)) }

    all : Ordered n rows order
    all =
        record { rank = P.rank; low = λ v l. omega (arith, P.low v (gone v l), P.count); here = λ v l. P.here v (gone v l); filled = λ i l. (P.filled i (omega arith)).below; ranked = λ i l. P.ranked i (omega arith); rises = λ u v c l h. P.rises u v c (gone v l) h }

-- Some are left, and a pass put none into it.
pub placing_stuck : {n : ℕ} {rows order order' : List ℕ} {left left' placed placed' : ℕ} → placed < n → placed' ≡ placed → Placing n rows order left placed → PassedOver n rows order' left left' placed placed' → Arranged n rows order' false
placing_stuck {n} {left = left} b e P Q =
    let some = counts_some (test_bit left) n (omega (arith, P.count)) in
    record { ordered = λ t. absurd (both_ways t refl); circle = λ f. record { left = left; some = some.0; member = some.2; within = P.within; blocked = Q.stuck e } }

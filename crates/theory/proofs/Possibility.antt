-- A graph that is not refused 10 or 11 has start times for every list of delays. One delay is raised at a time: what the end of that step reaches moves with it. No waits are needed.
use mathlib.Core.Path.{◌∙◌, ◌≡◌, ap, sym}
use mathlib.Core.Bool.{Bool, cond, false, true}
use mathlib.Core.Logic.{◌↔◌, ◌≢◌, ◌⊎◌, inl, inr}
use mathlib.Core.List.{List}
use Prim.Native.Nat.{◌+◌, ◌<◌, ◌≤◌, suc, zero, ℕ}
use native.Mathlib.Omega.{arith}
use native.Mathlib.Decide.{dec_lt}
use lib.Dec.{ltb}
use borrow.Author.Tests.{le-ltb, lt-ltb}
use Rattle.definitions.specs.Links.{After, Edge, Graph, LateInto, UsableFrom, members, usable}
use Rattle.definitions.specs.Rounds.{after_reaches}
use Rattle.laws.proofs.Bools.{bool_cases, both_ways, cond_false, cond_true, not_passing, same_or_not}
use Rattle.theory.specs.Graphs.{KeepsEdge, Rooted, Schedule, Shape, Well}
use Rattle.theory.proofs.Feasibility.{stable_nonpositive_iff, stable_schedule_iff}
use Rattle.theory.proofs.Usables.{dec_late_into, forward_usable, forwards_usable}
use Rattle.theory.proofs.WaitLists.{usable_reaches_iff}
use Rattle.theory.proofs.Walks.{after_edge, after_from, after_join, after_to, counted_forward, some_after, walk_edge, walk_mono}

-- Delays that agree where edges are.
schedule_delays : {n : ℕ} {E : Graph} {d d' t : ℕ → ℕ} → Shape n E → ((v : ℕ) → v < n → d v ≡ d' v) → Schedule E d t → Schedule E d' t
schedule_delays {d = d} {d' = d'} shape h s = record { starts = s.starts; keeps = λ e m. omega (arith, s.keeps e m, ap (λ (x : ℕ). cond e.counted x 0) (h e.from (shape.from_below e m)), ap (λ (x : ℕ). cond e.late x 0) (h e.to (shape.to_below e m))) }

cond_up : (b : Bool) (x y : ℕ) → x ≤ y → cond b x 0 ≤ cond b y 0
cond_up true x y h = h
cond_up false x y h = omega arith

cond_step : (b : Bool) (x y z : ℕ) → y ≤ x + z → cond b y 0 ≤ cond b x 0 + z
cond_step true x y z h = h
cond_step false x y z h = omega arith

-- One delay raised by x. What the end of a reaches moves by x; the only edges out of there are late returns into a, and they have x more on the right.
module _ {n : ℕ} {E : Graph} (shape : Shape n E) (rooted : Rooted n E) {a : ℕ} (inside : a < n) (open_step : a ≢ 0) (once : ¬ After (UsableFrom E a) a a) (reached : ℕ → Bool) (exact : (v : ℕ) → (reached v ≡ true) ↔ After (UsableFrom E a) a v) (x : ℕ) where
  abbrev shifted : (ℕ → ℕ) → ℕ → ℕ
  shifted t v = t v + cond (reached v) x 0

  away : {v : ℕ} → After (UsableFrom E a) a v → v ≢ a
  away w h = once (some_after (after_to h w.walk))

  source_away : reached 0 ≡ false
  source_away = not_passing (reached 0) (λ r. once (some_after (after_join ((exact 0).0 r).walk (walk_mono (λ e m. (forwards_usable shape a e m).0) (rooted a inside).walk))))

  on : (e : Edge) → E e → reached e.from ≡ true → ¬ LateInto e a → reached e.to ≡ true
  on e m r i = (exact e.to).1 (some_after (after_join ((exact e.from).0 r).walk (walk_edge e (m, i))))

  first : (e : Edge) → E e → e.counted ≡ true → e.from ≡ a → reached e.to ≡ true
  first e m c h =
      (exact e.to).1 (some_after (after_from (sym h) (after_edge e (m, forward_usable shape a e m (counted_forward shape e m c)) c (λ z. open_step (sym h ∙ z)))))

  module _ {d d' t : ℕ → ℕ} (more : d' a ≡ d a + x) (same : (v : ℕ) → v ≢ a → d' v ≡ d v) (s : Schedule E d t) where
    between : (v : ℕ) → (d v ≤ d' v) × (d' v ≤ d v + x)
    between v = go (same_or_not v a)
      where
        go : (v ≡ a) ⊎ (v ≢ a) → (d v ≤ d' v) × (d' v ≤ d v + x)
        go (inl h) = (omega (arith, more, ap d h, ap d' h), omega (arith, more, ap d h, ap d' h))
        go (inr h) = (omega (arith, same v h), omega (arith, same v h))

    unmoved : {v : ℕ} → reached v ≡ true → d' v ≡ d v
    unmoved {v} r = same v (away ((exact v).0 r))

    -- The delay counted out of `from` has not moved, unless `from` is a and the edge is counted: then `to` has.
    counted_same : (e : Edge) → E e → reached e.to ≡ false → cond e.counted (d' e.from) 0 ≡ cond e.counted (d e.from) 0
    counted_same e m out = go (bool_cases e.counted) (same_or_not e.from a)
      where
        go : (e.counted ≡ true) ⊎ (e.counted ≡ false) → (e.from ≡ a) ⊎ (e.from ≢ a) → cond e.counted (d' e.from) 0 ≡ cond e.counted (d e.from) 0
        go (inl c) (inl h) = absurd (both_ways (first e m c h) out)
        go (inr c) (inl h) = cond_false (d' e.from) 0 c ∙ sym (cond_false (d e.from) 0 c)
        go c (inr h) = ap (λ (y : ℕ). cond e.counted y 0) (same e.from h)

    shift_keeps : (e : Edge) → E e → KeepsEdge d' (shifted t) e
    shift_keeps e m = go (bool_cases (reached e.from)) (bool_cases (reached e.to)) (dec_late_into e a)
      where
        go : (reached e.from ≡ true) ⊎ (reached e.from ≡ false) → (reached e.to ≡ true) ⊎ (reached e.to ≡ false) → Dec (LateInto e a) → KeepsEdge d' (shifted t) e
        go (inl r) (inl w) i =
            omega (
              arith,
              s.keeps e m,
              cond_true x 0 r,
              cond_true x 0 w,
              ap (λ (y : ℕ). cond e.counted y 0) (unmoved r),
              ap (λ (y : ℕ). cond e.late y 0) (unmoved w),
            )
        go (inl r) (inr w) (yes i) =
            omega (
              arith,
              s.keeps e m,
              cond_true x 0 r,
              cond_false x 0 w,
              ap (λ (y : ℕ). cond e.counted y 0) (unmoved r),
              cond_true (d e.to) 0 i.0,
              cond_true (d' e.to) 0 i.0,
              ap d i.1,
              ap d' i.1,
              more,
            )
        go (inl r) (inr w) (no i) = absurd (both_ways (on e m r i) w)
        go (inr r) (inl w) i =
            omega (
              arith,
              s.keeps e m,
              cond_false x 0 r,
              cond_true x 0 w,
              cond_step e.counted (d e.from) (d' e.from) x (between e.from).1,
              ap (λ (y : ℕ). cond e.late y 0) (unmoved w),
            )
        go (inr r) (inr w) i =
            omega (arith, s.keeps e m, cond_false x 0 r, cond_false x 0 w, counted_same e m w, cond_up e.late (d e.to) (d' e.to) (between e.to).0)

    shift : Schedule E d' (shifted t)
    shift = record { starts = omega (arith, s.starts, cond_false x 0 source_away); keeps = shift_keeps }

-- All delays, one after the other.
abbrev up_to : (ℕ → ℕ) → ℕ → ℕ → ℕ
up_to d m v = cond (ltb v m) (d v) 0

up_to_in : (d : ℕ → ℕ) (m v : ℕ) → v < m → up_to d m v ≡ d v
up_to_in d m v h = cond_true (d v) 0 (lt-ltb v m h)

up_to_out : (d : ℕ → ℕ) (m v : ℕ) → m ≤ v → up_to d m v ≡ 0
up_to_out d m v h = cond_false (d v) 0 (le-ltb v m h)

up_to_more : (d : ℕ → ℕ) (m v : ℕ) → v ≢ m → up_to d (suc m) v ≡ up_to d m v
up_to_more d m v h = go (dec_lt v m)
  where
    go : Dec (v < m) → up_to d (suc m) v ≡ up_to d m v
    go (yes c) = omega (arith, up_to_in d m v c, up_to_in d (suc m) v (omega arith))
    go (no c) = omega (arith, up_to_out d m v (omega arith), up_to_out d (suc m) v (omega arith))

module _ {n : ℕ} {es : List Edge} (well : Well n (members es)) (d : ℕ → ℕ) (no_wait : d 0 ≡ 0) where
  one_more : (m : ℕ) → m < n → (t : ℕ → ℕ) × Schedule (members es) (up_to d m) t → (m ≡ 0) ⊎ (m ≢ 0) → (t : ℕ → ℕ) × Schedule (members es) (up_to d (suc m)) t
  one_more m b D (inl h) = (D.0, schedule_delays well.shape (λ v c. same v (same_or_not v m)) D.1)
    where
      same : (v : ℕ) → (v ≡ m) ⊎ (v ≢ m) → up_to d m v ≡ up_to d (suc m) v
      same v (inl e) = omega (arith, up_to_out d m v (omega arith), up_to_in d (suc m) v (omega arith), ap d e, ap d h, no_wait)
      same v (inr e) = sym (up_to_more d m v e)
  one_more m b D (inr h) = (
    _,
    shift
        well.shape
        well.rooted
        b
        h
        (well.consistent m)
        (after_reaches n (usable es m) m)
        (usable_reaches_iff well.shape m)
        (d m)
        (omega (arith, up_to_in d (suc m) m (omega arith), up_to_out d m m (omega arith)))
        (λ v e. up_to_more d m v e)
        D.1,
  )

  below : (m : ℕ) → m ≤ n → (t : ℕ → ℕ) × Schedule (members es) (up_to d m) t
  below zero b =
      let D = (stable_schedule_iff well.some well.shape well.rooted).0 ((stable_nonpositive_iff well.some well.shape well.rooted).1 well.never) in
      (D.0, schedule_delays well.shape (λ v c. sym (up_to_out d 0 v (omega arith))) D.1)
  below (suc m) b = one_more m (omega arith) (below m (omega arith)) (same_or_not m 0)

  pub possible : (t : ℕ → ℕ) × Schedule (members es) d t
  possible = let D = below n (omega arith) in (D.0, schedule_delays well.shape (λ v c. up_to_in d n v c) D.1)

-- What the delays take off along a walk: each late return is kept with the delay of its end on the right. Walks bound start times up to that.
use mathlib.Core.Path.{◌≡◌, ap, refl}
use mathlib.Core.Bool.{Bool, cond, false, true}
use mathlib.Core.Logic.{◌≢◌}
use Prim.Native.Nat.{◌+◌, ◌≤◌, ℕ}
use native.Mathlib.Omega.{arith}
use Rattle.definitions.specs.Links.{AfterWalk, Graph, UsableFrom, Walk, step, stop}
use Rattle.laws.proofs.Bools.{cond_either, cond_false, cond_true}
use Rattle.theory.specs.Graphs.{NonPositive, Schedule, Shape}
use Rattle.theory.proofs.Walks.{counted_forward}

pub slack : {E : Graph} {x y k p q : ℕ} → (ℕ → ℕ) → Walk E x y k p q → ℕ
slack d (stop e hk hp hq) = 0
slack d (step w e m f o hk hp hq) = slack d w + cond e.late (d e.to) 0

-- Add up what the edges ask. Where the walk begins with a counted edge out of a, the delay of a counts too.
walk_slack : {E : Graph} {d t : ℕ → ℕ} {x y k p q : ℕ} → Schedule E d t → (w : Walk E x y k p q) → t x + p ≤ t y + q + slack d w
unfolding slack
walk_slack {t = t} s (stop e hk hp hq) = omega (arith, ap t e)
walk_slack {t = t} s (step w e m f o hk hp hq) = omega (arith, walk_slack s w, s.keeps e m, ap t f, ap t o)

pub after_slack : {n : ℕ} {E : Graph} {d t : ℕ → ℕ} {a y p q : ℕ} → Shape n E → Schedule E d t → (w : AfterWalk E a y p q) → t a + d a + p ≤ t y + q + slack d w.rest
after_slack {d = d} {t = t} shape s w =
    omega (
      arith,
      walk_slack s w.rest,
      s.keeps w.edge w.mem,
      cond_true (d w.edge.from) 0 w.counts,
      cond_false (d w.edge.to) 0 (shape.forward_timely w.edge w.mem (counted_forward shape w.edge w.mem w.counts)),
      ap t w.leaves,
      ap d w.leaves,
    )

-- A walk from the end of a does not lean on the delay of a; and delays of 0 take nothing off.
cond_same : (b : Bool) (x y : ℕ) → (b ≡ true → x ≡ y) → cond b x 0 ≡ cond b y 0
cond_same true x y h = h refl
cond_same false x y h = refl

pub slack_same : {E : Graph} {d d' : ℕ → ℕ} {a x y k p q : ℕ} → ((v : ℕ) → v ≢ a → d v ≡ d' v) → (w : Walk (UsableFrom E a) x y k p q) → slack d w ≡ slack d' w
unfolding slack
slack_same h (stop e hk hp hq) = refl
slack_same {d = d} {d' = d'} h (step w e m f o hk hp hq) =
    omega (arith, slack_same {d = d} {d' = d'} h w, cond_same e.late (d e.to) (d' e.to) (λ l. h e.to (λ z. m.1 (l, z))))

pub slack_zero : {E : Graph} {x y k p q : ℕ} (w : Walk E x y k p q) → slack (λ v. 0) w ≡ 0
unfolding slack
slack_zero (stop e hk hp hq) = refl
slack_zero (step w e m f o hk hp hq) = omega (arith, slack_zero w, cond_either {A = ℕ} e.late 0)

-- A graph with a schedule for delays of 0 has no closed walk above 0: around it the start times come back to where they were.
pub schedule_nonpositive : {E : Graph} {t : ℕ → ℕ} → Schedule E (λ v. 0) t → NonPositive E
schedule_nonpositive s = record { closed = λ w. omega (arith, walk_slack s w, slack_zero w) }

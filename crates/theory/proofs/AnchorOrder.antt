-- Induction along anchors: `a walk from the end of a reaches v` is transitive and has no circle, and so is founded on the numbers below n.
use mathlib.Core.Path.{◌≡◌, subst, sym}
use mathlib.Core.Logic.{◌⊎◌, inl, inr}
use mathlib.Core.List.Memᴰ
use mathlib.Core.List.{List, Memᴰ, [], ◌∷◌}
use Prim.Native.Nat.{◌<◌, ◌≤◌, suc, zero, ℕ}
use native.Mathlib.Omega.{arith}
use Rattle.definitions.specs.Links.{After, Forward, Graph}
use Rattle.theory.specs.Graphs.{Acyclic, Relative, Schedule, Shape, Timely}
use Rattle.theory.proofs.Pigeonhole.{free, free_none, free_take}
use Rattle.theory.proofs.RelativeSchedules.{least_step}
use Rattle.theory.proofs.Walks.{after_trans}

-- A list of vertices that all stand behind v: v is none of them, and what stands before v stands before them and v.
abbrev pub Behind : (ℕ → ℕ → Type 0) → List ℕ → ℕ → Type 0
Behind R l v = (z : ℕ) → Memᴰ z l → R v z

pub behind_new : (R : ℕ → ℕ → Type 0) → ((a : ℕ) → ¬ R a a) → (l : List ℕ) (v : ℕ) → Behind R l v → ¬ Memᴰ v l
behind_new R never l v h m = never v (h v m)

pub behind_more : (R : ℕ → ℕ → Type 0) → ((a b c : ℕ) → R a b → R b c → R a c) → (l : List ℕ) (v a : ℕ) → Behind R l v → R a v → Behind R (v ∷ l) a
behind_more R trans l v a h r z m = go (Memᴰ.cases_cons m)
  where
    go : (z ≡ v) ⊎ Memᴰ z l → R a z
    go (inl e) = subst (λ (w : ℕ). R a w) (sym e) r
    go (inr i) = trans a v z r (h z i)

-- Induction along a transitive relation with no circle on the numbers below n: what stands before v is new to the list of all that stand behind, and n numbers can be new.
module _ (n : ℕ) (R : ℕ → ℕ → Type 0) (trans : (a b c : ℕ) → R a b → R b c → R a c) (never : (a : ℕ) → ¬ R a a) (P : ℕ → Type 0) (each : (v : ℕ) → v < n → ((a : ℕ) → a < n → R a v → P a) → P v) where
  induct_below : (fuel : ℕ) (l : List ℕ) (v : ℕ) → v < n → free n l ≤ fuel → Behind R l v → P v
  induct_below zero l v b f h = absurd (omega (arith, free_take n v l b (behind_new R never l v h)))
  induct_below (suc fuel) l v b f h =
      each v b (λ a c r. induct_below fuel (v ∷ l) a c (omega (arith, free_take n v l b (behind_new R never l v h))) (behind_more R trans l v a h r))

  pub induct : (v : ℕ) → v < n → P v
  induct v b = induct_below n [] v b (omega (arith, free_none n)) (λ z m. absurd (Memᴰ.not-nil m))

module _ (n : ℕ) (E : Graph) (acyclic : Acyclic E) where
  -- What holds of a vertex once it holds of the anchors before it; and the same upwards.
  pub anchor_induct : (P : ℕ → Type 0) → ((v : ℕ) → v < n → ((a : ℕ) → a < n → After E a v → P a) → P v) → (v : ℕ) → v < n → P v
  anchor_induct = induct n (λ a v. After E a v) (λ a b c. after_trans) acyclic

  pub anchored_induct : (P : ℕ → Type 0) → ((a : ℕ) → a < n → ((v : ℕ) → v < n → After E a v → P v) → P a) → (a : ℕ) → a < n → P a
  anchored_induct = induct n (λ v a. After E a v) (λ c b a w v. after_trans v w) acyclic

-- Where no return is late the relative schedule is the least. By induction along anchors: its start at v is a term of an anchor before v, and any schedule keeps that term.
pub least_acyclic : {n : ℕ} {E : Graph} {d S t : ℕ → ℕ} {off : ℕ → ℕ → ℕ} → Shape n E → Timely E → Acyclic (Forward E) → Relative n E d S off → Schedule E d t → (v : ℕ) → v < n → S v ≤ t v
least_acyclic {n} {E} {d} {S} {t} shape timely acyclic rel s = anchor_induct n (Forward E) acyclic (λ v. S v ≤ t v) (least_step shape timely rel s)

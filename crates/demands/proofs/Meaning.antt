-- The tests that the definitions compute are the relations of document 01, for the edges of a sheet without its waits and with them.
use mathlib.Core.Path.{◌≡◌, refl, sym, subst, ◌∙◌}
use mathlib.Core.Bool.{true}
use mathlib.Core.Logic.{◌⊎◌, inl, inr, ◌↔◌}
use mathlib.Core.List.{List, Memᴰ}
use Prim.Native.Nat.{ℕ, suc, ◌+◌, ◌<◌}
use native.Mathlib.Omega.{arith}
use Rattle.definitions.specs.Bytes.{Records}
use Rattle.definitions.specs.Links.{Edge, members, Forward, Walk, stop, step, Joined, After, forwards, delay_at}
use Rattle.definitions.specs.Rounds.{reaches}
use Rattle.definitions.specs.Anchors.{InAnchorSet, is_source, chain}
use Rattle.definitions.specs.Answers.{closes_circle, count_of, edges_of, serialized_of, leasts_of}
use Rattle.definitions.specs.declared.Delay.TheVariants.{Open}
use Rattle.laws.proofs.Tests.{any_has, any_by}
use Rattle.theory.specs.Graphs.{Shape}
use Rattle.theory.proofs.Walks.{after_mono, some_after, walk_to, joined_mono, chain_after}
use Rattle.theory.proofs.Reachability.{forwards_mem, mem_forwards, forwards_shape, reaches_iff, after_reaches_iff, in_anchor_set_iff, well_posed_iff}
use Rattle.theory.proofs.Serialization.{after_back, wait_after}
use Rattle.theory.proofs.WaitLists.{serialized_waited, serialized_shape, usable_reaches_iff, listed_wait, wait_list_only}
use Rattle.definitions.specs.Waits.{WaitPair}
use Rattle.demands.specs.Demands.{Meant, MeantFor, WaitOf, sheet_waits}
use Rattle.demands.proofs.Reading.{Fits}
use Rattle.demands.proofs.Edges.{sheet_shape, sheet_fits}

module _ {n : ℕ} {es : List Edge} (shape : Shape n (members es)) where
  -- A chain of forward links, by test.
  forward_reaches : {x : ℕ} → x < n → (v : ℕ) → (reaches n (forwards es) x v ≡ true) ↔ Joined (Forward (members es)) x v
  forward_reaches b v =
      let r = reaches_iff (forwards_shape shape) b v in
      (λ h. joined_mono (mem_forwards es) (r.0 h), λ J. r.1 (joined_mono (forwards_mem es) J))

  -- A circle is an edge and a chain from its end to its start; and a closed walk of at least one edge ends with such an edge.
  circle_walk : closes_circle n es ≡ true → (x : ℕ) × (k : ℕ) × (g : ℕ) × (l : ℕ) × Walk (Forward (members es)) x x (suc k) g l
  unfolding closes_circle
  circle_walk h =
      let r = any_has (λ e. reaches n (forwards es) e.to e.from) (forwards es) h in
      let m = mem_forwards es r.0 r.1 in
      let J = (forward_reaches (shape.to_below r.0 m.0) r.0.from).0 r.2 in
      (r.0.to, J.k, J.p + r.0.gain, J.q + r.0.loss, step J.walk r.0 m refl refl refl refl refl)

  walk_circle : {x y k g l : ℕ} → x ≡ y → Walk (Forward (members es)) x y (suc k) g l → closes_circle n es ≡ true
  unfolding closes_circle
  walk_circle h (stop e hk hp hq) = absurd (omega arith)
  walk_circle {x} {y} h (step {y = z} {k = k₀} {p = p₀} {q = q₀} w e m f o hk hp hq) =
      any_by
      (λ e. reaches n (forwards es) e.to e.from)
      (forwards es)
      (forwards_mem es e m)
      ((forward_reaches (shape.to_below e m.0) e.from).1 (record { k = k₀; p = p₀; q = q₀; walk = subst (λ (i : ℕ). Walk (Forward (members es)) i e.from k₀ p₀ q₀) (h ∙ sym o) (walk_to w (sym f) refl refl refl) }))

  pub meant : Meant n es
  meant = record {
    walks = λ x v b. reaches_iff shape b v;
    after_walks = after_reaches_iff shape;
    end_walks = usable_reaches_iff shape;
    start_sets = in_anchor_set_iff shape;
    sound = well_posed_iff shape;
    circle = (circle_walk, λ r. walk_circle refl r.4);
  }

-- A step from whose end a walk goes is open: the walk's first edge is counted.
pub after_open : {q : Records} {a v : ℕ} → Fits q → After (members (edges_of q)) a v → delay_at q.steps a ≡ Open
after_open {q} fits w =
    let e = w.walk.edge in
    subst (λ (i : ℕ). delay_at q.steps i ≡ Open) w.walk.leaves ((sheet_fits fits e w.walk.mem).counted_open w.walk.counts)

-- A listed wait is of an open step other than 0, for another step.
pub wait_of : {q : Records} → Fits q → (w : WaitPair) → Memᴰ w (sheet_waits q) → WaitOf q w
wait_of {q} fits w m =
    let below = wait_list_only (count_of q) (edges_of q) m in
    let a = wait_after (listed_wait (sheet_shape fits) m) in
    record { anchor_below = below.0; target_below = below.1; not_source = a.walk.not_source; lasts = after_open fits (some_after (after_mono (λ e i. i.0) a.walk)) }

-- The sheet with its waits in has the shape of a sheet.
module _ {q : Records} (fits : Fits q) where
  pub waits_shape : Shape (count_of q) (members (serialized_of q))
  unfolding serialized_of
  waits_shape = serialized_shape (sheet_shape fits) (leasts_of q)

  -- A member of a start set is step 0 or open, waits or not: a walk over waits stands for one of the sheet as sent.
  member_open : {a v : ℕ} → InAnchorSet (members (serialized_of q)) a v → (a ≡ 0) ⊎ (delay_at q.steps a ≡ Open)
  unfolding serialized_of
  member_open (is_source e) = inl e
  member_open (chain c) = inr (after_open fits (after_back (serialized_waited (sheet_shape fits)) (chain_after c).walk))

  pub meant_for : MeantFor q
  meant_for =
      let S = in_anchor_set_iff waits_shape in
      record { unwaited = meant (sheet_shape fits); with_waits = meant waits_shape; source = λ v. (S 0 v).1 (is_source refl); others_open = λ a v h. member_open ((S a v).0 h) }

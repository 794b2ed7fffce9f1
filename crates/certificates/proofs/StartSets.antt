-- Start sets on a list of edges that can be scheduled: a start depends on the delays of the members alone, and each member decides or stands before one that decides.
use mathlib.Core.Path.{◌∙◌, ◌≡◌, ap, refl, subst, sym}
use mathlib.Core.Logic.{◌≢◌, ◌⊎◌, inl, inr}
use mathlib.Core.List.{List}
use Prim.Native.Nat.{◌+◌, ◌<◌, ℕ}
use native.Mathlib.Omega.{arith}
use Rattle.definitions.specs.Anchors.{InAnchorSet, WellPosed, chain, in_anchor_set, is_source}
use Rattle.definitions.specs.Links.{After, Edge, Forward, members, no_leasts}
use Rattle.definitions.specs.Plan.{offset, start_times}
use Rattle.definitions.specs.Rounds.{cell}
use Rattle.laws.proofs.Bools.{same_or_not}
use Rattle.laws.proofs.Tests.{largest_same}
use Rattle.theory.specs.Graphs.{Decides, Overrides, Well}
use Rattle.theory.proofs.AnchorOrder.{anchor_induct, anchored_induct}
use Rattle.theory.proofs.DecidingSets.{decides_iff, deciding_some}
use Rattle.theory.proofs.Irredundance.{decides_or_not}
use Rattle.theory.proofs.Reachability.{dec_member, in_anchor_set_iff}
use Rattle.theory.proofs.StartTimes.{start_times_rule, start_times_source}
use Rattle.theory.proofs.Usables.{well_acyclic}
use Rattle.theory.proofs.Walks.{after_start_below, after_trans, chain_after, member_to, source_first}

module _ {n : ℕ} {es : List Edge} (well : Well n (members es)) where
  -- No chain of forward links leads to step 0.
  pub source_alone : {a : ℕ} → InAnchorSet (members es) a 0 → a ≡ 0
  source_alone (is_source e) = e
  source_alone (chain w) = absurd (source_first well.rooted (well_acyclic well) (after_start_below well.shape (chain_after w)) w)

  -- A member of a member's start set is a member.
  pub member_trans : {a b v : ℕ} → InAnchorSet (members es) a b → InAnchorSet (members es) b v → InAnchorSet (members es) a v
  member_trans (is_source e) j = is_source e
  member_trans {a} (chain w) (is_source e) =
      absurd (source_first well.rooted (well_acyclic well) (after_start_below well.shape (chain_after w)) (subst (λ (x : ℕ). After (Forward (members es)) a x) e w))
  member_trans (chain w) (chain u) = chain (after_trans w u)

  -- Delays that agree on the start set of v give the same start of v. By induction along anchors: each term is of a member, and the members of a member are members.
  pub start_agrees : (least d d' : ℕ → ℕ) (v : ℕ) → v < n → ((a : ℕ) → InAnchorSet (members es) a v → d a ≡ d' a) → cell (start_times n least es d) v ≡ cell (start_times n least es d') v
  start_agrees least d d' = anchor_induct n (Forward (members es)) (well_acyclic well) (λ v. ((a : ℕ) → InAnchorSet (members es) a v → d a ≡ d' a) → S v ≡ S' v) each
    where
      S : ℕ → ℕ
      S x = cell (start_times n least es d) x

      S' : ℕ → ℕ
      S' x = cell (start_times n least es d') x

      sources : (x : ℕ) → x ≡ 0 → cell (start_times n least es d) x ≡ cell (start_times n least es d') x
      sources x e = ap (λ (y : ℕ). cell (start_times n least es d) y) e ∙ start_times_source least well.shape d ∙ sym (ap (λ (y : ℕ). cell (start_times n least es d') y) e ∙ start_times_source least well.shape d')

      each : (v : ℕ) → v < n → ((a : ℕ) → a < n → After (Forward (members es)) a v → ((b : ℕ) → InAnchorSet (members es) b a → d b ≡ d' b) → S a ≡ S' a) → ((a : ℕ) → InAnchorSet (members es) a v → d a ≡ d' a) → S v ≡ S' v
      each v b ih same = go (same_or_not v 0)
        where
          by : (a : ℕ) → InAnchorSet (members es) a v → cell (start_times n least es d) a + d a + offset n least es a v ≡ cell (start_times n least es d') a + d' a + offset n least es a v
          by a (is_source e) = omega (arith, sources a e, same a (is_source e))
          by a (chain w) = omega (arith, ih a (after_start_below well.shape (chain_after w)) w (λ x i. same x (member_trans i (chain w))), same a (chain w))

          go : (v ≡ 0) ⊎ (v ≢ 0) → cell (start_times n least es d) v ≡ cell (start_times n least es d') v
          go (inl e) = sources v e
          go (inr z) =
              start_times_rule least well.shape d (well_acyclic well) v b z
              ∙ largest_same
              (λ a. in_anchor_set n es a v)
              (λ a. cell (start_times n least es d) a + d a + offset n least es a v)
              (λ a. cell (start_times n least es d') a + d' a + offset n least es a v)
              n
              (λ a c i. by a ((in_anchor_set_iff well.shape a v).0 i))
              ∙ sym (start_times_rule least well.shape d' (well_acyclic well) v b z)

  abbrev Decider : ℕ → ℕ → Type 0
  Decider v a = (c : ℕ) × Decides (members es) (offset n no_leasts es) c v × ((a ≡ c) ⊎ InAnchorSet (members es) a c)

  -- Each member of the start set of v decides v or is a member of one that does: who leaves a out stands behind a, and following who leaves out whom ends.
  pub member_decider : WellPosed (members es) → (v : ℕ) → v < n → (a : ℕ) → a < n → InAnchorSet (members es) a v → (c : ℕ) × Decides (members es) (offset n no_leasts es) c v × ((a ≡ c) ⊎ InAnchorSet (members es) a c)
  member_decider posed v h =
      anchored_induct n (Forward (members es)) (well_acyclic well) (λ a. InAnchorSet (members es) a v → Decider v a) (λ a b ih i. each a b ih i (same_or_not a 0))
    where
      each : (a : ℕ) → a < n → ((b : ℕ) → b < n → After (Forward (members es)) a b → InAnchorSet (members es) b v → Decider v b) → InAnchorSet (members es) a v → (a ≡ 0) ⊎ (a ≢ 0) → Decider v a
      each a b ih i (inl e) =
          let r = deciding_some well posed v h in
          (r.0, (decides_iff well.shape r.0 v h).0 r.2, inr (is_source e))
      each a b ih i (inr z) = go (decides_or_not well.shape (offset n no_leasts es) (dec_member well.shape) a v h i)
        where
          reached : (x : ℕ) → InAnchorSet (members es) a x → After (Forward (members es)) a x
          reached x (is_source e) = absurd (z e)
          reached x (chain w) = w

          behind : (x c : ℕ) → InAnchorSet (members es) a x → (x ≡ c) ⊎ InAnchorSet (members es) x c → InAnchorSet (members es) a c
          behind x c j (inl e) = member_to e j
          behind x c j (inr k) = member_trans j k

          go : Decides (members es) (offset n no_leasts es) a v ⊎ ((x : ℕ) × (x < n) × Overrides (members es) (offset n no_leasts es) a v x) → Decider v a
          go (inl D) = (a, D, inl refl)
          go (inr r) =
              let o = r.2 in
              let s = ih r.0 r.1 (reached r.0 o.behind) o.inside in
              (s.0, s.1, inr (behind r.0 s.0 o.behind s.2))

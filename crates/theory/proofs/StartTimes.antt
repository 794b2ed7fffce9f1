-- Start times by turns are the relative schedule, and how large they can be.
use mathlib.Core.Path.{◌∙◌, ◌≡◌, ap, refl, subst, sym}
use mathlib.Core.Bool.{true}
use mathlib.Core.Logic.{◌≢◌, ◌⊎◌, inl, inr}
use mathlib.Core.List.Memᴰ
use mathlib.Core.List.{List, [], ◌∷◌}
use Prim.Native.Nat.{◌*◌, ◌+◌, ◌<◌, ◌≤◌, suc, zero, ℕ}
use native.Mathlib.Omega.{arith}
use native.Mathlib.Decide.{dec_lt}
use native.Mathlib.Nat.{suc-mul}
use lib.ListN.{length}
use Rattle.definitions.specs.Anchors.{InAnchorSet, WellPosed, chain, in_anchor_set, is_source}
use Rattle.definitions.specs.Basics.{largest}
use Rattle.definitions.specs.Links.{After, Edge, Forward, Graph, UsableFrom, members, no_leasts}
use Rattle.definitions.specs.Plan.{Offset, Span, after, offset, source, start_from, start_times, start_turns}
use Rattle.definitions.specs.Rounds.{cell}
use Rattle.laws.proofs.Bools.{same_or_not}
use Rattle.laws.proofs.Lists.{zeros_at}
use Rattle.laws.proofs.Tests.{largest_above, largest_attained, largest_same, tabulate_at, tabulate_length, tabulate_past, tabulate_same}
use Rattle.theory.specs.Graphs.{Acyclic, Attained, Relative, Shape, Well}
use Rattle.theory.proofs.AnchorOrder.{Behind, behind_more, behind_new}
use Rattle.theory.proofs.FirstRows.{zeros_length}
use Rattle.theory.proofs.Offsets.{offset_found}
use Rattle.theory.proofs.Pigeonhole.{free, free_none, free_take}
use Rattle.theory.proofs.Reachability.{in_anchor_set_iff}
use Rattle.theory.proofs.Usables.{well_acyclic, usable_sub}
use Rattle.theory.proofs.Walks.{after_start_below, after_trans, chain_after, member_below, source_first, walk_mono}

-- A start time for each step.
pub start_turns_length : (n : ℕ) (least : ℕ → ℕ) (es : List Edge) (d : ℕ → ℕ) (k : ℕ) → length (start_turns n least es d k) ≡ n
unfolding start_turns
start_turns_length n least es d zero = zeros_length n
start_turns_length n least es d (suc k) = tabulate_length (start_from n least es d (start_turns n least es d k)) n

pub start_times_length : (n : ℕ) (least : ℕ → ℕ) (es : List Edge) (d : ℕ → ℕ) → length (start_times n least es d) ≡ n
unfolding start_times
start_times_length n least es d = start_turns_length n least es d n

-- Start times depend on the delays below n alone.
start_from_same : (n : ℕ) (least : ℕ → ℕ) (es : List Edge) (d d' : ℕ → ℕ) (row : List ℕ) → ((a : ℕ) → a < n → d a ≡ d' a) → (v : ℕ) → start_from n least es d row v ≡ start_from n least es d' row v
unfolding start_from
start_from_same n least es d d' row h zero = refl
start_from_same n least es d d' row h (suc v) =
    largest_same
    (λ a. in_anchor_set n es a (suc v))
    (λ a. cell row a + d a + offset n least es a (suc v))
    (λ a. cell row a + d' a + offset n least es a (suc v))
    n
    (λ a b i. omega (arith, h a b))

start_turns_same : (n : ℕ) (least : ℕ → ℕ) (es : List Edge) (d d' : ℕ → ℕ) → ((a : ℕ) → a < n → d a ≡ d' a) → (k : ℕ) → start_turns n least es d k ≡ start_turns n least es d' k
unfolding start_turns
start_turns_same n least es d d' h zero = refl
start_turns_same n least es d d' h (suc k) =
    tabulate_same
    (start_from n least es d (start_turns n least es d k))
    (start_from n least es d' (start_turns n least es d' k))
    n
    (λ v b. start_from_same n least es d d' (start_turns n least es d k) h v ∙ ap (λ (row : List ℕ). start_from n least es d' row v) (start_turns_same n least es d d' h k))

pub start_times_same : (n : ℕ) (least : ℕ → ℕ) (es : List Edge) (d d' : ℕ → ℕ) → ((a : ℕ) → a < n → d a ≡ d' a) → start_times n least es d ≡ start_times n least es d'
unfolding start_times
start_times_same n least es d d' h = start_turns_same n least es d d' h n

-- The start of v under the delays d, and the term of the anchor a in it.
abbrev pub start_time : ℕ → List Edge → (ℕ → ℕ) → ℕ → ℕ
start_time n es d = cell (start_times n no_leasts es d)

abbrev pub start_term : ℕ → List Edge → (ℕ → ℕ) → ℕ → ℕ → ℕ
start_term n es d v a = start_time n es d a + d a + offset n no_leasts es a v

-- What each turn does.
module _ (least : ℕ → ℕ) {n : ℕ} {es : List Edge} (shape : Shape n (members es)) (d : ℕ → ℕ) where
  abbrev turn : ℕ → ℕ → ℕ
  turn k v = cell (start_turns n least es d k) v

  abbrev term : ℕ → ℕ → ℕ → ℕ
  term k v a = turn k a + d a + offset n least es a v

  turn_next : (k v : ℕ) → v < n → turn (suc k) v ≡ start_from n least es d (start_turns n least es d k) v
  unfolding start_turns
  turn_next k v b = tabulate_at (start_from n least es d (start_turns n least es d k)) n v 0 b

  turn_largest : (k v : ℕ) → suc v < n → turn (suc k) (suc v) ≡ largest (λ a. in_anchor_set n es a (suc v)) (term k (suc v)) n
  unfolding start_from
  turn_largest k v b = turn_next k (suc v) b

  turn_source : (k : ℕ) → turn k 0 ≡ 0
  turn_source zero = unfold start_turns in zeros_at n 0
  turn_source (suc k) = go (dec_lt 0 n)
    where
      go : Dec (0 < n) → turn (suc k) 0 ≡ 0
      go (yes b) = unfold start_from in turn_next k 0 b
      go (no b) = unfold start_turns in tabulate_past (start_from n least es d (start_turns n least es d k)) n 0 0 (omega arith)

  pub start_times_source : cell (start_times n least es d) 0 ≡ 0
  unfolding start_times
  start_times_source = turn_source n

  module _ (acyclic : Acyclic (Forward (members es))) where
    -- Turns beyond the number of steps that can still stand before v change nothing at v. The list holds the steps that stand behind v.
    settled : (k j : ℕ) (l : List ℕ) (v : ℕ) → v < n → free n l ≤ k → free n l ≤ j → Behind (After (Forward (members es))) l v → turn k v ≡ turn j v
    settled zero j l v b hk hj h = absurd (omega (arith, free_take n v l b (behind_new (After (Forward (members es))) acyclic l v h)))
    settled (suc k) zero l v b hk hj h = absurd (omega (arith, free_take n v l b (behind_new (After (Forward (members es))) acyclic l v h)))
    settled (suc k) (suc j) l zero b hk hj h = turn_source (suc k) ∙ sym (turn_source (suc j))
    settled (suc k) (suc j) l (suc v) b hk hj h =
        turn_largest k v b
        ∙ largest_same
        (λ a. in_anchor_set n es a (suc v))
        (term k (suc v))
        (term j (suc v))
        n
        (λ a c i. go a ((in_anchor_set_iff shape a (suc v)).0 i) (λ w. settled k j (suc v ∷ l) a c (omega (arith, fewer)) (omega (arith, fewer)) (behind_more (After (Forward (members es))) (λ x y z. after_trans) l (suc v) a h w)))
        ∙ sym (turn_largest j v b)
      where
        fewer : suc (free n (suc v ∷ l)) ≡ free n l
        fewer = free_take n (suc v) l b (behind_new (After (Forward (members es))) acyclic l (suc v) h)

        go : (a : ℕ) → InAnchorSet (members es) a (suc v) → (After (Forward (members es)) a (suc v) → turn k a ≡ turn j a) → term k (suc v) a ≡ term j (suc v) a
        go a (is_source e) below = omega (arith, ap (turn k) e, ap (turn j) e, turn_source k, turn_source j)
        go a (chain w) below = omega (arith, below w)

    before_same : (m v a : ℕ) → n ≡ suc m → v < n → a < n → InAnchorSet (members es) a v → turn m a ≡ turn n a
    before_same m v a e b c (is_source h) = omega (arith, ap (turn m) h, ap (turn n) h, turn_source m, turn_source n)
    before_same m v a e b c (chain w) =
        settled
        m
        n
        (v ∷ [])
        a
        c
        (omega (arith, free_take n v [] b Memᴰ.not-nil, free_none n))
        (omega (arith, free_take n v [] b Memᴰ.not-nil, free_none n))
        (behind_more (After (Forward (members es))) (λ x y z. after_trans) [] v a (λ z i. absurd (Memᴰ.not-nil i)) w)

    -- The rule of document 01: the largest term over the anchor set.
    pub start_times_rule : (v : ℕ) → v < n → v ≢ 0 → cell (start_times n least es d) v ≡ largest (λ a. in_anchor_set n es a v) (λ a. cell (start_times n least es d) a + d a + offset n least es a v) n
    unfolding start_times
    start_times_rule zero b z = absurd (z refl)
    start_times_rule (suc u) b z = go n refl
      where
        go : (k : ℕ) → n ≡ k → turn n (suc u) ≡ largest (λ a. in_anchor_set n es a (suc u)) (term n (suc u)) n
        go zero e = absurd (omega arith)
        go (suc m) e =
            ap (λ (k : ℕ). turn k (suc u)) e
            ∙ turn_largest m u b
            ∙ largest_same
            (λ a. in_anchor_set n es a (suc u))
            (term m (suc u))
            (term n (suc u))
            n
            (λ a c i. omega (arith, before_same m (suc u) a e b c ((in_anchor_set_iff shape a (suc u)).0 i)))

-- The start times are the relative schedule: the largest term bounds the terms and is one of them.
module _ {n : ℕ} {es : List Edge} (well : Well n (members es)) (posed : WellPosed (members es)) (d : ℕ → ℕ) (no_wait : d 0 ≡ 0) where
  abbrev S : ℕ → ℕ
  S = cell (start_times n no_leasts es d)

  abbrev value : ℕ → ℕ → ℕ
  value v a = S a + d a + offset n no_leasts es a v

  -- The source's offset for itself is 0: a closed walk is not above 0.
  source_offset : offset n no_leasts es 0 0 ≡ 0
  source_offset = let O = offset_found well posed 0 0 well.some (is_source refl) in go O O.span
    where
      go : (O : Offset no_leasts (UsableFrom (members es) 0) 0 0 (offset n no_leasts es 0 0)) → Span (UsableFrom (members es) 0) 0 0 O.p O.q → offset n no_leasts es 0 0 ≡ 0
      go O (source h w) = omega (arith, well.never.closed (walk_mono (usable_sub (members es) 0) w), O.attained)
      go O (after w) = absurd (w.not_source refl)

  rule : (v : ℕ) → v < n → v ≢ 0 → S v ≡ largest (λ a. in_anchor_set n es a v) (value v) n
  rule = start_times_rule no_leasts well.shape d (well_acyclic well)

  at_source : S 0 ≡ 0
  at_source = start_times_source no_leasts well.shape d

  above_by : (a v : ℕ) → v < n → InAnchorSet (members es) a v → (v ≡ 0) ⊎ (v ≢ 0) → value v a ≤ S v
  above_by a v b (is_source h) (inl e) =
      omega (arith, ap S h, ap S e, at_source, ap d h, no_wait, ap (λ (x : ℕ). offset n no_leasts es x v) h, ap (λ (x : ℕ). offset n no_leasts es 0 x) e, source_offset)
  above_by a v b (chain w) (inl e) =
      absurd (source_first well.rooted (well_acyclic well) (after_start_below well.shape (chain_after w)) (subst (λ (x : ℕ). After (Forward (members es)) a x) e w))
  above_by a v b i (inr z) =
      omega (arith, rule v b z, largest_above (λ x. in_anchor_set n es x v) (value v) n a (member_below well.shape b i) ((in_anchor_set_iff well.shape a v).1 i))

  attained_by : (v : ℕ) → v < n → (v ≡ 0) ⊎ (v ≢ 0) → Attained (members es) d S (offset n no_leasts es) v
  attained_by v b (inl e) =
      record { anchor = 0; inside = is_source refl; equals = omega (arith, ap S e, at_source, no_wait, ap (λ (x : ℕ). offset n no_leasts es 0 x) e, source_offset) }
  attained_by v b (inr z) = go (largest_attained (λ x. in_anchor_set n es x v) (value v) n)
    where
      go : (largest (λ x. in_anchor_set n es x v) (value v) n ≡ 0) ⊎ ((a : ℕ) × (a < n) × (in_anchor_set n es a v ≡ true) × (largest (λ x. in_anchor_set n es x v) (value v) n ≡ value v a)) → Attained (members es) d S (offset n no_leasts es) v
      go (inl e) = record {
        anchor = 0;
        inside = is_source refl;
        equals = omega (arith, rule v b z, largest_above (λ x. in_anchor_set n es x v) (value v) n 0 well.some ((in_anchor_set_iff well.shape 0 v).1 (is_source refl)));
      }
      go (inr r) = record { anchor = r.0; inside = (in_anchor_set_iff well.shape r.0 v).0 r.2; equals = omega (arith, rule v b z, r.3) }

  pub start_times_relative : Relative n (members es) d (cell (start_times n no_leasts es d)) (offset n no_leasts es)
  start_times_relative =
      record { starts = at_source; no_wait = no_wait; offsets = offset_found well posed; above = λ a v b i. above_by a v b i (same_or_not v 0); attained = λ v b. attained_by v b (same_or_not v 0) }

-- A start is at most as many delays and offsets as anchors can stand before it: along the chain of anchors that attain it, each step takes one number below n.
module _ {n : ℕ} {E : Graph} {d S : ℕ → ℕ} {off : ℕ → ℕ → ℕ} (shape : Shape n E) (acyclic : Acyclic (Forward E)) (rel : Relative n E d S off) (most : ℕ) (small : (a v : ℕ) → v < n → InAnchorSet E a v → d a + off a v ≤ most) where
  small_below : (fuel : ℕ) (l : List ℕ) (v : ℕ) → v < n → free n l ≤ fuel → Behind (After (Forward E)) l v → S v ≤ free n l * most
  small_below zero l v b f h = absurd (omega (arith, free_take n v l b (behind_new (After (Forward E)) acyclic l v h)))
  small_below (suc fuel) l v b f h =
      let A = rel.attained v b in
      go A.anchor A.inside A.equals (λ w. small_below fuel (v ∷ l) A.anchor (after_start_below shape (chain_after w)) (omega (arith, fewer)) (behind_more (After (Forward E)) (λ x y z. after_trans) l v A.anchor h w))
    where
      fewer : suc (free n (v ∷ l)) ≡ free n l
      fewer = free_take n v l b (behind_new (After (Forward E)) acyclic l v h)

      go : (a : ℕ) → InAnchorSet E a v → S v ≡ S a + d a + off a v → (After (Forward E) a v → S a ≤ free n (v ∷ l) * most) → S v ≤ free n l * most
      go a (is_source e) q below =
          omega (arith, small a v b (is_source e), ap S e, rel.starts, ap (λ (x : ℕ). x * most) fewer, suc-mul (free n (v ∷ l)) most)
      go a (chain w) q below = omega (arith, small a v b (chain w), below w, ap (λ (x : ℕ). x * most) fewer, suc-mul (free n (v ∷ l)) most)

  pub relative_small : (v : ℕ) → v < n → S v ≤ n * most
  relative_small v b = omega (arith, small_below n [] v b (omega (arith, free_none n)) (λ z m. absurd (Memᴰ.not-nil m)), ap (λ (x : ℕ). x * most) (free_none n))

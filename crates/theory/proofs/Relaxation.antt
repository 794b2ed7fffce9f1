-- Rounds over a list of edges find heaviest walks (Bellman and Ford). A row has a cell for each vertex: 0 for `no walk`, w + 1 for the weight w.
use mathlib.Core.Path.{◌∙◌, ◌≡◌, ap, ap₂, refl, subst, sym}
use mathlib.Core.Bool.{true}
use mathlib.Core.Logic.{◌↔◌, ◌≢◌, ◌⊎◌, inl, inr}
use mathlib.Core.List.Memᴰ
use mathlib.Core.List.{List, Memᴰ, [], ◌∷◌}
use Prim.Native.Nat.{◌+◌, ◌<◌, ◌≤◌, max, suc, zero, ℕ}
use native.Mathlib.Omega.{arith}
use native.Mathlib.Decide.{dec_le}
use lib.Dec.{leb}
use lib.ListN.{length, length-set}
use lib.Seq.{ext_get_or, get_or-set_other, get_or-set_same}
use borrow.Author.Tests.{le-leb, leb-true}
use Rattle.definitions.specs.Anchors.{InAnchorSet, chain, is_source}
use Rattle.definitions.specs.Links.{Edge, Forward, Graph, Joined, Walk, members, step, stop, no_leasts}
use Rattle.definitions.specs.Plan.{Offset, Span, after, source}
use Rattle.definitions.specs.Rounds.{cell, extend, offer, raise, relax, round, rounds, stable}
use Rattle.laws.proofs.Bools.{same_or_not}
use Rattle.laws.proofs.Tests.{all_by, all_each}
use Rattle.theory.specs.Graphs.{Carries, NonPositive, Shape}
use Rattle.theory.proofs.Pigeonhole.{Short, shorten}
use Rattle.theory.proofs.Walks.{after_mono, forward_losses, member_span, span_join, walk_edge, walk_from, walk_mono}

-- One cell raised; the others stay.
pub raise_length : (row : List ℕ) (v c : ℕ) → length (raise row v c) ≡ length row
unfolding raise
raise_length row v c = length-set row v (max (cell row v) c)

pub raise_same : (row : List ℕ) (v c : ℕ) → v < length row → cell (raise row v c) v ≡ max (cell row v) c
unfolding raise
raise_same row v c h = get_or-set_same row v (max (cell row v) c) 0 h

pub raise_other : (row : List ℕ) (v c u : ℕ) → u ≢ v → cell (raise row v c) u ≡ cell row u
unfolding raise
raise_other row v c u h = get_or-set_other row v u (max (cell row v) c) 0 h

pub raise_up : (row : List ℕ) (v c u : ℕ) → v < length row → cell row u ≤ cell (raise row v c) u
raise_up row v c u h = go (same_or_not u v)
  where
    go : (u ≡ v) ⊎ (u ≢ v) → cell row u ≤ cell (raise row v c) u
    go (inl e) = omega (arith, raise_same row v c h, ap (cell row) e, ap (cell (raise row v c)) e)
    go (inr e) = omega (arith, raise_other row v c u e)

-- What an edge hands on grows with the cell that it reads.
pub extend_mono : (r s g l : ℕ) → r ≤ s → extend r g l ≤ extend s g l
unfolding extend
extend_mono zero s g l h = omega arith
extend_mono (suc r) zero g l h = omega arith
extend_mono (suc r) (suc s) g l h = omega arith

-- A round keeps the length, lowers no cell, and hands on along every edge of the list.
abbrev pub Fits : List Edge → List ℕ → Type 0
Fits es row = (e : Edge) → Memᴰ e es → e.to < length row

pub fits_relax : {x : Edge} {es : List Edge} (row : List ℕ) → Fits (x ∷ es) row → Fits es (relax row x)
fits_relax {x} row h e m = omega (arith, h e (Memᴰ.tail m), raise_length row x.to (offer row x))

pub fits_head : {x : Edge} {es : List Edge} (row : List ℕ) → Fits (x ∷ es) row → x.to < length row
fits_head {x} row h = h x (Memᴰ.head refl)

pub round_length : (es : List Edge) (row : List ℕ) → length (round es row) ≡ length row
unfolding round
round_length [] row = refl
round_length (x ∷ es) row = round_length es (relax row x) ∙ raise_length row x.to _

pub round_up : (es : List Edge) (row : List ℕ) → Fits es row → (v : ℕ) → cell row v ≤ cell (round es row) v
unfolding round
round_up [] row h v = omega arith
round_up (x ∷ es) row h v = omega (arith, raise_up row x.to (offer row x) v (fits_head row h), round_up es (relax row x) (fits_relax row h) v)

pub round_hands : (es : List Edge) (row : List ℕ) → Fits es row → (e : Edge) → Memᴰ e es → offer row e ≤ cell (round es row) e.to
unfolding round
round_hands [] row h e m = absurd (Memᴰ.not-nil m)
round_hands (x ∷ es) row h e m = go (Memᴰ.cases_cons m) (round_hands es (relax row x) (fits_relax row h) e)
  where
    here : offer row x ≤ cell (round es (relax row x)) x.to
    here = omega (arith, raise_same row x.to (offer row x) (fits_head row h), round_up es (relax row x) (fits_relax row h) x.to)

    go : (e ≡ x) ⊎ Memᴰ e es → (Memᴰ e es → offer (relax row x) e ≤ cell (round es (relax row x)) e.to) → offer row e ≤ cell (round es (relax row x)) e.to
    go (inl i) below = rw i here
    go (inr i) below = omega (arith, below i, extend_mono (cell row e.from) (cell (relax row x) e.from) e.gain e.loss (raise_up row x.to (offer row x) e.from (fits_head row h)))

pub rounds_length : (es : List Edge) (k : ℕ) (row : List ℕ) → length (rounds es k row) ≡ length row
unfolding rounds
rounds_length es zero row = refl
rounds_length es (suc k) row = round_length es (rounds es k row) ∙ rounds_length es k row

pub fits_rounds : {es : List Edge} (k : ℕ) (row : List ℕ) → Fits es row → Fits es (rounds es k row)
fits_rounds {es} k row h e m = omega (arith, h e m, rounds_length es k row)

pub rounds_up : (es : List Edge) (k : ℕ) (row : List ℕ) → Fits es row → (v : ℕ) → cell (rounds es k row) v ≤ cell (rounds es (suc k) row) v
unfolding rounds
rounds_up es k row h v = round_up es (rounds es k row) (fits_rounds k row h) v

pub rounds_rise : (es : List Edge) (j k : ℕ) (row : List ℕ) → Fits es row → j ≤ k → (v : ℕ) → cell (rounds es j row) v ≤ cell (rounds es k row) v
rounds_rise es j zero row h b v = omega (arith, ap (λ (i : ℕ). cell (rounds es i row) v) (the_zero j (omega arith)))
  where
    the_zero : (i : ℕ) → i ≤ 0 → i ≡ 0
    the_zero i c = omega arith
rounds_rise es j (suc k) row h b v = go (dec_le j k) (λ c. rounds_rise es j k row h c v)
  where
    go : Dec (j ≤ k) → (j ≤ k → cell (rounds es j row) v ≤ cell (rounds es k row) v) → cell (rounds es j row) v ≤ cell (rounds es (suc k) row) v
    go (yes c) below = omega (arith, below c, rounds_up es k row h v)
    go (no c) below = let e : j ≡ suc k = omega arith in omega (arith, ap (λ (i : ℕ). cell (rounds es i row) v) e)

-- A cell covers a walk's weight p - q: it is not empty, and holds no less.
pub record Covers (r p q : ℕ) : Type 0 where
  pub some : 1 ≤ r
  pub enough : suc p ≤ r + q

pub covers_hand : (r s p q g l : ℕ) → Covers r p q → extend r g l ≤ s → Covers s (p + g) (q + l)
unfolding extend
covers_hand zero s p q g l c h = absurd (omega (arith, c.some))
covers_hand (suc w) s p q g l c h = record { some = omega arith; enough = omega (arith, c.enough) }

pub covers_up : {r s p q : ℕ} → Covers r p q → r ≤ s → Covers s p q
covers_up c h = record { some = omega (arith, c.some); enough = omega (arith, c.enough) }

pub covers_eq : {r s p q p' q' : ℕ} → Covers r p q → s ≡ r → p' ≡ p → q' ≡ q → Covers s p' q'
covers_eq c h hp hq = record { some = omega (arith, c.some); enough = omega (arith, c.enough) }

-- After k rounds the cells cover every walk of k edges that goes on from a covered one.
pub walk_covered : {es : List Edge} {x y k p q : ℕ} (row : List ℕ) → Fits es row → (p₀ q₀ : ℕ) → Covers (cell row x) p₀ q₀ → Walk (members es) x y k p q → Covers (cell (rounds es k row) y) (p₀ + p) (q₀ + q)
unfolding rounds
walk_covered {es} {x} {y} {k} {p} {q} row h p₀ q₀ c (stop e hk hp hq) =
    covers_eq {s = cell (rounds es k row) y} {p' = p₀ + p} {q' = q₀ + q} c (ap₂ (λ (i v : ℕ). cell (rounds es i row) v) hk (sym e)) (omega arith) (omega arith)
walk_covered {es} {x} {y} {k} {p} {q} row h p₀ q₀ c (step {k = k₀} {p = p₁} {q = q₁} w e m f o hk hp hq) =
    let r : List ℕ = rounds es k₀ row in
    covers_eq
    {s = cell (rounds es k row) y}
    {p' = p₀ + p}
    {q' = q₀ + q}
    (covers_hand
    (cell r e.from)
    (cell (round es r) e.to)
    (p₀ + p₁)
    (q₀ + q₁)
    e.gain
    e.loss
    (rw f (walk_covered row h p₀ q₀ c w))
    (round_hands es r (fits_rounds k₀ row h) e m))
    (ap₂ (λ (i v : ℕ). cell (rounds es i row) v) hk (sym o))
    (omega arith)
    (omega arith)

-- Some walk is as heavy as the cell says. This holds of every row that rounds make.
pub record Reach (E : Graph) (a v o : ℕ) : Type 0 where
  pub p : ℕ
  pub q : ℕ
  pub span : Span E a v p q
  pub under : o + q ≤ p

abbrev pub Under : Graph → ℕ → List ℕ → Type 0
Under E a row = (v o : ℕ) → cell row v ≡ suc o → Reach E a v o

reach_to : {E : Graph} {a u v o : ℕ} → u ≡ v → Reach E a u o → Reach E a v o
reach_to {E} {a} {o = o} e R = subst (λ (w : ℕ). Reach E a w o) e R

-- A vertex that a walk reaches is reached by one that loses no more than it gains: in a well-posed graph, along a chain.
abbrev pub Grounded : ℕ → Graph → ℕ → Type 0
Grounded n E a = (v p q : ℕ) → v < n → Span E a v p q → Reach E a v 0

module _ {n : ℕ} {E : Graph} {a : ℕ} (shape : Shape n E) (grounded : Grounded n E a) where
  reach_hand : (r o : ℕ) (e : Edge) → E e → ((w : ℕ) → r ≡ suc w → Reach E a e.from w) → extend r e.gain e.loss ≡ suc o → Reach E a e.to o
  unfolding extend
  reach_hand zero o e m R h = absurd (omega arith)
  reach_hand (suc w) o e m R h = go (R w refl) (dec_le e.loss (w + e.gain))
    where
      go : Reach E a e.from w → Dec (e.loss ≤ w + e.gain) → Reach E a e.to o
      go s (yes c) = record { p = s.p + e.gain; q = s.q + e.loss; span = span_join s.span (walk_edge e m); under = omega (arith, s.under) }
      go s (no c) =
          let G = grounded e.to _ _ (shape.to_below e m) (span_join s.span (walk_edge e m)) in
          record { p = G.p; q = G.q; span = G.span; under = omega (arith, G.under) }

  pub raise_under : (row : List ℕ) (v c : ℕ) → v < length row → ((o : ℕ) → c ≡ suc o → Reach E a v o) → Under E a row → Under E a (raise row v c)
  raise_under row v c b R U u o h = go (same_or_not u v)
    where
      larger : u ≡ v → Dec (c ≤ cell row v) → Reach E a u o
      larger e (yes l) = U u o (omega (arith, raise_same row v c b, ap (cell row) e, ap (cell (raise row v c)) e))
      larger e (no l) = reach_to (sym e) (R o (omega (arith, raise_same row v c b, ap (cell (raise row v c)) e)))

      go : (u ≡ v) ⊎ (u ≢ v) → Reach E a u o
      go (inl e) = larger e (dec_le c (cell row v))
      go (inr e) = U u o (omega (arith, raise_other row v c u e))

  pub round_under : (es : List Edge) (row : List ℕ) → Fits es row → ((e : Edge) → Memᴰ e es → E e) → Under E a row → Under E a (round es row)
  unfolding round
  round_under [] row h i U = U
  round_under (x ∷ es) row h i U =
      round_under
      es
      (relax row x)
      (fits_relax row h)
      (λ e m. i e (Memᴰ.tail m))
      (raise_under row x.to (offer row x) (fits_head row h) (λ o. reach_hand (cell row x.from) o x (i x (Memᴰ.head refl)) (U x.from)) U)

-- What a row must be for rounds to find the offsets of a from it: no cell says more than some walk weighs, and the cells where walks begin say enough.
pub record Start (es : List Edge) (a : ℕ) (row : List ℕ) : Type 0 where
  pub fits : Fits es row
  pub under : Under (members es) a row
  pub covers_source : a ≡ 0 → Covers (cell row a) 0 0
  pub covers_after : a ≢ 0 → (e : Edge) → Memᴰ e es → e.from ≡ a → e.counted ≡ true → Covers (cell row e.to) e.gain e.loss

abbrev pub Stable : List Edge → List ℕ → Type 0
Stable es row = (e : Edge) → Memᴰ e es → offer row e ≤ cell row e.to

-- The test of a stable row says so of each edge; and a row that a round leaves as it is is stable.
pub stable_iff : (es : List Edge) (row : List ℕ) → (stable es row ≡ true) ↔ Stable es row
unfolding stable
stable_iff es row = (
  λ h e m. leb-true (offer row e) (cell row e.to) (all_each (λ x. leb (offer row x) (cell row x.to)) es h e m),
  λ st. all_by (λ x. leb (offer row x) (cell row x.to)) es (λ e m. le-leb (offer row e) (cell row e.to) (st e m)),
)

pub fixpoint_stable : (es : List Edge) (row : List ℕ) → Fits es row → round es row ≡ row → Stable es row
fixpoint_stable es row h e x m = rw e at (round_hands es row h x m)

pub stable_walk : {es : List Edge} {x y k p q : ℕ} (row : List ℕ) → Stable es row → (p₀ q₀ : ℕ) → Covers (cell row x) p₀ q₀ → Walk (members es) x y k p q → Covers (cell row y) (p₀ + p) (q₀ + q)
stable_walk {es} {x} {y} {k} {p} {q} row st p₀ q₀ c (stop e hk hp hq) =
    covers_eq {s = cell row y} {p' = p₀ + p} {q' = q₀ + q} c (ap (cell row) (sym e)) (omega arith) (omega arith)
stable_walk {es} {x} {y} {k} {p} {q} row st p₀ q₀ c (step {p = p₁} {q = q₁} w e m f o hk hp hq) =
    covers_eq
    {s = cell row y}
    {p' = p₀ + p}
    {q' = q₀ + q}
    (covers_hand (cell row e.from) (cell row e.to) (p₀ + p₁) (q₀ + q₁) e.gain e.loss (rw f (stable_walk row st p₀ q₀ c w)) (st e m))
    (ap (cell row) (sym o))
    (omega arith)
    (omega arith)

covers_offset : {E : Graph} {a v r o : ℕ} → r ≡ suc o → Reach E a v o → ((p q : ℕ) → Span E a v p q → Covers r p q) → Offset no_leasts E a v o
covers_offset h R C =
    record { p = R.p; q = R.q; span = R.span; attained = omega (arith, (C R.p R.q R.span).enough, R.under); bound = λ p q s. omega (arith, (C p q s).enough) }

-- What a start row says from below, every later row says.
module _ {n : ℕ} {es : List Edge} {a : ℕ} {row : List ℕ} (shape : Shape n (members es)) (grounded : Grounded n (members es) a) (S : Start es a row) where
  pub rounds_under : (k : ℕ) → Under (members es) a (rounds es k row)
  unfolding rounds
  rounds_under zero = S.under
  rounds_under (suc k) = round_under shape grounded es (rounds es k row) (fits_rounds k row S.fits) (λ e m. m) (rounds_under k)

-- n rounds cover every walk, since a walk of fewer than n edges is as heavy; so a cell that is not empty is the offset.
module _ {n : ℕ} {es : List Edge} {a : ℕ} {row : List ℕ} (shape : Shape n (members es)) (inside : a < n) (grounded : Grounded n (members es) a) (never : NonPositive (members es)) (S : Start es a row) where
  short_covered : {x v p q : ℕ} (p₀ q₀ : ℕ) → Covers (cell row x) p₀ q₀ → Short n (members es) x v p q → Covers (cell (rounds es n row) v) (p₀ + p) (q₀ + q)
  short_covered {v = v} p₀ q₀ c s =
      let r = walk_covered row S.fits p₀ q₀ c s.walk in
      let u = rounds_rise es s.k₂ n row S.fits (omega (arith, s.few)) v in
      record { some = omega (arith, r.some, u); enough = omega (arith, r.enough, u, s.heavy) }

  pub rounds_span : {v p q : ℕ} → Span (members es) a v p q → Covers (cell (rounds es n row) v) p q
  rounds_span {v} {p} {q} (source h w) = covers_eq {p' = p} {q' = q} (short_covered 0 0 (S.covers_source h) (shorten shape never inside w)) refl (omega arith) (omega arith)
  rounds_span (after w) =
      covers_eq
      (short_covered
      w.edge.gain
      w.edge.loss
      (S.covers_after w.not_source w.edge w.mem w.leaves w.counts)
      (shorten shape never (shape.to_below w.edge w.mem) w.rest))
      refl
      w.gains
      w.losses

  pub rounds_offset : (v o : ℕ) → cell (rounds es n row) v ≡ suc o → Offset no_leasts (members es) a v o
  rounds_offset v o h = covers_offset h (rounds_under shape grounded S n v o h) (λ p q s. rounds_span s)

  -- One round more changes nothing: what it might raise, some walk weighs, and that is covered.
  no_more : (v r : ℕ) → cell (rounds es (suc n) row) v ≡ r → r ≤ cell (rounds es n row) v
  no_more v zero h = omega arith
  no_more v (suc o) h = let R = rounds_under shape grounded S (suc n) v o h in omega (arith, R.under, (rounds_span R.span).enough)

  pub rounds_fixed : round es (rounds es n row) ≡ rounds es n row
  rounds_fixed =
      ext_get_or
      0
      (round es (rounds es n row))
      (rounds es n row)
      (round_length es (rounds es n row))
      (λ v b. unfold rounds in omega (arith, no_more v _ refl, rounds_up es n row S.fits v))

-- A well-posed graph whose vertices all have a chain from the source is grounded at each anchor: a member is reached by a chain, which loses nothing.
pub grounded : {n : ℕ} {E : Graph} → Shape n E → (a : ℕ) → Carries E a → (a ≡ 0 → (v : ℕ) → v < n → Joined (Forward E) 0 v) → Grounded n E a
grounded {n} {E} shape a posed rooted v p q b s = go (member_span shape posed s)
  where
    go : InAnchorSet E a v → Reach E a v 0
    go (is_source h) =
        let J = rooted h v b in
        record { p = J.p; q = J.q; span = source h (walk_from h (walk_mono (λ e m. m.0) J.walk)); under = omega (arith, forward_losses shape J.walk) }
    go (chain c) = record {
      p = c.p;
      q = c.q;
      span = after (after_mono (λ e m. m.0) c.walk);
      under = omega (arith, c.walk.losses, forward_losses shape c.walk.rest, shape.forward_lossless c.walk.edge c.walk.mem.0 c.walk.mem.1);
    }

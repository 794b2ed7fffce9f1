-- Sweeps in any order find the offsets. k of them cover every walk of k edges, so n cover every walk; and a column that is never raised above a settled one stays below the offsets.
use mathlib.Core.Path.{◌∙◌, ◌≡◌, ap, refl, sym}
use mathlib.Core.List.{List}
use Prim.Native.Nat.{◌+◌, ◌<◌, ◌≤◌, suc, zero, ℕ}
use native.Mathlib.Omega.{arith}
use Rattle.definitions.specs.Limits.{most_steps, most_gain, most_walk}
use Rattle.definitions.specs.Anchors.{WellPosed, is_source}
use Rattle.definitions.specs.Links.{Edge, Graph, LateInto, Walk, members, step, stop, usable}
use Rattle.definitions.specs.Plan.{Span, after, first_row, offset, offset_row, source}
use Rattle.definitions.specs.Rounds.{cell, extend, rounds}
use Rattle.theory.specs.Graphs.{Carries, Gains, NonPositive, Rooted, Shape, Well}
use Rattle.theory.specs.Sweeps.{Seeds, Settles, Sweeps, hand, more, none}
use Rattle.theory.proofs.Offsets.{first_start, offset_found, offset_row_iff, usable_nonpositive, usable_rooted, walk_limit}
use Rattle.theory.proofs.Pigeonhole.{shorten}
use Rattle.theory.proofs.RelativeSchedules.{span_walk}
use Rattle.theory.proofs.Relaxation.{Covers, Grounded, Start, covers_eq, covers_hand, covers_up, fixpoint_stable, fits_rounds, grounded, rounds_fixed, rounds_rise, rounds_under}
use Rattle.theory.proofs.Usables.{carries_list, dec_late_into, usable_list_shape, usable_members, usable_sub}
use Rattle.theory.proofs.Walks.{join, walk_edge, walk_mono, walk_to}

-- Sweeps never lower a cell; and once every edge has handed on, any number of sweeps changes nothing.
pub sweeps_up : {E : Graph} {r : ℕ → ℕ} {k : ℕ} {s : ℕ → ℕ} → Sweeps E r k s → (v : ℕ) → r v ≤ s v
sweeps_up (none h up) v = up v
sweeps_up (more m w h) v = omega (arith, sweeps_up m v, w.up v)

pub sweeps_rest : {E : Graph} {r s : ℕ → ℕ} → Settles E s → (j k : ℕ) → Sweeps E r k s → Sweeps E r (j + k) s
sweeps_rest st zero k w = again (omega arith) w
  where
    again : {E : Graph} {r s : ℕ → ℕ} {k k' : ℕ} → k' ≡ k → Sweeps E r k s → Sweeps E r k' s
    again h (none e up) = none (h ∙ e) up
    again h (more m w e) = more m w (h ∙ e)
sweeps_rest {E} {r} {s} st (suc j) k w = more {k = suc j + k} {m = s} {s = s} (sweeps_rest st j k w) (record { up = λ v. omega arith; hands = st }) (omega arith)

-- After k sweeps the cells cover every walk of at most k edges that goes on from a covered one.
pub walk_swept : {E : Graph} {r s : ℕ → ℕ} {k : ℕ} → Sweeps E r k s → {x y j p q : ℕ} → j ≤ k → (p₀ q₀ : ℕ) → Covers (r x) p₀ q₀ → Walk E x y j p q → Covers (s y) (p₀ + p) (q₀ + q)
walk_swept {s = s} (none h up) {x} {y} {j} {p} {q} b p₀ q₀ c (stop e hk hp hq) =
    covers_eq {s = s y} {p' = p₀ + p} {q' = q₀ + q} (covers_up c (up x)) (ap s (sym e)) (omega arith) (omega arith)
walk_swept (none h up) b p₀ q₀ c (step w e m f o hk hp hq) = absurd (omega arith)
walk_swept {s = s} (more m w h) {x} {y} {j} {p} {q} b p₀ q₀ c (stop e hk hp hq) =
    covers_eq {s = s y} {p' = p₀ + p} {q' = q₀ + q} (covers_up c (sweeps_up (more m w h) x)) (ap s (sym e)) (omega arith) (omega arith)
walk_swept {s = s} (more {m = r'} below w h) {x} {y} {j} {p} {q} b p₀ q₀ c (step {p = p₁} {q = q₁} v e m f o hk hp hq) =
    covers_eq
    {s = s y}
    {p' = p₀ + p}
    {q' = q₀ + q}
    (covers_hand
    (r' e.from)
    (s e.to)
    (p₀ + p₁)
    (q₀ + q₁)
    e.gain
    e.loss
    (rw f (walk_swept below (omega arith) p₀ q₀ c v))
    (w.hands e m))
    (ap s (sym o))
    (omega arith)
    (omega arith)

-- For one anchor, on a graph whose returns carry it on. The offsets are a column that has the seeds and is settled; n sweeps from the seeds cover every walk, as a walk of fewer than n edges is as heavy.
module _ {n : ℕ} {es : List Edge} (some : 0 < n) (shape : Shape n (members es)) (never : NonPositive (members es)) {a : ℕ} (inside : a < n) (rooted : a ≡ 0 → Rooted n (members es)) (carries : Carries (members es) a) where
  ground : Grounded n (members es) a
  ground = grounded shape a carries rooted

  start : Start es a (first_row n es a)
  start = first_start shape some a ground

  abbrev row : List ℕ
  row = rounds es n (first_row n es a)

  pub row_settles : Settles (members es) (cell (rounds es n (first_row n es a)))
  row_settles = fixpoint_stable es row (fits_rounds n (first_row n es a) start.fits) (rounds_fixed shape inside ground never start)

  risen : (v : ℕ) → cell (first_row n es a) v ≤ cell row v
  unfolding rounds
  risen v = rounds_rise es 0 n (first_row n es a) start.fits (omega arith) v

  pub row_seeds : Seeds (members es) a (cell (rounds es n (first_row n es a)))
  row_seeds =
      record { source = λ h. omega (arith, (start.covers_source h).some, risen 0, ap (cell (first_row n es a)) h); after = λ e m l. let c = start.covers_after l.not_source e m l.leaves l.counts in omega (arith, c.some, c.enough, risen e.to) }

  span_swept : {r s : ℕ → ℕ} → Seeds (members es) a r → Sweeps (members es) r n s → {v p q : ℕ} → Span (members es) a v p q → Covers (s v) p q
  span_swept {r} {s} seeds sweeps {v} {p} {q} (source h w) =
      let t = shorten shape never inside w in
      let c = walk_swept sweeps (omega (arith, t.few)) 0 0 (record { some = omega (arith, seeds.source h, ap r h); enough = omega (arith, seeds.source h, ap r h) }) t.walk in
      record { some = c.some; enough = omega (arith, c.enough, t.heavy) }
  span_swept {r} {s} seeds sweeps {v} {p} {q} (after w) =
      let t = shorten shape never (shape.to_below w.edge w.mem) w.rest in
      let g = seeds.after w.edge w.mem (record { not_source = w.not_source; leaves = w.leaves; counts = w.counts }) in
      let c = walk_swept sweeps (omega (arith, t.few)) w.edge.gain w.edge.loss (record { some = omega arith; enough = omega arith }) t.walk in
      record { some = c.some; enough = omega (arith, c.enough, t.heavy, w.gains, w.losses) }

  pub row_swept : {r s : ℕ → ℕ} → Seeds (members es) a r → Sweeps (members es) r n s → ((v : ℕ) → s v ≤ cell (rounds es n (first_row n es a)) v) → (v : ℕ) → s v ≡ cell (rounds es n (first_row n es a)) v
  row_swept {r} {s} seeds sweeps below v = go (cell row v) refl
    where
      go : (c : ℕ) → cell row v ≡ c → s v ≡ cell row v
      go zero e = omega (arith, below v)
      go (suc o) e =
          let R = rounds_under shape ground start n v o e in
          omega (arith, below v, R.under, (span_swept seeds sweeps R.span).enough)

-- On a graph that can be scheduled and is well-posed, as a sheet with its waits is.
module _ {n : ℕ} {es : List Edge} (well : Well n (members es)) (posed : WellPosed (members es)) (a : ℕ) (inside : a < n) where
  pub offsets_settle : Settles (members (usable es a)) (cell (offset_row n es a))
  unfolding offset_row
  offsets_settle = row_settles well.some (usable_list_shape well.shape a) (usable_nonpositive well.never a) inside (λ h. usable_rooted well.shape well.rooted a) (carries_list well.shape posed a)

  pub offsets_seeded : Seeds (members (usable es a)) a (cell (offset_row n es a))
  unfolding offset_row
  offsets_seeded = row_seeds well.some (usable_list_shape well.shape a) (usable_nonpositive well.never a) inside (λ h. usable_rooted well.shape well.rooted a) (carries_list well.shape posed a)

  pub offsets_swept : {r s : ℕ → ℕ} → Seeds (members (usable es a)) a r → Sweeps (members (usable es a)) r n s → ((v : ℕ) → s v ≤ cell (offset_row n es a) v) → (v : ℕ) → s v ≡ cell (offset_row n es a) v
  unfolding offset_row
  offsets_swept = row_swept well.some (usable_list_shape well.shape a) (usable_nonpositive well.never a) inside (λ h. usable_rooted well.shape well.rooted a) (carries_list well.shape posed a)

  -- The cells are small.
  pub offsets_small : Gains (members es) most_gain → n ≤ most_steps → (v : ℕ) → v < n → cell (offset_row n es a) v ≤ most_walk + 1
  unfolding offset
  offsets_small gains few v b = go (cell (offset_row n es a) v) refl
    where
      go : (c : ℕ) → cell (offset_row n es a) v ≡ c → cell (offset_row n es a) v ≤ most_walk + 1
      go zero e = omega arith
      go (suc o) e = omega (arith, walk_limit well posed gains few a v b ((offset_row_iff well posed a v b).0 (omega arith)))

extend_closes : (c g l : ℕ) → 1 ≤ c → c + g ≤ suc l → extend c g l ≤ 1
unfolding extend
extend_closes zero g l h k = omega arith
extend_closes (suc c) g l h k = omega arith

-- The source's offsets are settled over every edge: a late return into the source itself closes a walk, which is not above 0.
pub source_settles : {n : ℕ} {es : List Edge} → Well n (members es) → WellPosed (members es) → Settles (members es) (cell (offset_row n es 0))
unfolding offset
source_settles {n} {es} well posed e m = go (dec_late_into e 0)
  where
    first : 1 ≤ cell (offset_row n es 0) 0
    first = (offset_row_iff well posed 0 0 well.some).1 (is_source refl)

    from_first : 1 ≤ cell (offset_row n es 0) e.from
    from_first = (offset_row_iff well posed 0 e.from (well.shape.from_below e m)).1 (is_source refl)

    closes : e.to ≡ 0 → cell (offset_row n es 0) e.from + e.gain ≤ suc e.loss
    closes h =
        let O = offset_found well posed 0 e.from (well.shape.from_below e m) (is_source refl) in
        let w = join (walk_mono (usable_sub (members es) 0) (span_walk O.span).1) (walk_to (walk_edge e m) h refl refl refl) in
        omega (arith, O.attained, well.never.closed w, from_first)

    go : Dec (LateInto e 0) → hand (cell (offset_row n es 0)) e ≤ cell (offset_row n es 0) e.to
    go (no i) = offsets_settle well posed 0 well.some e (usable_members es 0 e (m, i))
    go (yes i) = omega (arith, extend_closes (cell (offset_row n es 0) e.from) e.gain e.loss from_first (closes i.1), first, ap (cell (offset_row n es 0)) i.1)

-- One edge on the columns of a table.
use mathlib.Core.Path.{◌≡◌, refl, sym, ap, ◌∙◌}
use mathlib.Core.Bool.{Bool, true, false, cond}
use mathlib.Core.Logic.{◌⊎◌, inl, inr, ◌≢◌}
use mathlib.Core.List.{List}
use Prim.Native.Nat.{ℕ, suc, ◌+◌, ◌-◌, ◌≤◌, ◌<◌, max}
use native.Mathlib.Decide.{dec_le}
use native.Mathlib.Omega.{arith}
use lib.IntN.{ℤ}
use lib.ListN.{length, get_or}
use borrow.Author.Tests.{le-ltb, lt-ltb}
use Rattle.definitions.specs.Basics.{test_bit}
use Rattle.definitions.specs.Limits.{most_gain}
use Rattle.definitions.specs.Links.{Edge, Graph, LateInto, UsableFrom}
use Rattle.definitions.specs.Rounds.{extend}
use Rattle.laws.proofs.Bools.{both_ways, same_or_not}
use Rattle.theory.proofs.RowLaws.{extend_none, extend_some}
use Rattle.walk_edge.specs.Columns.{Bounds, Handed, HandedAll, Numbers, Only, Under, column}
use Rattle.walk_cells.specs.Cells.{Delta, Risen, value}
use Rattle.walk_cells.specs.Tables.{Held, Square, cell_at, cell_of}
use Rattle.walk_cells.proofs.Values.{risen_none, risen_some}
use Rattle.walk_lift.specs.Lifts.{Movables, Raised, lent}

-- Of two numbers the first is below the second, or not.
pub below_or_not : (k n : ℕ) → (k < n) ⊎ (n ≤ k)
below_or_not k n = by (dec_le n k)
  where
    by : Dec (n ≤ k) → (k < n) ⊎ (n ≤ k)
    by (yes h) = inr h
    by (no h) = inl (omega arith)

-- Where an edge has something to hand on, the column holds a walk at its end.
ends_live : {E : Graph} {u x : ℕ} {t r : ℕ → ℕ} → Under t r → Bounds E u x t → (e : Edge) → E e → e.from ≡ u → 1 ≤ x → 1 ≤ r e.to
ends_live {x = x} U B e m o h = U.live e.to (omega (arith, B.ends e m o, extend_some x e.gain e.loss h))

-- A column that stays, where its end has what the edges hand on.
handed_still : {E : Graph} {u x : ℕ} {r s : ℕ → ℕ} {f g : ℕ → Bool} → ((v : ℕ) → s v ≡ r v) → ((v : ℕ) → f v ≡ true → g v ≡ true) → ((t : ℕ → ℕ) → Under t r → Bounds E u x t → (e : Edge) → E e → e.from ≡ u → extend x e.gain e.loss ≤ r e.to) → Handed E u x r s f g
handed_still same kept hands =
    record {
      up = λ t U h v. omega (arith, same v);
      under = λ t U h. record { below = λ v. omega (arith, same v, U.below v); live = λ v q. omega (arith, same v, U.live v q) };
      hands = λ t U h e m o. omega (arith, hands t U h e m o, same e.to);
      marks = kept;
      marked = λ v q. same v;
    }

-- A column that is lifted at the edge's end.
module _ (e : Edge) (a x : ℕ) (r s : ℕ → ℕ) (timely : ¬ LateInto e a) (none : x ≡ 0 → s e.to ≡ r e.to) (some : 1 ≤ x → s e.to ≡ max (r e.to) (x + e.gain - e.loss)) (other : (v : ℕ) → v ≢ e.to → s v ≡ r v) where
  module _ (t : ℕ → ℕ) (U : Under t r) (B : Bounds (UsableFrom (Only e) a) e.from x t) where
    -- What the edge hands on is at its end, and no more than that comes there.
    lifted : (0 < x) ⊎ (x ≤ 0) → (r e.to ≤ s e.to) × (s e.to ≤ t e.to) × (extend x e.gain e.loss ≤ s e.to)
    lifted (inl q) =
        let new = some q in
        let longer = extend_some x e.gain e.loss q in (
          omega arith,
          omega (arith, U.below e.to, B.ends e (refl, timely) refl),
          omega (arith, ends_live U B e (refl, timely) refl q),
        )
    lifted (inr q) =
        let new = none (omega arith) in
        (omega arith, omega (arith, U.below e.to), omega (arith, extend_none x e.gain e.loss (omega arith)))

    up : (v : ℕ) → (v ≡ e.to) ⊎ (v ≢ e.to) → r v ≤ s v
    up v (inl q) = rw q (lifted (below_or_not 0 x)).0
    up v (inr o) = omega (arith, other v o)

    below : (v : ℕ) → (v ≡ e.to) ⊎ (v ≢ e.to) → s v ≤ t v
    below v (inl q) = rw q (lifted (below_or_not 0 x)).1
    below v (inr o) = omega (arith, other v o, U.below v)

  handed_lifted : {f k : ℕ → Bool} → ((v : ℕ) → f v ≡ true → k v ≡ true) → ((v : ℕ) → k v ≡ false → s v ≡ r v) → Handed (UsableFrom (Only e) a) e.from x r s f k
  handed_lifted marks marked =
      record {
        up = λ t U B v. up t U B v (same_or_not v e.to);
        under = λ t U B. record { below = λ v. below t U B v (same_or_not v e.to); live = λ v q. omega (arith, U.live v q, up t U B v (same_or_not v e.to)) };
        hands = λ t U B y o q. rw o.0 (lifted t U B (below_or_not 0 x)).2;
        marks = marks;
        marked = marked;
      }

-- What a row lends in a column.
module _ (row : List ℤ) (width k : ℕ) where
  pub lent_in : k < width → lent row width k ≡ value (cell_of row k)
  lent_in h = ap (λ (b : Bool). cond b (value (cell_of row k)) 0) (lt-ltb k width h)

  pub lent_beyond : width ≤ k → lent row width k ≡ 0
  lent_beyond h = ap (λ (b : Bool). cond b (value (cell_of row k)) 0) (le-ltb k width h)

-- The columns On are those of the first `width` whose anchor may use an edge.
abbrev pub Uses : Edge → List ℕ → ℕ → (ℕ → Type 0) → Type 0
Uses e number width On = (all : ℕ) (anchor : ℕ → ℕ) → Numbers all number anchor → (k : ℕ) → k < all → (On k × (k < width) × ¬ LateInto e (anchor k)) ⊎ ((¬ On k) × ((width ≤ k) ⊎ LateInto e (anchor k)))

-- One edge on all columns. In a column that is not lifted the row lends nothing, or the edge is late for its anchor.
module _ (e : Edge) (number : List ℕ) (row : List ℤ) (width : ℕ) (movable : Movables row width) (d : List (List ℤ)) where
  nothing : (k x : ℕ) → lent row width k ≡ 0 → extend (lent row width k) e.gain e.loss ≤ x
  nothing k x z = omega (arith, extend_none (lent row width k) e.gain e.loss z)

  module _ (On : ℕ → Type 0) (to : ℕ) (delta : ℤ) (d' : List (List ℤ)) (m m' : ℕ) (light : e.gain ≤ most_gain) (ends : to ≡ e.to) (D : Delta e.gain e.loss delta) (R : Raised On to delta row d d' m m') where
    -- What the edge makes of the cell at its end, in a column that is lifted.
    rises : (k : ℕ) → On k → Risen (cell_at d e.to k) (cell_of row k) delta (cell_at d' e.to k)
    rises k on = rw (← ends) (R.lifted.lifts k on)

    risen_nothing : (k : ℕ) → On k → k < width → value (cell_of row k) ≡ 0 → column d' k e.to ≡ column d k e.to
    risen_nothing k on b z = risen_none (rises k on) (omega arith) D (movable.each k b).clear z

    risen_longer : (k : ℕ) → On k → 1 ≤ value (cell_of row k) → column d' k e.to ≡ max (column d k e.to) (value (cell_of row k) + e.gain - e.loss)
    risen_longer k on q = risen_some (rises k on) (omega arith) D q

    -- No cell says more than what is handed on and one gain.
    held_row : ((k : ℕ) → (On k × (k < width)) ⊎ (¬ On k)) → (w : ℕ) → ((k : ℕ) → lent row width k ≤ suc w) → Held (w + most_gain) d → Held (w + most_gain) d'
    held_row on w few H = record { most = λ v k. by v k (same_or_not v to) (on k) }
      where
        new : (k : ℕ) → On k → k < width → (0 < value (cell_of row k)) ⊎ (value (cell_of row k) ≤ 0) → column d' k e.to ≤ suc (w + most_gain)
        new k o b (inl q) = omega (arith, risen_longer k o q, H.most e.to k, few k, lent_in row width k b)
        new k o b (inr q) = omega (arith, risen_nothing k o b (omega arith), H.most e.to k)

        by : (v k : ℕ) → (v ≡ to) ⊎ (v ≢ to) → (On k × (k < width)) ⊎ (¬ On k) → value (cell_at d' v k) ≤ suc (w + most_gain)
        by v k (inl q) (inl o) = rw (q, ends) (new k o.0 o.1 (below_or_not 0 (value (cell_of row k))))
        by v k (inl q) (inr o) = rw q (omega (arith, ap value (R.lifted.keeps k o), H.most to k))
        by v k (inr q) o = omega (arith, ap value (R.lifted.other v k q), H.most v k)

    pub handed_row : ((k : ℕ) → (On k × (k < width)) ⊎ (¬ On k)) → Uses e number width On → HandedAll (λ a. UsableFrom (Only e) a) number e.from (lent row width) d d' m m'
    handed_row on decide = record { square = R.lifted.square; each = λ all anchor N k q. by (anchor k) k (decide all anchor N k q); held = held_row on }
      where
        still : (k v : ℕ) → ¬ On k → (v ≡ to) ⊎ (v ≢ to) → column d' k v ≡ column d k v
        still k v off (inl h) = rw h (ap value (R.lifted.keeps k off))
        still k v off (inr o) = ap value (R.lifted.other v k o)

        by : (a k : ℕ) → (On k × (k < width) × ¬ LateInto e a) ⊎ ((¬ On k) × ((width ≤ k) ⊎ LateInto e a)) → Handed (UsableFrom (Only e) a) e.from (lent row width k) (column d k) (column d' k) (test_bit m) (test_bit m')
        by a k (inl h) =
            rw (lent_in row width k h.1)
            (handed_lifted e a (value (cell_of row k)) (column d k) (column d' k) h.2
            (risen_nothing k h.0 h.1) (risen_longer k h.0)
            (λ v o. ap value (R.lifted.other v k (λ q. o (q ∙ ends)))) R.marks (λ v q. ap value (R.marked v k q)))
        by a k (inr h) = handed_still (λ v. still k v h.0 (same_or_not v to)) R.marks (λ t U b x o q. none h.1 x o)
          where
            none : (width ≤ k) ⊎ LateInto e a → (x : Edge) → UsableFrom (Only e) a x → extend (lent row width k) x.gain x.loss ≤ column d k x.to
            none (inl b) x o = rw o.0 (nothing k (column d k e.to) (lent_beyond row width k b))
            none (inr late) x o = absurd (o.1 (rw o.0 late))

  -- Where no walk gets longer than offset 0 by it, the edge has handed on.
  pub handed_idle : (top m : ℕ) → ((k : ℕ) → k < width → value (cell_of row k) ≤ suc top) → Square (length d) d → top + e.gain ≤ e.loss → HandedAll (λ a. UsableFrom (Only e) a) number e.from (lent row width) d d m m
  handed_idle top m tops S low =
      record { square = S; each = λ all anchor N k q. handed_still (λ v. refl) (λ v h. h) (λ t U B x o f. rw o.0 (by t (anchor k) k U B (refl, λ l. o.1 (rw o.0 l)) (below_or_not k width))); held = λ w few H. H }
    where
      some : (t : ℕ → ℕ) (a k : ℕ) → Under t (column d k) → Bounds (UsableFrom (Only e) a) e.from (lent row width k) t → UsableFrom (Only e) a e → k < width → (0 < lent row width k) ⊎ (lent row width k ≤ 0) → extend (lent row width k) e.gain e.loss ≤ column d k e.to
      some t a k U B o h (inl q) =
          omega (arith, extend_some (lent row width k) e.gain e.loss q, lent_in row width k h, tops k h, low, ends_live U B e o refl q)
      some t a k U B o h (inr q) = nothing k (column d k e.to) (omega arith)

      by : (t : ℕ → ℕ) (a k : ℕ) → Under t (column d k) → Bounds (UsableFrom (Only e) a) e.from (lent row width k) t → UsableFrom (Only e) a e → (k < width) ⊎ (width ≤ k) → extend (lent row width k) e.gain e.loss ≤ column d k e.to
      by t a k U B o (inl h) = some t a k U B o h (below_or_not 0 (lent row width k))
      by t a k U B o (inr h) = nothing k (column d k e.to) (lent_beyond row width k h)

-- Which columns an edge that is not late lifts, and which a late one.
pub timely_on : (width k : ℕ) → ((k < width) × (k < width)) ⊎ (¬ (k < width))
timely_on width k = by (below_or_not k width)
  where
    by : (k < width) ⊎ (width ≤ k) → ((k < width) × (k < width)) ⊎ (¬ (k < width))
    by (inl h) = inl (h, h)
    by (inr h) = inr (λ b. omega arith)

pub late_on : (width n k : ℕ) → (((k < width) × (k ≢ n)) × (k < width)) ⊎ (¬ ((k < width) × (k ≢ n)))
late_on width n k = by (below_or_not k width) (same_or_not k n)
  where
    by : (k < width) ⊎ (width ≤ k) → (k ≡ n) ⊎ (k ≢ n) → (((k < width) × (k ≢ n)) × (k < width)) ⊎ (¬ ((k < width) × (k ≢ n)))
    by (inl h) (inr o) = inl ((h, o), h)
    by (inl h) (inl e) = inr (λ b. b.1 e)
    by (inr h) o = inr (λ b. omega (arith, b.0))

-- An edge that is not late is for every anchor; a late one for all but its end.
pub timely_columns : (e : Edge) (number : List ℕ) (width : ℕ) → e.late ≡ false → Uses e number width (λ k. k < width)
timely_columns e number width timely all anchor N k q = by (below_or_not k width)
  where
    by : (k < width) ⊎ (width ≤ k) → ((k < width) × (k < width) × ¬ LateInto e (anchor k)) ⊎ ((¬ (k < width)) × ((width ≤ k) ⊎ LateInto e (anchor k)))
    by (inl h) = inl (h, h, λ l. both_ways l.0 timely)
    by (inr h) = inr (λ b. omega arith, inl h)

pub late_columns : (e : Edge) (number : List ℕ) (to width : ℕ) → e.late ≡ true → to ≡ e.to → to < 64 → Uses e number width (λ k. (k < width) × (k ≢ get_or number to 0))
late_columns e number to width late ends small all anchor N k q = by (below_or_not k width) (same_or_not k (get_or number to 0))
  where
    by : (k < width) ⊎ (width ≤ k) → (k ≡ get_or number to 0) ⊎ (k ≢ get_or number to 0) → (((k < width) × (k ≢ get_or number to 0)) × (k < width) × ¬ LateInto e (anchor k)) ⊎ ((¬ ((k < width) × (k ≢ get_or number to 0))) × ((width ≤ k) ⊎ LateInto e (anchor k)))
    by (inl h) (inl i) = inr (λ b. b.1 i, inr (late, sym ends ∙ sym (N.back to small (omega arith)) ∙ ap anchor (sym i)))
    by (inl h) (inr o) = inl ((h, o), h, λ l. o (sym (N.there k q) ∙ ap (λ (v : ℕ). get_or number v 0) (sym l.1 ∙ sym ends)))
    by (inr h) i = inr (λ b. omega (arith, b.0), inl h)

-- Steps that hand on, one after another.
use mathlib.Core.Path.{◌≡◌, refl, sym, ap, subst, ◌∙◌}
use mathlib.Core.Bool.{Bool, false, cond, not, ◌&&◌}
use mathlib.Core.Logic.{◌⊎◌, inl, inr, ◌≢◌}
use mathlib.Core.List.{List, []}
use Prim.Native.Nat.{ℕ, suc, ◌+◌, ◌-◌, ◌*◌, ◌≤◌, ◌<◌}
use native.Mathlib.Omega.{arith}
use lib.Dec.{eqb, ltb}
use lib.IntN.{ℤ}
use lib.ListN.{length, get_or}
use borrow.Author.Tests.{le-ltb, lt-ltb, ne_eqb}
use Rattle.definitions.specs.Basics.{test_bit}
use Rattle.definitions.specs.Limits.{most_gain, most_steps, most_walk}
use Rattle.definitions.specs.Links.{Edge, Graph, UsableFrom, members}
use Rattle.definitions.specs.Rounds.{extend}
use Rattle.data_lists.proofs.Following.{down_split}
use Rattle.data_edges.specs.Words.{graph}
use Rattle.laws.proofs.Bools.{mark_back, same_or_not, stays}
use Rattle.laws.proofs.Maps.{test_zero}
use Rattle.theory.specs.Sweeps.{hand}
use Rattle.theory.proofs.Relaxation.{extend_mono}
use Rattle.theory.proofs.RowLaws.{extend_none, extend_some}
use Rattle.walk_cells.specs.Cells.{most_weight}
use Rattle.walk_cells.specs.Tables.{Held, Square}
use Rattle.walk_edge.specs.Columns.{Bounds, Covered, Handed, HandedAll, Sought, Swept, Under, WaitsFor, column}
use Rattle.walk_lift.specs.Lifts.{lent}
use Rattle.walk_take.specs.Rows.{Taken, Trimmed}
use Rattle.walk_edge.proofs.Handing.{below_or_not, lent_beyond, lent_in}
use Rattle.walk_cells.proofs.Tables.{held_more, square_own, square_then}
use Rattle.walk_sweep.specs.Free.{Free, Low, Sheetlike}
use Rattle.walk_sweep.specs.Graphs.{Both, Linked, Network, Sweepable, SweptBy, most_visits}
use Rattle.walk_sweep.proofs.Handing.{handed_all}

-- What an edge hands on depends on the cell at its start alone.
hand_same : (e : Edge) (r s : ℕ → ℕ) → s e.from ≡ r e.from → hand s e ≡ hand r e
hand_same e r s h = ap (λ (x : ℕ). extend x e.gain e.loss) h

-- A step with a mark hands on x, what it has in a column, below one that bounds it, and its mark goes. Where its cell was not raised meanwhile, all of it is handed on.
module _ {E : Graph} {u x : ℕ} {r s : ℕ → ℕ} {f f' g : ℕ → Bool} (rest : (v : ℕ) → v ≢ u → f' v ≡ f v) (H : Handed E u x r s f' g) where
  module _ (t : ℕ → ℕ) (U : Under t r) (B : Bounds E u x t) (own : x ≡ r u) where
    visit_hands : (e : Edge) → E e → e.from ≡ u → hand r e ≤ s e.to
    visit_hands e m o = rw (o, ← own) (H.hands t U B e m o)

    visit_covers : Covered E r f → Covered E s g
    visit_covers c e m q = by (same_or_not e.from u)
      where
        by : (e.from ≡ u) ⊎ (e.from ≢ u) → hand s e ≤ s e.to
        by (inl o) = omega (arith, visit_hands e m o, hand_same e r s (H.marked e.from q))
        by (inr o) =
            omega (arith, c e m (sym (rest e.from o) ∙ mark_back (H.marks e.from) q), H.up t U B e.to, hand_same e r s (H.marked e.from q))

  module _ (own : x ≡ r u) where
    -- Below a column that is sought: what edges hand on there is no more than it has at their ends.
    module _ (t : ℕ → ℕ) (S : Sought E t r) where
      fits : x ≤ t u
      fits = omega (arith, own, S.under.below u)

      bounds_sought : Bounds E u x t
      bounds_sought =
          record { ends = λ e m o. omega (arith, extend_mono x (t e.from) e.gain e.loss (rw o fits), S.settles e m) }

    swept_visit : Swept E (λ v. v ≡ u) r s f g
    swept_visit =
        record {
          up = λ t S. H.up t S.under (bounds_sought t S);
          under = λ t S. record { settles = S.settles; under = H.under t S.under (bounds_sought t S) };
          covers = λ t S. visit_covers t S.under (bounds_sought t S) own;
          hands = λ t S c. visit_hands t S.under (bounds_sought t S) own;
        }

    -- Where none is sought: below the column that says one gain more at every step below n.
    module _ (n b : ℕ) (R : Sheetlike E n) (L : Low n b r) where
      abbrev lid : ℕ → ℕ
      lid v = cond (ltb v n) (b + most_gain) 0

      lid_in : (v : ℕ) → v < n → lid v ≡ b + most_gain
      lid_in v h = ap (λ (y : Bool). cond y (b + most_gain) 0) (lt-ltb v n h)

      lid_past : (v : ℕ) → n ≤ v → lid v ≡ 0
      lid_past v h = ap (λ (y : Bool). cond y (b + most_gain) 0) (le-ltb v n h)

      under_lid : Under lid r
      under_lid =
          record { below = λ v. below v (below_or_not v n); live = λ v h. live v h (below_or_not v n) }
        where
          below : (v : ℕ) → (v < n) ⊎ (n ≤ v) → r v ≤ lid v
          below v (inl h) = omega (arith, lid_in v h, L.most v)
          below v (inr h) = omega (arith, lid_past v h, L.none v h)

          live : (v : ℕ) → 1 ≤ lid v → (v < n) ⊎ (n ≤ v) → 1 ≤ r v
          live v q (inl h) = L.live v h
          live v q (inr h) = absurd (omega (arith, lid_past v h))

      bounds_lid : Bounds E u x lid
      bounds_lid = record { ends = λ e m o. by e m (below_or_not 0 x) }
        where
          by : (e : Edge) → E e → (0 < x) ⊎ (x ≤ 0) → extend x e.gain e.loss ≤ lid e.to
          by e m (inl h) =
              omega (arith, extend_some x e.gain e.loss h, own, L.most u, R.gains e m, lid_in e.to (R.ends e m))
          by e m (inr h) = omega (arith, extend_none x e.gain e.loss (omega arith))

      low_visit : Low n (b + most_gain * 1) s
      low_visit =
          let U = H.under lid under_lid bounds_lid in
          record { live = λ v h. omega (arith, L.live v h, H.up lid under_lid bounds_lid v); most = λ v. most v (U.below v) (below_or_not v n); none = λ v h. omega (arith, U.below v, lid_past v h) }
        where
          most : (v : ℕ) → s v ≤ lid v → (v < n) ⊎ (n ≤ v) → s v ≤ b + most_gain * 1
          most v q (inl h) = omega (arith, lid_in v h)
          most v q (inr h) = omega (arith, lid_past v h)

    free_visit : Free E 1 r s f g
    free_visit =
        record { low = low_visit; covers = λ n b R L. visit_covers (lid n b R L) (under_lid n b R L) (bounds_lid n b R L) own }

-- Nothing is done where the steps of On have no marks.
swept_idle : {E : Graph} {On : ℕ → Type 0} {r : ℕ → ℕ} {f : ℕ → Bool} → ((v : ℕ) → On v → f v ≡ false) → Swept E On r r f f
swept_idle none = record { up = λ t S v. omega arith; under = λ t S. S; covers = λ t S c. c; hands = λ t S c e m o. c e m (none e.from o) }

low_more : {n b c : ℕ} {r : ℕ → ℕ} → b ≤ c → Low n b r → Low n c r
low_more h L = record { live = L.live; most = λ v. omega (arith, L.most v); none = L.none }

free_idle : {E : Graph} {c : ℕ} {r : ℕ → ℕ} {f : ℕ → Bool} → Free E c r r f f
free_idle = record { low = λ n b R L. low_more (omega arith) L; covers = λ n b R L c. c }

-- Some steps and then others.
swept_both : {E : Graph} {On Then All : ℕ → Type 0} {r s t : ℕ → ℕ} {f g h : ℕ → Bool} → ((v : ℕ) → All v → On v ⊎ Then v) → Swept E On r s f g → Swept E Then s t g h → Swept E All r t f h
swept_both {E} {On} {Then} {All} {r} {s} {t} {f} split P Q =
    record { up = λ y U v. omega (arith, P.up y U v, Q.up y (P.under y U) v); under = λ y U. Q.under y (P.under y U); covers = λ y U c. Q.covers y (P.under y U) (P.covers y U c); hands = λ y U c e m o. by y U c e m (split e.from o) }
  where
    by : (y : ℕ → ℕ) → Sought E y r → Covered E r f → (e : Edge) → E e → On e.from ⊎ Then e.from → hand r e ≤ t e.to
    by y U c e m (inl o) = omega (arith, P.hands y U c e m o, Q.up y (P.under y U) e.to)
    by y U c e m (inr o) =
        omega (arith, Q.hands y (P.under y U) (P.covers y U c) e m o, extend_mono (r e.from) (s e.from) e.gain e.loss (P.up y U e.from))

-- The visits add up.
free_both : {E : Graph} {i j c : ℕ} {r s t : ℕ → ℕ} {f g h : ℕ → Bool} → i + j ≤ c → Free E i r s f g → Free E j s t g h → Free E c r t f h
free_both {E} {i} {j} {c} {r} few P Q =
    record { low = λ n b R L. low_more (omega arith) (Q.low n (b + most_gain * i) R (P.low n b R L)); covers = λ n b R L q. Q.covers n (b + most_gain * i) R (P.low n b R L) (P.covers n b R L q) }

-- The same for all columns.
pub swept_then : {es : List ℕ} {least : ℕ → ℕ} {waiting number : List ℕ} {width : ℕ} {On Then All : ℕ → Type 0} {i j c : ℕ} {d d' d'' : List (List ℤ)} {m m' m'' : ℕ} → ((v : ℕ) → All v → On v ⊎ Then v) → i + j ≤ c
    → SweptBy es least waiting number width On i d d' m m' → SweptBy es least waiting number width Then j d' d'' m' m'' → SweptBy es least waiting number width All c d d'' m m''
swept_then split few P Q =
    record { square = square_then P.square Q.square; each = λ anchor N k q. swept_both split (P.each anchor N k q) (Q.each anchor N k q); free = λ anchor N k q. free_both few (P.free anchor N k q) (Q.free anchor N k q); held = λ w L. held_more (omega arith) (Q.held _ (P.held w L)) }

pub swept_none : {es : List ℕ} {least : ℕ → ℕ} {waiting number : List ℕ} {width : ℕ} {On : ℕ → Type 0} {c : ℕ} {d : List (List ℤ)} {m : ℕ} → Square (length d) d → ((v : ℕ) → On v → test_bit m v ≡ false) → SweptBy es least waiting number width On c d d m m
swept_none S none = record { square = S; each = λ anchor N k q. swept_idle none; free = λ anchor N k q. free_idle; held = λ w L. held_more (omega arith) L }

-- A visit: the edges out of u, and then what waits for it, with the cells that row u had.
module _
    (es : List ℕ) (least : ℕ → ℕ) (waiting number : List ℕ) (row : List ℤ) (u own width top : ℕ) (d d' d'' : List (List ℤ)) (m rest m' m'' : ℕ) (trim : Trimmed (get_or d u []) width own)
    (take : Taken (get_or d u []) row own top) (bits : (v : ℕ) → test_bit rest v ≡ (test_bit m v && not (eqb v u)))
    (H : HandedAll (λ a. UsableFrom (members (graph es)) a) number u (lent row own) d d' rest m')
    (K : HandedAll (λ a. WaitsFor (least u) u (get_or waiting u 0)) number u (lent row own) d' d'' m' m'') where
  waits_own : (a : ℕ) (e : Edge) → WaitsFor (least u) u (get_or waiting u 0) e → Both es least waiting a e
  waits_own a e w =
      let o : e.from ≡ u = ap (λ (x : Edge). x.from) w.same in
      inr (subst (λ (x : ℕ). WaitsFor (least x) x (get_or waiting x 0) e) (sym o) w)

  split : (a : ℕ) (e : Edge) → Both es least waiting a e → e.from ≡ u → UsableFrom (members (graph es)) a e ⊎ WaitsFor (least u) u (get_or waiting u 0) e
  split a e (inl i) o = inl i
  split a e (inr w) o = inr (subst (λ (x : ℕ). WaitsFor (least x) x (get_or waiting x 0) e) o w)

  whole : HandedAll (Both es least waiting) number u (lent row own) d d'' rest m''
  whole = handed_all refl (λ a e i. inl i) waits_own split H K

  lends : (k : ℕ) → k < width → (k < own) ⊎ (own ≤ k) → lent row own k ≡ column d k u
  lends k q (inl h) = lent_in row own k h ∙ take.same k h
  lends k q (inr h) = omega (arith, lent_beyond row own k h, trim.none k h q)

  -- What is handed on is in the table.
  few : (w : ℕ) → Held w d → (k : ℕ) → (k < own) ⊎ (own ≤ k) → lent row own k ≤ suc w
  few w L k (inl h) = omega (arith, lent_in row own k h, take.same k h, L.most u k)
  few w L k (inr h) = omega (arith, lent_beyond row own k h)

  others : (v : ℕ) → v ≢ u → test_bit rest v ≡ test_bit m v
  others v o = bits v ∙ stays (test_bit m v) (eqb v u) (ne_eqb v u o)

  pub visited : SweptBy es least waiting number width (λ v. v ≡ u) 1 d d'' m m''
  visited =
      record { square = whole.square; each = λ anchor N k q. swept_visit others (whole.each width anchor N k q) (lends k q (below_or_not k own)); free = λ anchor N k q. free_visit others (whole.each width anchor N k q) (lends k q (below_or_not k own)); held = λ w L. held_more (omega arith) (whole.held w (λ k. few w L k (below_or_not k own)) (held_more (omega arith) L)) }

-- Fewer steps, and more visits.
pub swept_part : {es : List ℕ} {least : ℕ → ℕ} {waiting number : List ℕ} {width : ℕ} {On All : ℕ → Type 0} {b c : ℕ} {d d' : List (List ℤ)} {m m' : ℕ} → ((v : ℕ) → All v → On v) → b ≤ c → SweptBy es least waiting number width On b d d' m m' → SweptBy es least waiting number width All c d d' m m'
swept_part i few P =
    record { square = P.square; each = λ anchor N k q. let p = P.each anchor N k q in record { up = p.up; under = p.under; covers = p.covers; hands = λ t S c e m o. p.hands t S c e m (i e.from o) }; free = λ anchor N k q. free_both {j = 0} (omega arith) (P.free anchor N k q) free_idle; held = λ w L. held_more (omega arith) (P.held w L) }

-- The loop of a sweep of c visits: once no more are left than there are steps, they are those of the steps from the last to the first.
pub swept_down : {es : List ℕ} {least : ℕ → ℕ} {waiting number : List ℕ} {width : ℕ} (n c k u : ℕ) {d d' d'' : List (List ℤ)} {m m' m'' : ℕ} → (k ≤ n → u ≡ k - 1) → 1 ≤ k → k ≤ c
    → SweptBy es least waiting number width (λ v. (k ≤ v) × (v < n)) (c - k) d d' m m' → SweptBy es least waiting number width (λ v. v ≡ u) 1 d' d'' m' m''
    → SweptBy es least waiting number width (λ v. (k - 1 ≤ v) × (v < n)) (c - (k - 1)) d d'' m m''
swept_down n c k u last some few P Q = swept_then (λ v o. by v o (down_split n k v o)) (omega arith) P Q
  where
    by : (v : ℕ) → (k - 1 ≤ v) × (v < n) → ((k ≤ v) × (v < n)) ⊎ (v ≡ k - 1) → ((k ≤ v) × (v < n)) ⊎ (v ≡ u)
    by v o (inl h) = inl h
    by v o (inr h) = inr (h ∙ sym (last (omega (arith, o.1))))

-- Where no mark is left, every step has handed on.
pub swept_all : {es : List ℕ} {least : ℕ → ℕ} {waiting number : List ℕ} {width : ℕ} {On All : ℕ → Type 0} {i c : ℕ} {d d' : List (List ℤ)} {m m' : ℕ} → m' ≡ 0 → i ≤ c → SweptBy es least waiting number width On i d d' m m' → SweptBy es least waiting number width All c d d' m m'
swept_all {All = All} z few P =
    swept_then {Then = All} {j = 0} (λ v x. inr x) (omega arith) P (swept_none (square_own P.square) (λ v x. ap (λ (y : ℕ). test_bit y v) z ∙ test_zero v))

-- One table after another: what is said of rows holds for the later one too, which has as many.
pub linked_then : {es : List ℕ} {d d' : List (List ℤ)} → Linked es d → Square (length d) d' → Linked es d'
linked_then L S = record { ends = λ k b. omega (arith, L.ends k b, S.rows); square = square_own S }

pub network_then : {es waiting : List ℕ} {d d' : List (List ℤ)} → Network es waiting d → Square (length d) d' → Network es waiting d'
network_then N S = record { linked = linked_then N.linked S; waits = λ a b h. omega (arith, N.waits a b h, S.rows) }

-- After some of the sweeps that there is room for, there is room for the others.
pub sweepable_later : {sweeps n width : ℕ} {es waiting : List ℕ} {d d' : List (List ℤ)} (done left : ℕ) (P : Sweepable sweeps n width es waiting d) → done + left ≤ sweeps → Square (length d) d' → Held (P.level + most_gain * (most_visits * done)) d' → Sweepable left n width es waiting d'
sweepable_later done left P few S H =
    record { some = P.some; few = P.few; inside = omega (arith, P.inside, S.rows); narrow = P.narrow; network = network_then P.network S; level = P.level + most_gain * (most_visits * done); held = H; room = omega (arith, P.room) }

-- Room for weights below 0 (request L10): a column may begin as high as a heaviest walk weighs, so that one that loses as much is still a number from 0 on.
pub lifted_room : most_walk + most_gain * (most_visits * most_steps) ≤ most_weight
lifted_room = omega arith

-- What columns begin with, one cell after another.
use mathlib.Core.Path.{◌≡◌, refl, sym, ap, ◌∙◌}
use mathlib.Core.Bool.{Bool, true, false, not, ◌&&◌, and-false}
use mathlib.Core.Logic.{◌⊎◌, inl, inr, ◌≢◌}
use mathlib.Core.List.Memᴰ
use mathlib.Core.List.{List, Memᴰ, [], ◌∷◌, ◌++◌, map, map-append}
use Prim.Native.Nat.{ℕ, suc, ◌+◌, ◌-◌, ◌%◌, ◌≤◌, ◌<◌}
use native.Mathlib.Omega.{arith}
use native.Mathlib.Numerals.{add-one}
use native.Mathlib.Decide.{dec_lt}
use lib.Dec.{eqb}
use lib.IntN.{ℤ}
use lib.ListN.{length, get_or, set, take}
use lib.Seq.{take-suc, take-length}
use borrow.Author.Tests.{eq-eqb}
use Rattle.definitions.specs.Basics.{any_below, test_bit}
use Rattle.definitions.specs.Limits.{most_gain}
use Rattle.definitions.specs.Links.{Edge, Graph, ◌⊑◌, members}
use Rattle.data_edges.specs.Words.{graph, unpack}
use Rattle.data_edges.proofs.Places.{graph_place}
use Rattle.laws.proofs.Bools.{bool_cases, both_ways, same_or_not}
use Rattle.laws.proofs.Maps.{test_zero}
use Rattle.laws.proofs.Tests.{any_below_by}
use Rattle.data_relations.specs.Rows.{row_bit}
use Rattle.walk_cells.specs.Cells.{value}
use Rattle.walk_cells.specs.Tables.{Held, Square, cell_at}
use Rattle.walk_cells.proofs.Values.{value_none}
use Rattle.walk_edge.specs.Columns.{Numbers, Only, column}
use Rattle.walk_cells.proofs.Tables.{square_stored, square_then, stored_beside, stored_here, stored_other}
use Rattle.theory.specs.Sweeps.{Leads}
use Rattle.walk_seed.specs.Seeds.{Begins, Begun, BegunAll, Empty, Idle, Numbered, Prepared, Raised, Seeded, Sown}
use Rattle.walk_seed.proofs.Numbering.{left_still}

-- One cell is stored to, and the others stay.
pub record Stored (v k : ℕ) (c : ℤ) (d d' : List (List ℤ)) : Type 0 where
  pub square : Square (length d) d'
  pub here : cell_at d' v k ≡ c
  pub other : (w j : ℕ) → (w ≢ v) ⊎ (j ≢ k) → cell_at d' w j ≡ cell_at d w j

pub stored_cell : (v k : ℕ) (c : ℤ) (d : List (List ℤ)) → Square (length d) d → v < length d → k < 64 → Stored v k c d (set d v (set (get_or d v []) k c))
stored_cell v k c d S h b = record { square = square_stored d v k c S h b; here = stored_here d v k c S h b; other = λ w j. by w j (same_or_not w v) }
  where
    by : (w j : ℕ) → (w ≡ v) ⊎ (w ≢ v) → (w ≢ v) ⊎ (j ≢ k) → cell_at (set d v (set (get_or d v []) k c)) w j ≡ cell_at d w j
    by w j (inl e) (inl o) = absurd (o e)
    by w j (inl e) (inr o) = rw e (stored_beside d v k c S h b j o)
    by w j (inr e) o = stored_other d v k c S h b w j e

pub raised_stored : (v k : ℕ) (c : ℤ) (d : List (List ℤ)) → Square (length d) d → v < length d → k < 64 → value (cell_at d v k) ≤ value c → Raised v k c d (set d v (set (get_or d v []) k c))
raised_stored v k c d S h b l =
    let T = stored_cell v k c d S h b in
    record { square = T.square; here = ap value T.here ∙ omega arith; other = T.other }

pub raised_kept : (v k : ℕ) (c : ℤ) (d : List (List ℤ)) → Square (length d) d → value c ≤ value (cell_at d v k) → Raised v k c d d
raised_kept v k c d S l = record { square = S; here = omega arith; other = λ w j o. refl }

-- A cell that says no more than an edge may gain is stored, or the table stays.
held_stored : {v k : ℕ} {c : ℤ} {d d' : List (List ℤ)} → Stored v k c d d' → value c ≤ suc most_gain → Held most_gain d → Held most_gain d'
held_stored {v} {k} {d' = d'} T low H = record { most = λ w j. by w j (same_or_not w v) (same_or_not j k) }
  where
    by : (w j : ℕ) → (w ≡ v) ⊎ (w ≢ v) → (j ≡ k) ⊎ (j ≢ k) → value (cell_at d' w j) ≤ suc most_gain
    by w j (inl e) (inl f) = rw (e, f, T.here) low
    by w j (inl e) (inr f) = omega (arith, ap value (T.other w j (inr f)), H.most w j)
    by w j (inr e) f = omega (arith, ap value (T.other w j (inl e)), H.most w j)

-- The pairs of step v and the members of a map that are not left; and those of the rows of sets below v.
abbrev pub Passed : ℕ → ℕ → ℕ → ℕ → ℕ → Type 0
Passed v map left w a = (w ≡ v) × (a < 64) × (test_bit map a ≡ true) × (test_bit left a ≡ false)

abbrev pub Below : List ℕ → ℕ → ℕ → ℕ → Type 0
Below sets v w a = (w < v) × (a < 64) × (row_bit sets w a ≡ true)

-- Seeds of no pair, of one pair, and of some pairs and then of others.
module _ (least : ℕ → ℕ) (number : List ℕ) where
  sown_as : {P R : ℕ → ℕ → Type 0} {d d' : List (List ℤ)} {v k : ℕ} → ((w a : ℕ) → P w a → R w a) → cell_at d' v k ≡ cell_at d v k → Sown least number P d v k → Sown least number R d' v k
  sown_as {v = v} i same S = record { anchor = S.anchor; pair = i v S.anchor S.pair; here = S.here; weighs = ap value same ∙ S.weighs }

  seeded_none : {P : ℕ → ℕ → Type 0} (d : List (List ℤ)) → Square (length d) d → ((v a : ℕ) → ¬ P v a) → Seeded least number P d d
  seeded_none d S none = record { square = S; sown = λ v a p. absurd (none v a p); either = λ v k. inr refl; held = λ H. H }

  seeded_one : {P : ℕ → ℕ → Type 0} (v a k : ℕ) (c : ℤ) {d d' : List (List ℤ)} → k ≡ get_or number a 0 % 64 → value c ≡ suc (least a) → least a ≤ most_gain → P v a → ((w b : ℕ) → P w b → (w ≡ v) × (b ≡ a)) → Stored v k c d d' → Seeded least number P d d'
  seeded_one {P} v a k c {d} {d'} is weighs low own only T = record { square = T.square; sown = λ w b p. let e = only w b p in rw (e.0, e.1, ← is) new; either = λ w j. either w j (same_or_not w v) (same_or_not j k); held = λ H. held_stored T (omega arith) H }
    where
      new : Sown least number P d' v k
      new = record { anchor = a; pair = own; here = sym is; weighs = ap value T.here ∙ weighs }

      either : (w j : ℕ) → (w ≡ v) ⊎ (w ≢ v) → (j ≡ k) ⊎ (j ≢ k) → Sown least number P d' w j ⊎ (cell_at d' w j ≡ cell_at d w j)
      either w j (inl e) (inl f) = inl (rw (e, f) new)
      either w j (inl e) (inr f) = inr (T.other w j (inr f))
      either w j (inr e) f = inr (T.other w j (inl e))

  seeded_both : {P Q R : ℕ → ℕ → Type 0} {d d' d'' : List (List ℤ)} → ((v a : ℕ) → P v a → R v a) → ((v a : ℕ) → Q v a → R v a) → ((v a : ℕ) → R v a → P v a ⊎ Q v a) → Seeded least number P d d' → Seeded least number Q d' d'' → Seeded least number R d d''
  seeded_both {P} {Q} {R} {d} {d'} {d''} i j split A B =
      record { square = square_then A.square B.square; sown = λ v a r. sown v a (split v a r); either = λ v k. either v k (B.either v k) (A.either v k); held = λ H. B.held (A.held H) }
    where
      stays : (v k : ℕ) → Sown least number P d' v k → Sown least number Q d'' v k ⊎ (cell_at d'' v k ≡ cell_at d' v k) → Sown least number R d'' v k
      stays v k S (inl new) = sown_as j refl new
      stays v k S (inr e) = sown_as i e S

      sown : (v a : ℕ) → P v a ⊎ Q v a → Sown least number R d'' v (get_or number a 0 % 64)
      sown v a (inl p) = stays v (get_or number a 0 % 64) (A.sown v a p) (B.either v (get_or number a 0 % 64))
      sown v a (inr q) = sown_as j refl (B.sown v a q)

      either : (v k : ℕ) → Sown least number Q d'' v k ⊎ (cell_at d'' v k ≡ cell_at d' v k) → Sown least number P d' v k ⊎ (cell_at d' v k ≡ cell_at d v k) → Sown least number R d'' v k ⊎ (cell_at d'' v k ≡ cell_at d v k)
      either v k (inl S) f = inl (sown_as j refl S)
      either v k (inr e) (inl S) = inl (sown_as i e S)
      either v k (inr e) (inr f) = inr (e ∙ f)

  seeded_as : {P R : ℕ → ℕ → Type 0} {d d' : List (List ℤ)} → ((v a : ℕ) → P v a → R v a) → ((v a : ℕ) → R v a → P v a) → Seeded least number P d d' → Seeded least number R d d'
  seeded_as {P} {R} {d} {d'} i j A = record { square = A.square; sown = λ v a r. sown_as i refl (A.sown v a (j v a r)); either = λ v k. either v k (A.either v k); held = A.held }
    where
      either : (v k : ℕ) → Sown least number P d' v k ⊎ (cell_at d' v k ≡ cell_at d v k) → Sown least number R d' v k ⊎ (cell_at d' v k ≡ cell_at d v k)
      either v k (inl S) = inl (sown_as i refl S)
      either v k (inr e) = inr e

  -- The loop over the members of a map.
  pub passed_start : (v map : ℕ) (d : List (List ℤ)) → Square (length d) d → Seeded least number (Passed v map map) d d
  passed_start v map d S = seeded_none d S (λ w a p. both_ways p.2 p.3)

  pub passed_more : (v map left left' a k : ℕ) (c : ℤ) {d d' d'' : List (List ℤ)} → a < 64 → test_bit map a ≡ true → test_bit left a ≡ true → ((j : ℕ) → test_bit left' j ≡ (test_bit left j && not (eqb j a)))
      → k ≡ get_or number a 0 % 64 → value c ≡ suc (least a) → least a ≤ most_gain → Seeded least number (Passed v map left) d d' → Stored v k c d' d'' → Seeded least number (Passed v map left') d d''
  passed_more v map left left' a k c low within member leaves is weighs light A T =
      seeded_both {Q = λ w b. (w ≡ v) × (b ≡ a)}
      (λ w b p. (p.0, p.1, p.2, leaves b ∙ ap (λ (t : Bool). t && not (eqb b a)) p.3))
      (λ w b p. rw p.1 ((p.0, low, within, gone)))
      (λ w b p. split w b p (same_or_not b a))
      A
      (seeded_one v a k c is weighs light (refl, refl) (λ w b p. p) T)
    where
      gone : test_bit left' a ≡ false
      gone = leaves a ∙ ap (λ (t : Bool). test_bit left a && not t) (eq-eqb a a refl) ∙ and-false (test_bit left a)

      split : (w b : ℕ) → Passed v map left' w b → (b ≡ a) ⊎ (b ≢ a) → Passed v map left w b ⊎ ((w ≡ v) × (b ≡ a))
      split w b p (inl e) = inr (p.0, e)
      split w b p (inr o) = inl (p.0, p.1, p.2, by (bool_cases (test_bit left b)))
        where
          by : (test_bit left b ≡ true) ⊎ (test_bit left b ≡ false) → test_bit left b ≡ false
          by (inl t) = absurd (both_ways (left_still left left' a leaves b t o) p.3)
          by (inr t) = t

  pub passed_end : (v map left : ℕ) {d d' : List (List ℤ)} → left ≡ 0 → Seeded least number (Passed v map left) d d' → Seeded least number (λ w a. (w ≡ v) × (a < 64) × (test_bit map a ≡ true)) d d'
  passed_end v map left z A = seeded_as (λ w a p. (p.0, p.1, p.2)) (λ w a p. (p.0, p.1, p.2, ap (λ (x : ℕ). test_bit x a) z ∙ test_zero a)) A

  -- The loop over the rows.
  pub below_start : (sets : List ℕ) (d : List (List ℤ)) → Square (length d) d → Seeded least number (Below sets 0) d d
  below_start sets d S = seeded_none d S (λ w a p. omega (arith, p.0))

  pub below_more : (sets : List ℕ) (v : ℕ) {d d' d'' : List (List ℤ)} → Seeded least number (Below sets v) d d' → Seeded least number (λ w a. (w ≡ v) × (a < 64) × (test_bit (get_or sets v 0) a ≡ true)) d' d'' → Seeded least number (Below sets (v + 1)) d d''
  below_more sets v A B =
      seeded_both
      (λ w a p. (omega (arith, p.0), p.1, p.2))
      (λ w a p. (omega (arith, p.0), p.1, ap (λ (x : ℕ). row_bit sets x a) p.0 ∙ p.2))
      (λ w a p. split w a p (same_or_not w v))
      A
      B
    where
      split : (w a : ℕ) → Below sets (v + 1) w a → (w ≡ v) ⊎ (w ≢ v) → Below sets v w a ⊎ ((w ≡ v) × (a < 64) × (test_bit (get_or sets v 0) a ≡ true))
      split w a p (inl e) = inr (e, p.1, ap (λ (x : ℕ). row_bit sets x a) (sym e) ∙ p.2)
      split w a p (inr o) = inl (omega (arith, p.0), p.1, p.2)

-- Edges that begin no walk of any anchor that is not there.
module _ (number : List ℕ) where
  begun_none : {E : Graph} (d : List (List ℤ)) → Square (length d) d → ((e : Edge) → E e → (a : ℕ) → Leads a e → e.gain ≤ e.loss) → BegunAll E number d d
  begun_none d S light =
      record { square = S; each = λ width anchor N few k b. record { up = λ v. omega arith; begun = λ e m l h. omega (arith, light e m (anchor k) l); sound = λ t s below. below }; held = λ H. H }

  pub begun_idle : (es : List ℕ) (d : List (List ℤ)) → Square (length d) d → Idle es (length es) → BegunAll (members (graph es)) number d d
  begun_idle es d S idle =
      begun_none d S (λ e m a l. let p = graph_place es e m in let z = idle p.0 p.1 (ap (λ (x : Edge). x.counted) p.2 ∙ l.counts) in omega (arith, z, ap (λ (x : Edge). x.gain) p.2))

  pub begun_uncounted : (e : Edge) (d : List (List ℤ)) → Square (length d) d → e.counted ≡ false → BegunAll (Only e) number d d
  begun_uncounted e d S h = begun_none d S (λ x m a l. absurd (both_ways l.counts (ap (λ (y : Edge). y.counted) m ∙ h)))

  pub begun_light : (e : Edge) (d : List (List ℤ)) → Square (length d) d → e.gain ≤ e.loss → BegunAll (Only e) number d d
  begun_light e d S h = begun_none d S (λ x m a l. rw m h)

  -- One graph and then another.
  begun_both : {E F G : Graph} {d d' d'' : List (List ℤ)} → E ⊑ G → F ⊑ G → ((e : Edge) → G e → E e ⊎ F e) → BegunAll E number d d' → BegunAll F number d' d'' → BegunAll G number d d''
  begun_both {E} {F} {G} {d} {d'} {d''} i j split A B = record { square = square_then A.square B.square; each = each; held = λ H. B.held (A.held H) }
    where
      each : (width : ℕ) (anchor : ℕ → ℕ) → Numbers width number anchor → width ≤ 64 → (k : ℕ) → k < width → Begun G (anchor k) (column d k) (column d'' k)
      each width anchor N few k b =
          let P = A.each width anchor N few k b in
          let Q = B.each width anchor N few k b in
          record { up = λ v. omega (arith, P.up v, Q.up v); begun = λ e m l h. by P Q e l h (split e m); sound = λ t s below. Q.sound t (λ e m l. s e (j e m) l) (P.sound t (λ e m l. s e (i e m) l) below) }
        where
          by : Begun E (anchor k) (column d k) (column d' k) → Begun F (anchor k) (column d' k) (column d'' k) → (e : Edge) → Leads (anchor k) e → 1 ≤ column d k e.to → E e ⊎ F e → suc (e.gain - e.loss) ≤ column d'' k e.to
          by P Q e l h (inl m) = omega (arith, P.begun e m l h, Q.up e.to)
          by P Q e l h (inr m) = Q.begun e m l (omega (arith, P.up e.to))

  -- The loop over a list: the words before place k.
  pub begun_start : (es : List ℕ) (d : List (List ℤ)) → Square (length d) d → BegunAll (members (graph (take 0 es))) number d d
  unfolding graph
  begun_start es d S = begun_none d S (λ e m. absurd (Memᴰ.not-nil m))

  pub begun_more : (es : List ℕ) (k : ℕ) {d d' d'' : List (List ℤ)} → k < length es → BegunAll (members (graph (take k es))) number d d' → BegunAll (Only (unpack (get_or es k 0))) number d' d'' → BegunAll (members (graph (take (k + 1) es))) number d d''
  unfolding graph
  begun_more es k h A B =
      begun_both
      (λ e m. rw grown (Memᴰ.append_left (unpack (get_or es k 0) ∷ []) m))
      (λ e m. rw grown (Memᴰ.append_right (graph (take k es)) (Memᴰ.head m)))
      (λ e m. split e (rw grown at m))
      A
      B
    where
      grown : graph (take (k + 1) es) ≡ graph (take k es) ++ unpack (get_or es k 0) ∷ []
      grown = rw add-one (ap (map unpack) (take-suc es k 0 h) ∙ map-append unpack (take k es) (get_or es k 0 ∷ []))

      split_by : (e : Edge) → Memᴰ e (graph (take k es)) ⊎ Memᴰ e (unpack (get_or es k 0) ∷ []) → Memᴰ e (graph (take k es)) ⊎ Only (unpack (get_or es k 0)) e
      split_by e (inl m) = inl m
      split_by e (inr m) = inr (Memᴰ.eq_of_singleton m)

      split : (e : Edge) → Memᴰ e (graph (take k es) ++ unpack (get_or es k 0) ∷ []) → Memᴰ e (graph (take k es)) ⊎ Only (unpack (get_or es k 0)) e
      split e m = split_by e (Memᴰ.append_cases (graph (take k es)) m)

  pub begun_end : (es : List ℕ) (k : ℕ) {d d' : List (List ℤ)} → k ≤ length es → length es ≤ k → BegunAll (members (graph (take k es))) number d d' → BegunAll (members (graph es)) number d d'
  begun_end es k b h A =
      let i : k ≡ length es = omega arith in
      let t : take k es ≡ es = ap (λ (j : ℕ). take j es) i ∙ take-length es in
      rw t at A

-- The loop over the words: one more of them is idle where its gain is 0, if it is counted.
pub idle_more : (es : List ℕ) (k gain : ℕ) → Idle es k → ((unpack (get_or es k 0)).counted ≡ true → gain ≡ (unpack (get_or es k 0)).gain) → gain ≡ 0 → Idle es (k + 1)
idle_more es k gain idle is z j b = by (same_or_not j k)
  where
    by : (j ≡ k) ⊎ (j ≢ k) → (unpack (get_or es j 0)).counted ≡ true → (unpack (get_or es j 0)).gain ≡ 0
    by (inl e) = rw e (λ c. sym (is c) ∙ z)
    by (inr o) = idle j (omega arith)

-- Seeds and then edges: an anchor's column begins with a walk that weighs its least where the anchor is a member, and with nothing elsewhere, as no other anchor has its number.
module _
    {least : ℕ → ℕ} {E : Graph} {number : List ℕ} {width : ℕ} {d₀ d₁ d₂ : List (List ℤ)} (sets : List ℕ) (n all : ℕ) (empty : Empty d₀)
    (union : (a : ℕ) → test_bit all a ≡ any_below (λ v. row_bit sets v a) n) (N : Numbered all width number)
    (seeded : Seeded least number (λ w a. (w < n) × (a < 64) × (row_bit sets w a ≡ true)) d₀ d₁) (begun : BegunAll E number d₁ d₂) where
  listed : (v a : ℕ) → v < n → row_bit sets v a ≡ true → get_or number a 0 < width
  listed v a b h = N.listed a (union a ∙ any_below_by (λ w. row_bit sets w a) n b h)

  module _ (k : ℕ) (b : k < width) where
    abbrev a : ℕ
    a = N.anchor k

    numbered : get_or number a 0 % 64 ≡ k
    numbered = omega (arith, N.numbers.there k b, N.few)

    -- The number of a member is its own.
    alone : (v x : ℕ) → (v < n) × (x < 64) × (row_bit sets v x ≡ true) → get_or number x 0 % 64 ≡ k → x ≡ a
    alone v x p h =
        let l = listed v x p.0 p.2 in
        let e : get_or number x 0 ≡ k = omega (arith, N.few) in
        sym (N.numbers.back x p.1 l) ∙ ap N.anchor e

    first : (v : ℕ) → v < n → row_bit sets v a ≡ true → column d₁ k v ≡ suc (least a)
    first v c h =
        let S = seeded.sown v a (c, N.numbers.inside k b, h) in
        ap (λ (x : ℕ). column d₁ x v) (sym numbered) ∙ S.weighs ∙ ap (λ (x : ℕ). suc (least x)) (alone v S.anchor S.pair (S.here ∙ numbered))

    nothing : (v : ℕ) → ¬ ((v < n) × (row_bit sets v a ≡ true)) → column d₁ k v ≡ 0
    nothing v none = by (seeded.either v k)
      where
        by : Sown least number (λ w x. (w < n) × (x < 64) × (row_bit sets w x ≡ true)) d₁ v k ⊎ (cell_at d₁ v k ≡ cell_at d₀ v k) → column d₁ k v ≡ 0
        by (inl S) = absurd (none (S.pair.0, ap (row_bit sets v) (sym (alone v S.anchor S.pair S.here)) ∙ S.pair.2))
        by (inr e) = ap value (e ∙ empty.cells v k) ∙ value_none

    below : (t : ℕ → ℕ) → ((v : ℕ) → v < n → row_bit sets v a ≡ true → suc (least a) ≤ t v) → (v : ℕ) → column d₁ k v ≤ t v
    below t live v = by (dec_lt v n) (bool_cases (row_bit sets v a))
      where
        by : Dec (v < n) → (row_bit sets v a ≡ true) ⊎ (row_bit sets v a ≡ false) → column d₁ k v ≤ t v
        by (yes c) (inl h) = omega (arith, first v c h, live v c h)
        by (yes c) (inr h) = omega (arith, nothing v (λ p. both_ways p.1 h))
        by (no c) h = omega (arith, nothing v (λ p. c p.0))

    begins : Begins least E sets n (N.anchor k) (column d₂ k)
    begins =
        let B = begun.each width N.anchor N.numbers N.few k b in
        record { live = λ v c h. omega (arith, first v c h, B.up v); begun = λ e m l c h. B.begun e m l (omega (arith, first e.to c h)); sound = λ t s live. B.sound t s (below t live) }

  bare : Held most_gain d₀
  bare = record { most = λ v k. omega (arith, ap value (empty.cells v k), value_none) }

  pub prepared : Prepared least E sets n width number (length d₀) d₂
  prepared = record { anchor = N.anchor; numbers = N.numbers; few = N.few; listed = listed; low = λ v a b c h. N.low a c (union a ∙ any_below_by (λ w. row_bit sets w a) n b h); square = square_then seeded.square begun.square; held = begun.held (seeded.held bare); columns = begins }

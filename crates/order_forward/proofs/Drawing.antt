-- Rows that are drawn along an order: a turn fills the row of the step at the next place from the rows of those right before it, which have lower ranks and so are done; no row changes once it is done.
use mathlib.Core.Path.{◌≡◌, refl, sym, ap, ◌∙◌}
use mathlib.Core.Bool.{Bool, true, false, not, ◌&&◌, ◌||◌, or_assoc, or-false}
use mathlib.Core.Logic.{◌⊎◌, inl, inr, ◌≢◌}
use mathlib.Core.List.{List}
use Prim.Native.Nat.{ℕ, ◌+◌, ◌<◌, ◌≤◌}
use native.Mathlib.Omega.{arith}
use native.Mathlib.Decide.{dec_lt}
use lib.Dec.{eqb}
use lib.ListN.{length, get_or, set, length-set}
use lib.Seq.{get_or-set_same, get_or-set_other}
use Rattle.definitions.specs.Basics.{any_below, test_bit}
use Rattle.definitions.specs.Links.{Edge}
use Rattle.laws.proofs.Bools.{same_or_not}
use Rattle.laws.proofs.Members.{any_member_less, any_member_none}
use Rattle.laws.proofs.Searches.{any_below_same}
use Rattle.order_steps.specs.Orders.{Counted, Ordered}
use Rattle.data_relations.specs.Rows.{row_bit}
use Rattle.data_relations.proofs.Gathering.{store_bit}
use Rattle.order_forward.specs.Sorting.{Drawn, Adjoined}

-- The rows of counted edges, with step 0 in its own.
pub entered_by : (g : List Edge) (rows : List ℕ) (own : ℕ) → Counted g rows → ((a : ℕ) → test_bit own a ≡ (row_bit rows 0 a || eqb a 0)) → Adjoined g (set rows 0 own)
entered_by g rows own G bits =
    record { long = length-set rows 0 own ∙ G.long; bits = λ v a. store_bit rows 0 own (λ k. eqb k 0) (omega (arith, G.long)) bits v a ∙ ap (λ (t : Bool). t || (eqb v 0 && eqb a 0)) (G.bits v a) }

-- The members of `own` and of the rows of the steps in a map.
abbrev pub with_rows : List ℕ → ℕ → ℕ → ℕ → Bool
with_rows rows own steps a = test_bit own a || any_below (λ u. test_bit steps u && row_bit rows u a) 64

-- One step less in the map, where its row was taken in.
pub gather_more : (rows : List ℕ) (all all' left left' u a : ℕ) → u < 64 → test_bit left u ≡ true → ((k : ℕ) → test_bit left' k ≡ (test_bit left k && not (eqb k u))) → ((k : ℕ) → test_bit all' k ≡ (test_bit all k || row_bit rows u k)) → with_rows rows all' left' a ≡ with_rows rows all left a
gather_more rows all all' left left' u a b member without takes =
    ap (λ (t : Bool). t || any_below (λ k. test_bit left' k && row_bit rows k a) 64) (takes a)
    ∙ or_assoc (test_bit all a) (row_bit rows u a) (any_below (λ k. test_bit left' k && row_bit rows k a) 64)
    ∙ ap (λ (t : Bool). test_bit all a || t) (sym (any_member_less left left' u member without (λ k. row_bit rows k a) 64 b))

pub gather_all : (rows : List ℕ) (all left a : ℕ) → left ≡ 0 → test_bit all a ≡ with_rows rows all left a
gather_all rows all left a z =
    sym (ap (λ (t : Bool). test_bit all a || t) (any_member_none (λ k. row_bit rows k a) 64 left z) ∙ or-false (test_bit all a))

module _ {n : ℕ} {before order : List ℕ} (O : Ordered n before order) (own : List ℕ) where
  -- After the first k places.
  pub record Drawing (k : ℕ) (rows : List ℕ) : Type 0 where
    pub long : length rows ≡ 64
    pub done : (v a : ℕ) → v < n → O.rank v < k → row_bit rows v a ≡ with_rows rows (get_or own v 0) (get_or before v 0) a
    pub ahead : (v : ℕ) → v < n → k ≤ O.rank v → get_or rows v 0 ≡ get_or own v 0
    pub past : (v : ℕ) → n ≤ v → get_or rows v 0 ≡ get_or own v 0

  pub drawing_start : length own ≡ 64 → Drawing 0 own
  drawing_start long = record { long = long; done = λ v a b r. absurd (omega arith); ahead = λ v b r. refl; past = λ v b. refl }

  module _ (few : n ≤ 64) (k : ℕ) (rows : List ℕ) (D : Drawing k rows) (l : k < n) (u row : ℕ) (at : u ≡ get_or order k 0) (takes : (a : ℕ) → test_bit row a ≡ with_rows rows (get_or rows u 0) (get_or before u 0) a) where
    below : u < n
    below = rw at (O.filled k l)

    rank : O.rank u ≡ k
    rank = ap O.rank at ∙ O.ranked k l

    abbrev rows' : List ℕ
    rows' = set rows u row

    other : (v : ℕ) → v ≢ u → get_or rows' v 0 ≡ get_or rows v 0
    other v d = get_or-set_other rows u v row 0 d

    -- The steps right before one of rank k or less have lower ranks, and their rows stay.
    same : (v w a : ℕ) → v < n → O.rank v ≤ k → (row_bit before v w && row_bit rows w a) ≡ (row_bit before v w && row_bit rows' w a)
    same v w a b r = by (row_bit before v w) refl
      where
        lower : row_bit before v w ≡ true → Dec (w < n) → w ≢ u
        lower q (yes c) e = omega (arith, O.rises w v c b q, ap O.rank e, rank)
        lower q (no c) e = omega (arith, below)

        by : (t : Bool) → row_bit before v w ≡ t → (t && row_bit rows w a) ≡ (t && row_bit rows' w a)
        by true q = ap (λ (x : ℕ). test_bit x a) (sym (other w (lower q (dec_lt w n))))
        by false q = refl

    kept : (v x a : ℕ) → v < n → O.rank v ≤ k → with_rows rows x (get_or before v 0) a ≡ with_rows rows' x (get_or before v 0) a
    kept v x a b r =
        ap (λ (t : Bool). test_bit x a || t) (any_below_same (λ w. row_bit before v w && row_bit rows w a) (λ w. row_bit before v w && row_bit rows' w a) 64 (λ w c. same v w a b r))

    done' : (v a : ℕ) → v < n → O.rank v < k + 1 → (v ≡ u) ⊎ (v ≢ u) → row_bit rows' v a ≡ with_rows rows' (get_or own v 0) (get_or before v 0) a
    done' v a b r (inl e) =
        ap (λ (x : ℕ). row_bit rows' x a) e
        ∙ ap (λ (x : ℕ). test_bit x a) (get_or-set_same rows u row 0 (omega (arith, below, few, D.long)))
        ∙ takes a
        ∙ kept u (get_or rows u 0) a below (omega (arith, rank))
        ∙ ap (λ (x : ℕ). with_rows rows' x (get_or before u 0) a) (D.ahead u below (omega (arith, rank)))
        ∙ ap (λ (x : ℕ). with_rows rows' (get_or own x 0) (get_or before x 0) a) (sym e)
    done' v a b r (inr d) =
        let lower : O.rank v < k = omega (arith, unequal) in
        ap (λ (x : ℕ). test_bit x a) (other v d) ∙ D.done v a b lower ∙ kept v (get_or own v 0) a b (omega arith)
      where
        unequal : O.rank v ≢ k
        unequal e = d (sym (O.here v b) ∙ ap (λ (i : ℕ). get_or order i 0) e ∙ sym at)

    pub drawing_more : Drawing (k + 1) rows'
    drawing_more =
        record { long = length-set rows u row ∙ D.long; done = λ v a b r. done' v a b r (same_or_not v u); ahead = λ v b r. other v (λ e. omega (arith, ap O.rank e, rank)) ∙ D.ahead v b (omega arith); past = λ v b. other v (λ e. omega (arith, below)) ∙ D.past v b }

  pub drawing_end : (k : ℕ) (rows : List ℕ) → n ≤ k → Drawing k rows → Drawn n before own rows
  drawing_end k rows b D = record { long = D.long; bits = λ v a l. D.done v a l (omega (arith, O.low v l)); past = D.past }

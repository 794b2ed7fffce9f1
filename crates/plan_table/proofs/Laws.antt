-- Rows and entries of the plan's table as they are read off the working tables, and that on the tables of an edge list they are the definition's. Assumes nothing.
use mathlib.Core.Path.{◌≡◌, refl, sym, ap, ap₂, ◌∙◌}
use mathlib.Core.Bool.{Bool, true, false, cond, not, ◌&&◌, and-true, and-false}
use mathlib.Core.Logic.{◌⊎◌, inl, inr, ◌≢◌}
use mathlib.Core.List.{List, ◌++◌, append_assoc}
use Prim.Native.Nat.{ℕ, zero, suc, ◌+◌, ◌-◌, ◌*◌, ◌<◌, ◌≤◌}
use native.Mathlib.Omega.{arith}
use native.Mathlib.Nat.{suc-mul, zero-mul}
use native.Mathlib.Numerals.{add-one}
use native.Mathlib.Decide.{dec_lt}
use lib.Dec.{eqb, ltb}
use lib.ListN.{length, get_or, set, take, drop, replicate, length-append, length-drop, length-set}
use Rattle.std.proofs.lemmas.List.{length-replicate, get_or-replicate}
use lib.Seq.{drop_at, drop-drop, ext_get_or, get_or-drop, get_or-set_same, get_or-set_other, get_or-take}
use borrow.Author.Tests.{eq-eqb, lt-ltb, ltb-true, ne_eqb}
use borrow.Rule.Slice.PartMut.{put_mid}
use Rattle.definitions.specs.Basics.{tabulate, test_bit}
use Rattle.definitions.specs.Limits.{longest_table}
use Rattle.definitions.specs.Links.{Edge, members}
use Rattle.definitions.specs.Plan.{decides, offset, undecided, plan_entry, plan_row, plan_rows, plan_table}
use Rattle.laws.proofs.Counts.{row_end, square_small}
use Rattle.laws.proofs.Fronts.{laid, laid_at, laid_past, put_rest, tabulate_list}
use Rattle.laws.proofs.Bools.{and_split, bool_cases, cond_true, cond_false, same_or_not}
use Rattle.laws.proofs.Maps.{test_zero}
use Rattle.laws.proofs.Tests.{tabulate_length, tabulate_same}
use Rattle.theory.specs.Graphs.{Lasting}
use Rattle.theory.proofs.Extras.{decides_extra}
use Rattle.plan_deciding.specs.Working.{Holds, HoldsLeasts, Orderly, offset_in, deciding}
use Rattle.plan_deciding.proofs.Laws.{offset_read, deciding_member, deciding_same}
use Rattle.plan_table.specs.Rows.{Planned, Put, cleared, entry_at, first_rows}

-- ---- offsets put into a row, a member at a time

-- The row, with the values of the members left put in, is what is asked for; those left are below n.
pub record Putting (n : ℕ) (value : ℕ → ℕ) (map left : ℕ) (row₀ row : List ℕ) : Type 0 where
  pub long : length row ≡ length row₀
  pub fits : n ≤ length row
  pub low : (a : ℕ) → test_bit left a ≡ true → a < n
  pub front : (a : ℕ) → a < n → cond (test_bit left a) (value a) (get_or row a 0) ≡ cond (test_bit map a) (value a) (get_or row₀ a 0)
  pub rest : (a : ℕ) → n ≤ a → get_or row a 0 ≡ get_or row₀ a 0

-- The map is cut to the members below n: none of them is put yet.
pub none_put : {n : ℕ} (value : ℕ → ℕ) {map left : ℕ} {row : List ℕ} (first : ℕ) → n ≤ length row → ((a : ℕ) → test_bit first a ≡ ltb a n) → ((a : ℕ) → test_bit left a ≡ (test_bit map a && test_bit first a)) → Putting n value map left row row
none_put {n} value {map} {left} {row} first b first-is left_is =
    record { long = refl; fits = b; low = low; front = λ a c. ap (λ (t : Bool). cond t (value a) (get_or row a 0)) (same a c); rest = λ a _. refl }
  where
    low : (a : ℕ) → test_bit left a ≡ true → a < n
    low a h = ltb-true a n (sym (first-is a) ∙ (and_split (test_bit map a) (test_bit first a) (sym (left_is a) ∙ h)).1)

    same : (a : ℕ) → a < n → test_bit left a ≡ test_bit map a
    same a c = left_is a ∙ ap (λ (t : Bool). test_bit map a && t) (first-is a ∙ lt-ltb a n c) ∙ and-true (test_bit map a)

module _ {n : ℕ} {value : ℕ → ℕ} {map left : ℕ} {row₀ row : List ℕ} where
  -- A member's value is put in; at another place nothing changes.
  pub one_put : {y next : ℕ} (x : ℕ) → test_bit left x ≡ true → y ≡ value x → ((j : ℕ) → test_bit next j ≡ (test_bit left j && not (eqb j x)))
      → Putting n value map left row₀ row → Putting n value map next row₀ (set row x y)
  one_put {y} {next} x stood is next_is P =
      record { long = length-set row x y ∙ P.long; fits = simp length-set P.fits; low = λ a h. P.low a (and_split (test_bit left a) (not (eqb a x)) (sym (next_is a) ∙ h)).0; front = λ a c. front a (same_or_not a x) ∙ P.front a c; rest = λ a c. get_or-set_other row x a y 0 (λ e. omega (arith, b)) ∙ P.rest a c }
    where
      b : x < n
      b = P.low x stood

      front : (a : ℕ) → (a ≡ x) ⊎ (a ≢ x) → cond (test_bit next a) (value a) (get_or (set row x y) a 0) ≡ cond (test_bit left a) (value a) (get_or row a 0)
      front a (inl e) =
          let gone : test_bit next a ≡ false = next_is a ∙ ap (λ (t : Bool). test_bit left a && not t) (eq-eqb a x e) ∙ and-false (test_bit left a) in
          cond_false _ _ gone ∙ ap (λ (i : ℕ). get_or (set row x y) i 0) e ∙ get_or-set_same row x y 0 (omega (arith, b, P.fits)) ∙ is ∙ ap value (sym e) ∙ sym (cond_true _ _ (ap (test_bit left) e ∙ stood))
      front a (inr p) =
          let kept : test_bit next a ≡ test_bit left a = next_is a ∙ ap (λ (t : Bool). test_bit left a && not t) (ne_eqb a x p) ∙ and-true (test_bit left a) in
          ap₂ (λ (t : Bool) (z : ℕ). cond t (value a) z) kept (get_or-set_other row x a y 0 p)

  -- No member is left.
  pub all_put : left ≡ 0 → Putting n value map left row₀ row → Put n (test_bit map) value row₀ row
  all_put none P = record { long = P.long; front = λ a b. sym (cond_false _ _ (ap (λ (x : ℕ). test_bit x a) none ∙ test_zero a)) ∙ P.front a b; rest = P.rest }

-- A row of equal numbers is cleared.
pub filled_cleared : (k : ℕ) → replicate k undecided ≡ tabulate cleared k
filled_cleared k = sym (tabulate_list (replicate k undecided) cleared k 0 (length-replicate k undecided) (λ i b. sym (get_or-replicate k i undecided 0 b)))

-- A cleared row with the offsets of the deciding set is the row of the plan.
pub row_filled : (d : List (List ℕ)) (leasts sets : List ℕ) (n v map : ℕ) (row row' : List ℕ) → ((j : ℕ) → test_bit map j ≡ deciding d sets v j) → n ≤ length row → ((a : ℕ) → a < n → get_or row a 0 ≡ undecided) → Put n (test_bit map) (offset_in d leasts v) row row' → row' ≡ laid (entry_at d leasts sets v) n row
unfolding entry_at
row_filled d leasts sets n v map row row' h fits clear P =
    ext_get_or 0 row' (laid f n row) (P.long ∙ same_size) (λ a b. by a (dec_lt a n))
  where
    f : ℕ → ℕ
    f a = cond (deciding d sets v a) (offset_in d leasts v a) undecided

    same_size : length row ≡ length (laid f n row)
    same_size = omega (arith, length-append (tabulate f n) (drop n row), tabulate_length f n, length-drop n row)

    by : (a : ℕ) → Dec (a < n) → get_or row' a 0 ≡ get_or (laid f n row) a 0
    by a (yes b) = P.front a b ∙ ap₂ (λ (t : Bool) (x : ℕ). cond t (offset_in d leasts v a) x) (h a) (clear a b) ∙ sym (laid_at f n row a 0 b)
    by a (no b) = let c : n ≤ a = omega arith in P.rest a c ∙ sym (laid_past f n row a 0 c)

-- ---- a row at a time

module _ (d : List (List ℕ)) (leasts sets : List ℕ) (n : ℕ) where
  first_rows_length : (k : ℕ) → length (first_rows d leasts sets n k) ≡ k * n
  unfolding first_rows
  first_rows_length zero = omega arith
  first_rows_length (suc k) =
      omega (arith, length-append (first_rows d leasts sets n k) (tabulate (entry_at d leasts sets k) n), first_rows_length k, tabulate_length (entry_at d leasts sets k) n, suc-mul k n)

  pub first_rows_none : (l : List ℕ) → l ≡ first_rows d leasts sets n 0 ++ drop (0 * n) l
  unfolding first_rows
  first_rows_none l = ap (λ (x : ℕ). drop x l) (sym (zero-mul n))

  -- The row is written where the rows before it end.
  pub first_rows_more : (v : ℕ) (l t new : List ℕ) → t ≡ first_rows d leasts sets n v ++ drop (v * n) l
      → new ≡ tabulate (entry_at d leasts sets v) n ++ drop n (take (length t - v * n) (drop (v * n) t))
      → put_mid (v * n) (length t - v * n) t new ≡ first_rows d leasts sets n (v + 1) ++ drop ((v + 1) * n) l
  unfolding first_rows
  first_rows_more v l t new e f =
      put_rest (first_rows d leasts sets n v) (drop (v * n) l) t (tabulate (entry_at d leasts sets v) n) new (v * n) n (first_rows_length v) e f
      ∙ sym (append_assoc (first_rows d leasts sets n v) (tabulate (entry_at d leasts sets v) n) (drop n (drop (v * n) l)))
      ∙ rw (add-one v) (ap (λ (x : List ℕ). first_rows d leasts sets n v ++ tabulate (entry_at d leasts sets v) n ++ x) (drop-drop n (v * n) l ∙ ap (λ (x : ℕ). drop x l) (let g : v * n + n ≡ suc v * n = omega (arith, suc-mul v n) in g)))

  -- The rows behind the first v are as they were cleared.
  pub row_clear : (v : ℕ) (l c t : List ℕ) → v < n → n * n ≤ length t → c ≡ laid cleared (n * n) l → t ≡ first_rows d leasts sets n v ++ drop (v * n) c → (a : ℕ) → a < n → get_or (take (length t - v * n) (drop (v * n) t)) a 0 ≡ undecided
  row_clear v l c t h long e f a b =
      let inside : v * n + n ≤ n * n = row_end n v h in
      get_or-take (length t - v * n) (drop (v * n) t) a 0 (omega arith)
      ∙ ap (λ (x : List ℕ). get_or x a 0) (ap (drop (v * n)) f ∙ drop_at (first_rows d leasts sets n v) (drop (v * n) c) (v * n) (first_rows_length v))
      ∙ get_or-drop (v * n) c a 0
      ∙ ap (λ (x : List ℕ). get_or x (v * n + a) 0) e
      ∙ laid_at cleared (n * n) l (v * n + a) 0 (omega arith)

pub clear_length : (k : ℕ) (l c : List ℕ) → k ≤ length l → c ≡ laid cleared k l → length c ≡ length l
clear_length k l c h e = ap length e ∙ (let n : length (laid cleared k l) ≡ length l = omega (arith, length-append (tabulate cleared k) (drop k l), tabulate_length cleared k, length-drop k l) in n)

-- Behind the cleared numbers stands what was lent.
behind_clear : (k : ℕ) (l c : List ℕ) → c ≡ laid cleared k l → drop k c ≡ drop k l
behind_clear k l c e = ap (drop k) e ∙ drop_at (tabulate cleared k) (drop k l) k (tabulate_length cleared k)

-- ---- on the tables of an edge list

module _ (leasts : List ℕ) {n : ℕ} {least : ℕ → ℕ} {es : List Edge} {d : List (List ℕ)} {sets : List ℕ} (lasting : Lasting n least (members es)) (l : HoldsLeasts n least leasts) (h : Holds n es d sets) (few : n ≤ 64) where
  -- By walks counted from the starts of anchors the same members decide as by offsets and leasts.
  deciding_lasting : (a v : ℕ) → a < n → v < n → deciding d sets v a ≡ decides n least es a v
  deciding_lasting a v p q = deciding_same h a v few p q ∙ sym (decides_extra least lasting.well lasting.posed lasting.leasts lasting.source a v q)

  -- The same member decides, with the same offset.
  entry_plan : (a v : ℕ) → a < n → v < n → entry_at d leasts sets v a ≡ plan_entry n least es v a
  unfolding entry_at plan_entry
  entry_plan a v p q = go (bool_cases (deciding d sets v a))
    where
      go : (deciding d sets v a ≡ true) ⊎ (deciding d sets v a ≡ false) → cond (deciding d sets v a) (offset_in d leasts v a) undecided ≡ cond (decides n least es a v) (offset n least es a v) undecided
      go (inl t) = ap₂ (λ (t : Bool) (x : ℕ). cond t x undecided) (deciding_lasting a v p q) (offset_read h least leasts a v p q (l a p) (deciding_member d sets v a t))
      go (inr t) = cond_false _ _ t ∙ sym (cond_false _ _ (sym (deciding_lasting a v p q) ∙ t))

  -- Induction on the rows.
  rows_plan : (k : ℕ) → k ≤ n → first_rows d leasts sets n k ≡ plan_rows n least es k
  unfolding first_rows plan_rows plan_row
  rows_plan zero b = refl
  rows_plan (suc k) b = ap₂ ◌++◌ (rows_plan k (omega arith)) (tabulate_same (entry_at d leasts sets k) (plan_entry n least es k) n (λ a c. entry_plan a k c (omega arith)))

  table_plan : first_rows d leasts sets n n ≡ plan_table n least es
  unfolding plan_table
  table_plan = rows_plan n (omega arith)

-- Row v is in the plan's table, and that in the lent numbers.
pub record InTable (n v : ℕ) (table : List ℕ) : Type 0 where
  pub row : v * n + n ≤ n * n
  pub small : n * n ≤ longest_table
  pub room : n * n ≤ length table

pub in_table : {n v : ℕ} (lent table : List ℕ) → v < n → n ≤ 64 → n * n ≤ length lent → length table ≡ length lent → InTable n v table
in_table {n} {v} lent table below few room same = record { row = row_end n v below; small = square_small n few; room = omega arith }

-- So what is read off the tables is the definition's.
pub planned : {n : ℕ} {d : List (List ℕ)} {leasts sets lent after : List ℕ} (c : List ℕ) → n ≤ 64 → c ≡ laid cleared (n * n) lent → (((v : ℕ) → v < n → Orderly d sets v) → after ≡ first_rows d leasts sets n n ++ drop (n * n) c) → Planned n d leasts sets lent after
planned {n} {d} {leasts} {sets} {lent} {after} c few clear e = record { read = read; plan = λ least es lasting l h T. read T ∙ ap (λ (l : List ℕ). l ++ drop (n * n) lent) (table_plan leasts lasting l h few) }
  where
    read : ((v : ℕ) → v < n → Orderly d sets v) → after ≡ first_rows d leasts sets n n ++ drop (n * n) lent
    read T = e T ∙ ap (λ (l : List ℕ). first_rows d leasts sets n n ++ l) (behind_clear (n * n) lent c clear)

-- Signed numbers by their heights: sums, differences and orders become those of natural numbers, which omega reads.
use mathlib.Core.Path.{◌≡◌, refl, sym, ap, ◌∙◌}
use mathlib.Core.Bool.{Bool, true, false, cond}
use mathlib.Core.Logic.{◌⊎◌, inl, inr}
use Prim.Native.Nat.{ℕ, zero, suc, ◌+◌, ◌-◌, ◌<◌, ◌≤◌, ◌^◌}
use native.Mathlib.Omega.{arith}
use native.Mathlib.Numerals.{add-one}
use lib.Dec.{T, eqb, leb, ltb}
use lib.IntN.{ℤ, pos, negsuc, ◌+ℤ◌, ◌-ℤ◌, nat_abs, neg_ℤ, sub_ℕ}
use lib.Signed.{mag, lt_z, le_z, non_neg}
use borrow.Author.Tests.{le-leb, le-ltb, lt-ltb, ltb-false, ltb-true, ne_eqb}
use mir.Facts.{to_z-of_z}
use mir.Val.{Fits, SFits, of_z, to_z}
use mir.ValLaws.{to_z_pos}
use mir.Syntax.{w32, w64}
use Rattle.std.specs.Int.{int_max}
use Rattle.walk_cells.specs.Cells.{Clear, Delta, Larger, Movable, Risen, Small, ground, height, most_weight, move_limit, none, value}

-- What a cell says, by its height.
pub value_height : (c : ℤ) → value c ≡ suc (height c) - ground
unfolding value height
value_height (pos n) = omega arith
value_height (negsuc n) = omega arith

-- Numbers for which sums are told: those of 32 bits, and their sums.
abbrev pub Near : ℤ → Type 0
Near z = mag z < 2 ^ 34

height_sub : (a b : ℕ) (t : Bool) → ltb a b ≡ t → a < 2 ^ 36 → b < 2 ^ 36 → height (sub_ℕ a b) + b ≡ ground + a
unfolding height
height_sub a b true e h k = let l : a < b = ltb-true a b e in simp (e, ← add-one) (omega arith)
height_sub a b false e h k = let l : b ≤ a = ltb-false a b e in simp e (omega arith)

pub height_sum : (x y : ℤ) → Near x → Near y → height (x +ℤ y) + ground ≡ height x + height y
unfolding height
height_sum (pos a) (pos b) h k = omega arith
height_sum (pos a) (negsuc b) h k = omega (arith, height_sub a (suc b) (ltb a (suc b)) refl (omega arith) (omega arith))
height_sum (negsuc a) (pos b) h k = omega (arith, height_sub b (suc a) (ltb b (suc a)) refl (omega arith) (omega arith))
height_sum (negsuc a) (negsuc b) h k = simp (← add-one) (omega arith)

-- A number of 32 bits lies near, and by its height one sees that it has 32 bits.
pub record Signed32 (z : ℤ) : Type 0 where
  pub least : ground ≤ height z + 2 ^ 31
  pub most : height z < ground + 2 ^ 31
  pub near : Near z

pub fits_height : (z : ℤ) → SFits w32 z → Signed32 z
unfolding height
fits_height (pos n) h = let k : n < 2 ^ 31 = h.sfits in record { least = omega arith; most = omega arith; near = omega arith }
fits_height (negsuc n) h = let k : n < 2 ^ 31 = h.sfits in record { least = omega arith; most = omega arith; near = omega arith }

pub height_fits : (z : ℤ) → ground ≤ height z + 2 ^ 31 → height z < ground + 2 ^ 31 → SFits w32 z
unfolding height
height_fits (pos n) h k = record { sfits = (let r : n < 2 ^ 31 = omega arith in r) }
height_fits (negsuc n) h k = record { sfits = (let r : n < 2 ^ 31 = omega arith in r) }

pub height_less : (x y : ℤ) → Near x → Near y → lt_z x y ≡ true → height x < height y
unfolding height
height_less (pos a) (pos b) h k e = omega (arith, ltb-true a b e)
height_less (pos a) (negsuc b) h k e = let z : ◌≡◌ {A = ℕ} 0 1 = cc in omega arith
height_less (negsuc a) (pos b) h k e = omega arith
height_less (negsuc a) (negsuc b) h k e = omega (arith, ltb-true b a e)

pub height_not_less : (x y : ℤ) → Near x → Near y → lt_z x y ≡ false → height y ≤ height x
unfolding height
height_not_less (pos a) (pos b) h k e = omega (arith, ltb-false a b e)
height_not_less (pos a) (negsuc b) h k e = omega arith
height_not_less (negsuc a) (pos b) h k e = let z : ◌≡◌ {A = ℕ} 0 1 = cc in omega arith
height_not_less (negsuc a) (negsuc b) h k e = omega (arith, ltb-false b a e)

-- Whether a number is below 0, or not, tells whether a cell says nothing.
pub below_ground : (c : ℤ) → lt_z c (pos 0) ≡ true → value c ≡ 0
unfolding value
below_ground (pos n) h = let l : n < 0 = ltb-true n 0 h in absurd (omega arith)
below_ground (negsuc n) h = refl

pub not_below_ground : (c : ℤ) → lt_z c (pos 0) ≡ false → 1 ≤ value c
unfolding value
not_below_ground (pos n) h = omega arith
not_below_ground (negsuc n) h = let z : ◌≡◌ {A = ℕ} 0 1 = cc in absurd (omega arith)

-- What the machine reads back from the bits of a signed number: the number.
abbrev pub back : ℤ → ℤ
back z = to_z w32 (of_z w32 z)

-- A sum of two numbers of 32 bits, as the machine makes it: that it fits, where its height says so, and its height then.
module _ {a b : ℤ} (fa : SFits w32 a) (fb : SFits w32 b) where
  sum_height : height (a +ℤ b) + ground ≡ height a + height b
  sum_height = height_sum a b (fits_height a fa).near (fits_height b fb).near

  module _ (least : ground + ground ≤ height a + height b + 2 ^ 31) (most : height a + height b < ground + ground + 2 ^ 31) where
    sum_fits : SFits w32 (a +ℤ b)
    sum_fits = height_fits (a +ℤ b) (omega (arith, sum_height)) (omega (arith, sum_height))

    sum_fits_back : SFits w32 (back a +ℤ back b)
    sum_fits_back = rw (to_z-of_z fa, to_z-of_z fb) sum_fits

    sum_back : back (back a +ℤ back b) ≡ a +ℤ b
    sum_back = rw (to_z-of_z fa, to_z-of_z fb, to_z-of_z sum_fits)

    sum_height_back : height (back (back a +ℤ back b)) + ground ≡ height a + height b
    sum_height_back = rw sum_back sum_height

-- Of a cell and what it moves by.
module _ {c delta : ℤ} (M : Movable c) (S : Small delta) where
  pub movable_height : (ground ≤ height c + 117901064) × (height c ≤ ground + most_weight)
  unfolding Clear height
  movable_height = by M.clear
    where
      by : (c ≡ none) ⊎ (1 ≤ value c) → (ground ≤ height c + 117901064) × (height c ≤ ground + most_weight)
      by (inl e) = rw e (omega arith, omega arith)
      by (inr l) = (omega (arith, value_height c), omega (arith, value_height c, M.low))

  moved_least : ground + ground ≤ height c + height delta + 2 ^ 31
  moved_least = omega (arith, movable_height.0, S.loses)

  moved_most : height c + height delta < ground + ground + 2 ^ 31
  moved_most = omega (arith, movable_height.1, S.gains)

  -- The sum fits; its height.
  module _ (fc : SFits w32 c) (fd : SFits w32 delta) where
    pub moved_fits : SFits w32 (back c +ℤ back delta)
    moved_fits = sum_fits_back fc fd moved_least moved_most

    pub moved_height : height (back (back c +ℤ back delta)) + ground ≡ height c + height delta
    moved_height = sum_height_back fc fd moved_least moved_most

-- A test of two numbers, as the machine makes it.
module _ {a b : ℤ} (fa : SFits w32 a) (fb : SFits w32 b) where
  pub less_back : lt_z (back a) (back b) ≡ true → height a < height b
  less_back h = height_less a b (fits_height a fa).near (fits_height b fb).near (rw (to_z-of_z fa, to_z-of_z fb) at h)

  pub not_less_back : lt_z (back a) (back b) ≡ false → height b ≤ height a
  not_less_back h = height_not_less a b (fits_height a fa).near (fits_height b fb).near (rw (to_z-of_z fa, to_z-of_z fb) at h)

-- The height tells the number.
same_height : (a b : ℤ) → Near a → Near b → height a ≡ height b → a ≡ b
unfolding height
same_height (pos a) (pos b) h k e = ap pos (omega arith)
same_height (pos a) (negsuc b) h k e = absurd (omega arith)
same_height (negsuc a) (pos b) h k e = absurd (omega arith)
same_height (negsuc a) (negsuc b) h k e = ap negsuc (omega arith)

-- The larger of two numbers, as the machine finds it.
module _ {a b : ℤ} (fa : SFits w32 a) (fb : SFits w32 b) where
  larger_of : (t : Bool) → lt_z b a ≡ t → Larger a b (back (cond t a b))
  larger_of true h =
      let l = height_less b a (fits_height b fb).near (fits_height a fa).near h in
      record { kept = λ k. to_z-of_z fa; taken = λ k. absurd (omega (arith, l)) }
  larger_of false h =
      let l = height_not_less b a (fits_height b fb).near (fits_height a fa).near h in
      let same = λ (k : height b ≤ height a). same_height b a (fits_height b fb).near (fits_height a fa).near (omega (arith, l)) in
      record { kept = λ k. to_z-of_z fb ∙ same k; taken = λ k. to_z-of_z fb }

  pub larger_back : Larger a b (back (int_max (back a) (back b)))
  larger_back = rw (to_z-of_z fa, to_z-of_z fb) (larger_of (lt_z b a) refl)

module _ {c : ℤ} (f : SFits w32 c) where
  pub below_back : lt_z (back c) (pos 0) ≡ true → value c ≡ 0
  below_back h = below_ground c (rw (to_z-of_z f) at h)

  pub not_below_back : lt_z (back c) (pos 0) ≡ false → 1 ≤ value c
  not_below_back h = not_below_ground c (rw (to_z-of_z f) at h)

  -- A cell that holds a walk holds its weight, whatever its sign says of the bits.
  pub weight_fits : 1 ≤ value c → T (non_neg (back c)) × Fits w32 (nat_abs (back c))
  unfolding value
  weight_fits h = rw (to_z-of_z f) (by c f h)
    where
      by : (z : ℤ) → SFits w32 z → 1 ≤ value z → T (non_neg z) × Fits w32 (nat_abs z)
      by (pos n) g h = let k : n < 2 ^ 31 = g.sfits in (tt, record { fits = (let r : n < 2 ^ 32 = omega arith in r) })
      by (negsuc n) g h = absurd (omega arith)

  pub weight_bits : 1 ≤ value c → nat_abs (back c) ≡ value c - 1
  unfolding value
  weight_bits h = rw (to_z-of_z f) (by c h)
    where
      by : (z : ℤ) → 1 ≤ value z → nat_abs z ≡ value z - 1
      by (pos n) h = omega arith
      by (negsuc n) h = absurd (omega arith)

  -- It holds one, or it says nothing.
  pub walk_test : le_z (pos 0) (back c) ≡ ltb 0 (value c)
  unfolding value
  walk_test = rw (to_z-of_z f) (by c)
    where
      by : (z : ℤ) → le_z (pos 0) z ≡ ltb 0 (value z)
      by (pos n) = le-leb 0 n (omega arith) ∙ sym (lt-ltb 0 (suc n) (omega arith))
      by (negsuc n) = refl

  pub none_test : lt_z (back c) (pos 0) ≡ eqb (value c) 0
  unfolding value
  none_test = rw (to_z-of_z f) (by c)
    where
      by : (z : ℤ) → lt_z z (pos 0) ≡ eqb (value z) 0
      by (pos n) = le-ltb n 0 (omega arith) ∙ sym (ne_eqb (suc n) 0 (λ e. omega arith))
      by (negsuc n) = refl

-- A difference of two numbers below the limit.
module _ {gain loss : ℕ} (g : gain < move_limit) (l : loss < move_limit) where
  difference : height (pos gain -ℤ pos loss) + loss ≡ ground + gain
  unfolding height
  difference = by loss l
    where
      by : (m : ℕ) → m < move_limit → height (pos gain +ℤ neg_ℤ (pos m)) + m ≡ ground + gain
      by zero h = omega arith
      by (suc m) h = omega (arith, height_sum (pos gain) (negsuc m) (omega arith) (omega arith))

  difference_fits : SFits w32 (pos gain -ℤ pos loss)
  difference_fits = height_fits (pos gain -ℤ pos loss) (omega (arith, difference)) (omega (arith, difference))

  pub difference_back : Delta gain loss (back (to_z w32 gain -ℤ to_z w32 loss)) × Small (back (to_z w32 gain -ℤ to_z w32 loss))
  difference_back =
      rw (to_z_pos w32 gain (omega arith), to_z_pos w32 loss (omega arith), to_z-of_z difference_fits)
      (record { sum = difference }, record { gains = omega (arith, difference); loses = omega (arith, difference) })

-- A least taken from a weight: what the test says, that the difference fits, and what it is where the weight is no less.
less_pos : (n m : ℕ) → m ≤ n → pos n -ℤ pos m ≡ pos (n - m)
less_pos n zero h = ap pos (omega arith)
less_pos n (suc m) h = simp (le-ltb n (suc m) h) refl

module _ {c : ℤ} {least : ℕ} (f : SFits w32 c) (small : least < 2 ^ 16) where
  pub past_none : lt_z (back c) (to_z w32 least) ≡ true → value c - 1 - least ≡ 0
  unfolding value
  past_none h = by c (rw (to_z-of_z f, to_z_pos w32 least (omega arith)) at h)
    where
      by : (z : ℤ) → lt_z z (pos least) ≡ true → value z - 1 - least ≡ 0
      by (pos n) h = omega (arith, ltb-true n least h)
      by (negsuc n) h = omega arith

  module _ (no_less : lt_z (back c) (to_z w32 least) ≡ false) where
    past_is : (back c -ℤ to_z w32 least ≡ pos (value c - 1 - least)) × (value c - 1 - least < 2 ^ 31)
    unfolding value
    past_is = rw (to_z-of_z f, to_z_pos w32 least (omega arith)) (by c f (rw (to_z-of_z f, to_z_pos w32 least (omega arith)) at no_less))
      where
        by : (z : ℤ) → SFits w32 z → lt_z z (pos least) ≡ false → (z -ℤ pos least ≡ pos (value z - 1 - least)) × (value z - 1 - least < 2 ^ 31)
        by (pos n) g h = let k : n < 2 ^ 31 = g.sfits in (less_pos n least (ltb-false n least h) ∙ ap pos (omega arith), omega arith)
        by (negsuc n) g h = let z : ◌≡◌ {A = ℕ} 0 1 = cc in absurd (omega arith)

    past_fits : SFits w32 (back c -ℤ to_z w32 least)
    past_fits = rw past_is.0 (record { sfits = past_is.1 })

    past_back : back (back c -ℤ to_z w32 least) ≡ pos (value c - 1 - least)
    past_back = to_z-of_z past_fits ∙ past_is.0

    pub past_bits : nat_abs (back (back c -ℤ to_z w32 least)) ≡ value c - 1 - least
    past_bits = ap nat_abs past_back

-- A number from 0 on that fits a signed one is that one.
pub value_bits : (n : ℕ) → n < 2 ^ 31 → value (to_z w32 n) ≡ suc n
unfolding value
value_bits n h = rw (to_z_pos w32 n h)

-- A sum of two numbers of 32 bits, made in 64, where nothing is lost.
abbrev wide : ℤ → ℤ
wide z = to_z w64 (of_z w64 (back z))

module _ {z : ℤ} (f : SFits w32 z) where
  fits_wide : SFits w64 z
  fits_wide = record { sfits = (let k : mag z < 2 ^ 31 = f.sfits in let r : mag z < 2 ^ 63 = omega arith in r) }

  wide_back : wide z ≡ z
  wide_back = rw (to_z-of_z f, to_z-of_z fits_wide)

less_one : (n : ℕ) → suc n - 1 ≡ n
less_one n = omega arith

near_fits : (c : ℤ) → height c < ground + 2 ^ 33 → ground ≤ height c + 2 ^ 33 → SFits w64 c
unfolding height
near_fits (pos n) h k = record { sfits = (let r : n < 2 ^ 63 = omega arith in r) }
near_fits (negsuc n) h k = record { sfits = (let r : n < 2 ^ 63 = omega arith in r) }

module _ {x y : ℤ} (fx : SFits w32 x) (fy : SFits w32 y) where
  wide_sum : SFits w64 (x +ℤ y)
  wide_sum =
      let a = fits_height x fx in
      let b = fits_height y fy in
      let sum = height_sum x y a.near b.near in
      near_fits (x +ℤ y) (omega (arith, sum, a.most, b.most)) (omega (arith, sum, a.least, b.least))

  -- Whether it is no less than a third number, where all three are weights.
  pub wide_test : {z : ℤ} → SFits w32 z → 1 ≤ value x → 1 ≤ value y → 1 ≤ value z → le_z (wide z) (to_z w64 (of_z w64 (wide x +ℤ wide y))) ≡ leb (value z - 1) (value x - 1 + (value y - 1))
  unfolding value
  wide_test {z} fz p q s = rw (wide_back fx, wide_back fy, wide_back fz, to_z-of_z wide_sum) (by x y z p q s)
    where
      by : (a b c : ℤ) → 1 ≤ value a → 1 ≤ value b → 1 ≤ value c → le_z c (a +ℤ b) ≡ leb (value c - 1) (value a - 1 + (value b - 1))
      by (pos a) (pos b) (pos c) p q s = rw (less_one a, less_one b, less_one c)
      by (pos a) (pos b) (negsuc c) p q s = absurd (omega arith)
      by (pos a) (negsuc b) c p q s = absurd (omega arith)
      by (negsuc a) b c p q s = absurd (omega arith)

-- A cell that rose, as the machine made it of another one's sum with delta.
pub risen_back : {old c delta m new : ℤ} → SFits w32 old → SFits w32 c → SFits w32 delta → SFits w32 m → SFits w32 new → height m + ground ≡ height (back c) + height (back delta) → Larger (back old) (back m) new → Risen old c delta (back new)
risen_back {old} {c} {delta} {m} {new} fo fc fd fm fn sum larger =
    record { moved = m; sum = rw (to_z-of_z fc, to_z-of_z fd) at sum; larger = rw (to_z-of_z fn) (rw (to_z-of_z fo, to_z-of_z fm) at larger) }

-- A number that has no bit is 0.
pub no_bits : {c : ℤ} → SFits w32 c → of_z w32 c ≡ 0 → c ≡ pos 0
no_bits f e = sym (to_z-of_z f) ∙ ap (to_z w32) e

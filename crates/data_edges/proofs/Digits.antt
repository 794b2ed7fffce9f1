-- The digits of a word, and the fields that they stand for.
use mathlib.Core.Path.{◌≡◌, ap, ◌∙◌}
use mathlib.Core.Bool.{Bool}
use Prim.Native.Nat.{ℕ, ◌+◌, ◌*◌, ◌/◌, ◌%◌, ◌<◌}
use native.Mathlib.Omega.{arith}
use lib.Arith.{digits_div, digits_mod}
use lib.Dec.{eqb}
use Rattle.definitions.specs.Limits.{most_steps}
use Rattle.data_edges.specs.Words.{edge, unpack, weight_base, to_place, counted_place, back_place, gain_place, loss_place, late_place, DigitsFit, packed}

-- Edges with the same fields are the same.
pub same_edge : {f f' t t' g g' l l' : ℕ} {c c' b b' h h' : Bool} → f ≡ f' → t ≡ t' → g ≡ g' → l ≡ l' → c ≡ c' → b ≡ b' → h ≡ h' → edge f t g l c b h ≡ edge f' t' g' l' c' b' h'
same_edge p q r s u v z = rw (p, q, r, s, u, v, z)

-- The digit at place m of base k, with low below it and high above it.
pub digit_at : (m k low d high w : ℕ) → low < m → d < k → w ≡ (high * k + d) * m + low → w / m % k ≡ d
digit_at m k low d high w hl hd e = ap (λ (x : ℕ). x / m % k) e ∙ ap (λ (x : ℕ). x % k) (digits_div (high * k + d) hl) ∙ digits_mod high hd

-- Each field of a word is the digit that was put there: what stands below it is less than its place, and what stands above it is named here, field by field.
pub unpack_word : {f t c b g l late : ℕ} (w : ℕ) → DigitsFit f t c b g l late → w ≡ packed f t c b g l late → unpack w ≡ edge f t g l (eqb c 1) (eqb b 1) (eqb late 1)
unfolding unpack
unpack_word {f} {t} {c} {b} {g} {l} {late} w fit e =
    let above_gain = late * weight_base + l in
    let above_back = above_gain * weight_base + g in
    let above_counted = above_back * 2 + b in
    let above_to = above_counted * 2 + c in
    let above_from = above_to * most_steps + t in
    let from : w % most_steps ≡ f = ap (λ (x : ℕ). x % most_steps) (omega arith) ∙ digits_mod above_from fit.from in
    let to : w / to_place % most_steps ≡ t = digit_at to_place most_steps f t above_to w fit.from fit.to (omega arith) in
    let counted : w / counted_place % 2 ≡ c = digit_at counted_place 2 (packed f t 0 0 0 0 0) c above_counted w (omega arith) fit.counted (omega arith) in
    let back : w / back_place % 2 ≡ b = digit_at back_place 2 (packed f t c 0 0 0 0) b above_back w (omega arith) fit.back (omega arith) in
    let gain : w / gain_place % weight_base ≡ g = digit_at gain_place weight_base (packed f t c b 0 0 0) g above_gain w (omega arith) fit.gain (omega arith) in
    let loss : w / loss_place % weight_base ≡ l = digit_at loss_place weight_base (packed f t c b g 0 0) l late w (omega arith) fit.loss (omega arith) in
    let mark : w / late_place % 2 ≡ late = digit_at late_place 2 (packed f t c b g l 0) late 0 w (omega arith) fit.latest (omega arith) in
    same_edge from to gain loss (ap (λ (x : ℕ). eqb x 1) counted) (ap (λ (x : ℕ). eqb x 1) back) (ap (λ (x : ℕ). eqb x 1) mark)

-- The ranges of the fields.
pub from_small : (w : ℕ) → (unpack w).from < most_steps
unfolding unpack
from_small w = omega arith

pub to_small : (w : ℕ) → (unpack w).to < most_steps
unfolding unpack
to_small w = omega arith

pub gain_small : (w : ℕ) → (unpack w).gain < weight_base
unfolding unpack
gain_small w = omega arith

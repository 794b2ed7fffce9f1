-- The words of a record's edges, with what the first step's delay and least add to them.
use mathlib.Core.Path.{◌≡◌, refl, ap}
use mathlib.Core.Bool.{Bool, true, false, cond, not}
use Prim.Native.Nat.{ℕ, ◌+◌, ◌*◌, ◌/◌, ◌%◌, ◌<◌}
use native.Mathlib.Omega.{arith}
use lib.Dec.{eqb}
use borrow.Author.Rules.{rules}
use Rattle.definitions.specs.Links.{Edge, sequencing_edge, finish_edge}
use Rattle.definitions.specs.declared.Delay.{Delay}
use Rattle.definitions.specs.declared.Delay.TheVariants.{Open, Fixed}
use Rattle.data_edges.specs.Words.{edge, unpack, marked, Fit, to_place, counted_place, gain_place, loss_place}
use Rattle.data_edges.proofs.Digits.{same_edge, unpack_word}
use Rattle.read_steps.specs.Leaving.{leaving}

-- An after link: what is added are the digits of the mark and of the gain, and the gap to the gain.
pub sequencing_unpacked : (d : Delay) (least i j gap digits w : ℕ) → Fit i j → digits + gap * gain_place < loss_place → digits ≡ leaving d least i → w ≡ i + j * to_place + digits + gap * gain_place → unpack w ≡ sequencing_edge d least i j gap
unfolding leaving sequencing_edge
sequencing_unpacked (Fixed ticks) least i j gap digits w fit small e f = unpack_word {c = 0} {b = 0} {g = ticks + gap} {l = 0} {late = 0} w (search rules) (omega arith)
sequencing_unpacked Open least i j gap digits w fit small e f = go (eqb i 0) e
  where
    go : (b : Bool) → digits ≡ cond b 0 counted_place + least * gain_place → unpack w ≡ edge i j (least + gap) 0 (not b) false false
    go true e = unpack_word {c = 0} {b = 0} {g = least + gap} {l = 0} {late = 0} w (search rules) (omega arith)
    go false e = unpack_word {c = 1} {b = 0} {g = least + gap} {l = 0} {late = 0} w (search rules) (omega arith)

-- A link from the finish loses the gain of the after link besides, and is late where that one is counted.
abbrev pub finish_unpacked : ℕ → ℕ → ℕ → ℕ → Edge
finish_unpacked i j u digits = edge j i 0 (digits / gain_place + u) false true (marked digits counted_place)

pub finish_same : (d : Delay) (least i j u digits : ℕ) → digits ≡ leaving d least i → finish_unpacked i j u digits ≡ finish_edge d least i j u
unfolding leaving finish_edge
finish_same (Fixed ticks) least i j u digits e =
    let even : digits / counted_place % 2 ≡ 0 = omega arith in
    same_edge refl refl refl (omega arith) refl refl (ap (λ (x : ℕ). eqb x 1) even)
finish_same Open least i j u digits e = go (eqb i 0) e
  where
    go : (b : Bool) → digits ≡ cond b 0 counted_place + least * gain_place → finish_unpacked i j u digits ≡ edge j i 0 (least + u) false true (not b)
    go true e = let none : digits / counted_place % 2 ≡ 0 = omega arith in same_edge refl refl refl (omega arith) refl refl (ap (λ (x : ℕ). eqb x 1) none)
    go false e = let one : digits / counted_place % 2 ≡ 1 = omega arith in same_edge refl refl refl (omega arith) refl refl (ap (λ (x : ℕ). eqb x 1) one)

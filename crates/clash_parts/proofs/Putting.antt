-- Words put over others.
use mathlib.Core.Path.{◌≡◌, sym, ap, ap₂, ◌∙◌}
use mathlib.Core.List.{List, ◌++◌, append_assoc}
use Prim.Native.Nat.{ℕ, ◌+◌, ◌-◌}
use native.Mathlib.Omega.{arith}
use lib.ListN.{length, take, drop}
use lib.Seq.{paste, drop-drop, take-length}
use borrow.Rule.Slice.PartMut.{put_mid}

-- Where these stand in the place of as many words, they have been put over them.
pub put_over : (words : List ℕ) (at : ℕ) (these put : List ℕ) → put ≡ these → put_mid at (at + length these - at) words put ≡ paste words at these (length these)
put_over words at these put e =
    let many : at + length these - at ≡ length these = omega arith in
    ap (λ (n : ℕ). put_mid at n words put) many
    ∙ ap (put_mid at (length these) words) e
    ∙ ap₂ (λ (x y : List ℕ). take at words ++ (x ++ y)) (sym (take-length these)) (drop-drop (length these) at words)
    ∙ sym (append_assoc (take at words) (take (length these) these) (drop (at + length these) words))

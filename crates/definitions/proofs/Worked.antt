-- "Marked and unmarked sheets": the table of specs/Worked.antt is worked out in one go, and so each of its sheets.
use Rattle.std.specs.Prelude.{◌≡◌, refl, ◌⊎◌}
use Rattle.std.proofs.Common.{inl, inr}
use mathlib.Core.List.Memᴰ
use mathlib.Core.List.{List, [], ◌∷◌, map, Memᴰ, head-eq_of_cons-eq, tail-eq_of_cons-eq}
use Rattle.definitions.specs.Worked.{Worked, ask, answered, every_definition, worked_sheets}

-- The computed test: the definitions answer every sheet of the table as expected.
pub all_answered : map answered worked_sheets ≡ map (λ w. w.expected) worked_sheets
unfolding every_definition ask answered worked_sheets
all_answered = refl

-- The law: what holds of the two lists as a whole holds at each member.
map_member : {A B : Type 0} (f g : A → B) (l : List A) → map f l ≡ map g l → (x : A) → Memᴰ x l → f x ≡ g x
map_member f g [] e x m = absurd (Memᴰ.not-nil m)
map_member f g (y ∷ l) e x m = go (Memᴰ.cases_cons m) (map_member f g l (tail-eq_of_cons-eq e) x)
  where
    go : (x ≡ y) ⊎ Memᴰ x l → (Memᴰ x l → f x ≡ g x) → f x ≡ g x
    go (inl h) below = rw h (head-eq_of_cons-eq e)
    go (inr i) below = below i

pub worked_answered : (w : Worked) → Memᴰ w worked_sheets → answered w ≡ w.expected
worked_answered = map_member answered (λ w. w.expected) worked_sheets all_answered

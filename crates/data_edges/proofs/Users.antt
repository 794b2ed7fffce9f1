-- The anchors whose walks may use an edge: all but the end of a late one.
use mathlib.Core.Path.{◌≡◌, sym, ap, ap₂, ◌∙◌}
use mathlib.Core.Bool.{Bool, true, false, not, ◌&&◌, and-true}
use Prim.Native.Nat.{ℕ}
use lib.Dec.{eqb}
use Rattle.definitions.specs.Basics.{test_bit}
use Rattle.definitions.specs.Links.{Edge, late_into}
use Rattle.laws.proofs.Bools.{eqb_turned}

-- A late edge: the map without its end. One that is not late: the map as it is.
pub users_late : (m r to : ℕ) (e : Edge) → e.late ≡ true → to ≡ e.to → ((j : ℕ) → test_bit r j ≡ (test_bit m j && not (eqb j to))) → (a : ℕ) → test_bit r a ≡ (test_bit m a && not (late_into a e))
unfolding late_into
users_late m r to e late ends h a =
    h a ∙ ap (λ (t : Bool). test_bit m a && not t) (eqb_turned a to ∙ ap₂ (λ (t : Bool) (x : ℕ). t && eqb x a) (sym late) ends)

pub users_timely : (m : ℕ) (e : Edge) → e.late ≡ false → (a : ℕ) → test_bit m a ≡ (test_bit m a && not (late_into a e))
unfolding late_into
users_timely m e timely a = sym (ap (λ (t : Bool). test_bit m a && not (t && eqb e.to a)) timely ∙ and-true (test_bit m a))

-- What the types of the code say of the numbers of parts: each is one of two bytes. Read off what a function is told of an array that it is given: each element is a value of its type.
use mathlib.Core.Path.{◌≡◌, sym, subst}
use Rattle.std.specs.Prelude.{None, Option, Some}
use mathlib.Core.Logic.{◌⊎◌, inl, inr}
use mathlib.Core.List.Memᴰ
use mathlib.Core.List.{List, [], ◌∷◌, Memᴰ}
use Prim.Native.Nat.{ℕ, zero, suc, ◌≤◌}
use native.Mathlib.Omega.{arith}
use lib.ListN.{take}
use mir.Val.{Val}
use denote.Array.{Array, each}
use denote.Laws.{Is}
use denote.RattleType.{RattleType}
use denote.Shadow.{shadow}
use denote.Struct.Declared as Structs
use denote.Enum.Declared as Enums
use Rattle.definitions.specs.Limits.{most_ticks}
use Rattle.definitions.specs.Writer.{parts}
use Rattle.definitions.specs.declared.Delay.{Delay}
use Rattle.definitions.specs.declared.Delay.TheVariants.{Open, Fixed}
use Rattle.definitions.specs.declared.Operation.{Operation}
use Rattle.definitions.specs.declared.Link.{Link}
use Rattle.definitions.specs.contracts.Operation as operation
use Rattle.definitions.specs.contracts.Link as link
use Rattle.std.specs.contracts.option.Option as option
use denote.Builtin.{u16}
use Rattle.definitions.specs.contracts.Delay as delay
use Rattle.demands.specs.Writing.{FieldFits, LinkNumbers, Numbers, StepNumbers}

-- A field that is there is a number of 16 bits.
bound_fits : (b : Option ℕ) (vs : List Val) → shadow ((option.the_field u16).row.own_val ((option.the_type u16).to b) vs) → FieldFits b
bound_fits None vs g x e = let z : ◌≡◌ {A = ℕ} 0 1 = cc in absurd (omega arith)
bound_fits (Some y) vs g x e =
    let same : ◌≡◌ {A = ℕ} y x = cc in
    omega (arith, same, g.1.1.1.1.0.1)

-- So is the duration of a fixed step.
delay_fits : (d : Delay) (vs : List Val) → Is (Enums.row delay.the_type) d vs → (x : ℕ) → d ≡ Fixed x → x ≤ most_ticks
delay_fits Open vs g x e = let z : ◌≡◌ {A = ℕ} 0 1 = cc in absurd (omega arith)
delay_fits (Fixed y) vs g x e =
    let same : ◌≡◌ {A = ℕ} y x = cc in
    omega (arith, same, g.1.1.1.1.0.1)

-- The fields of a step and of a link record, in the order in which they are declared.
step_fits : (o : Operation) (vs : List Val) → Is (Structs.row operation.the_type) o vs → StepNumbers o
step_fits o vs g = record { duration = delay_fits o.delay _ g.1.1.0; least = bound_fits o.least _ g.1.1.1.0 }

link_fits : (l : Link) (vs : List Val) → Is (Structs.row link.the_type) l vs → LinkNumbers l
link_fits l vs g = record {
  minimum = bound_fits l.minimum _ g.1.1.1.1.1.0;
  maximum = bound_fits l.maximum _ g.1.1.1.1.1.1.0;
  gap = bound_fits l.gap _ g.1.1.1.1.1.1.1.0;
  latest = bound_fits l.latest _ g.1.1.1.1.1.1.1.1.0;
}

-- What holds of each value of a type holds of each of the first k elements of an array.
of_members : (R : RattleType) (P : R.Denot → Type 0) → ((x : R.Denot) (vs : List Val) → Is R x vs → P x) → (xs : List R.Denot) (us : List Val) → shadow (each R.Denot R.own_val xs us) → (k : ℕ) (x : R.Denot) → Memᴰ x (take k xs) → P x
of_members R P h xs us s zero x m = absurd (Memᴰ.not-nil m)
of_members R P h [] us s (suc k) x m = absurd (Memᴰ.not-nil m)
of_members R P h (y ∷ xs) [] s (suc k) x m = absurd s
of_members R P h (y ∷ xs) (u ∷ us) s (suc k) x m = go (Memᴰ.cases_cons m) (of_members R P h xs us s.1 k x)
  where
    go : (x ≡ y) ⊎ Memᴰ x (take k xs) → (Memᴰ x (take k xs) → P x) → P x
    go (inl e) later = subst P (sym e) (h y (u ∷ []) s.0)
    go (inr i) later = later i

pub parts_fit : (n r a b : ℕ) (steps : List Operation) (links : List Link) (vs ws : List Val) → Is (Array (Structs.row operation.the_type) a) steps vs → Is (Array (Structs.row link.the_type) b) links ws → Numbers (parts n r steps links)
parts_fit n r a b steps links vs ws g h = record {
  steps = of_members (Structs.row operation.the_type) StepNumbers step_fits steps _ g.1.1 n;
  links = of_members (Structs.row link.the_type) LinkNumbers link_fits links _ h.1.1 r;
}

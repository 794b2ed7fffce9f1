-- A parser of before a request and one of now agree but for the maps: the first refuses with 4, or the second answers as it does. Carried through the parsers that are built from others.
use mathlib.Core.Path.{◌≡◌, refl, sym, ◌∙◌}
use mathlib.Core.Bool.{Bool, true, false}
use mathlib.Core.Logic.{◌⊎◌, inl, inr, ◌≢◌}
use mathlib.Core.List.{List, [], ◌∷◌}
use Prim.Native.Nat.{ℕ, zero, suc}
use Rattle.definitions.specs.Basics.{Outcome, given, refused, when_given}
use Rattle.definitions.specs.Bytes.{Parser, ◌>>=◌, give, demand, records}

abbrev pub Agree : {A : Type 0} → Outcome A → Outcome A → Type 0
Agree before now = (before ≡ refused 4) ⊎ (now ≡ before)

abbrev pub Agrees : {A : Type 0} → Parser A → Parser A → Type 0
Agrees before now = (s : List ℕ) → Agree (before s) (now s)

pub agrees_self : {A : Type 0} (p : Parser A) → Agrees p p
agrees_self p s = inr refl

pub agree_then : {A B : Type 0} {o o' : Outcome A} {f g : A → Outcome B} → Agree o o' → ((a : A) → Agree (f a) (g a)) → Agree (when_given o f) (when_given o' g)
unfolding when_given
agree_then (inl e) h = rw e (inl refl)
agree_then {o = given a} (inr e) h = rw e (h a)
agree_then {o = refused k} (inr e) h = rw e (inr refl)

pub agrees_bind : {A B : Type 0} {p q : Parser A} {f g : A → Parser B} → Agrees p q → ((a : A) → Agrees (f a) (g a)) → Agrees (p >>= f) (q >>= g)
agrees_bind h k s = agree_then (h s) (λ t. k t.value t.rest)

-- A map that is allowed as before, and the rest as before.
pub agrees_demand : {B : Type 0} (before now : Bool) {f g : Parser B} → (before ≡ true → now ≡ true) → (before ≡ true → Agrees f g) → Agrees (demand before 4 >>= (λ u. f)) (demand now 4 >>= (λ u. g))
unfolding demand when_given
agrees_demand false now still h s = inl refl
agrees_demand true now still h s = rw (still refl) (h refl s)

-- Records in a row. Induction on their number.
pub agrees_records : {A S : Type 0} (before now : S → Parser A) (next : A → S) → ((state : S) → Agrees (before state) (now state)) → (k : ℕ) (state : S) → Agrees (records before next k state) (records now next k state)
unfolding records
agrees_records before now next h zero state = agrees_self (give [])
agrees_records before now next h (suc k) state = agrees_bind (h state) (λ x. agrees_bind (agrees_records before now next h k (next x)) (λ xs. agrees_self (give (x ∷ xs))))

-- What is answered otherwise than with 4 is answered still.
pub agree_same : {A : Type 0} {before now o : Outcome A} → Agree before now → before ≡ o → o ≢ refused 4 → now ≡ o
agree_same (inl four) e other = absurd (other (sym e ∙ four))
agree_same (inr same) e other = same ∙ e

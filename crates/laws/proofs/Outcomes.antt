-- Laws of answers that may be refusals: an answer is no refusal, and what a chain of refusals says when it is passed, or stops.
use mathlib.Core.Path.{◌≡◌, refl, sym, ap, ◌∙◌}
use mathlib.Core.Bool.{Bool, true, false, true≢false, false≢true}
use mathlib.Core.Logic.{◌≢◌, ◌↔◌}
use Prim.Native.Nat.{ℕ}
use native.Mathlib.Omega.{arith}
use Rattle.definitions.specs.Basics.{Outcome, given, refused, refuse_if, when_given}

-- An answer is no refusal; two answers, or two refusals, are equal where what they hold is.
pub given_not_refused : {A : Type 0} {a : A} {k : ℕ} → given a ≡ refused k → ⊥
given_not_refused e = let z : ◌≡◌ {A = ℕ} 0 1 = cc in omega arith

pub given_same : {A : Type 0} {a b : A} → given a ≡ given b → a ≡ b
given_same e = cc

pub refused_same : {A : Type 0} {k l : ℕ} → ◌≡◌ {A = Outcome A} (refused k) (refused l) → k ≡ l
refused_same e = cc

-- A refusal in front of the rest. Its own number is given exactly if its test passes, where the rest never gives it; another number, or an answer, exactly if its test fails and the rest gives that.
module _ {A : Type 0} (b : Bool) (k : ℕ) (rest : Outcome A) where
  pub refuse_own : rest ≢ refused k → (refuse_if b k rest ≡ refused k) ↔ (b ≡ true)
  unfolding refuse_if
  refuse_own never = go b
    where
      go : (b : Bool) → (refuse_if b k rest ≡ refused k) ↔ (b ≡ true)
      go true = (λ h. refl, λ h. refl)
      go false = (λ h. absurd (never h), λ h. absurd (false≢true h))

  pub refuse_other : {l : ℕ} → k ≢ l → (refuse_if b k rest ≡ refused l) ↔ ((b ≡ false) × (rest ≡ refused l))
  unfolding refuse_if
  refuse_other {l} apart = go b
    where
      go : (b : Bool) → (refuse_if b k rest ≡ refused l) ↔ ((b ≡ false) × (rest ≡ refused l))
      go true = (λ h. absurd (apart (refused_same h)), λ h. absurd (true≢false h.0))
      go false = (λ h. (refl, h), λ h. h.1)

  pub refuse_given : (a : A) → (refuse_if b k rest ≡ given a) ↔ ((b ≡ false) × (rest ≡ given a))
  unfolding refuse_if
  refuse_given a = go b
    where
      go : (b : Bool) → (refuse_if b k rest ≡ given a) ↔ ((b ≡ false) × (rest ≡ given a))
      go true = (λ h. absurd (given_not_refused (sym h)), λ h. absurd (true≢false h.0))
      go false = (λ h. (refl, h), λ h. h.1)

  pub refuse_never : {l : ℕ} → k ≢ l → rest ≢ refused l → refuse_if b k rest ≢ refused l
  refuse_never apart never h = never ((refuse_other apart).0 h).1

-- A refusal whose test fails, and one whose test passes.
pub passes_by : {A : Type 0} {b : Bool} (k : ℕ) (rest : Outcome A) → b ≡ false → refuse_if b k rest ≡ rest
unfolding refuse_if
passes_by k rest h = ap (λ b. refuse_if b k rest) h

pub stops_at : {A : Type 0} {b : Bool} (k : ℕ) (rest : Outcome A) → b ≡ true → refuse_if b k rest ≡ refused k
unfolding refuse_if
stops_at k rest h = ap (λ b. refuse_if b k rest) h

-- A row of three refusals that gives an answer: the first and the last test fail, and it is the answer at the end.
pub three_pass : {A : Type 0} (a b c : Bool) (i j k : ℕ) (x g : A) → refuse_if a i (refuse_if b j (refuse_if c k (given x))) ≡ given g → (a ≡ false) × (c ≡ false) × (g ≡ x)
three_pass a b c i j k x g h =
    let r = (refuse_given a i (refuse_if b j (refuse_if c k (given x))) g).0 h in
    let r₂ = (refuse_given b j (refuse_if c k (given x)) g).0 r.1 in
    let r₃ = (refuse_given c k (given x) g).0 r₂.1 in
    (r.0, r₃.0, sym (given_same r₃.1))

-- A row of four: the last two tests fail, and it is the answer at the end.
pub four_pass : {A : Type 0} (a b c d : Bool) (i j k l : ℕ) (x g : A) → refuse_if a i (refuse_if b j (refuse_if c k (refuse_if d l (given x)))) ≡ given g → (c ≡ false) × (d ≡ false) × (g ≡ x)
four_pass a b c d i j k l x g h =
    let r = (refuse_given a i (refuse_if b j (refuse_if c k (refuse_if d l (given x)))) g).0 h in
    let r₂ = (refuse_given b j (refuse_if c k (refuse_if d l (given x))) g).0 r.1 in
    let r₃ = (refuse_given c k (refuse_if d l (given x)) g).0 r₂.1 in
    let r₄ = (refuse_given d l (given x) g).0 r₃.1 in
    (r₃.0, r₄.0, sym (given_same r₄.1))

-- What comes after an outcome, where it is an answer, and where the whole is.
pub when_given_by : {A B : Type 0} {o : Outcome A} {a : A} (f : A → Outcome B) → o ≡ given a → when_given o f ≡ f a
unfolding when_given
when_given_by f e = rw e

pub when_given_has : {A B : Type 0} (o : Outcome A) (f : A → Outcome B) {b : B} → when_given o f ≡ given b → (a : A) × (o ≡ given a) × (f a ≡ given b)
unfolding when_given
when_given_has (given a) f h = (a, refl, h)
when_given_has (refused k) f h = absurd (given_not_refused (sym h))

-- The whole is refused with a number that the outcome itself never gives exactly if what comes after an answer is; and it is an answer exactly if both are.
pub when_given_refused : {A B : Type 0} (o : Outcome A) (f : A → Outcome B) (k : ℕ) → o ≢ refused k → (when_given o f ≡ refused k) ↔ ((a : A) × (o ≡ given a) × (f a ≡ refused k))
unfolding when_given
when_given_refused (given a) f k never = (λ h. (a, refl, h), λ r. ap f (given_same r.1) ∙ r.2)
when_given_refused (refused l) f k never = (λ h. absurd (never (ap refused (refused_same h))), λ r. absurd (given_not_refused (sym r.1)))

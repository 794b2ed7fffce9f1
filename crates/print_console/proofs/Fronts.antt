-- An input of which no more than a front is read, by a program to which no more matters: what it does for the bytes that were read it does for all that the input held.
use Rattle.std.proofs.Common.{◌≡◌, ℕ, ◌<◌, ◌≤◌, List, [], ◌++◌, arith, length, take, sym, ap, ◌∙◌, subst, Some, None, Ok, Err, Option, Result}
use Rattle.std.specs.Prelude.{IfSome, OnOk}
use Rattle.std.specs.Io.KnownBytes.{Consumes, IsAtEnd}
use native.Mathlib.Decide.{dec_lt}
use mathlib.Core.List.{append-nil}
use lib.Seq.{length-take-le, take_at}

pub on_ok : {T E P Q : Type 0} (r : Result T E) → (P → Q) → OnOk r P → OnOk r Q
on_ok (Ok x) h p = h p
on_ok (Err e) h p = tt

module _ (f : List ℕ → List ℕ) (limit : ℕ) (fronts : (s : List ℕ) → f (take limit s) ≡ f s) (bytes : List ℕ) (long : length bytes ≡ limit) (n : ℕ) (fits : n ≤ length bytes) where
  read_enough : (xs ys : List ℕ) → xs ≡ take n bytes ++ ys → (n < length bytes → ys ≡ []) → f (take n bytes) ≡ f xs
  read_enough xs ys e ended = go (dec_lt n (length bytes))
    where
      go : Dec (n < length bytes) → f (take n bytes) ≡ f xs
      go (yes b) = ap f (sym (e ∙ ap (λ (l : List ℕ). take n bytes ++ l) (ended b) ∙ append-nil (take n bytes)))
      go (no b) =
          let all : length (take n bytes) ≡ limit = omega (arith, length-take-le n bytes fits) in
          ap f (sym (ap (take limit) e ∙ take_at (take n bytes) ys limit all)) ∙ fronts xs

  pub front_known : (P : List ℕ → Type 0) (before after : Option (List ℕ)) → Consumes before after (take n bytes) → (n < length bytes → IsAtEnd after) → P (f (take n bytes)) → IfSome before (λ s. P (f s))
  front_known P None after h ended p = tt
  front_known P (Some xs) None h ended p = absurd h
  front_known P (Some xs) (Some ys) h ended p = subst P (read_enough xs ys h ended) p

-- Laws of parsers: of outcomes in a row, and of a row of records that a loop reads.
-- The loop's invariant is that what is read, put in front of what is left, gives the same answer as the whole.
use mathlib.Core.Path.{◌≡◌, refl, sym, ap, ◌∙◌}
use mathlib.Core.List.{List, [], ◌∷◌, ◌++◌, append_assoc, append-nil}
use Prim.Native.Nat.{ℕ, suc, ◌+◌, ◌-◌, ◌≤◌, ◌<◌}
use native.Mathlib.Omega.{arith}
use native.Mathlib.Numerals.{add-one}
use lib.ListN.{length, take, drop, get_or, drop_of_length-le, length-drop}
use lib.Seq.{drop-cons, take_all}
use Rattle.definitions.specs.Basics.{Outcome, given, refused, when_given}
use Rattle.definitions.specs.Bytes.{Taken, Parser, records}

-- What comes after an outcome may be said in one go or in two.
pub when_given_twice : {A B C : Type 0} (p : Outcome A) (f : A → Outcome B) (g : B → Outcome C) → when_given (when_given p f) g ≡ when_given p (λ a. when_given (f a) g)
unfolding when_given
when_given_twice (given a) f g = refl
when_given_twice (refused k) f g = refl

-- The bytes from a place on: one there, or none.
pub drop_byte : (s : List ℕ) (at : ℕ) → at < length s → drop at s ≡ get_or s at 0 ∷ drop (at + 1) s
drop_byte s at h = rw (add-one, drop-cons s at 0)

pub drop_end : (s : List ℕ) (at : ℕ) → length s ≤ at → drop at s ≡ []
drop_end s at h = drop_of_length-le s h

-- The part of the bytes from a place on is all of them from there.
pub part_rest : (s : List ℕ) (at : ℕ) → take (length s - at) (drop at s) ≡ drop at s
part_rest s at = let e : length (drop at s) ≤ length s - at = simp length-drop (omega arith) in take_all (length s - at) (drop at s) e

-- Records in front of those of an answer.
unfoldable pub prepend : {A : Type 0} → List A → Outcome (Taken (List A)) → Outcome (Taken (List A))
prepend xs p = when_given p (λ t. given (record { value = xs ++ t.value; rest = t.rest }))

prepend_none : {A : Type 0} (p : Outcome (Taken (List A))) → p ≡ prepend [] p
unfolding prepend when_given
prepend_none (given t) = refl
prepend_none (refused k) = refl

prepend_twice : {A : Type 0} (xs ys : List A) (p : Outcome (Taken (List A))) → prepend xs (prepend ys p) ≡ prepend (xs ++ ys) p
unfolding prepend when_given
prepend_twice xs ys (given t) = ap (λ l. given (record { value = l; rest = t.rest })) (sym (append_assoc xs ys t.value))
prepend_twice xs ys (refused k) = refl

module _ {A S : Type 0} (item : S → Parser A) (next : A → S) where
  -- k records from `bytes` on are those of `done`, and then `left` records from `rest` on.
  abbrev pub Unread : ℕ → S → List ℕ → List A → ℕ → S → List ℕ → Type 0
  Unread k first bytes done left state rest = records item next k first bytes ≡ prepend done (records item next left state rest)

  -- All are unread.
  pub unread_start : (k : ℕ) (first : S) (bytes : List ℕ) → Unread k first bytes [] k first bytes
  unread_start k first bytes = prepend_none (records item next k first bytes)

  -- The next record is read, or is refused; or none is left.
  records_one : (k : ℕ) (state : S) (bytes rest : List ℕ) (x : A) → item state bytes ≡ given (record { value = x; rest = rest }) → records item next (suc k) state bytes ≡ prepend (x ∷ []) (records item next k (next x) rest)
  unfolding records prepend when_given
  records_one k state bytes rest x e = rw e

  records_refused : (k : ℕ) (state : S) (bytes : List ℕ) (q : ℕ) → item state bytes ≡ refused q → records item next (suc k) state bytes ≡ refused q
  unfolding records when_given
  records_refused k state bytes q e = rw e

  module _ (k : ℕ) (first : S) (bytes : List ℕ) (done : List A) (left : ℕ) (state : S) (rest : List ℕ) where
    pub unread_one : (more : List ℕ) (x : A) → item state rest ≡ given (record { value = x; rest = more }) → Unread k first bytes done (suc left) state rest → Unread k first bytes (done ++ (x ∷ [])) left (next x) more
    unread_one more x e u = u ∙ ap (prepend done) (records_one left state rest more x e) ∙ prepend_twice done (x ∷ []) (records item next left (next x) more)

    pub unread_refused : (q : ℕ) → item state rest ≡ refused q → Unread k first bytes done (suc left) state rest → records item next k first bytes ≡ refused q
    unfolding prepend when_given
    unread_refused q e u = u ∙ ap (prepend done) (records_refused left state rest q e)

  pub unread_none : (k : ℕ) (first : S) (bytes : List ℕ) (done : List A) (state : S) (rest : List ℕ) → Unread k first bytes done 0 state rest → records item next k first bytes ≡ given (record { value = done; rest = rest })
  unfolding prepend when_given records
  unread_none k first bytes done state rest u = u ∙ ap (λ (l : List A). given (record { value = l; rest = rest })) (append-nil done)

-- The loop over the words: it puts the returns one after the other behind the adjacency lists, each as many places behind the first as returns come before it, and its end is the lists of all words.
use mathlib.Core.Path.{◌≡◌, sym, ap, ◌∙◌}
use mathlib.Core.Bool.{Bool, true, false, cond, true≢false}
use mathlib.Core.List.{List}
use mathlib.Core.Logic.{◌⊎◌, inl, inr, ◌≢◌}
use Prim.Native.Nat.{ℕ, zero, suc, ◌+◌, ◌<◌, ◌≤◌}
use native.Mathlib.Omega.{arith}
use native.Mathlib.Numerals.{add-one}
use lib.ListN.{length, get_or, set, length-set}
use lib.Seq.{get_or-set_same, get_or-set_other}
use Rattle.definitions.specs.Limits.{most_edges}
use Rattle.data_edges.specs.Words.{Light, unpack}
use Rattle.data_edges.proofs.Digits.{from_small}
use Rattle.laws.proofs.Bools.{bool_cases, same_or_not}
use Rattle.data_lists.specs.Lists.{Appended, Lists, Unlisted, last_from, put_first, return_place, returns_before}
use Rattle.data_lists.proofs.Linking.{Linked, first_length, linked_more, linked_none}

-- A word more: a return counts, another word does not.
pub before_return : (es : List ℕ) (k : ℕ) → (unpack (get_or es k 0)).back ≡ true → returns_before es (k + 1) ≡ returns_before es k + 1
unfolding returns_before
before_return es k b = ap (returns_before es) (add-one k) ∙ ap (λ (t : Bool). cond t (suc (returns_before es k)) (returns_before es k)) b ∙ sym (add-one (returns_before es k))

pub before_forward : (es : List ℕ) (k : ℕ) → (unpack (get_or es k 0)).back ≡ false → returns_before es (k + 1) ≡ returns_before es k
unfolding returns_before
before_forward es k f = ap (returns_before es) (add-one k) ∙ ap (λ (t : Bool). cond t (suc (returns_before es k)) (returns_before es k)) f

pub before_few : (es : List ℕ) (k : ℕ) → returns_before es k ≤ k
unfolding returns_before
before_few es zero = omega arith
before_few es (suc k) = by (unpack (get_or es k 0)).back (before_few es k)
  where
    by : (t : Bool) → returns_before es k ≤ k → cond t (suc (returns_before es k)) (returns_before es k) ≤ suc k
    by true h = omega arith
    by false h = omega arith

-- A return comes before what follows it.
before_rises : (es : List ℕ) (i k : ℕ) → i < k → (unpack (get_or es i 0)).back ≡ true → returns_before es i < returns_before es k
unfolding returns_before
before_rises es i zero b h = absurd (let f : ⊥ = omega arith in f)
before_rises es i (suc k) b h = by (same_or_not i k) (before_rises es i k)
  where
    more : (t : Bool) → returns_before es i < returns_before es k → returns_before es i < cond t (suc (returns_before es k)) (returns_before es k)
    more true q = omega arith
    more false q = q

    here : (t : Bool) → t ≡ true → returns_before es k < cond t (suc (returns_before es k)) (returns_before es k)
    here true e = omega arith
    here false e = absurd (true≢false (sym e))

    by : (i ≡ k) ⊎ (i ≢ k) → (i < k → (unpack (get_or es i 0)).back ≡ true → returns_before es i < returns_before es k) → returns_before es i < returns_before es (suc k)
    by (inl e) ih = omega (arith, ap (returns_before es) e, here (unpack (get_or es k 0)).back (ap (λ (j : ℕ). (unpack (get_or es j 0)).back) (sym e) ∙ h))
    by (inr d) ih = more (unpack (get_or es k 0)).back (ih (omega arith) h)

-- The lists of the first k words, and their returns; the next return comes to stand at place `at`.
pub record Listing (es lists : List ℕ) (k at : ℕ) : Type 0 where
  pub linked : Linked es lists k
  pub next : at ≡ return_place es k
  pub returns : (i : ℕ) → i < k → (unpack (get_or es i 0)).back ≡ true → get_or lists (return_place es i) 0 ≡ suc i

pub listing_none : {es lists : List ℕ} → Unlisted es lists → Listing es lists 0 (64 + length es)
unfolding returns_before
listing_none p = record { linked = linked_none p.long p.empty; next = omega arith; returns = λ i b h. absurd (let f : ⊥ = omega arith in f) }

-- There is room for one more.
pub listing_room : {es lists : List ℕ} {k at : ℕ} → k ≤ length es → Listing es lists k at → at < length lists
listing_room {es} {lists} {k} few L = omega (arith, L.next, before_few es k, L.linked.long)

-- What is put behind the lists changes none of them.
linked_kept : (es lists : List ℕ) (k at x : ℕ) → k ≤ length es → 64 + length es ≤ at → Linked es lists k → Linked es (set lists at x) k
linked_kept es lists k at x few behind L =
    record { long = omega (arith, L.long, length-set lists at x); heads = λ u b. get_or-set_other lists at u x 0 (λ e. omega arith) ∙ L.heads u b; nexts = λ i b. get_or-set_other lists at (64 + i) x 0 (λ e. omega arith) ∙ L.nexts i b }

-- A word put before its list, and then behind the returns.
module _ (es lists lists' : List ℕ) (k from at at' : ℕ) (small : k < length es) (start : from ≡ (unpack (get_or es k 0)).from) (L : Listing es lists k at) (T : Appended (unpack (get_or es k 0)).back at k (put_first lists from k) lists' at') where
  low : from < 64
  low = rw start (from_small (get_or es k 0))

  inside : at < length (put_first lists from k)
  inside = let few : k ≤ length es = omega arith in omega (arith, listing_room few L, first_length lists from k)

  -- A word put before its list changes no return.
  untouched : (j : ℕ) → 64 + length es ≤ j → get_or (put_first lists from k) j 0 ≡ get_or lists j 0
  unfolding put_first
  untouched j b = get_or-set_other (set lists (64 + k) (get_or lists from 0)) from j (k + 1) 0 (λ e. omega (arith, low)) ∙ get_or-set_other lists (64 + k) j (get_or lists from 0) 0 (λ e. omega arith)

  next_place : ((unpack (get_or es k 0)).back ≡ true) ⊎ ((unpack (get_or es k 0)).back ≡ false) → at' ≡ return_place es (k + 1)
  next_place (inl b) = omega (arith, T.next ∙ ap (λ (t : Bool). cond t (at + 1) at) b, L.next, before_return es k b)
  next_place (inr f) = omega (arith, T.next ∙ ap (λ (t : Bool). cond t (at + 1) at) f, L.next, before_forward es k f)

  return_more : (i : ℕ) → i < k + 1 → (unpack (get_or es i 0)).back ≡ true → (i ≡ k) ⊎ (i ≢ k) → get_or lists' (return_place es i) 0 ≡ suc i
  return_more i b h (inl e) =
      ap (λ (l : List ℕ). get_or l (return_place es i) 0) T.put
      ∙ ap (λ (j : ℕ). get_or (set (put_first lists from k) at (k + 1)) j 0) (ap (return_place es) e ∙ sym L.next)
      ∙ get_or-set_same (put_first lists from k) at (k + 1) 0 inside
      ∙ add-one k
      ∙ ap suc (sym e)
  return_more i b h (inr d) =
      let before : i < k = omega arith in
      ap (λ (l : List ℕ). get_or l (return_place es i) 0) T.put
      ∙ get_or-set_other (put_first lists from k) at (return_place es i) (k + 1) 0 (λ e. omega (arith, L.next, before_rises es i k before h))
      ∙ untouched (return_place es i) (omega arith)
      ∙ L.returns i before h

  pub listing_more : Listing es lists' (k + 1) at'
  listing_more =
      record { linked = rw T.put (linked_kept es (put_first lists from k) (k + 1) at (k + 1) (omega arith) (omega (arith, L.next)) (linked_more es lists k from small start L.linked)); next = next_place (bool_cases (unpack (get_or es k 0)).back); returns = λ i b h. return_more i b h (same_or_not i k) }

-- Behind the last return comes a 0.
pub listing_all : (es lists : List ℕ) (k at : ℕ) → length es ≤ most_edges → Light es → k ≡ length es → Listing es lists k at → Lists es (set lists at 0)
listing_all es lists k at few light e L =
    record { few = few; light = light; heads = λ u b. K.heads u b ∙ ap (last_from es u) e; nexts = λ i b. K.nexts i (omega arith); returns = returned; last = ap (λ (j : ℕ). get_or (set lists at 0) j 0) (sym stands) ∙ get_or-set_same lists at 0 0 (omega (arith, stands, before_few es (length es), L.linked.long)); long = K.long }
  where
    stands : at ≡ return_place es (length es)
    stands = L.next ∙ ap (return_place es) e

    K : Linked es (set lists at 0) k
    K = linked_kept es lists k at 0 (omega arith) (omega (arith, L.next)) L.linked

    returned : (i : ℕ) → i < length es → (unpack (get_or es i 0)).back ≡ true → get_or (set lists at 0) (return_place es i) 0 ≡ suc i
    returned i b h = get_or-set_other lists at (return_place es i) 0 0 (λ x. omega (arith, stands, before_rises es i (length es) b h)) ∙ L.returns i (omega arith) h

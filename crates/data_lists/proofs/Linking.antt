-- The loop over the words, as far as adjacency lists go: it starts with empty ones, and a word put before its list makes them those of one word more.
use mathlib.Core.Path.{◌≡◌, sym, ap, ◌∙◌}
use mathlib.Core.Bool.{cond}
use mathlib.Core.List.{List}
use mathlib.Core.Logic.{◌⊎◌, inl, inr, ◌≢◌}
use Prim.Native.Nat.{ℕ, suc, ◌+◌, ◌<◌, ◌≤◌}
use native.Mathlib.Omega.{arith}
use native.Mathlib.Numerals.{add-one}
use lib.Dec.{eqb}
use lib.ListN.{length, get_or, set, replicate, get_or-replicate, length-set}
use lib.Seq.{get_or-set_same, get_or-set_other}
use borrow.Author.Tests.{eq-eqb, ne_eqb}
use Rattle.data_edges.specs.Words.{unpack}
use Rattle.data_edges.proofs.Digits.{from_small}
use Rattle.laws.proofs.Bools.{same_or_not, cond_true, cond_false}
use Rattle.data_lists.specs.Lists.{Empty, last_from, put_first}

-- The lists of the first k words.
pub record Linked (es lists : List ℕ) (k : ℕ) : Type 0 where
  pub long : 64 + length es + length es < length lists
  pub heads : (u : ℕ) → u < 64 → get_or lists u 0 ≡ last_from es u k
  pub nexts : (i : ℕ) → i < k → get_or lists (64 + i) 0 ≡ last_from es (unpack (get_or es i 0)).from i

-- Numbers that are all 0 hold no list.
pub zeros_empty : (k : ℕ) → 64 ≤ k → Empty (replicate k 0)
zeros_empty k h u b = get_or-replicate {A = ℕ} k u 0 0 (omega arith)

pub linked_none : {es lists : List ℕ} → 64 + length es + length es < length lists → Empty lists → Linked es lists 0
unfolding last_from
linked_none long empty = record { long = long; heads = empty; nexts = λ i b. absurd (let f : ⊥ = omega arith in f) }

-- Nothing is added to the numbers that hold the lists.
pub first_length : (lists : List ℕ) (from k : ℕ) → length (put_first lists from k) ≡ length lists
unfolding put_first
first_length lists from k = length-set (set lists (64 + k) (get_or lists from 0)) from (k + 1) ∙ length-set lists (64 + k) (get_or lists from 0)

last_more : (es : List ℕ) (u k : ℕ) → last_from es u (k + 1) ≡ cond (eqb (unpack (get_or es k 0)).from u) (suc k) (last_from es u k)
unfolding last_from
last_more es u k = ap (last_from es u) (add-one k)

module _ (es lists : List ℕ) (k from : ℕ) (small : k < length es) (start : from ≡ (unpack (get_or es k 0)).from) (L : Linked es lists k) where
  low : from < 64
  low = rw start (from_small (get_or es k 0))

  head_more : (u : ℕ) → u < 64 → (u ≡ from) ⊎ (u ≢ from) → get_or (put_first lists from k) u 0 ≡ last_from es u (k + 1)
  unfolding put_first
  head_more u b (inl e) =
      ap (λ (i : ℕ). get_or (put_first lists from k) i 0) e
      ∙ get_or-set_same (set lists (64 + k) (get_or lists from 0)) from (k + 1) 0 (omega (arith, low, L.long, length-set lists (64 + k) (get_or lists from 0)))
      ∙ add-one k
      ∙ sym (last_more es u k ∙ cond_true (suc k) (last_from es u k) (eq-eqb (unpack (get_or es k 0)).from u (sym start ∙ sym e)))
  head_more u b (inr d) =
      get_or-set_other (set lists (64 + k) (get_or lists from 0)) from u (k + 1) 0 d
      ∙ get_or-set_other lists (64 + k) u (get_or lists from 0) 0 (λ e. omega arith)
      ∙ L.heads u b
      ∙ sym (last_more es u k ∙ cond_false (suc k) (last_from es u k) (ne_eqb (unpack (get_or es k 0)).from u (λ e. d (sym e ∙ sym start))))

  next_more : (i : ℕ) → i < k + 1 → (i ≡ k) ⊎ (i ≢ k) → get_or (put_first lists from k) (64 + i) 0 ≡ last_from es (unpack (get_or es i 0)).from i
  unfolding put_first
  next_more i b (inl e) =
      get_or-set_other (set lists (64 + k) (get_or lists from 0)) from (64 + i) (k + 1) 0 (λ e. omega (arith, low))
      ∙ ap (λ (j : ℕ). get_or (set lists (64 + k) (get_or lists from 0)) (64 + j) 0) e
      ∙ get_or-set_same lists (64 + k) (get_or lists from 0) 0 (omega (arith, L.long))
      ∙ L.heads from low
      ∙ ap (λ (u : ℕ). last_from es u k) start
      ∙ ap (λ (j : ℕ). last_from es (unpack (get_or es j 0)).from j) (sym e)
  next_more i b (inr d) =
      get_or-set_other (set lists (64 + k) (get_or lists from 0)) from (64 + i) (k + 1) 0 (λ e. omega (arith, low))
      ∙ get_or-set_other lists (64 + k) (64 + i) (get_or lists from 0) 0 (λ e. d (omega arith))
      ∙ L.nexts i (omega arith)

  pub linked_more : Linked es (put_first lists from k) (k + 1)
  unfolding put_first
  linked_more =
      record { long = omega (arith, L.long, first_length lists from k); heads = λ u b. head_more u b (same_or_not u from); nexts = λ i b. next_more i b (same_or_not i k) }

-- The loop over the step records: those read, put in front of those that are left, give the same answer as the whole, what each of those read adds is written, and its
-- least, and the map has those of them that are open.
use mathlib.Core.Path.{◌≡◌, refl, sym, ap, ◌∙◌}
use mathlib.Core.Bool.{Bool, true, false, cond, not, ◌&&◌, ◌||◌, and-false, and-true, or-false}
use mathlib.Core.Logic.{inl, inr}
use mathlib.Core.List.{List, [], ◌∷◌, ◌++◌}
use Prim.Native.Nat.{ℕ, suc, ◌+◌, ◌-◌, ◌*◌, ◌/◌, ◌%◌, ◌≤◌, ◌<◌}
use native.Mathlib.Omega.{arith}
use native.Mathlib.Decide.{dec_lt}
use lib.Dec.{eqb, ltb}
use lib.ListN.{length, drop, set, replicate, length-append, get_or-append}
use lib.Seq.{get_or-set_same, get_or-set_other, get_or_at}
use borrow.Author.Tests.{lt-ltb, le-ltb, eq-eqb, ne_eqb, eqb-true, eqb-false}
use Rattle.definitions.specs.Basics.{given, refused, test_bit}
use Rattle.definitions.specs.Bytes.{operation, operations, blank_operation}
use Rattle.definitions.specs.Limits.{most_steps}
use Rattle.definitions.specs.Links.{is_open, delay_at, least_with}
use Rattle.definitions.specs.declared.Delay.{Delay}
use Rattle.definitions.specs.declared.Delay.TheVariants.{Open, Fixed}
use Rattle.definitions.specs.declared.Operation.{Operation}
use Rattle.laws.proofs.Bools.{same_or_not}
use Rattle.laws.proofs.Maps.{test_zero}
use Rattle.laws.proofs.Parsers.{Unread, unread_start, unread_one, unread_refused, unread_none}
use Rattle.data_edges.specs.Words.{counted_place, gain_place}
use Rattle.read_steps.specs.Leaving.{leaving, Leaves, Leasts, LeastPut, unbounded_at}
use Rattle.read_steps.specs.Answers.{Stepped}
use Rattle.read_steps.proofs.Leasts.{least_last, least_before, leasts_none, leasts_more}

-- The delays of steps with one more behind them.
delay_last : (os : List Operation) (o : Operation) (i : ℕ) → length os ≡ i → delay_at (os ++ o ∷ []) i ≡ o.delay
unfolding delay_at
delay_last os o i e = ap (λ (x : Operation). x.delay) (get_or_at os o [] blank_operation i e)

delay_before : (os : List Operation) (o : Operation) (i : ℕ) → i < length os → delay_at (os ++ o ∷ []) i ≡ delay_at os i
unfolding delay_at
delay_before os o i h = ap (λ (x : Operation). x.delay) (get_or-append os (o ∷ []) blank_operation i h)

-- A step more whose digits are written.
leaves_more : (os : List Operation) (o : Operation) (i d : ℕ) (digits : List ℕ) → length os ≡ i → Leaves os i digits → i < length digits → d ≡ leaving o.delay (least_with i o.delay o.least) i → Leaves (os ++ o ∷ []) (i + 1) (set digits i d)
leaves_more os o i d digits count so h e = record {
  each = λ k b. elim (same_or_not k i) [
    | inl same ↦ rw (same, delay_last os o i count, least_last os o i count) (get_or-set_same digits i d 0 h ∙ e)
    | inr other ↦ rw (delay_before os o k (omega arith), least_before os o k (omega arith)) (get_or-set_other digits i k d 0 other ∙ so.each k (omega arith))
  ];
}

-- The map of the open steps other than 0, of those below i.
abbrev Opens : List Operation → ℕ → ℕ → Type 0
Opens os i map = (j : ℕ) → test_bit map j ≡ (ltb j i && unbounded_at os j)

opens_none : Opens [] 0 0
opens_none j = test_zero j ∙ ap (λ (t : Bool). t && unbounded_at [] j) (sym (le-ltb j 0 (omega arith)))

-- The mark counted stands in what a step adds.
abbrev marks : ℕ → Bool
marks d = eqb (d / counted_place % 2) 1

-- It tells whether the step is open and not step 0.
mark_tells : (d : Delay) (l i : ℕ) → marks (leaving d l i) ≡ (not (eqb i 0) && is_open d)
unfolding leaving is_open
mark_tells (Fixed ticks) l i = ne_eqb (ticks * gain_place / counted_place % 2) 1 (λ e. omega arith) ∙ sym (and-false (not (eqb i 0)))
mark_tells Open l i = go (eqb i 0)
  where
    go : (t : Bool) → marks (cond t 0 counted_place + l * gain_place) ≡ (not t && true)
    go true = ne_eqb ((0 + l * gain_place) / counted_place % 2) 1 (λ e. omega arith)
    go false = eq-eqb ((counted_place + l * gain_place) / counted_place % 2) 1 (omega arith)

-- The map `next` takes in step i where the mark stands in d, which it adds; elsewhere it is as `map` is.
abbrev TakesIn : ℕ → ℕ → ℕ → ℕ → Type 0
TakesIn map next i d = (j : ℕ) → test_bit next j ≡ (test_bit map j || marks d && eqb j i)

-- A step more: by whether j is the new one, and then by whether it is below it.
module _ (os : List Operation) (o : Operation) (i l d map next : ℕ) (count : length os ≡ i) (so : Opens os i map) (e : d ≡ leaving o.delay l i) (s : TakesIn map next i d) where
  open_last : marks d ≡ unbounded_at (os ++ o ∷ []) i
  unfolding unbounded_at
  open_last = rw (delay_last os o i count, e) (mark_tells o.delay l i)

  open_before : (j : ℕ) → j < i → unbounded_at os j ≡ unbounded_at (os ++ o ∷ []) j
  unfolding unbounded_at
  open_before j h = rw (delay_before os o j (omega arith)) refl

  opens_more : Opens (os ++ o ∷ []) (i + 1) next
  opens_more j = s j ∙ go (eqb j i) refl (dec_lt j i)
    where
      go : (t : Bool) → eqb j i ≡ t → Dec (j < i) → (test_bit map j || marks d && t) ≡ (ltb j (i + 1) && unbounded_at (os ++ o ∷ []) j)
      go true f b =
          let g : j ≡ i = eqb-true j i f in
          rw (g, so i, le-ltb i i (omega arith), lt-ltb i (i + 1) (omega arith), and-true (marks d)) open_last
      go false f (yes b) = rw (and-false (marks d), or-false (test_bit map j), so j, lt-ltb j i b, lt-ltb j (i + 1) (omega arith)) (open_before j b)
      go false f (no b) =
          let g : j ≡ i → ⊥ = eqb-false j i f in
          rw (and-false (marks d), or-false (test_bit map j), so j, le-ltb j i (omega arith), le-ltb j (i + 1) (omega arith)) refl

-- The loop's invariant: i of n records are read. The next is that of step 0 where none is.
pub record Stepping (n : ℕ) (bytes : List ℕ) (i : ℕ) (rest digits leasts : List ℕ) (map : ℕ) : Type 0 where
  pub done : List Operation
  pub within : i ≤ n
  pub count : length done ≡ i
  pub unread : Unread operation (λ o. false) n true bytes done (n - i) (eqb i 0) rest
  pub leaves : Leaves done i digits
  pub least : Leasts done leasts
  pub opens : Opens done i map

module _ (n : ℕ) (bytes : List ℕ) where
  -- None is read.
  pub stepping_none : (digits leasts : List ℕ) → leasts ≡ replicate most_steps 0 → Stepping n bytes 0 bytes digits leasts 0
  stepping_none digits leasts blank =
      let e : n - 0 ≡ n = omega arith in
      record { done = []; within = omega arith; count = refl; unread = rw e (unread_start operation (λ o. false) n true bytes); leaves = record { each = λ i h. absurd (omega arith) }; least = leasts_none blank; opens = opens_none }

  module _ (i : ℕ) (rest digits leasts : List ℕ) (map : ℕ) (so : Stepping n bytes i rest digits leasts map) where
    one_left : i < n → Unread operation (λ o. false) n true bytes so.done (suc (n - (i + 1))) (eqb i 0) rest
    one_left h = let e : suc (n - (i + 1)) ≡ n - i = omega arith in rw e so.unread

    -- One more is read, what it adds is written, and its least, and the map takes it in where it is open.
    module _ (o : Operation) (more after : List ℕ) (d next : ℕ) (e : operation (eqb i 0) rest ≡ given (record { value = o; rest = more })) (adds : d ≡ leaving o.delay (least_with i o.delay o.least) i) where
      pub stepping_more : i < n → i < length digits → i < length leasts → LeastPut i (least_with i o.delay o.least) leasts after → TakesIn map next i d → Stepping n bytes (i + 1) more (set digits i d) after next
      stepping_more h room place put takes = record {
        done = so.done ++ o ∷ [];
        within = omega arith;
        count = length-append so.done (o ∷ []) ∙ ap (λ (k : ℕ). k + 1) so.count;
        unread = rw (ne_eqb (i + 1) 0 (λ z. omega arith)) (unread_one operation (λ o. false) n true bytes so.done (n - (i + 1)) (eqb i 0) rest more o e (one_left h));
        leaves = leaves_more so.done o i d digits so.count so.leaves room adds;
        least = leasts_more so.done o i _ leasts after so.count so.least place refl put;
        opens = opens_more so.done o i (least_with i o.delay o.least) d map next so.count so.opens adds takes;
      }

    -- The next one is refused: so is the whole.
    pub stepping_refused : i < n → (q : ℕ) → operation (eqb i 0) rest ≡ refused q → operations n bytes ≡ refused q
    unfolding operations
    stepping_refused h q e = unread_refused operation (λ o. false) n true bytes so.done (n - (i + 1)) (eqb i 0) rest q e (one_left h)

    -- All are read.
    all_read : n ≤ i → operations n bytes ≡ given (record { value = so.done; rest = rest })
    unfolding operations
    all_read h =
        let none : n - i ≡ 0 = omega arith in
        unread_none operation (λ o. false) n true bytes so.done (eqb i 0) rest (rw none at so.unread)

-- What is answered then.
pub stepping_all : (s : List ℕ) (at n i next : ℕ) (digits leasts : List ℕ) (map : ℕ) → Stepping n (drop at s) i (drop next s) digits leasts map → n ≤ i → next ≤ length s → Stepped s at n digits leasts map next
stepping_all s at n i next digits leasts map so h inside = record {
  steps = so.done;
  same = all_read n (drop at s) i (drop next s) digits leasts map so h;
  inside = inside;
  count = omega (arith, so.count, so.within);
  leaves = record { each = λ k b. so.leaves.each k (omega arith) };
  least = so.least;
  opens = λ k b. so.opens k ∙ ap (λ (t : Bool). t && unbounded_at so.done k) (lt-ltb k i (omega arith));
}

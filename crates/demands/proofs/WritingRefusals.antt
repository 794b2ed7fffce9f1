-- Request L4: the refusals of the writer stand in a row, each before the rest: it is given exactly if its fault is there and none before it is.
use mathlib.Core.Path.{◌≡◌, refl, sym, ap, subst, ◌∙◌}
use mathlib.Core.Bool.{Bool, true, false, not, ◌&&◌, ◌||◌}
use mathlib.Core.Logic.{◌⊎◌, inl, inr, ◌≢◌, ◌↔◌}
use mathlib.Core.List.{List, ◌++◌}
use Prim.Native.Nat.{ℕ, ◌≤◌, ◌<◌}
use native.Mathlib.Omega.{arith}
use lib.Dec.{eqb, leb, ltb}
use lib.ListN.{length, drop, take, length-take}
use borrow.Author.Tests.{ltb-true, lt-ltb, eqb-false}
use Rattle.definitions.specs.Limits.{most_steps, most_records}
use Rattle.definitions.specs.Basics.{Outcome, given, refused, refuse_if}
use Rattle.definitions.specs.Bytes.{Records}
use Rattle.definitions.specs.Answers.{written, too_short}
use Rattle.definitions.specs.Writer.{sheet_bytes, bad_maps, unsequenced, bad_ends, comes_twice, parts, parts_short, write_verdict, write_answer}
use Rattle.definitions.specs.declared.Operation.{Operation}
use Rattle.definitions.specs.declared.Link.{Link}
use Rattle.laws.proofs.Bools.{bool_cases, or_split, or_left, or_right}
use Rattle.laws.proofs.Negations.{fails_unless}
use Rattle.laws.proofs.Outcomes.{given_not_refused, refused_same, given_same, refuse_own, refuse_never, passes_by, stops_at}
use Rattle.demands.specs.Writing.{BadCount, Before4, Before26, Before5, Before6, NoFault, Short, fewer_steps, fewer_links, no_room, WriteFor}
use Rattle.demands.proofs.WritingOrder.{twice_iff}
use Rattle.demands.proofs.WritingFaults.{count_iff, many_iff, maps_iff, limits_iff, ends_iff}

-- ---- 14: a list that is shorter than its count, or the buffer

short_iff : (n r : ℕ) (steps : List Operation) (links : List Link) (buffer : List ℕ) → ((parts_short n r (parts n r steps links) || too_short buffer (length (sheet_bytes (parts n r steps links)))) ≡ true) ↔ Short n r steps links buffer
unfolding parts_short too_short
short_iff n r steps links buffer = (λ h. out (or_split (ltb (length (take n steps)) n || ltb (length (take r links)) r) (ltb (length buffer) size) h), back)
  where
    size : ℕ
    size = length (sheet_bytes (parts n r steps links))

    out : ((ltb (length (take n steps)) n || ltb (length (take r links)) r) ≡ true) ⊎ (ltb (length buffer) size ≡ true) → Short n r steps links buffer
    out (inl t) = go (or_split (ltb (length (take n steps)) n) (ltb (length (take r links)) r) t)
      where
        go : (ltb (length (take n steps)) n ≡ true) ⊎ (ltb (length (take r links)) r ≡ true) → Short n r steps links buffer
        go (inl u) = fewer_steps (omega (arith, ltb-true (length (take n steps)) n u, length-take n steps))
        go (inr u) = fewer_links (omega (arith, ltb-true (length (take r links)) r u, length-take r links))
    out (inr t) = no_room (ltb-true (length buffer) size t)

    back : Short n r steps links buffer → ((ltb (length (take n steps)) n || ltb (length (take r links)) r) || ltb (length buffer) size) ≡ true
    back (fewer_steps h) = or_left (ltb (length buffer) size) (or_left (ltb (length (take r links)) r) (lt-ltb (length (take n steps)) n (omega (arith, length-take n steps))))
    back (fewer_links h) = or_left (ltb (length buffer) size) (or_right (ltb (length (take n steps)) n) (lt-ltb (length (take r links)) r (omega (arith, length-take r links))))
    back (no_room h) = or_right (ltb (length (take n steps)) n || ltb (length (take r links)) r) (lt-ltb (length buffer) size h)

-- ---- the row of refusals

-- A refusal in front of the rest: any other outcome is given exactly if its fault is not there and the rest gives that; its own number exactly if the fault is there, where the rest never gives it.
module _ {F : Type 0} {b : Bool} (test : (b ≡ true) ↔ F) (k : ℕ) (rest : Outcome ℕ) where
  past : {o : Outcome ℕ} → o ≢ refused k → (refuse_if b k rest ≡ o) ↔ ((¬ F) × (rest ≡ o))
  unfolding refuse_if
  past {o} other = go (bool_cases b)
    where
      go : (b ≡ true) ⊎ (b ≡ false) → (refuse_if b k rest ≡ o) ↔ ((¬ F) × (rest ≡ o))
      go (inl t) = ((λ h. absurd (other (sym h ∙ stops_at k rest t))), λ r. absurd (r.0 (test.0 t)))
      go (inr f) = ((λ h. ((fails_unless b test).0 f, sym (passes_by k rest f) ∙ h)), λ r. passes_by k rest f ∙ r.1)

  own : rest ≢ refused k → (refuse_if b k rest ≡ refused k) ↔ F
  own never = let r = refuse_own b k rest never in ((λ h. test.0 (r.0 h)), λ f. r.1 (test.1 f))

-- What is passed, P, and one condition more, F, are R together: then the rest of the row follows both. And a number of its own is given exactly if its fault is there.
one_more : {X P Y F R Z : Type 0} → X ↔ (P × Y) → Y ↔ (F × Z) → (P → F → R) → (R → P) → (R → F) → X ↔ (R × Z)
one_more p t join passed last = ((λ h. let a = p.0 h in let b = t.0 a.1 in (join a.0 b.0, b.1)), λ x. p.1 (passed x.0, t.1 (last x.0, x.1)))

ends_in : {X P Y F : Type 0} → X ↔ (P × Y) → Y ↔ F → X ↔ (P × F)
ends_in p c = ((λ h. let a = p.0 h in (a.0, c.0 a.1)), λ x. p.1 (x.0, c.1 x.1))

-- Two numbers that differ.
apart : (k l : ℕ) → eqb k l ≡ false → ◌≢◌ {A = Outcome ℕ} (refused k) (refused l)
apart k l h e = eqb-false k l h (refused_same e)

module _ (n r : ℕ) (steps : List Operation) (links : List Link) (buffer : List ℕ) where
  abbrev q : Records
  q = parts n r steps links

  abbrev size : ℕ
  size = length (sheet_bytes q)

  abbrev from_14 : Outcome ℕ
  from_14 = refuse_if (parts_short n r q || too_short buffer size) 14 (given size)

  abbrev from_6 : Outcome ℕ
  from_6 = refuse_if (comes_twice q.pairs) 6 from_14

  abbrev from_5 : Outcome ℕ
  from_5 = refuse_if (bad_ends n q.pairs) 5 from_6

  abbrev from_26 : Outcome ℕ
  from_26 = refuse_if (unsequenced q.pairs) 26 from_5

  abbrev from_4 : Outcome ℕ
  from_4 = refuse_if (bad_maps q.steps q.pairs) 4 from_26

  abbrev from_3 : Outcome ℕ
  from_3 = refuse_if (ltb most_records r) 3 from_4

  abbrev answer : Outcome ℕ
  answer = (write_answer n r steps links buffer).verdict

  answer_is : answer ≡ refuse_if (not (leb 1 n && leb n most_steps)) 2 from_3
  unfolding write_answer write_verdict
  answer_is = refl

  -- Past 2, past 3, and so on: what is passed so far, and the rest of the row.
  module _ {o : Outcome ℕ} where
    past_2 : o ≢ refused 2 → (answer ≡ o) ↔ ((¬ BadCount n) × (from_3 ≡ o))
    past_2 z = let p = past (count_iff n) 2 from_3 z in ((λ h. p.0 (sym answer_is ∙ h)), λ x. answer_is ∙ p.1 x)

    past_3 : o ≢ refused 2 → o ≢ refused 3 → (answer ≡ o) ↔ (Before4 n r × (from_4 ≡ o))
    past_3 z₂ z₃ = one_more (past_2 z₂) (past (many_iff r) 3 from_4 z₃) (λ b f. record { count = b; few = f }) (λ B. B.count) (λ B. B.few)

    past_4 : o ≢ refused 2 → o ≢ refused 3 → o ≢ refused 4 → (answer ≡ o) ↔ (Before26 n r q × (from_26 ≡ o))
    past_4 z₂ z₃ z₄ = one_more (past_3 z₂ z₃) (past (maps_iff q) 4 from_26 z₄) (λ b f. record { passed = b; maps = f }) (λ B. B.passed) (λ B. B.maps)

    past_26 : o ≢ refused 2 → o ≢ refused 3 → o ≢ refused 4 → o ≢ refused 26 → (answer ≡ o) ↔ (Before5 n r q × (from_5 ≡ o))
    past_26 z₂ z₃ z₄ z₂₆ = one_more (past_4 z₂ z₃ z₄) (past (limits_iff q.pairs) 26 from_5 z₂₆) (λ b f. record { passed = b; limits = f }) (λ B. B.passed) (λ B. B.limits)

    past_5 : o ≢ refused 2 → o ≢ refused 3 → o ≢ refused 4 → o ≢ refused 26 → o ≢ refused 5 → (answer ≡ o) ↔ (Before6 n r q × (from_6 ≡ o))
    past_5 z₂ z₃ z₄ z₂₆ z₅ = one_more (past_26 z₂ z₃ z₄ z₂₆) (past (ends_iff n q.pairs) 5 from_6 z₅) (λ b f. record { passed = b; ends = f }) (λ B. B.passed) (λ B. B.ends)

    past_6 : o ≢ refused 2 → o ≢ refused 3 → o ≢ refused 4 → o ≢ refused 26 → o ≢ refused 5 → o ≢ refused 6 → (answer ≡ o) ↔ (NoFault n r q × (from_14 ≡ o))
    past_6 z₂ z₃ z₄ z₂₆ z₅ z₆ = one_more (past_5 z₂ z₃ z₄ z₂₆ z₅) (past (twice_iff q.pairs) 6 from_14 z₆) (λ b f. record { passed = b; once = f }) (λ N. N.passed) (λ N. N.once)

  -- What stands behind a refusal never gives its number.
  never_14 : {k : ℕ} → 14 ≢ k → from_14 ≢ refused k
  never_14 z = refuse_never (parts_short n r q || too_short buffer size) 14 (given size) z (λ e. given_not_refused e)

  never_6 : {k : ℕ} → 6 ≢ k → 14 ≢ k → from_6 ≢ refused k
  never_6 z y = refuse_never (comes_twice q.pairs) 6 from_14 z (never_14 y)

  never_5 : {k : ℕ} → 5 ≢ k → 6 ≢ k → 14 ≢ k → from_5 ≢ refused k
  never_5 z y x = refuse_never (bad_ends n q.pairs) 5 from_6 z (never_6 y x)

  never_26 : {k : ℕ} → k < 5 → from_26 ≢ refused k
  never_26 b = refuse_never (unsequenced q.pairs) 26 from_5 (λ e. omega arith) (never_5 (λ e. omega arith) (λ e. omega arith) (λ e. omega arith))

  never_4 : {k : ℕ} → k < 4 → from_4 ≢ refused k
  never_4 b = refuse_never (bad_maps q.steps q.pairs) 4 from_26 (λ e. omega arith) (never_26 (omega arith))

  never_3 : {k : ℕ} → k < 3 → from_3 ≢ refused k
  never_3 b = refuse_never (ltb most_records r) 3 from_4 (λ e. omega arith) (never_4 (omega arith))

  -- Every number is one of the row's.
  one_of : {P : ℕ → Type 0} (b : Bool) (j : ℕ) (rest : Outcome ℕ) → P j → ((k : ℕ) → rest ≡ refused k → P k) → (k : ℕ) → refuse_if b j rest ≡ refused k → P k
  unfolding refuse_if
  one_of {P} true j rest h f k e = subst P (refused_same e) h
  one_of false j rest h f k e = f k e

  abbrev OfTheRow : ℕ → Type 0
  OfTheRow k = ((2 ≤ k) × (k ≤ 6)) ⊎ (k ≡ 26) ⊎ (k ≡ 14)

  of_the_row : (k : ℕ) → answer ≡ refused k → OfTheRow k
  of_the_row k h =
      one_of {P = OfTheRow} (not (leb 1 n && leb n most_steps)) 2 from_3 (inl (omega arith, omega arith))
      (one_of {P = OfTheRow} (ltb most_records r) 3 from_4 (inl (omega arith, omega arith))
      (one_of {P = OfTheRow} (bad_maps q.steps q.pairs) 4 from_26 (inl (omega arith, omega arith))
      (one_of {P = OfTheRow} (unsequenced q.pairs) 26 from_5 (inr (inl refl))
      (one_of {P = OfTheRow} (bad_ends n q.pairs) 5 from_6 (inl (omega arith, omega arith))
      (one_of {P = OfTheRow} (comes_twice q.pairs) 6 from_14 (inl (omega arith, omega arith))
      (one_of {P = OfTheRow} (parts_short n r q || too_short buffer size) 14 (given size) (inr (inr refl)) (λ k e. absurd (given_not_refused e))))))))
      k (sym answer_is ∙ h)

  numbers_are : (write_answer n r steps links buffer).numbers ≡ written answer (sheet_bytes q) buffer
  unfolding write_answer
  numbers_are = refl

  accepted_iff : (k : ℕ) → (answer ≡ given k) ↔ (NoFault n r q × (¬ Short n r steps links buffer) × (k ≡ size))
  accepted_iff k =
      let p = past_6 {o = given k} given_not_refused given_not_refused given_not_refused given_not_refused given_not_refused given_not_refused in
      let t = past (short_iff n r steps links buffer) 14 (given size) {o = given k} given_not_refused in
      ((λ h. let a = p.0 h in let b = t.0 a.1 in (a.0, b.0, sym (given_same b.1))), λ x. p.1 (x.0, t.1 (x.1, ap given (sym x.2))))

  -- The theorem of this file.
  pub write_for : WriteFor n r steps links buffer answer (write_answer n r steps links buffer).numbers
  unfolding written
  write_for =
      record {
        refused_2 = let c = own (count_iff n) 2 from_3 (never_3 (omega arith)) in ((λ h. c.0 (sym answer_is ∙ h)), λ f. answer_is ∙ c.1 f);
        refused_3 = ends_in (past_2 (apart 3 2 refl)) (own (many_iff r) 3 from_4 (never_4 (omega arith)));
        refused_4 = ends_in (past_3 (apart 4 2 refl) (apart 4 3 refl)) (own (maps_iff q) 4 from_26 (never_26 (omega arith)));
        refused_26 = ends_in (past_4 (apart 26 2 refl) (apart 26 3 refl) (apart 26 4 refl)) (own (limits_iff q.pairs) 26 from_5 (never_5 (λ e. omega arith) (λ e. omega arith) (λ e. omega arith)));
        refused_5 = ends_in (past_26 (apart 5 2 refl) (apart 5 3 refl) (apart 5 4 refl) (apart 5 26 refl)) (own (ends_iff n q.pairs) 5 from_6 (never_6 (λ e. omega arith) (λ e. omega arith)));
        refused_6 = ends_in (past_5 (apart 6 2 refl) (apart 6 3 refl) (apart 6 4 refl) (apart 6 26 refl) (apart 6 5 refl)) (own (twice_iff q.pairs) 6 from_14 (never_14 (λ e. omega arith)));
        refused_14 =
            ends_in (past_6 (apart 14 2 refl) (apart 14 3 refl) (apart 14 4 refl) (apart 14 26 refl) (apart 14 5 refl) (apart 14 6 refl)) (own (short_iff n r steps links buffer) 14 (given size) (λ e. given_not_refused e));
        accepted = accepted_iff;
        no_other = of_the_row;
        numbers = λ k h. numbers_are ∙ ap (λ (o : Outcome ℕ). written o (sheet_bytes q) buffer) h ∙ ap (λ (i : ℕ). sheet_bytes q ++ drop i buffer) (sym ((accepted_iff k).0 h).2);
        untouched = λ k h. numbers_are ∙ ap (λ (o : Outcome ℕ). written o (sheet_bytes q) buffer) h;
      }

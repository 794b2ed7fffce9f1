-- The first bytes decide what is read. A parser that looks at no more than k bytes gives the same from the bytes cut at k or later; only what it leaves is cut too.
-- The bound of each parser is the sum of the bounds of the parsers that it is built from, as their text goes.
use mathlib.Core.Path.{◌≡◌, refl, ap, ◌∙◌}
use Rattle.std.specs.Prelude.{None}
use Rattle.definitions.specs.Bytes.{Previous, Taken, Parser, ◌>>=◌, ◌>>◌, give, demand, byte, two_bytes, ticks_if, operation_map, delay_from, operation, bound_from, link_map, sequenced, endpoints, rises, link, records, operations, pair_of, links, at_end, Records, sheet, read}
use mathlib.Core.Bool.{Bool, true, false, ◌&&◌}
use mathlib.Core.List.{List, [], ◌∷◌}
use mathlib.Core.Logic.{◌⊎◌, inl, inr}
use Prim.Native.Nat.{ℕ, zero, suc, ◌+◌, ◌-◌, ◌*◌, ◌/◌, ◌%◌, ◌^◌, ◌≤◌}
use native.Mathlib.Omega.{arith}
use native.Mathlib.Nat.{suc-mul}
use lib.Dec.{eqb, leb}
use lib.ListN.{take}
use borrow.Author.Tests.{leb-true, eqb-true}
use Rattle.definitions.specs.Limits.{most_steps, most_records, longest_sheet, longest_step, longest_record}
use Rattle.definitions.specs.Basics.{test_bit, Outcome, given, refused, when_given}
use Rattle.definitions.specs.Output.{listed, list_records, listing_text, standplan}
use Rattle.definitions.specs.Price.{price_report, printed_table, report_read}
use Rattle.definitions.specs.declared.Operation.{Operation}
use Rattle.laws.proofs.Bools.{and_split, or_split}
use Rattle.demands.specs.Demands.{FrontDecides}

-- An outcome with what it leaves cut at l bytes.
abbrev cut : {A : Type 0} → ℕ → Outcome (Taken A) → Outcome (Taken A)
cut l o = when_given o (λ t. given (record { value = t.value; rest = take l t.rest }))

-- A parser looks at no more than k bytes: cut at m of them, no fewer than m - k of what it leaves stay.
record Looks {A : Type 0} (p : Parser A) (k : ℕ) : Type 0 where
  each : (s : List ℕ) (m : ℕ) → k ≤ m → (l : ℕ) × (m ≤ k + l) × (p (take m s) ≡ cut l (p s))

looks_more : {A : Type 0} {p : Parser A} {j k : ℕ} → j ≤ k → Looks p j → Looks p k
looks_more h g = record { each = λ s m b. let r = g.each s m (omega arith) in (r.0, omega (arith, r.1), r.2) }

looks_give : {A : Type 0} (a : A) → Looks (give a) 0
unfolding when_given
looks_give a = record { each = λ s m b. (m, omega arith, refl) }

looks_bind : {A B : Type 0} {p : Parser A} {f : A → Parser B} {j k : ℕ} → Looks p j → ((a : A) → Looks (f a) k) → Looks (p >>= f) (j + k)
unfolding when_given
looks_bind {A} {B} {p} {f} {j} {k} g h = record { each = λ s m b. let r = g.each s m (omega arith) in go s m r.0 b r.1 (p s) r.2 }
  where
    after : Outcome (Taken A) → Outcome (Taken B)
    after o = when_given o (λ u. f u.value u.rest)

    go : (s : List ℕ) (m l : ℕ) → j + k ≤ m → m ≤ j + l → (o : Outcome (Taken A)) → p (take m s) ≡ cut l o → (i : ℕ) × (m ≤ j + k + i) × (after (p (take m s)) ≡ cut i (after o))
    go s m l b c (given u) e = let r = (h u.value).each u.rest l (omega arith) in (r.0, omega (arith, r.1), ap after e ∙ r.2)
    go s m l b c (refused q) e = (m, omega arith, ap after e)

-- What follows a demand is looked at only where its condition holds.
looks_demand : {B : Type 0} {q : Parser B} {k : ℕ} (b : Bool) (c : ℕ) → (b ≡ true → Looks q k) → Looks (demand b c >> q) k
unfolding demand when_given
looks_demand true c h = h refl
looks_demand false c h = record { each = λ s m b. (m, omega arith, refl) }

looks_byte : Looks byte 1
unfolding byte when_given
looks_byte = record { each = go }
  where
    go : (s : List ℕ) (m : ℕ) → 1 ≤ m → (l : ℕ) × (m ≤ 1 + l) × (byte (take m s) ≡ cut l (byte s))
    go s zero b = absurd (omega arith)
    go [] (suc m) b = (m, omega arith, refl)
    go (x ∷ s) (suc m) b = (m, omega arith, refl)

-- The end is seen from one byte.
looks_end : Looks at_end 1
unfolding at_end when_given
looks_end = record { each = go }
  where
    go : (s : List ℕ) (m : ℕ) → 1 ≤ m → (l : ℕ) × (m ≤ 1 + l) × (at_end (take m s) ≡ cut l (at_end s))
    go s zero b = absurd (omega arith)
    go [] (suc m) b = (suc m, omega arith, refl)
    go (x ∷ s) (suc m) b = (m, omega arith, refl)

looks_two_bytes : Looks two_bytes 2
unfolding two_bytes
looks_two_bytes = looks_bind looks_byte (λ low. looks_bind looks_byte (λ high. looks_give (low + 256 * high)))

looks_no_ticks : Looks (ticks_if false) 0
unfolding ticks_if
looks_no_ticks = looks_give 0

looks_ticks : (b : Bool) → Looks (ticks_if b) 2
unfolding ticks_if
looks_ticks true = looks_two_bytes
looks_ticks false = looks_more (omega arith) looks_no_ticks

-- No step record has two fields: a map that is allowed has not both bits.
one_field : (first : Bool) (m : ℕ) → operation_map first m ≡ true → (test_bit m 1 ≡ false) ⊎ (test_bit m 2 ≡ false)
unfolding operation_map test_bit
one_field true m h = inl (rw (eqb-true m 1 h))
one_field false m h = go (or_split (leb m 2) (eqb m 5) h)
  where
    small : (k : ℕ) → k ≤ 2 → eqb (k / 2 ^ 2 % 2) 1 ≡ false
    small zero b = refl
    small (suc zero) b = refl
    small (suc (suc zero)) b = refl
    small (suc (suc (suc k))) b = absurd (omega arith)

    go : (leb m 2 ≡ true) ⊎ (eqb m 5 ≡ true) → (eqb (m / 2 ^ 1 % 2) 1 ≡ false) ⊎ (eqb (m / 2 ^ 2 % 2) 1 ≡ false)
    go (inl l) = inr (small m (leb-true m 2 l))
    go (inr e) = inl (rw (eqb-true m 5 e))

-- A step record, that of step 0 with one byte.
looks_operation : (first : Bool) → Looks (operation first) longest_step
unfolding operation
looks_operation first = looks_bind looks_byte (λ m. looks_demand (operation_map first m) 4 (λ h. fields m (one_field first m h)))
  where
    fields : (m : ℕ) → (test_bit m 1 ≡ false) ⊎ (test_bit m 2 ≡ false) → Looks {A = Operation} (ticks_if (test_bit m 1) >>= (λ ticks. ticks_if (test_bit m 2) >>= (λ least. give (record { delay = delay_from (test_bit m 0) ticks; least = bound_from (test_bit m 2) least })))) 2
    fields m (inl h) = rw h (looks_bind looks_no_ticks (λ ticks. looks_bind (looks_ticks (test_bit m 2)) (λ least. looks_give _)))
    fields m (inr h) = rw h (looks_bind (looks_ticks (test_bit m 1)) (λ ticks. looks_bind looks_no_ticks (λ least. looks_give _)))

looks_first : Looks (operation true) 1
unfolding operation operation_map test_bit ticks_if
looks_first = looks_bind {k = 0} looks_byte (λ m. looks_demand (operation_map true m) 4 (λ h. rw (eqb-true m 1 h) (looks_bind (looks_give 0) (λ ticks. looks_bind (looks_give 0) (λ least. looks_give _)))))

-- A link record.
looks_link : (n : ℕ) (previous : Previous) → Looks (link n previous) longest_record
unfolding link
looks_link n previous =
    looks_bind looks_byte
    (λ m. looks_demand (link_map m) 4
    (λ h4. looks_demand (sequenced m) 26
    (λ h26. looks_bind looks_byte
    (λ i. looks_bind looks_byte
    (λ j. looks_demand (endpoints n i j) 5
    (λ h5. looks_demand (rises previous i j) 6
    (λ h6. looks_bind (looks_ticks (test_bit m 1))
    (λ least. looks_bind (looks_ticks (test_bit m 2))
    (λ most. looks_bind (looks_ticks (test_bit m 3))
    (λ gap. looks_bind (looks_ticks (test_bit m 4))
    (λ latest. looks_give _)))))))))))

-- Records in a row. Induction on their number.
looks_records : {A S : Type 0} (item : S → Parser A) (next : A → S) (j : ℕ) → ((state : S) → Looks (item state) j) → (k : ℕ) (state : S) → Looks (records item next k state) (k * j)
unfolding records
looks_records item next j each zero state = looks_more (omega arith) (looks_give [])
looks_records item next j each (suc k) state =
    looks_more (omega (arith, suc-mul k j)) (looks_bind (each state) (λ x. looks_bind (looks_records item next j each k (next x)) (λ xs. looks_give (x ∷ xs))))

looks_operations : (n : ℕ) → 1 ≤ n → n ≤ most_steps → Looks (operations n) (1 + (most_steps - 1) * longest_step)
unfolding operations records
looks_operations zero low high = absurd (omega arith)
looks_operations (suc n) low high =
    looks_more (omega arith) (looks_bind looks_first (λ x. looks_bind (looks_records operation (λ o. false) longest_step looks_operation n false) (λ xs. looks_give (x ∷ xs))))

looks_links : (n r : ℕ) → r ≤ most_records → Looks (links n r) (most_records * longest_record)
unfolding links
looks_links n r high = looks_more (omega arith) (looks_records (link n) pair_of longest_record (looks_link n) r None)

-- Three bytes in front, the records, and one for the end.
looks_sheet : Looks sheet (longest_sheet + 1)
unfolding sheet
looks_sheet =
    looks_bind looks_byte
    (λ n. looks_demand (leb 1 n && leb n most_steps) 2
    (λ h2. looks_bind looks_two_bytes
    (λ r. looks_demand (leb r most_records) 3
    (λ h3.
    let c = and_split (leb 1 n) (leb n most_steps) h2 in
    looks_bind (looks_operations n (leb-true 1 n c.0) (leb-true n most_steps c.1))
    (λ os. looks_bind (looks_links n r (leb-true r most_records h3))
    (λ ls. looks_bind looks_end (λ u. looks_give (record { steps = os; pairs = ls }))))))))

-- The theorem of this file: what is left is dropped in the end, so its cut does not show.
pub front_for : FrontDecides
unfolding read listed standplan price_report when_given
front_for s limit h = record { reads = reads; prints = ap (λ (o : Outcome Records). listing_text (when_given o (λ q. list_records q true))) reads; prices = ap (report_read printed_table) reads }
  where
    dropped : (l : ℕ) (o : Outcome (Taken Records)) → when_given (cut l o) (λ t. given t.value) ≡ when_given o (λ t. given t.value)
    dropped l (given t) = refl
    dropped l (refused k) = refl

    reads : read (take limit s) ≡ read s
    reads = let r = looks_sheet.each s limit (omega arith) in ap (λ (o : Outcome (Taken Records)). when_given o (λ t. given t.value)) r.2 ∙ dropped r.0 (sheet s)

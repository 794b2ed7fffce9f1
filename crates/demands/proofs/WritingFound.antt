-- Request L4: what is found in the bytes of a sheet that has been read: what is written of its parts, but for fixed durations of 0 that were sent with their field; and its parts pass the writer's tests.
-- What each parser takes is told by the bytes that it takes, and carried through the parsers that are built from it, as their text goes.
use mathlib.Core.Path.{◌≡◌, refl, sym, ap, ap₂, subst, ◌∙◌}
use Rattle.std.specs.Prelude.{None, Some}
use Rattle.definitions.specs.Bytes.{Previous, Taken, Parser, ◌>>=◌, ◌>>◌, give, demand, byte, two_bytes, ticks_if, operation_map, delay_from, operation, bound_from, link_map, sequenced, endpoints, rises, link, records, operations, pair_of, links, at_end, Records, sheet, read, blank_operation}
use mathlib.Core.Bool.{Bool, true, false, cond, not, ◌&&◌, ◌||◌, true≢false}
use mathlib.Core.Logic.{◌⊎◌, inl, inr, ◌≢◌}
use mathlib.Core.List.Memᴰ
use mathlib.Core.List.{List, [], ◌∷◌, ◌++◌, append_assoc, append-nil, flat_map, Memᴰ}
use Prim.Native.Nat.{ℕ, zero, suc, ◌+◌, ◌*◌, ◌/◌, ◌%◌, ◌≤◌, ◌<◌}
use native.Mathlib.Omega.{arith}
use lib.Dec.{eqb, leb}
use lib.ListN.{length}
use borrow.Author.Tests.{leb-true, eqb-true}
use Rattle.definitions.specs.Limits.{most_steps, most_records, most_ticks}
use Rattle.definitions.specs.Basics.{all_below, test_bit, Outcome, given, refused, when_given}
use Rattle.definitions.specs.Writer.{two_bytes_of, field_of, bit_of, duration_of, open_bit, operation_map_of, operation_bytes, link_map_of, link_bytes, steps_mapped}
use Rattle.definitions.specs.declared.Operation.{Operation}
use Rattle.definitions.specs.declared.Link.{Link}
use Rattle.laws.proofs.Bools.{same_or_not, and_split, and_join, or_split}
use Rattle.laws.proofs.Outcomes.{given_same, given_not_refused, when_given_has}
use Rattle.laws.proofs.Tests.{all_below_each}
use Rattle.demands.specs.Demands.{Bytes, IsSheet, Rising}
use Rattle.demands.specs.Writing.{StepNumbers, LinkNumbers, Numbers, PairBefore, StepsSent, none, plain, zero_kept}
use Rattle.demands.proofs.Reading.{bound_fits, delay_fits}
use Rattle.demands.proofs.WritingOrder.{before_iff, before_trans, rising_once}
use Rattle.demands.proofs.WritingRead.{StepAllowed, LinkAllowed, LinkNext, Passing}

-- ---- what a parser takes

-- The bytes are those taken, of which W tells the value, and then the rest.
record Front {A : Type 0} (W : A → List ℕ → Type 0) (s : List ℕ) (t : Taken A) : Type 0 where
  front : List ℕ
  whole : s ≡ front ++ t.rest
  says : W t.value front

record Spells {A : Type 0} (p : Parser A) (W : A → List ℕ → Type 0) : Type 0 where
  each : (s : List ℕ) → Bytes s → (t : Taken A) → p s ≡ given t → Front W s t

-- Nothing is taken; and what is taken by one after another is taken together.
spells_give : {A : Type 0} (W : A → List ℕ → Type 0) (a : A) → W a [] → Spells (give a) W
spells_give W a h = record { each = λ s b t e. let z = given_same e in record { front = []; whole = ap (λ (u : Taken _). u.rest) z; says = rw (← z) h } }

spells_bind : {A B : Type 0} {p : Parser A} {f : A → Parser B} {U : A → List ℕ → Type 0} (W : B → List ℕ → Type 0) → Spells p U → ((a : A) (v : List ℕ) → U a v → Spells (f a) (λ b w. W b (v ++ w))) → Spells (p >>= f) W
unfolding when_given
spells_bind {A} {B} {p} {f} {U} W g h = record { each = λ s b t e. go s b t (p s) refl e }
  where
    go : (s : List ℕ) → Bytes s → (t : Taken B) (o : Outcome (Taken A)) → p s ≡ o → when_given o (λ u. f u.value u.rest) ≡ given t → Front W s t
    go s b t (refused k) e i = absurd (given_not_refused (sym i))
    go s b t (given u) e i =
        let F = g.each s b u e in
        let left : Bytes u.rest = λ c m. b c (rw F.whole (Memᴰ.append_right F.front m)) in
        let G = (h u.value F.front F.says).each u.rest left t i in
        record { front = F.front ++ G.front; whole = F.whole ∙ ap (λ (l : List ℕ). F.front ++ l) G.whole ∙ sym (append_assoc F.front G.front t.rest); says = G.says }

-- What follows a byte, a demand, two bytes, or a field that is there or not.
spells_byte : Spells byte (λ b v. (v ≡ b ∷ []) × (b < 256))
unfolding byte
spells_byte = record { each = go }
  where
    go : (s : List ℕ) → Bytes s → (t : Taken ℕ) → byte s ≡ given t → Front (λ b v. (v ≡ b ∷ []) × (b < 256)) s t
    go [] b t e = absurd (given_not_refused (sym e))
    go (x ∷ s) b t e = let z = given_same e in rw (← z) (record { front = x ∷ []; whole = refl; says = (refl, b x (Memᴰ.head refl)) })

then_byte : {B : Type 0} {f : ℕ → Parser B} (W : B → List ℕ → Type 0) → ((b : ℕ) → b < 256 → Spells (f b) (λ c w. W c (b ∷ w))) → Spells (byte >>= f) W
then_byte W h = spells_bind W spells_byte (λ b v e. rw e.0 (h b e.1))

then_demand : {B : Type 0} {q : Parser B} (W : B → List ℕ → Type 0) (b : Bool) (k : ℕ) → (b ≡ true → Spells q W) → Spells (demand b k >> q) W
unfolding demand when_given
then_demand W true k h = h refl
then_demand W false k h = record { each = λ s b t e. absurd (given_not_refused (sym e)) }

spells_two_bytes : Spells two_bytes (λ x v. (v ≡ two_bytes_of x) × (x ≤ most_ticks))
unfolding two_bytes two_bytes_of
spells_two_bytes =
    then_byte _ (λ low l. then_byte _ (λ high h. spells_give _ (low + 256 * high)
    (let a : low ≡ (low + 256 * high) % 256 = omega arith in
    let b : high ≡ (low + 256 * high) / 256 = omega arith in
    (ap₂ (λ (x y : ℕ). x ∷ y ∷ []) a b, omega arith))))

then_two_bytes : {B : Type 0} {f : ℕ → Parser B} (W : B → List ℕ → Type 0) → ((x : ℕ) → x ≤ most_ticks → Spells (f x) (λ c w. W c (two_bytes_of x ++ w))) → Spells (two_bytes >>= f) W
then_two_bytes W h = spells_bind W spells_two_bytes (λ x v e. rw e.0 (h x e.1))

-- A field that is not there counts as 0 ticks.
record FieldRead (b : Bool) (x : ℕ) : Type 0 where
  few : x ≤ most_ticks
  none_there : b ≡ false → x ≡ 0

spells_ticks : (b : Bool) → Spells (ticks_if b) (λ x v. (v ≡ field_of (bound_from b x)) × FieldRead b x)
unfolding ticks_if field_of bound_from
spells_ticks true = record { each = λ s b t e. let F = spells_two_bytes.each s b t e in record { front = F.front; whole = F.whole; says = (F.says.0, record { few = F.says.1; none_there = λ h. absurd (true≢false h) }) } }
spells_ticks false = spells_give _ 0 (refl, record { few = omega arith; none_there = λ h. refl })

then_ticks : {B : Type 0} {f : ℕ → Parser B} (W : B → List ℕ → Type 0) (b : Bool) → ((x : ℕ) → FieldRead b x → Spells (f x) (λ c w. W c (field_of (bound_from b x) ++ w))) → Spells (ticks_if b >>= f) W
then_ticks W b h = spells_bind W (spells_ticks b) (λ x v e. rw e.0 (h x e.1))

-- ---- a step record: 00, 01, 02 or 05

record StepFound (first : Bool) (o : Operation) (w : List ℕ) : Type 0 where
  allowed : StepAllowed first o
  numbers : StepNumbers o
  sent : (w ≡ operation_bytes o) ⊎ ((o ≡ blank_operation) × (w ≡ 2 ∷ 0 ∷ 0 ∷ []))

-- What is read after the map m.
abbrev step_of : ℕ → ℕ → ℕ → Operation
step_of m ticks least = record { delay = delay_from (test_bit m 0) ticks; least = bound_from (test_bit m 2) least }

abbrev sent_of : ℕ → ℕ → ℕ → List ℕ
sent_of m ticks least = m ∷ (field_of (bound_from (test_bit m 1) ticks) ++ (field_of (bound_from (test_bit m 2) least) ++ []))

step_numbers : (m ticks least : ℕ) → ticks ≤ most_ticks → least ≤ most_ticks → StepNumbers (step_of m ticks least)
step_numbers m ticks least a b = record { duration = λ x e. delay_fits (test_bit m 0) ticks x a e; least = λ x e. bound_fits (test_bit m 2) least x b e }

-- The maps that are allowed.
which_map : (first : Bool) (m : ℕ) → operation_map first m ≡ true → (m ≡ 0) ⊎ (m ≡ 1) ⊎ (m ≡ 2) ⊎ (m ≡ 5)
unfolding operation_map
which_map true m h = inr (inl (eqb-true m 1 h))
which_map false m h = go (or_split (leb m 2) (eqb m 5) h) (same_or_not m 0) (same_or_not m 1)
  where
    go : (leb m 2 ≡ true) ⊎ (eqb m 5 ≡ true) → (m ≡ 0) ⊎ (m ≢ 0) → (m ≡ 1) ⊎ (m ≢ 1) → (m ≡ 0) ⊎ (m ≡ 1) ⊎ (m ≡ 2) ⊎ (m ≡ 5)
    go (inr h) a b = inr (inr (inr (eqb-true m 5 h)))
    go (inl h) (inl a) b = inl a
    go (inl h) (inr a) (inl b) = inr (inl b)
    go (inl h) (inr a) (inr b) = let l = leb-true m 2 h in inr (inr (inl (omega arith)))

-- The map is that of the step, and the bytes are those written of it, but for 02 00 00. By the four maps, and for 02 by whether the duration is 0.
abbrev AsSent : Bool → Operation → List ℕ → Type 0
AsSent first o w = StepAllowed first o × ((w ≡ operation_bytes o) ⊎ ((o ≡ blank_operation) × (w ≡ 2 ∷ 0 ∷ 0 ∷ [])))

module _ (first : Bool) (least : ℕ) where
  sent_0 : (ticks : ℕ) → ticks ≡ 0 → operation_map first 0 ≡ true → AsSent first (step_of 0 ticks least) (sent_of 0 ticks least)
  unfolding test_bit delay_from bound_from field_of operation_bytes operation_map_of open_bit bit_of duration_of
  sent_0 ticks z h = rw z (h, inl refl)

  sent_1 : (ticks : ℕ) → operation_map first 1 ≡ true → AsSent first (step_of 1 ticks least) (sent_of 1 ticks least)
  unfolding test_bit delay_from bound_from field_of operation_bytes operation_map_of open_bit bit_of duration_of
  sent_1 ticks h = (h, inl refl)

  sent_5 : (ticks : ℕ) → operation_map first 5 ≡ true → AsSent first (step_of 5 ticks least) (sent_of 5 ticks least)
  unfolding test_bit delay_from bound_from field_of operation_bytes operation_map_of open_bit bit_of duration_of
  sent_5 ticks h = (h, inl (ap (λ (l : List ℕ). 5 ∷ l) (append-nil (two_bytes_of least))))

sent_2 : (first : Bool) (ticks least : ℕ) → operation_map first 2 ≡ true → AsSent first (step_of 2 ticks least) (sent_of 2 ticks least)
unfolding test_bit delay_from bound_from field_of operation_bytes operation_map_of open_bit bit_of duration_of operation_map two_bytes_of
sent_2 true ticks least h = absurd (true≢false (sym h))
sent_2 false zero least h = (refl, inr (refl, refl))
sent_2 false (suc x) least h = (refl, inl refl)

as_sent : (first : Bool) (m ticks least : ℕ) → operation_map first m ≡ true → FieldRead (test_bit m 1) ticks → AsSent first (step_of m ticks least) (sent_of m ticks least)
unfolding test_bit
as_sent first m ticks least h t = go (which_map first m h)
  where
    go : (m ≡ 0) ⊎ (m ≡ 1) ⊎ (m ≡ 2) ⊎ (m ≡ 5) → AsSent first (step_of m ticks least) (sent_of m ticks least)
    go (inl e) = rw e (sent_0 first least ticks (t.none_there (rw e)) (rw e at h))
    go (inr (inl e)) = rw e (sent_1 first least ticks (rw e at h))
    go (inr (inr (inl e))) = rw e (sent_2 first ticks least (rw e at h))
    go (inr (inr (inr e))) = rw e (sent_5 first least ticks (rw e at h))

-- As the parser's text goes.
spells_operation : (first : Bool) → Spells (operation first) (StepFound first)
unfolding operation
spells_operation first =
    then_byte _
    (λ m small. then_demand _ (operation_map first m) 4
    (λ h. then_ticks _ (test_bit m 1)
    (λ ticks t. then_ticks _ (test_bit m 2)
    (λ least l. let r = as_sent first m ticks least h t in spells_give _ (step_of m ticks least) (record { allowed = r.0; numbers = step_numbers m ticks least t.few l.few; sent = r.1 })))))

-- ---- a link record

record LinkFound (n : ℕ) (previous : Previous) (l : Link) (w : List ℕ) : Type 0 where
  next : LinkNext n previous l
  numbers : LinkNumbers l
  sent : w ≡ link_bytes l

-- A map with no bit past 4 is the sum of its bits. Tried on every map.
abbrev summed : ℕ → ℕ
summed m = cond (test_bit m 0) 1 0 + cond (test_bit m 1) 2 0 + cond (test_bit m 2) 4 0 + cond (test_bit m 3) 8 0 + cond (test_bit m 4) 16 0

each_summed : all_below (λ m. eqb (summed m) m) 32 ≡ true
unfolding all_below test_bit
each_summed = refl

read_bit : (b : Bool) (x k : ℕ) → bit_of (bound_from b x) k ≡ cond b k 0
unfolding bit_of bound_from
read_bit true x k = refl
read_bit false x k = refl

four_in_a_row : (a b c d : List ℕ) → a ++ (b ++ (c ++ (d ++ []))) ≡ a ++ b ++ c ++ d
four_in_a_row a b c d = simp (append_assoc, append-nil)

-- What is read after the map m and the pair.
module _ (m i j least most gap latest : ℕ) where
  abbrev link_of : Link
  link_of = record { from = i; to = j; sequencing = test_bit m 0; minimum = bound_from (test_bit m 1) least; maximum = bound_from (test_bit m 2) most; gap = bound_from (test_bit m 3) gap; latest = bound_from (test_bit m 4) latest }

  map_back : link_map m ≡ true → link_map_of link_of ≡ m
  unfolding link_map link_map_of
  map_back h =
      let small = leb-true m 31 (and_split (leb 1 m) (leb m 31) (and_split (leb 1 m && leb m 31) (test_bit m 0 || not (test_bit m 3)) h).0).1 in
      rw (read_bit (test_bit m 1) least 2, read_bit (test_bit m 2) most 4, read_bit (test_bit m 3) gap 8, read_bit (test_bit m 4) latest 16) (eqb-true (summed m) m (all_below_each (λ m. eqb (summed m) m) 32 each_summed m (omega arith)))

  module _ (n : ℕ) (previous : Previous) (h4 : link_map m ≡ true) (h26 : sequenced m ≡ true) (h5 : endpoints n i j ≡ true) (h6 : rises previous i j ≡ true) where
    link_next : LinkNext n previous link_of
    link_next = record { allowed = record { map = ap link_map (map_back h4) ∙ h4; paired = ap sequenced (map_back h4) ∙ h26; ends = h5 }; up = h6 }

  link_sent : link_map m ≡ true → m ∷ i ∷ j ∷ (field_of link_of.minimum ++ (field_of link_of.maximum ++ (field_of link_of.gap ++ (field_of link_of.latest ++ [])))) ≡ link_bytes link_of
  unfolding link_bytes
  link_sent h = ap₂ (λ (k : ℕ) (l : List ℕ). k ∷ i ∷ j ∷ l) (sym (map_back h)) (four_in_a_row (field_of link_of.minimum) (field_of link_of.maximum) (field_of link_of.gap) (field_of link_of.latest))

  link_numbers : FieldRead (test_bit m 1) least → FieldRead (test_bit m 2) most → FieldRead (test_bit m 3) gap → FieldRead (test_bit m 4) latest → LinkNumbers link_of
  link_numbers a b c d = record {
    minimum = λ x e. bound_fits (test_bit m 1) least x a.few e;
    maximum = λ x e. bound_fits (test_bit m 2) most x b.few e;
    gap = λ x e. bound_fits (test_bit m 3) gap x c.few e;
    latest = λ x e. bound_fits (test_bit m 4) latest x d.few e;
  }

-- As the parser's text goes.
spells_link : (n : ℕ) (previous : Previous) → Spells (link n previous) (LinkFound n previous)
unfolding link
spells_link n previous =
    then_byte _
    (λ m small. then_demand _ (link_map m) 4
    (λ h4. then_demand _ (sequenced m) 26
    (λ h26. then_byte _
    (λ i bi. then_byte _
    (λ j bj. then_demand _ (endpoints n i j) 5
    (λ h5. then_demand _ (rises previous i j) 6
    (λ h6. then_ticks _ (test_bit m 1)
    (λ least a. then_ticks _ (test_bit m 2)
    (λ most b. then_ticks _ (test_bit m 3)
    (λ gap c. then_ticks _ (test_bit m 4)
    (λ latest d. spells_give _ (link_of m i j least most gap latest)
    (record { next = link_next m i j least most gap latest n previous h4 h26 h5 h6; numbers = link_numbers m i j least most gap latest a b c d; sent = link_sent m i j least most gap latest h4 }))))))))))))

-- ---- records in a row

-- The bytes of each, one after the other, in the state that the one before it leaves.
data Rows {A S : Type 0} (W : S → A → List ℕ → Type 0) (next : A → S) : S → List A → List ℕ → Type 0 where
  no_more : {state : S} → Rows W next state [] []
  one_more : {state : S} {x : A} {xs : List A} {v w : List ℕ} → W state x v → Rows W next (next x) xs w → Rows W next state (x ∷ xs) (v ++ w)

spells_records : {A S : Type 0} (W : S → A → List ℕ → Type 0) (item : S → Parser A) (next : A → S) → ((state : S) → Spells (item state) (W state)) → (k : ℕ) (state : S) → Spells (records item next k state) (λ xs w. (length xs ≡ k) × Rows W next state xs w)
unfolding records
spells_records W item next each zero state = spells_give _ [] (refl, no_more)
spells_records W item next each (suc k) state =
    spells_bind _ (each state)
    (λ x v h. spells_bind _ (spells_records W item next each k (next x))
    (λ xs w r. spells_give _ (x ∷ xs) (ap suc r.0, rw (append-nil w) (one_more h r.1))))

-- The steps: their maps pass, their numbers are of two bytes, and their bytes are as sent.
record StepsFound (first : Bool) (os : List Operation) (w : List ℕ) : Type 0 where
  mapped : steps_mapped first os ≡ true
  numbers : (o : Operation) → Memᴰ o os → StepNumbers o
  kept : ℕ
  sent : StepsSent os w kept

-- Induction on the rows.
steps_found : {first : Bool} {os : List Operation} {w : List ℕ} → Rows StepFound (λ o. false) first os w → StepsFound first os w
unfolding steps_mapped
steps_found no_more = record { mapped = refl; numbers = λ o m. absurd (Memᴰ.not-nil m); kept = 0; sent = none }
steps_found {first} (one_more {x = x} {xs = xs} {v = v} {w = w} h r) = go h.sent (steps_found r)
  where
    each : StepsFound false xs w → (o : Operation) → (o ≡ x) ⊎ Memᴰ o xs → StepNumbers o
    each R o (inl e) = rw e h.numbers
    each R o (inr i) = R.numbers o i

    go : (v ≡ operation_bytes x) ⊎ ((x ≡ blank_operation) × (v ≡ 2 ∷ 0 ∷ 0 ∷ [])) → StepsFound false xs w → StepsFound first (x ∷ xs) (v ++ w)
    go (inl e) R = record { mapped = and_join h.allowed R.mapped; numbers = λ o m. each R o (Memᴰ.cases_cons m); kept = R.kept; sent = rw e (plain x R.sent) }
    go (inr e) R = record { mapped = and_join h.allowed R.mapped; numbers = λ o m. each R o (Memᴰ.cases_cons m); kept = suc R.kept; sent = rw (e.0, e.1) (zero_kept R.sent) }

-- The link records: each is allowed, their pairs rise, and their bytes are those written of them.
record LinksFound (n : ℕ) (previous : Previous) (ls : List Link) (w : List ℕ) : Type 0 where
  allowed : (l : Link) → Memᴰ l ls → LinkAllowed n l
  numbers : (l : Link) → Memᴰ l ls → LinkNumbers l
  first : (l : Link) → Memᴰ l ls → rises previous l.from l.to ≡ true
  in_order : Rising PairBefore ls
  sent : w ≡ flat_map link_bytes ls

-- What comes after a pair that comes after the previous one comes after that too.
still_up : (previous : Previous) (x l : Link) → rises previous x.from x.to ≡ true → PairBefore x l → rises previous l.from l.to ≡ true
unfolding rises pair_of
still_up None x l h b = refl
still_up (Some (i, j)) x l h b = (before_iff y l).1 (before_trans y x l ((before_iff y x).0 h) b)
  where
    y : Link
    y = record { from = i; to = j; sequencing = false; minimum = None; maximum = None; gap = None; latest = None }

-- Induction on the rows: the first pair is before the next, and that one before all later.
links_found : {n : ℕ} {previous : Previous} {ls : List Link} {w : List ℕ} → Rows (LinkFound n) pair_of previous ls w → LinksFound n previous ls w
unfolding flat_map
links_found no_more = record { allowed = λ l m. absurd (Memᴰ.not-nil m); numbers = λ l m. absurd (Memᴰ.not-nil m); first = λ l m. absurd (Memᴰ.not-nil m); in_order = tt; sent = refl }
links_found {n} {previous} (one_more {x = x} {xs = xs} {v = v} {w = w} h r) = go (links_found r)
  where
    go : LinksFound n (pair_of x) xs w → LinksFound n previous (x ∷ xs) (v ++ w)
    go R = record {
      allowed = λ l m. allows l (Memᴰ.cases_cons m);
      numbers = λ l m. counts l (Memᴰ.cases_cons m);
      first = λ l m. follows l (Memᴰ.cases_cons m);
      in_order = (before, R.in_order);
      sent = ap₂ (λ (a b : List ℕ). a ++ b) h.sent R.sent;
    }
      where
        before : (l : Link) → Memᴰ l xs → PairBefore x l
        before l m = (before_iff x l).0 (R.first l m)

        allows : (l : Link) → (l ≡ x) ⊎ Memᴰ l xs → LinkAllowed n l
        allows l (inl e) = rw e h.next.allowed
        allows l (inr m) = R.allowed l m

        counts : (l : Link) → (l ≡ x) ⊎ Memᴰ l xs → LinkNumbers l
        counts l (inl e) = rw e h.numbers
        counts l (inr m) = R.numbers l m

        follows : (l : Link) → (l ≡ x) ⊎ Memᴰ l xs → rises previous l.from l.to ≡ true
        follows l (inl e) = rw e h.next.up
        follows l (inr m) = still_up previous x l h.next.up (before l m)

-- ---- the sheet

-- All of its bytes, and that its parts pass the writer's tests.
pub record SheetFound (q : Records) (w : List ℕ) : Type 0 where
  pub passing : Passing (length q.steps) (length q.pairs) q
  pub numbers : Numbers q
  pub in_order : Rising PairBefore q.pairs
  pub step_bytes : List ℕ
  pub kept : ℕ
  pub steps : StepsSent q.steps step_bytes kept
  pub sent : w ≡ length q.steps ∷ two_bytes_of (length q.pairs) ++ step_bytes ++ flat_map link_bytes q.pairs

spells_end : Spells at_end (λ u w. w ≡ [])
unfolding at_end
spells_end = record { each = go }
  where
    go : (s : List ℕ) → Bytes s → (t : Taken (Unit {0})) → at_end s ≡ given t → Front (λ u w. w ≡ []) s t
    go [] b t e = let z = given_same e in rw (← z) (record { front = []; whole = refl; says = refl })
    go (x ∷ s) b t e = absurd (given_not_refused (sym e))

-- The steps' bytes behind N and R, and then the records'.
sheet_found_by :
    (n r : ℕ) (os : List Operation) (ls : List Link) (u w v : List ℕ) → (leb 1 n && leb n most_steps) ≡ true → leb r most_records ≡ true → (length os ≡ n) × Rows StepFound (λ o. false) true os u → (length ls ≡ r) × Rows (LinkFound n) pair_of None ls w → v ≡ []
    → SheetFound (record { steps = os; pairs = ls }) (n ∷ (two_bytes_of r ++ (u ++ (w ++ (v ++ [])))))
sheet_found_by n r os ls u w v hn hr O L e =
    let S = steps_found O.1 in
    let K = links_found L.1 in
    let last : w ++ (v ++ []) ≡ flat_map link_bytes ls = rw e (append-nil w ∙ K.sent) in
    record {
      passing = rw (O.0, L.0) (record { count = hn; few = hr; steps = S.mapped; links = K.allowed; once = rising_once ls K.in_order });
      numbers = record { steps = S.numbers; links = K.numbers };
      in_order = K.in_order;
      step_bytes = u;
      kept = S.kept;
      steps = S.sent;
      sent = rw (O.0, L.0, last) (ap (λ (l : List ℕ). n ∷ l) (sym (append_assoc (two_bytes_of r) u (flat_map link_bytes ls))));
    }

spells_sheet : Spells sheet SheetFound
unfolding sheet operations links
spells_sheet =
    then_byte _
    (λ n small. then_demand _ (leb 1 n && leb n most_steps) 2
    (λ hn. then_two_bytes _
    (λ r few. then_demand _ (leb r most_records) 3
    (λ hr. spells_bind _ (spells_records StepFound operation (λ o. false) spells_operation n true)
    (λ os u O. spells_bind _ (spells_records (LinkFound n) (link n) pair_of (spells_link n) r None)
    (λ ls w L. spells_bind _ spells_end
    (λ e v z. spells_give _ (record { steps = os; pairs = ls }) (sheet_found_by n r os ls u w v hn hr O L z))))))))

-- Nothing is left of a sheet, since the end is seen last.
record Ends {A : Type 0} (p : Parser A) : Type 0 where
  each : (s : List ℕ) (t : Taken A) → p s ≡ given t → t.rest ≡ []

ends_bind : {A B : Type 0} (p : Parser A) {f : A → Parser B} → ((a : A) → Ends (f a)) → Ends (p >>= f)
ends_bind p {f} h = record { each = λ s t e. let r = when_given_has (p s) (λ u. f u.value u.rest) e in (h r.0.value).each r.0.rest t r.2 }

ends_end : {A : Type 0} (a : A) → Ends (at_end >> give a)
unfolding at_end when_given
ends_end {A} a = record { each = go }
  where
    go : (s : List ℕ) (t : Taken A) → (at_end >> give a) s ≡ given t → t.rest ≡ []
    go [] t e = ap (λ (u : Taken A). u.rest) (sym (given_same e))
    go (x ∷ s) t e = absurd (given_not_refused (sym e))

ends_sheet : Ends sheet
unfolding sheet
ends_sheet =
    ends_bind byte
    (λ n. ends_bind (demand (leb 1 n && leb n most_steps) 2)
    (λ u2. ends_bind two_bytes
    (λ r. ends_bind (demand (leb r most_records) 3)
    (λ u3. ends_bind (operations n)
    (λ os. ends_bind (links n r)
    (λ ls. ends_end (record { steps = os; pairs = ls })))))))

-- The theorem of this file.
pub sheet_found : (s : List ℕ) (q : Records) → IsSheet s q → SheetFound q s
unfolding read
sheet_found s q I =
    let r = when_given_has (sheet s) (λ t. given t.value) I.reads in
    let same : r.0.value ≡ q = given_same r.2 in
    let F = spells_sheet.each s I.bytes r.0 r.1 in
    let all : s ≡ F.front = F.whole ∙ ap (λ (l : List ℕ). F.front ++ l) (ends_sheet.each s r.0 r.1) ∙ append-nil F.front in
    subst (SheetFound q) (sym all) (rw same at F.says)

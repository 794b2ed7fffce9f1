-- What holds of a sheet that has been read, and of a refusal of reading: the limits of document 01 on its numbers of steps and records, its first step, its durations, the ends and ticks of its links, and the
-- order of its records.
-- A fact about each parser is carried through the parsers that are built from it, as their text goes.
use mathlib.Core.Path.{◌≡◌, refl, sym, ap, subst, ◌∙◌}
use Rattle.std.specs.Prelude.{None, Option, Some}
use Rattle.definitions.specs.Bytes.{Previous, Taken, Parser, ◌>>=◌, give, demand, byte, two_bytes, ticks_if, operation_map, delay_from, operation, link_map, sequenced, endpoints, rises, bound_from, link, records, operations, pair_of, links, at_end, Records, sheet, read, blank_operation}
use mathlib.Core.Bool.{Bool, true, false, not, ◌&&◌, ◌||◌, false≢true}
use mathlib.Core.Logic.{◌⊎◌, inl, inr, ◌≢◌}
use mathlib.Core.List.Memᴰ
use mathlib.Core.List.{List, [], ◌∷◌, Memᴰ}
use Prim.Native.Nat.{ℕ, zero, suc, ◌+◌, ◌*◌, ◌≤◌, ◌<◌}
use native.Mathlib.Omega.{arith}
use lib.Dec.{eqb, leb, ltb}
use native.Mathlib.Decide.{dec_lt}
use lib.ListN.{length, get_or, get_or-eq_default}
use borrow.Author.Tests.{ltb-true, leb-true, eqb-true, eqb-false, not-true}
use Rattle.definitions.specs.Limits.{most_steps, most_records, most_ticks}
use Rattle.definitions.specs.Basics.{all_below, test_bit, Outcome, given, refused, when_given}
use Rattle.definitions.specs.Links.{delay_at, least_at, least_with, ticks_said, sequencing_of, minimum_of, maximum_of, link_constraints}
use Rattle.definitions.specs.Clashes.{blank_link}
use Rattle.definitions.specs.declared.Delay.{Delay}
use Rattle.definitions.specs.declared.Delay.TheVariants.{Open, Fixed}
use Rattle.definitions.specs.declared.Operation.{Operation}
use Rattle.definitions.specs.declared.Link.{Link}
use Rattle.laws.proofs.Bools.{and_split, or_split}
use Rattle.laws.proofs.Lists.{mem_at}
use Rattle.laws.proofs.Outcomes.{given_same, given_not_refused, refused_same, when_given_has}
use Rattle.laws.proofs.Tests.{all_below_each}
use Rattle.theory.proofs.DelayLimits.{least_past}
use Rattle.demands.specs.Demands.{Bytes, FromReading, IsSheet}
use Rattle.demands.specs.Parts.{rank, Ordered}

-- Whatever a parser takes from bytes has the property P, and bytes are left; whatever it refuses with is a refusal of reading.
pub record Takes {A : Type 0} (p : Parser A) (P : A → Type 0) : Type 0 where
  pub each : (s : List ℕ) → Bytes s → (t : Taken A) → p s ≡ given t → P t.value × Bytes t.rest
  pub most : (s : List ℕ) → Bytes s → (k : ℕ) → p s ≡ refused k → FromReading k

pub takes_give : {A : Type 0} {P : A → Type 0} (a : A) → P a → Takes (give a) P
takes_give {P = P} a h = record { each = λ s b t e. let z = given_same e in (rw (← z) h, rw (← z) b); most = λ s b k e. absurd (given_not_refused e) }

pub takes_bind : {A B : Type 0} {p : Parser A} {f : A → Parser B} {P : A → Type 0} {Q : B → Type 0} → Takes p P → ((a : A) → P a → Takes (f a) Q) → Takes (p >>= f) Q
unfolding when_given
takes_bind {A} {B} {p} {f} {P} {Q} g h = record { each = λ s b t e. taken s b t (p s) refl e; most = λ s b k e. refuses s b k (p s) refl e }
  where
    taken : (s : List ℕ) → Bytes s → (t : Taken B) (o : Outcome (Taken A)) → p s ≡ o → when_given o (λ u. f u.value u.rest) ≡ given t → Q t.value × Bytes t.rest
    taken s b t (given u) e i = let r = g.each s b u e in (h u.value r.0).each u.rest r.1 t i
    taken s b t (refused k) e i = absurd (given_not_refused (sym i))

    refuses : (s : List ℕ) → Bytes s → (k : ℕ) (o : Outcome (Taken A)) → p s ≡ o → when_given o (λ u. f u.value u.rest) ≡ refused k → FromReading k
    refuses s b k (given u) e i = let r = g.each s b u e in (h u.value r.0).most u.rest r.1 k i
    refuses s b k (refused l) e i = subst FromReading (refused_same i) (g.most s b l e)

pub takes_demand : (b : Bool) (k : ℕ) → FromReading k → Takes (demand b k) (λ u. b ≡ true)
unfolding demand
takes_demand true k h = takes_give tt refl
takes_demand false k h = record { each = λ s b t e. absurd (given_not_refused (sym e)); most = λ s b l e. subst FromReading (refused_same e) h }

pub takes_byte : Takes byte (λ b. b < 256)
unfolding byte
takes_byte = record { each = taken; most = refuses }
  where
    taken : (s : List ℕ) → Bytes s → (t : Taken ℕ) → byte s ≡ given t → (t.value < 256) × Bytes t.rest
    taken [] b t e = absurd (given_not_refused (sym e))
    taken (x ∷ s) b t e =
        let z = given_same e in
        (rw (← z) (b x (Memᴰ.head refl)), rw (← z) (λ c m. b c (Memᴰ.tail m)))

    refuses : (s : List ℕ) → Bytes s → (k : ℕ) → byte s ≡ refused k → FromReading k
    refuses [] b k e = subst FromReading (refused_same e) (inl (omega arith))
    refuses (x ∷ s) b k e = absurd (given_not_refused e)

pub takes_two_bytes : Takes two_bytes (λ x. x ≤ most_ticks)
unfolding two_bytes
takes_two_bytes = takes_bind takes_byte (λ low l. takes_bind takes_byte (λ high h. takes_give (low + 256 * high) (omega arith)))

pub takes_ticks : (b : Bool) → Takes (ticks_if b) (λ x. x ≤ most_ticks)
unfolding ticks_if
takes_ticks true = takes_two_bytes
takes_ticks false = takes_give 0 (omega arith)

pub bound_fits : (b : Bool) (ticks x : ℕ) → ticks ≤ most_ticks → bound_from b ticks ≡ Some x → x ≤ most_ticks
unfolding bound_from
bound_fits true ticks x h e = let z : ticks ≡ x = cc in omega arith
bound_fits false ticks x h e = let z : ◌≡◌ {A = ℕ} 0 1 = cc in absurd (omega arith)

-- A step record: the first one is open, and a fixed or least duration is of two bytes.
pub record OperationFits (first : Bool) (o : Operation) : Type 0 where
  pub source : first ≡ true → o.delay ≡ Open
  pub ticks : (x : ℕ) → o.delay ≡ Fixed x → x ≤ most_ticks
  pub least_few : (x : ℕ) → o.least ≡ Some x → x ≤ most_ticks

pub delay_fits : (b : Bool) (ticks x : ℕ) → ticks ≤ most_ticks → delay_from b ticks ≡ Fixed x → x ≤ most_ticks
unfolding delay_from
delay_fits true ticks x h e = let z : ◌≡◌ {A = ℕ} 0 1 = cc in absurd (omega arith)
delay_fits false ticks x h e = let z : ticks ≡ x = cc in omega arith

source_open : (first : Bool) (m ticks : ℕ) → operation_map first m ≡ true → first ≡ true → delay_from (test_bit m 0) ticks ≡ Open
unfolding operation_map test_bit delay_from
source_open true m ticks h e = rw (eqb-true m 1 h)
source_open false m ticks h e = let z : ◌≡◌ {A = ℕ} 0 1 = cc in absurd (omega arith)

takes_operation : (first : Bool) → Takes (operation first) (OperationFits first)
unfolding operation
takes_operation first =
    takes_bind takes_byte
    (λ m bm. takes_bind (takes_demand (operation_map first m) 4 (inl (omega arith)))
    (λ u allowed. takes_bind (takes_ticks (test_bit m 1))
    (λ ticks few. takes_bind (takes_ticks (test_bit m 2))
    (λ least few-least.
    takes_give
    (record { delay = delay_from (test_bit m 0) ticks; least = bound_from (test_bit m 2) least })
    (record { source = source_open first m ticks allowed; ticks = λ x e. delay_fits (test_bit m 0) ticks x few e; least_few = λ x e. bound_fits (test_bit m 2) least x few-least e })))))

-- A link record: both ends are steps, and differ; its ticks are of two bytes.
pub record LinkFits (n : ℕ) (l : Link) : Type 0 where
  pub from_below : l.from < n
  pub to_below : l.to < n
  pub apart : l.from ≢ l.to
  pub minimum_few : (m : ℕ) → l.minimum ≡ Some m → m ≤ most_ticks
  pub maximum_few : (u : ℕ) → l.maximum ≡ Some u → u ≤ most_ticks
  pub gap_few : (g : ℕ) → l.gap ≡ Some g → g ≤ most_ticks
  pub latest_few : (u : ℕ) → l.latest ≡ Some u → u ≤ most_ticks

pub endpoints_fit : (n i j : ℕ) → endpoints n i j ≡ true → (i < n) × (j < n) × (i ≢ j)
unfolding endpoints
endpoints_fit n i j h =
    let r = and_split (ltb i n && ltb j n) (not (eqb i j)) h in
    let s = and_split (ltb i n) (ltb j n) r.0 in
    (ltb-true i n s.0, ltb-true j n s.1, eqb-false i j (not-true (eqb i j) r.1))

-- A map that is allowed has bit 0, 1 or 2: bits 3 and 4 come with bit 0. Tried on every byte.
abbrev says_something : ℕ → Bool
says_something m = not (link_map m && sequenced m) || (test_bit m 0 || test_bit m 1 || test_bit m 2)

each_says : all_below says_something 256 ≡ true
unfolding all_below link_map sequenced test_bit
each_says = refl

-- So the record has a link.
map_said : (m : ℕ) → m < 256 → link_map m ≡ true → sequenced m ≡ true → (test_bit m 0 || test_bit m 1 || test_bit m 2) ≡ true
map_said m b h k = rw (h, k) at (all_below_each says_something 256 each_says m b)

some_link : (after least most : Bool) (i j x y : ℕ) (gap latest : Option ℕ) → (after || least || most) ≡ true → 1 ≤ length (link_constraints (record { from = i; to = j; sequencing = after; minimum = bound_from least x; maximum = bound_from most y; gap = gap; latest = latest }))
unfolding link_constraints sequencing_of minimum_of maximum_of bound_from
some_link true least most i j x y gap latest h = omega arith
some_link false true most i j x y gap latest h = omega arith
some_link false false true i j x y gap latest h = omega arith
some_link false false false i j x y gap latest h = absurd (false≢true h)

-- What is read of a link record: it fits, its pair comes after the one before it, and it has a link.
pub record LinkRead (n : ℕ) (previous : Previous) (l : Link) : Type 0 where
  pub fits : LinkFits n l
  pub up : rises previous l.from l.to ≡ true
  pub some : 1 ≤ length (link_constraints l)

takes_link : (n : ℕ) (previous : Previous) → Takes (link n previous) (LinkRead n previous)
unfolding link
takes_link n previous =
    takes_bind takes_byte
    (λ m bm. takes_bind (takes_demand (link_map m) 4 (inl (omega arith)))
    (λ u4 allowed. takes_bind (takes_demand (sequenced m) 26 (inr refl))
    (λ u26 paired. takes_bind takes_byte
    (λ i bi. takes_bind takes_byte
    (λ j bj. takes_bind (takes_demand (endpoints n i j) 5 (inl (omega arith)))
    (λ u5 ends. takes_bind (takes_demand (rises previous i j) 6 (inl (omega arith)))
    (λ u6 up. takes_bind (takes_ticks (test_bit m 1))
    (λ least few-least. takes_bind (takes_ticks (test_bit m 2))
    (λ most few-most. takes_bind (takes_ticks (test_bit m 3))
    (λ gap few-gap. takes_bind (takes_ticks (test_bit m 4))
    (λ latest few-latest.
    let r = endpoints_fit n i j ends in
    takes_give
    (record { from = i; to = j; sequencing = test_bit m 0; minimum = bound_from (test_bit m 1) least; maximum = bound_from (test_bit m 2) most; gap = bound_from (test_bit m 3) gap; latest = bound_from (test_bit m 4) latest })
    (record {
      fits = record { from_below = r.0; to_below = r.1; apart = r.2; minimum_few = λ x e. bound_fits (test_bit m 1) least x few-least e; maximum_few = λ x e. bound_fits (test_bit m 2) most x few-most e; gap_few = λ x e. bound_fits (test_bit m 3) gap x few-gap e; latest_few = λ x e. bound_fits (test_bit m 4) latest x few-latest e };
      up = up;
      some = some_link (test_bit m 0) (test_bit m 1) (test_bit m 2) i j least most _ _ (map_said m bm allowed paired);
    }))))))))))))

-- Records in a row: as many as are asked for, each with its property in the state that the one before it leaves. Induction on their number.
module _ {A S : Type 0} (P : S → A → Type 0) (next : A → S) where
  abbrev pub Row : S → List A → Type 0
  Row state [] = Unit {0}
  Row state (x ∷ xs) = P state x × Row (next x) xs

  pub takes_records : (item : S → Parser A) → ((state : S) → Takes (item state) (P state)) → (k : ℕ) (state : S) → Takes (records item next k state) (λ xs. (length xs ≡ k) × Row state xs)
  unfolding records
  takes_records item fits zero state = takes_give [] (refl, tt)
  takes_records item fits (suc k) state =
      takes_bind (fits state) (λ x h. takes_bind (takes_records item fits k (next x)) (λ xs r. takes_give (x ∷ xs) (ap suc r.0, (h, r.1))))

  pub row_each : (Q : A → Type 0) → ((state : S) (x : A) → P state x → Q x) → (state : S) (xs : List A) → Row state xs → (x : A) → Memᴰ x xs → Q x
  row_each Q f state [] r x m = absurd (Memᴰ.not-nil m)
  row_each Q f state (y ∷ xs) r x m = go (Memᴰ.cases_cons m) (row_each Q f (next y) xs r.1 x)
    where
      go : (x ≡ y) ⊎ Memᴰ x xs → (Memᴰ x xs → Q x) → Q x
      go (inl e) below = rw e (f state y r.0)
      go (inr i) below = below i

-- What document 01 says of the records of a sheet.
pub record Fits (q : Records) : Type 0 where
  pub some : 1 ≤ length q.steps
  pub few : length q.steps ≤ most_steps
  pub source : delay_at q.steps 0 ≡ Open
  pub ticks : (i x : ℕ) → delay_at q.steps i ≡ Fixed x → x ≤ most_ticks
  pub leasts : (i : ℕ) → least_at q.steps i ≤ most_ticks
  pub links : (l : Link) → Memᴰ l q.pairs → LinkFits (length q.steps) l

first_open : (os : List Operation) → 1 ≤ length os → Row OperationFits (λ o. false) true os → delay_at os 0 ≡ Open
unfolding delay_at
first_open [] h r = absurd (omega arith)
first_open (o ∷ os) h r = r.0.source refl

each_few : (os : List Operation) → Row OperationFits (λ o. false) true os → (i x : ℕ) → delay_at os i ≡ Fixed x → x ≤ most_ticks
unfolding delay_at
each_few os r i x e = go (dec_lt i (length os))
  where
    go : Dec (i < length os) → x ≤ most_ticks
    go (yes h) =
        row_each OperationFits (λ o. false) (λ o. (x : ℕ) → o.delay ≡ Fixed x → x ≤ most_ticks) (λ state o f. f.ticks) true os r (get_or os i blank_operation) (mem_at os i blank_operation h) x e
    go (no h) =
        let past : get_or os i blank_operation ≡ blank_operation = get_or-eq_default os blank_operation (omega arith) in
        let same : Fixed 0 ≡ Fixed x = sym (ap (λ (o : Operation). o.delay) past) ∙ e in
        let none : 0 ≡ x = cc in
        omega arith

-- A least is 0 or what its field says.
least_within : (i : ℕ) (x : Delay) (b : Option ℕ) → ((t : ℕ) → b ≡ Some t → t ≤ most_ticks) → least_with i x b ≤ most_ticks
unfolding least_with ticks_said
least_within zero Open b h = omega arith
least_within (suc i) Open None h = omega arith
least_within (suc i) Open (Some t) h = h t refl
least_within zero (Fixed x) b h = omega arith
least_within (suc i) (Fixed x) b h = omega arith

each_least : (os : List Operation) → Row OperationFits (λ o. false) true os → (i : ℕ) → least_at os i ≤ most_ticks
each_least os r i = go (dec_lt i (length os))
  where
    go : Dec (i < length os) → least_at os i ≤ most_ticks
    go (yes h) = unfold least_at in least_within i (delay_at os i) (get_or os i blank_operation).least (row_each OperationFits (λ o. false) (λ o. (x : ℕ) → o.least ≡ Some x → x ≤ most_ticks) (λ state o f. f.least_few) true os r (get_or os i blank_operation) (mem_at os i blank_operation h))
    go (no h) = omega (arith, least_past os i (omega arith))

-- n step records, and r link records.
abbrev StepRow : ℕ → List Operation → Type 0
StepRow n os = (length os ≡ n) × Row OperationFits (λ o. false) true os

abbrev LinkRow : ℕ → ℕ → List Link → Type 0
LinkRow n r ls = (length ls ≡ r) × Row (LinkRead n) pair_of None ls

pub takes_operations : (n : ℕ) → Takes (operations n) (StepRow n)
unfolding operations
takes_operations n = takes_records OperationFits (λ o. false) operation takes_operation n true

pub takes_links : (n r : ℕ) → Takes (links n r) (LinkRow n r)
unfolding links
takes_links n r = takes_records (LinkRead n) pair_of (link n) (takes_link n) r None

pub takes_end : Takes at_end (λ u. Unit {0})
unfolding at_end
takes_end = record { each = taken; most = refuses }
  where
    taken : (s : List ℕ) → Bytes s → (t : Taken (Unit {0})) → at_end s ≡ given t → Unit {0} × Bytes t.rest
    taken [] b t e = let z = given_same e in (tt, rw (← z) b)
    taken (x ∷ s) b t e = absurd (given_not_refused (sym e))

    refuses : (s : List ℕ) → Bytes s → (k : ℕ) → at_end s ≡ refused k → FromReading k
    refuses [] b k e = absurd (given_not_refused e)
    refuses (x ∷ s) b k e = subst FromReading (refused_same e) (inl (omega arith))

fits_by : (n r : ℕ) (os : List Operation) (ls : List Link) → (leb 1 n && leb n most_steps) ≡ true → StepRow n os → LinkRow n r ls → Fits (record { steps = os; pairs = ls })
fits_by n r os ls hn O L =
    let c = and_split (leb 1 n) (leb n most_steps) hn in
    let low = leb-true 1 n c.0 in
    let high = leb-true n most_steps c.1 in
    let links_fit = row_each (LinkRead n) pair_of (LinkFits n) (λ state x h. h.fits) None ls L.1 in
    record { some = omega (arith, O.0); few = omega (arith, O.0); source = first_open os (omega (arith, O.0)) O.1; ticks = each_few os O.1; leasts = each_least os O.1; links = λ l m. rw O.0 (links_fit l m) }

-- Pairs that rise have rising ranks, since no step is 64 or more.
rank_up : (n : ℕ) (x y : Link) → n ≤ most_steps → LinkFits n x → LinkRead n (pair_of x) y → rank x < rank y
unfolding rises pair_of
rank_up n x y few fx ry = go (or_split (ltb x.from y.from) (eqb x.from y.from && ltb x.to y.to) ry.up)
  where
    go : (ltb x.from y.from ≡ true) ⊎ ((eqb x.from y.from && ltb x.to y.to) ≡ true) → rank x < rank y
    go (inl h) = omega (arith, fx.to_below, ltb-true x.from y.from h)
    go (inr h) = let r = and_split (eqb x.from y.from) (ltb x.to y.to) h in omega (arith, eqb-true x.from y.from r.0, ltb-true x.to y.to r.1)

ranks_up : (n : ℕ) → n ≤ most_steps → (previous : Previous) (ls : List Link) → Row (LinkRead n) pair_of previous ls → (k : ℕ) → suc k < length ls → rank (get_or ls k blank_link) < rank (get_or ls (suc k) blank_link)
ranks_up n few previous [] r k h = absurd (omega arith)
ranks_up n few previous (x ∷ []) r k h = absurd (omega arith)
ranks_up n few previous (x ∷ y ∷ ls) r zero h = rank_up n x y few r.0.fits r.1.0
ranks_up n few previous (x ∷ y ∷ ls) r (suc k) h = ranks_up n few (pair_of x) (y ∷ ls) r.1 k (omega arith)

ordered_by : (n r : ℕ) (ls : List Link) → n ≤ most_steps → LinkRow n r ls → Ordered ls
ordered_by n r ls few L = record {
  rises = ranks_up n few None ls L.1;
  some = λ k h. row_each (LinkRead n) pair_of (λ l. 1 ≤ length (link_constraints l)) (λ state l R. R.some) None ls L.1 (get_or ls k blank_link) (mem_at ls k blank_link h);
}

-- What is read of a sheet: that what a part of its records keeps, and what only the whole has.
pub record SheetRead (q : Records) : Type 0 where
  pub fits : Fits q
  pub ordered : Ordered q.pairs
  pub few_records : length q.pairs ≤ most_records

takes_sheet : Takes sheet SheetRead
unfolding sheet
takes_sheet =
    takes_bind takes_byte
    (λ n bn. takes_bind (takes_demand (leb 1 n && leb n most_steps) 2 (inl (omega arith)))
    (λ u2 hn. takes_bind takes_two_bytes
    (λ r br. takes_bind (takes_demand (leb r most_records) 3 (inl (omega arith)))
    (λ u3 hr. takes_bind (takes_operations n)
    (λ os O. takes_bind (takes_links n r)
    (λ ls L. takes_bind takes_end
    (λ u7 e7.
    let few = leb-true n most_steps (and_split (leb 1 n) (leb n most_steps) hn).1 in
    takes_give (record { steps = os; pairs = ls }) (record { fits = fits_by n r os ls hn O L; ordered = ordered_by n r ls few L; few_records = omega (arith, L.0, leb-true r most_records hr) }))))))))

-- The theorems of this file.
sheet_read : (s : List ℕ) (q : Records) → Bytes s → read s ≡ given q → SheetRead q
unfolding read
sheet_read s q b e =
    let r = when_given_has (sheet s) (λ t. given t.value) e in
    let same : r.0.value ≡ q = given_same r.2 in
    rw same at (takes_sheet.each s b r.0 r.1).0

pub read_fits : (s : List ℕ) (q : Records) → Bytes s → read s ≡ given q → Fits q
read_fits s q b e = (sheet_read s q b e).fits

pub fits_of : {s : List ℕ} {q : Records} → IsSheet s q → Fits q
fits_of {s} {q} sheet = read_fits s q sheet.bytes sheet.reads

pub read_ordered : {s : List ℕ} {q : Records} → IsSheet s q → Ordered q.pairs
read_ordered {s} {q} sheet = (sheet_read s q sheet.bytes sheet.reads).ordered

pub record_count : {s : List ℕ} {q : Records} → IsSheet s q → length q.pairs ≤ most_records
record_count {s} {q} sheet = (sheet_read s q sheet.bytes sheet.reads).few_records

pub read_most : (s : List ℕ) (k : ℕ) → Bytes s → read s ≡ refused k → FromReading k
unfolding read when_given
read_most s k b e = go (sheet s) refl e
  where
    go : (o : Outcome (Taken Records)) → sheet s ≡ o → when_given o (λ t. given t.value) ≡ refused k → FromReading k
    go (given t) h i = absurd (given_not_refused i)
    go (refused l) h i = subst FromReading (refused_same i) (takes_sheet.most s b l h)

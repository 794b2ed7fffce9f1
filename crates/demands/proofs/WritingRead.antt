-- Request L4: what is written is read back. Each parser, lent the bytes that are written of a part with anything behind them, gives that part and leaves what is behind.
use mathlib.Core.Path.{◌≡◌, refl}
use Rattle.std.specs.Prelude.{None, Option, Some}
use Rattle.definitions.specs.Bytes.{Previous, Taken, Parser, demand, byte, two_bytes, ticks_if, operation_map, delay_from, operation, bound_from, link_map, sequenced, endpoints, rises, link, records, operations, pair_of, links, at_end, Records, sheet, read}
use mathlib.Core.Bool.{Bool, true, false, cond, ◌&&◌}
use mathlib.Core.List.{List, [], ◌∷◌, ◌++◌, append_assoc, append-nil, flat_map, Memᴰ}
use Prim.Native.Nat.{ℕ, zero, suc, ◌+◌, ◌*◌, ◌/◌, ◌%◌, ◌^◌, ◌≤◌}
use native.Mathlib.Omega.{arith}
use lib.Dec.{leb}
use lib.ListN.{length}
use Rattle.definitions.specs.Limits.{most_steps, most_records}
use Rattle.definitions.specs.Basics.{test_bit, Outcome, given, when_given}
use Rattle.definitions.specs.Links.{ticks_said, is_open}
use Rattle.definitions.specs.Writer.{two_bytes_of, field_of, bit_of, duration_of, open_bit, operation_map_of, operation_bytes, link_map_of, link_bytes, rising, sheet_bytes, steps_mapped, comes_twice}
use Rattle.definitions.specs.declared.Delay.{Delay}
use Rattle.definitions.specs.declared.Delay.TheVariants.{Open, Fixed}
use Rattle.definitions.specs.declared.Operation.{Operation}
use Rattle.definitions.specs.declared.Link.{Link}
use Rattle.laws.proofs.Bools.{and_split}
use Rattle.laws.proofs.Outcomes.{when_given_by}
use Rattle.demands.specs.Demands.{Rising}
use Rattle.demands.specs.Writing.{PairBefore, in_rising_order}
use Rattle.demands.proofs.Reading.{Row}
use Rattle.demands.proofs.WritingOrder.{before_iff, rising_mem, rising_length, rising_up}

-- What a parser gives that takes a value and leaves a rest.
abbrev pub taken : {A : Type 0} → A → List ℕ → Outcome (Taken A)
taken a rest = given (record { value = a; rest = rest })

-- ---- a field

-- Whether a field is there; and a digit of a map.
unfoldable pub there : Option ℕ → Bool
there None = false
there (Some x) = true

abbrev pub flag : Bool → ℕ
flag b = cond b 1 0

pub flag_small : (b : Bool) → flag b ≤ 1
flag_small true = omega arith
flag_small false = omega arith

reads_two_bytes : (x : ℕ) (rest : List ℕ) → two_bytes (two_bytes_of x ++ rest) ≡ taken x rest
unfolding two_bytes two_bytes_of byte when_given
reads_two_bytes x rest = let e : x % 256 + 256 * (x / 256) ≡ x = omega arith in rw e

-- A field that is there is read, one that is not takes no byte; and what is read is the field.
reads_field : (b : Option ℕ) (rest : List ℕ) → ticks_if (there b) (field_of b ++ rest) ≡ taken (ticks_said b) rest
unfolding there ticks_if field_of ticks_said
reads_field None rest = refl
reads_field (Some x) rest = reads_two_bytes x rest

pub bound_back : (b : Option ℕ) → bound_from (there b) (ticks_said b) ≡ b
unfolding there bound_from ticks_said
bound_back None = refl
bound_back (Some x) = refl

-- ---- maps: each bit says whether its field is there

digit_bit : (m k : ℕ) (b : Bool) → m / 2 ^ k % 2 ≡ flag b → test_bit m k ≡ b
unfolding test_bit
digit_bit m k true e = rw e
digit_bit m k false e = rw e

-- A map that is the sum of its five digits.
pub record Digits (m : ℕ) (a b c d e : Bool) : Type 0 where
  pub sum : m ≡ flag a + 2 * flag b + 4 * flag c + 8 * flag d + 16 * flag e

module _ {m : ℕ} {a b c d e : Bool} (digits : Digits m a b c d e) where
  pub bit_0 : test_bit m 0 ≡ a
  bit_0 = digit_bit m 0 a (omega (arith, digits.sum, flag_small a))

  pub bit_1 : test_bit m 1 ≡ b
  bit_1 = digit_bit m 1 b (omega (arith, digits.sum, flag_small a, flag_small b))

  pub bit_2 : test_bit m 2 ≡ c
  bit_2 = digit_bit m 2 c (omega (arith, digits.sum, flag_small a, flag_small b, flag_small c))

  pub bit_3 : test_bit m 3 ≡ d
  bit_3 = digit_bit m 3 d (omega (arith, digits.sum, flag_small a, flag_small b, flag_small c, flag_small d))

  pub bit_4 : test_bit m 4 ≡ e
  bit_4 = digit_bit m 4 e (omega (arith, digits.sum, flag_small a, flag_small b, flag_small c, flag_small d, flag_small e))

bit_flag : (b : Option ℕ) (k : ℕ) → bit_of b k ≡ k * flag (there b)
unfolding bit_of there
bit_flag None k = omega arith
bit_flag (Some x) k = omega arith

open_flag : (x : Delay) → open_bit x ≡ flag (is_open x)
unfolding open_bit is_open
open_flag Open = refl
open_flag (Fixed x) = refl

-- Of a step: open, a fixed duration, a least. Of a record: after, at least, at most, the gap, at most from the finish.
pub step_digits : (o : Operation) → Digits (operation_map_of o) (is_open o.delay) (there (duration_of o.delay)) (there o.least) false false
unfolding operation_map_of
step_digits o = record { sum = omega (arith, open_flag o.delay, bit_flag (duration_of o.delay) 2, bit_flag o.least 4) }

pub link_digits : (l : Link) → Digits (link_map_of l) l.sequencing (there l.minimum) (there l.maximum) (there l.gap) (there l.latest)
unfolding link_map_of
link_digits l = record { sum = omega (arith, bit_flag l.minimum 2, bit_flag l.maximum 4, bit_flag l.gap 8, bit_flag l.latest 16) }

-- ---- a step record

-- A duration that is left out is 0.
delay_back : (x : Delay) → delay_from (is_open x) (ticks_said (duration_of x)) ≡ x
unfolding delay_from is_open ticks_said duration_of
delay_back Open = refl
delay_back (Fixed zero) = refl
delay_back (Fixed (suc x)) = refl

abbrev pub StepAllowed : Bool → Operation → Type 0
StepAllowed first o = operation_map first (operation_map_of o) ≡ true

reads_operation : (first : Bool) (o : Operation) → StepAllowed first o → (rest : List ℕ) → operation first (operation_bytes o ++ rest) ≡ taken o rest
unfolding operation operation_bytes byte when_given demand
reads_operation first o h rest =
    let D = step_digits o in
    let fixed = field_of (duration_of o.delay) in
    let least = field_of o.least in
    rw (h, bit_0 D, bit_1 D, bit_2 D, append_assoc fixed least rest, reads_field (duration_of o.delay), reads_field o.least, delay_back, bound_back)

-- ---- a link record

pub record LinkAllowed (n : ℕ) (l : Link) : Type 0 where
  pub map : link_map (link_map_of l) ≡ true
  pub paired : sequenced (link_map_of l) ≡ true
  pub ends : endpoints n l.from l.to ≡ true

-- And its pair comes after the one before it.
pub record LinkNext (n : ℕ) (previous : Previous) (l : Link) : Type 0 where
  pub allowed : LinkAllowed n l
  pub up : rises previous l.from l.to ≡ true

reads_link : (n : ℕ) (previous : Previous) (l : Link) → LinkNext n previous l → (rest : List ℕ) → link n previous (link_bytes l ++ rest) ≡ taken l rest
unfolding link link_bytes byte when_given demand
reads_link n previous l A rest =
    let D = link_digits l in
    let least = field_of l.minimum in
    let most = field_of l.maximum in
    let gap = field_of l.gap in
    let latest = field_of l.latest in
    rw (A.allowed.map, A.allowed.paired, A.allowed.ends, A.up, bit_0 D, bit_1 D, bit_2 D, bit_3 D, bit_4 D)
    (rw (append_assoc (least ++ most ++ gap) latest rest, append_assoc (least ++ most) gap (latest ++ rest), append_assoc least most (gap ++ (latest ++ rest)))
    (rw (reads_field l.minimum, reads_field l.maximum, reads_field l.gap, reads_field l.latest, bound_back l.minimum, bound_back l.maximum, bound_back l.gap, bound_back l.latest)))

-- ---- records in a row: induction on the list

reads_records :
    {A S : Type 0} (item : S → Parser A) (next : A → S) (bytes : A → List ℕ) (P : S → A → Type 0)
    → ((state : S) (x : A) → P state x → (rest : List ℕ) → item state (bytes x ++ rest) ≡ taken x rest)
    → (state : S) (xs : List A) → Row P next state xs → (rest : List ℕ) → records item next (length xs) state (flat_map bytes xs ++ rest) ≡ taken xs rest
unfolding records flat_map when_given
reads_records item next bytes P each state [] r rest = refl
reads_records item next bytes P each state (x ∷ xs) r rest =
    rw (append_assoc (bytes x) (flat_map bytes xs) rest, each state x r.0 (flat_map bytes xs ++ rest), reads_records item next bytes P each (next x) xs r.1 rest)

steps_row : (first : Bool) (os : List Operation) → steps_mapped first os ≡ true → Row StepAllowed (λ o. false) first os
unfolding steps_mapped
steps_row first [] h = tt
steps_row first (o ∷ os) h = let r = and_split (operation_map first (operation_map_of o)) (steps_mapped false os) h in (r.0, steps_row false os r.1)

links_row :
    (n : ℕ) (previous : Previous) (ls : List Link) → ((l : Link) → Memᴰ l ls → LinkAllowed n l) → ((l : Link) → Memᴰ l ls → rises previous l.from l.to ≡ true) → Rising PairBefore ls
    → Row (LinkNext n) pair_of previous ls
links_row n previous [] each first up = tt
links_row n previous (l ∷ ls) each first up = (
  record { allowed = each l (Memᴰ.head refl); up = first l (Memᴰ.head refl) },
  links_row n (pair_of l) ls (λ m i. each m (Memᴰ.tail i)) (λ m i. (before_iff l m).1 (up.0 m i)) up.1,
)

-- ---- the sheet

-- The tests for 2, 3, 4, 26, 5 and 6 fail.
pub record Passing (n r : ℕ) (q : Records) : Type 0 where
  pub count : (leb 1 n && leb n most_steps) ≡ true
  pub few : leb r most_records ≡ true
  pub steps : steps_mapped true q.steps ≡ true
  pub links : (l : Link) → Memᴰ l q.pairs → LinkAllowed n l
  pub once : comes_twice q.pairs ≡ false

reads_sheet : (q : Records) → Passing (length q.steps) (length q.pairs) q → sheet (sheet_bytes q) ≡ taken (in_rising_order q) []
unfolding sheet sheet_bytes byte when_given demand operations links at_end rises
reads_sheet q P =
    let n = length q.steps in
    let r = length q.pairs in
    let ls = rising q.pairs in
    let steps = flat_map operation_bytes q.steps in
    let row = links_row n None ls (λ l m. P.links l (rising_mem q.pairs m)) (λ l m. refl) (rising_up q.pairs P.once) in
    let read_links : records (link n) pair_of r None (flat_map link_bytes ls) ≡ taken ls [] = rw (← (append-nil (flat_map link_bytes ls)), ← (rising_length q.pairs)) (reads_records (link n) pair_of link_bytes (LinkNext n) (reads_link n) None ls row []) in
    rw (P.count, append_assoc (two_bytes_of r) steps (flat_map link_bytes ls), reads_two_bytes r, P.few, reads_records operation (λ o. false) operation_bytes StepAllowed reads_operation true q.steps (steps_row true q.steps P.steps) (flat_map link_bytes ls), read_links)

pub reads_written : (q : Records) → Passing (length q.steps) (length q.pairs) q → read (sheet_bytes q) ≡ given (in_rising_order q)
unfolding read
reads_written q P = when_given_by (λ t. given t.value) (reads_sheet q P)

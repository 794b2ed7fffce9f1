-- "A sheet in bytes", and the refusals 1 to 7 of "From the input"; with the gap of request L1, the least duration of request L6, and the limit from the finish and 26 of request L11.
use Rattle.std.specs.Prelude.{Bool, true, false, not, ◌&&◌, ◌||◌, List, [], ◌∷◌, ℕ, zero, suc, ◌+◌, ◌*◌, eqb, leb, ltb, None, Option, Some}
use Rattle.definitions.specs.Limits.{most_steps, most_records}
use Rattle.definitions.specs.Basics.{test_bit, Outcome, given, refused, when_given}
use Rattle.definitions.specs.declared.Delay.{Delay}
use Rattle.definitions.specs.declared.Delay.TheVariants.{Open, Fixed}
use Rattle.definitions.specs.declared.Operation.{Operation}
use Rattle.definitions.specs.declared.Link.{Link}

-- What a parser takes from the front of the bytes: a value and the bytes after it.
pub record Taken (A : Type 0) : Type 0 where
  pub value : A
  pub rest : List ℕ

-- A parser takes something, or refuses; one after another; and one that takes no bytes.
abbrev pub Parser : Type 0 → Type 0
Parser A = List ℕ → Outcome (Taken A)

infixl 20 ◌>>=◌
infixl 20 ◌>>◌
abbrev pub ◌>>=◌ : {A B : Type 0} → Parser A → (A → Parser B) → Parser B
◌>>=◌ p f s = when_given (p s) (λ t. f t.value t.rest)

abbrev pub give : {A : Type 0} → A → Parser A
give a s = given (record { value = a; rest = s })

-- Go on only where the condition holds: else this refusal.
unfoldable pub demand : Bool → ℕ → Parser (Unit {0})
demand true k = give tt
demand false k = λ s. refused k

abbrev pub ◌>>◌ : {B : Type 0} → Parser (Unit {0}) → Parser B → Parser B
p >> q = p >>= (λ u. q)

-- 1: the bytes end before a field is complete.
unfoldable pub byte : Parser ℕ
byte [] = refused 1
byte (b ∷ s) = given (record { value = b; rest = s })

-- Numbers of two bytes have the low byte first.
unfoldable pub two_bytes : Parser ℕ
two_bytes = do
  low ← byte
  high ← byte
  give (low + 256 * high)

unfoldable pub ticks_if : Bool → Parser ℕ
ticks_if true = two_bytes
ticks_if false = give 0

unfoldable pub bound_from : Bool → ℕ → Option ℕ
bound_from true ticks = Some ticks
bound_from false ticks = None

-- A step record: a bit map, then the fields whose bit stands. Bit 0: open; bit 1: a fixed duration; neither: duration 0; both are not allowed. The map of step 0 is 01. Bit 2, only with bit 0 and not on
-- step 0: the least duration of an open step. So the other steps have 00, 01, 02 or 05; no other bit is known.
unfoldable pub operation_map : Bool → ℕ → Bool
operation_map true m = eqb m 1
operation_map false m = leb m 2 || eqb m 5

unfoldable pub delay_from : Bool → ℕ → Delay
delay_from true ticks = Open
delay_from false ticks = Fixed ticks

unfoldable pub operation : Bool → Parser Operation
operation first = do
  m ← byte
  demand (operation_map first m) 4
  ticks ← ticks_if (test_bit m 1)
  least ← ticks_if (test_bit m 2)
  give (record { delay = delay_from (test_bit m 0) ticks; least = bound_from (test_bit m 2) least })

-- A link record: a bit map, i and j, then the fields whose bit stands. Bit 0: after; bit 1: at least; bit 2: at most; bit 3: the gap; bit 4: at most, from the finish. An empty map is not allowed, nor is an
-- unknown bit, 5 to 7, nor a gap without bit 0.
unfoldable pub link_map : ℕ → Bool
link_map m = leb 1 m && leb m 31 && (test_bit m 0 || not (test_bit m 3))

-- 26: bit 4 without bit 0.
unfoldable pub sequenced : ℕ → Bool
sequenced m = test_bit m 0 || not (test_bit m 4)

-- 5: i or j is N or more, or i = j.
unfoldable pub endpoints : ℕ → ℕ → ℕ → Bool
endpoints n i j = ltb i n && ltb j n && not (eqb i j)

-- 6: pairs rise strictly, by i, then by j.
abbrev pub Previous : Type 0
Previous = Option (ℕ × ℕ)

unfoldable pub rises : Previous → ℕ → ℕ → Bool
rises None i j = true
rises (Some (i₀, j₀)) i j = ltb i₀ i || eqb i₀ i && ltb j₀ j

-- The map is judged first, 4 and then 26; then 5, then 6, then the fields.
unfoldable pub link : ℕ → Previous → Parser Link
link n previous = do
  m ← byte
  demand (link_map m) 4
  demand (sequenced m) 26
  i ← byte
  j ← byte
  demand (endpoints n i j) 5
  demand (rises previous i j) 6
  least ← ticks_if (test_bit m 1)
  most ← ticks_if (test_bit m 2)
  gap ← ticks_if (test_bit m 3)
  latest ← ticks_if (test_bit m 4)
  give (record { from = i; to = j; sequencing = test_bit m 0; minimum = bound_from (test_bit m 1) least; maximum = bound_from (test_bit m 2) most; gap = bound_from (test_bit m 3) gap; latest = bound_from (test_bit m 4) latest })

-- k records in a row, each read in the state that the one before it leaves.
unfoldable pub records : {A S : Type 0} → (S → Parser A) → (A → S) → ℕ → S → Parser (List A)
records item next zero state = give []
records item next (suc k) state = do
  x ← item state
  xs ← records item next k (next x)
  give (x ∷ xs)

unfoldable pub operations : ℕ → Parser (List Operation)
operations n = records operation (λ o. false) n true

unfoldable pub pair_of : Link → Previous
pair_of l = Some (l.from, l.to)

unfoldable pub links : ℕ → ℕ → Parser (List Link)
links n r = records (link n) pair_of r None

-- 7: bytes follow the last record.
unfoldable pub at_end : Parser (Unit {0})
at_end [] = given (record { value = tt; rest = [] })
at_end (b ∷ s) = refused 7

-- A sheet: its steps and its link records.
pub record Records : Type 0 where
  pub steps : List Operation
  pub pairs : List Link

unfoldable pub sheet : Parser Records
sheet = do
  n ← byte
  demand (leb 1 n && leb n most_steps) 2
  r ← two_bytes
  demand (leb r most_records) 3
  os ← operations n
  ls ← links n r
  at_end
  give (record { steps = os; pairs = ls })

-- The sheet is read from the front and the first fault met is given.
unfoldable pub read : List ℕ → Outcome Records
read s = when_given (sheet s) (λ t. given t.value)

-- What stands where no step does lasts 0 ticks.
abbrev pub blank_operation : Operation
blank_operation = record { delay = Fixed 0; least = None }

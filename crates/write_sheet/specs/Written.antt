-- What the sheet writer returns, and what it leaves in the buffer that is lent (request L4).
use Rattle.std.specs.Prelude.{◌≡◌, not, ◌||◌, List, ℕ, ◌≤◌, length, take}
use Rattle.definitions.specs.Numbers.{Status, Tally, status_of, tally_of}
use Rattle.definitions.specs.Answers.{too_short, written}
use Rattle.definitions.specs.Basics.{Outcome, given, refuse_if}
use Rattle.definitions.specs.Bytes.{Records}
use Rattle.definitions.specs.Limits.{most_records, most_steps}
use Rattle.definitions.specs.Writer.{bad_ends, bad_maps, comes_twice, parts, parts_short, sheet_bytes, unsequenced, write_answer}
use Rattle.definitions.specs.declared.Link.{Link}
use Rattle.definitions.specs.declared.Operation.{Operation}
use Rattle.demands.specs.Writing.{Numbers}
use Rattle.write_bytes.specs.Sheets.{OrderFits, sheet_text}
use Rattle.write_parts.specs.declared.LinksFound.{LinksFound}
use Rattle.write_parts.specs.declared.StepsFound.{StepsFound}

-- The call on n steps and r link records, of which these are there, lent a buffer, returns t and leaves the buffer as `after`: the answer of the definitions.
pub record WriteReturned (n r : ℕ) (steps : List Operation) (links : List Link) (buffer : List ℕ) (t : Tally) (after : List ℕ) : Type 0 where
  pub verdict : tally_of t ≡ (write_answer n r steps links buffer).verdict
  pub numbers : after ≡ (write_answer n r steps links buffer).numbers

-- The same of the call on arrays; and the numbers of its parts are those of two bytes, as their types say.
pub record Wrote (n r : ℕ) (steps : List Operation) (links : List Link) (buffer : List ℕ) (t : Tally) (after : List ℕ) : Type 0 where
  pub returned : WriteReturned n r steps links buffer t after
  pub numbers : Numbers (parts n r steps links)

-- ## On the way

-- The parts that are there.
abbrev pub parts_there : List Operation → ℕ → List Link → ℕ → Records
parts_there steps a links b = record { steps = take a steps; pairs = take b links }

-- The verdict from 14 on, for bytes that fit their counts; from 6 on; and from 4 on.
unfoldable pub room_verdict : List ℕ → List ℕ → Outcome ℕ
room_verdict bytes buffer = refuse_if (too_short buffer (length bytes)) 14 (given (length bytes))

unfoldable pub order_verdict : ℕ → ℕ → Records → List ℕ → Outcome ℕ
order_verdict n r q buffer = refuse_if (comes_twice q.pairs) 6 (refuse_if (parts_short n r q || too_short buffer (length (sheet_bytes q))) 14 (given (length (sheet_bytes q))))

unfoldable pub parts_verdict : ℕ → ℕ → Records → List ℕ → Outcome ℕ
parts_verdict n r q buffer = refuse_if (bad_maps q.steps q.pairs) 4 (refuse_if (unsequenced q.pairs) 26 (refuse_if (bad_ends n q.pairs) 5 (order_verdict n r q buffer)))

-- A verdict as it is returned, and the buffer after it.
pub record Leaves (verdict : Outcome ℕ) (bytes buffer : List ℕ) (t : Tally) (after : List ℕ) : Type 0 where
  pub said : tally_of t ≡ verdict
  pub left : after ≡ written verdict bytes buffer

-- The faults 4, 26 and 5 of what was found, in their order; any number stands for what comes after them.
unfoldable pub fault_verdict : StepsFound → LinksFound → ℕ → Outcome ℕ
fault_verdict found seen x = refuse_if (not found.mapped || seen.unmapped) 4 (refuse_if seen.unsequenced 26 (refuse_if seen.misplaced 5 (given x)))

pub record Faults (found : StepsFound) (seen : LinksFound) (s : Status) : Type 0 where
  pub verdict : (x : ℕ) → status_of s x ≡ fault_verdict found seen x

-- Counts within their limits, and no more parts there than they say.
pub record Counts (n a r b : ℕ) : Type 0 where
  pub some : 1 ≤ n
  pub few : n ≤ most_steps
  pub records : r ≤ most_records
  pub steps_there : a ≤ n
  pub links_there : b ≤ r

-- The sheet with its link records in order, and how many bytes it has.
pub record WholeReady (n : ℕ) (steps : List Operation) (r : ℕ) (links : List Link) (order : List ℕ) (size : ℕ) : Type 0 where
  pub few_steps : n ≤ most_steps
  pub few_links : r ≤ most_records
  pub ordered : OrderFits order r
  pub long : size ≡ length (sheet_text n steps r links order)

-- The other way round than Decoding.antt: the numbers of a step and of a link record, for those who hand them over (request L4). Statements: numbers stand for just these parts, and all that they stand for fits two bytes.
-- The theorems of the same names in small letters, in proofs/Encoded.antt, prove them.
use Rattle.std.specs.Prelude.{◌≡◌, true, false, List, [], ◌∷◌, ℕ, ◌*◌, ◌≤◌, ◌<◌, get_or, Option}
use Rattle.definitions.specs.Bytes.{operation_map}
use Rattle.definitions.specs.Clashes.{blank_link}
use Rattle.definitions.specs.Limits.{most_ticks}
use Rattle.definitions.specs.Links.{ticks_said}
use Rattle.definitions.specs.Plan.{row_part}
use Rattle.definitions.specs.Writer.{link_map_of, operation_map_of, parts}
use Rattle.definitions.specs.declared.Delay.{Delay}
use Rattle.definitions.specs.declared.Delay.TheVariants.{Open, Fixed}
use Rattle.definitions.specs.declared.Link.{Link}
use Rattle.definitions.specs.declared.Operation.{Operation}
use Rattle.demands.specs.Writing.{Numbers}
use Rattle.write_numbers.specs.Decoding.{record_at, records_in, step_at, steps_in, wrong_step}

-- The ticks of a step: its fixed duration, or its least.
unfoldable pub step_ticks : Delay → Option ℕ → ℕ
step_ticks Open least = ticks_said least
step_ticks (Fixed x) least = x

-- Two numbers for a step: its map and its ticks. Seven for a link record: its map, i, j, and its fields, 0 where there is none.
unfoldable pub step_numbers : Operation → List ℕ
step_numbers o = operation_map_of o ∷ step_ticks o.delay o.least ∷ []

unfoldable pub link_numbers : Link → List ℕ
link_numbers l = link_map_of l ∷ l.from ∷ l.to ∷ ticks_said l.minimum ∷ ticks_said l.maximum ∷ ticks_said l.gap ∷ ticks_said l.latest ∷ []

-- The k-th numbers stand for the step or the record that they are the numbers of. What has another map is a part that is refused 4: a fixed step with a least, or a record with no link.
pub record StandFor (numbers : List ℕ) (k : ℕ) : Type 0 where
  pub step : (o : Operation) → operation_map false (operation_map_of o) ≡ true → row_part numbers 2 k ≡ step_numbers o → step_at numbers k ≡ o
  pub link : (l : Link) → l.from ≤ 255 → l.to ≤ 255 → row_part numbers 7 k ≡ link_numbers l → record_at numbers k ≡ l
  pub other_step : operation_map false (get_or numbers (2 * k) 0) ≡ false → step_at numbers k ≡ wrong_step
  pub other_link : 31 < get_or numbers (7 * k) 0 → record_at numbers k ≡ blank_link

abbrev pub NumbersStandFor : Type 0
NumbersStandFor = (numbers : List ℕ) (k : ℕ) → StandFor numbers k

-- Numbers of 16 bits stand for parts whose numbers fit two bytes, so that what is promised of the writer holds of them.
abbrev pub NumbersFit : Type 0
NumbersFit = (n r : ℕ) (steps links : List ℕ) → ((i : ℕ) → get_or steps i 0 ≤ most_ticks) → ((i : ℕ) → get_or links i 0 ≤ most_ticks) → Numbers (parts n r (steps_in steps) (records_in links))

-- How the code holds edges: one word of 64 bits for each, with the fields in its digits. The code has the same names as constants.
use Rattle.std.specs.Prelude.{Bool, List, map, ℕ, ◌+◌, ◌*◌, ◌/◌, ◌%◌, ◌<◌, ◌≤◌, eqb, length, get_or}
use Rattle.definitions.specs.Limits.{most_gain, most_steps}
use Rattle.definitions.specs.Links.{Edge}

abbrev pub edge : ℕ → ℕ → ℕ → ℕ → Bool → Bool → Bool → Edge
edge f t g l c b late = record { from = f; to = t; gain = g; loss = l; counted = c; back = b; late = late }

-- The digits, from the lowest on: from and to, the marks counted and back, gain and loss, and the mark late. An end has six bits and a mark one. Gain and loss have 24 each, of which
-- the largest need 17, so that a word has 63. The place of a digit is the product of the bases below it.
abbrev pub weight_base : ℕ
weight_base = 16777216

abbrev pub to_place : ℕ
to_place = most_steps

abbrev pub counted_place : ℕ
counted_place = to_place * most_steps

abbrev pub back_place : ℕ
back_place = counted_place * 2

abbrev pub gain_place : ℕ
gain_place = back_place * 2

abbrev pub loss_place : ℕ
loss_place = gain_place * weight_base

abbrev pub late_place : ℕ
late_place = loss_place * weight_base

-- A mark stands.
abbrev pub marked : ℕ → ℕ → Bool
marked w place = eqb (w / place % 2) 1

unfoldable pub unpack : ℕ → Edge
unpack w = record {
  from = w % most_steps;
  to = w / to_place % most_steps;
  gain = w / gain_place % weight_base;
  loss = w / loss_place % weight_base;
  counted = marked w counted_place;
  back = marked w back_place;
  late = marked w late_place;
}

-- The edge list that words stand for.
unfoldable pub graph : List ℕ → List Edge
graph words = map unpack words

-- Ends that fit their digits.
abbrev pub Fit : ℕ → ℕ → Type 0
Fit i j = (i < most_steps) × (j < most_steps)

-- Seven digits that fit theirs, and the word that they make.
pub record DigitsFit (f t c b g l late : ℕ) : Type 0 where
  pub from : f < most_steps
  pub to : t < most_steps
  pub counted : c < 2
  pub back : b < 2
  pub gain : g < weight_base
  pub loss : l < weight_base
  pub latest : late < 2

abbrev pub packed : ℕ → ℕ → ℕ → ℕ → ℕ → ℕ → ℕ → ℕ
packed f t c b g l late = f + t * to_place + c * counted_place + b * back_place + g * gain_place + l * loss_place + late * late_place

-- Every word of a list ends below a number of rows.
abbrev pub EndsBelow : List ℕ → ℕ → Type 0
EndsBelow es rows = (k : ℕ) → k < length es → (unpack (get_or es k 0)).to < rows

-- No word of a list gains more than an edge of a sheet may.
abbrev pub Light : List ℕ → Type 0
Light es = (k : ℕ) → k < length es → (unpack (get_or es k 0)).gain ≤ most_gain

-- "Offset", "Start", "Deciding set", the plan's table, its rows, and lists of durations. The edges are those of the sheet with its waits in.
use Rattle.std.specs.Prelude.{◌≡◌, Bool, cond, not, ◌&&◌, ◌||◌, List, [], ◌++◌, ℕ, zero, suc, ◌+◌, ◌-◌, ◌*◌, ◌≤◌, eqb, leb, ltb, length, get_or, take, drop, replicate}
use Rattle.definitions.specs.Limits.{most_duration}
use Rattle.definitions.specs.Basics.{any_below, tabulate, largest}
use Rattle.definitions.specs.Links.{Edge, Graph, Walk, AfterWalk, usable, delay_at, least_at}
use Rattle.definitions.specs.Rounds.{cell, rounds, source_row, after_row}
use Rattle.definitions.specs.Anchors.{in_anchor_set}
use Rattle.definitions.specs.declared.Delay.{Delay}
use Rattle.definitions.specs.declared.Delay.TheVariants.{Open, Fixed}
use Rattle.definitions.specs.declared.Operation.{Operation}

-- The walks that an offset for a is the heaviest of: those that begin with an after link out of a; for a = 0 all walks from 0, the empty one among them. They are taken in `UsableFrom E a`.
pub data Span (E : Graph) (a y p q : ℕ) : Type 0 where
  source : {k : ℕ} → a ≡ 0 → Walk E a y k p q → Span E a y p q
  after : AfterWalk E a y p q → Span E a y p q

-- The offset of v for a is o: such a walk weighs o, and none weighs more. It counts from the end of a, so the least of a, which the walk's first link adds, is not counted (request L6).
pub record Offset (least : ℕ → ℕ) (E : Graph) (a v o : ℕ) : Type 0 where
  pub p : ℕ
  pub q : ℕ
  pub span : Span E a v p q
  pub attained : p ≡ o + least a + q
  pub bound : (p q : ℕ) → Span E a v p q → p ≤ o + least a + q

-- The same by rounds: the row that these walks begin with, the row of the offsets for a, and the offset of v.
unfoldable pub first_row : ℕ → List Edge → ℕ → List ℕ
first_row n es zero = source_row n 0
first_row n es (suc a) = after_row n es (suc a)

unfoldable pub offset_row : ℕ → List Edge → ℕ → List ℕ
offset_row n es a = rounds (usable es a) n (first_row n (usable es a) a)

unfoldable pub offset : ℕ → (ℕ → ℕ) → List Edge → ℕ → ℕ → ℕ
offset n least es a v = cell (offset_row n es a) v - (1 + least a)

-- Start: 0 for step 0; else the largest of start(a) + duration(a) + offset, over a in the start set. Each turn of the rule settles the steps whose start sets are settled; n turns settle all.
unfoldable pub start_from : ℕ → (ℕ → ℕ) → List Edge → (ℕ → ℕ) → List ℕ → ℕ → ℕ
start_from n least es d row zero = 0
start_from n least es d row (suc v) = largest (λ a. in_anchor_set n es a (suc v)) (λ a. cell row a + d a + offset n least es a (suc v)) n

unfoldable pub start_turns : ℕ → (ℕ → ℕ) → List Edge → (ℕ → ℕ) → ℕ → List ℕ
start_turns n least es d zero = replicate n 0
start_turns n least es d (suc k) = tabulate (start_from n least es d (start_turns n least es d k)) n

unfoldable pub start_times : ℕ → (ℕ → ℕ) → List Edge → (ℕ → ℕ) → List ℕ
start_times n least es d = start_turns n least es d n

-- Deciding set: a member a is left out exactly when another member b has a in its start set, and offset of b for a, plus the least of b, plus offset of v for b, reaches the offset of v for a.
unfoldable pub overrides : ℕ → (ℕ → ℕ) → List Edge → ℕ → ℕ → ℕ → Bool
overrides n least es a v b = not (eqb b a) && in_anchor_set n es b v && in_anchor_set n es a b && leb (offset n least es a v) (offset n least es a b + least b + offset n least es b v)

unfoldable pub decides : ℕ → (ℕ → ℕ) → List Edge → ℕ → ℕ → Bool
decides n least es a v = in_anchor_set n es a v && not (any_below (overrides n least es a v) n)

-- The plan: at v × N + a the offset, or 4,294,967,295 where a does not decide v.
abbrev pub undecided : ℕ
undecided = 4294967295

unfoldable pub plan_entry : ℕ → (ℕ → ℕ) → List Edge → ℕ → ℕ → ℕ
plan_entry n least es v a = cond (decides n least es a v) (offset n least es a v) undecided

unfoldable pub plan_row : ℕ → (ℕ → ℕ) → List Edge → ℕ → List ℕ
plan_row n least es v = tabulate (plan_entry n least es v) n

unfoldable pub plan_rows : ℕ → (ℕ → ℕ) → List Edge → ℕ → List ℕ
plan_rows n least es zero = []
plan_rows n least es (suc v) = plan_rows n least es v ++ plan_row n least es v

unfoldable pub plan_table : ℕ → (ℕ → ℕ) → List Edge → List ℕ
plan_table n least es = plan_rows n least es n

-- Row v: that part of the caller's table, N numbers.
unfoldable pub row_part : List ℕ → ℕ → ℕ → List ℕ
row_part table n v = take n (drop (v * n) table)

-- A list of durations: each entry at most 16,777,215, and 0 for step 0 and fixed steps; and no entry below its least (request L6).
unfoldable pub delay_limit : ℕ → Delay → ℕ
delay_limit i (Fixed ticks) = 0
delay_limit zero Open = 0
delay_limit (suc i) Open = most_duration

unfoldable pub delay_wrong : List Operation → List ℕ → ℕ → Bool
delay_wrong os list i = ltb (delay_limit i (delay_at os i)) (get_or list i 0) || ltb (get_or list i 0) (least_at os i)

-- Of the first N entries those that are there are judged.
unfoldable pub delays_wrong : List Operation → List ℕ → Bool
delays_wrong os list = any_below (λ i. ltb i (length list) && delay_wrong os list i) (length os)

-- The delays that a list gives.
abbrev pub delays : List ℕ → ℕ → ℕ
delays list a = get_or list a 0

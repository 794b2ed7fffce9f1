-- What is asked of a sheet, and what is answered: of its bytes, and of its steps and edges.
use Rattle.std.specs.Prelude.{◌≡◌, Bool, true, false, ◌||◌, List, [], ℕ, ◌+◌, ◌*◌, ◌<◌, ltb, ℤ, length, replicate}
use Rattle.data_edges.specs.Serial.{leasts_in}
use Rattle.data_lists.specs.Lists.{Empty}
use Rattle.judge_edges.specs.declared.Found.{Found}
use Rattle.definitions.specs.Answers.{Written, judge_edges, judged, planned, starts_answer, waits_answer, written}
use Rattle.definitions.specs.Basics.{Outcome, given, refused, refuse_if, test_bit, when_given}
use Rattle.definitions.specs.Limits.{most_steps}
use Rattle.definitions.specs.Links.{Edge, least_at}
use Rattle.definitions.specs.Numbers.{verdict_of}
use Rattle.definitions.specs.Plan.{delays, delays_wrong, plan_table, start_times}
use Rattle.definitions.specs.Rounds.{cell}
use Rattle.definitions.specs.Waits.{serialized, wait_count, wait_maps}
use Rattle.definitions.specs.declared.Operation.{Operation}
use Rattle.plan_deciding.specs.Working.{member}
use Rattle.plan_starts.specs.Times.{cut}
use Rattle.data_numbers.specs.Codes.{is_given}
use Rattle.read_steps.specs.Leaving.{unbounded_at}
use Rattle.walk_cells.specs.Tables.{Rows}
use Rattle.plan_walks.specs.Tables.{SheetEdges}
use Rattle.plan_answer.specs.declared.Question.{Question}
use Rattle.plan_answer.specs.declared.Question.TheVariants.{Judgement, Plan, Starts}

-- ## Of bytes

-- The answer of the definitions to each question.
abbrev pub answered : Question → List ℕ → Bool → List ℕ → List ℕ → Written
answered Judgement s allow list out = record { verdict = judged s allow; numbers = out }
answered Plan s allow list out = planned s allow out
answered Starts s allow list out = starts_answer s allow list out

-- It is answered so, and beside it, whatever is asked, stand the waits. Of `sorted` nothing is said: nobody looks at it.
pub record Answers (question : Question) (s : List ℕ) (allow : Bool) (list out : List ℕ) (r : Found) (after waits : List ℕ) : Type 0 where
  pub verdict : verdict_of r.verdict ≡ (answered question s allow list out).verdict
  pub numbers : after ≡ (answered question s allow list out).numbers
  pub maps : waits ≡ (waits_answer s).maps
  pub count : r.count ≡ (waits_answer s).count

-- ## Of n steps and edges, for a list of durations and lent numbers

-- 13, and 14 by the length of the list and the room for the answer.
abbrev pub list_wrong : Question → List Operation → List ℕ → Bool
list_wrong Judgement os list = false
list_wrong Plan os list = false
list_wrong Starts os list = delays_wrong os list

abbrev pub short : Question → ℕ → ℕ → ℕ → Bool
short Judgement n list room = false
short Plan n list room = ltb room (n * n)
short Starts n list room = ltb list n || ltb room n

unfoldable pub check : Question → ℕ → List Operation → List ℕ → ℕ → ℕ → Outcome ℕ
check question n os list room v = refuse_if (list_wrong question os list) 13 (refuse_if (short question n (length list) room) 14 (given v))

-- The verdict: 13 and 14 after the judgement.
unfoldable pub outcome : Question → ℕ → (ℕ → ℕ) → List Edge → Bool → List Operation → List ℕ → List ℕ → Outcome ℕ
outcome question n least g allow os list out = when_given (judge_edges n least g allow) (check question n os list (length out))

-- The numbers that are asked for.
abbrev pub numbers_of : Question → ℕ → (ℕ → ℕ) → List Edge → List ℕ → List ℕ
numbers_of Judgement n least g list = []
numbers_of Plan n least g list = plan_table n least (serialized n least g)
numbers_of Starts n least g list = start_times n least (serialized n least g) (delays list)

-- Start times have 32 bits: none is cut.
abbrev pub Fitting : Question → ℕ → (ℕ → ℕ) → List Edge → List ℕ → Type 0
Fitting Judgement n least g list = Unit {0}
Fitting Plan n least g list = Unit {0}
Fitting Starts n least g list = (v : ℕ) → v < n → cell (start_times n least (serialized n least g) (delays list)) v < cut + 1

-- The map is that of the open steps, other than 0, of these n steps, and the numbers are their leasts.
pub record StepsHeld (n unbounded : ℕ) (leasts : List ℕ) (os : List Operation) : Type 0 where
  pub long : length os ≡ n
  pub opens : (i : ℕ) → i < n → test_bit unbounded i ≡ unbounded_at os i
  pub least : (i : ℕ) → leasts_in leasts i ≡ least_at os i

-- The waits and their count: those of the edges where they are accepted with waits allowed, else none.
pub record WaitsOf (n : ℕ) (least : ℕ → ℕ) (g : List Edge) (maps : List ℕ) (count : ℕ) : Type 0 where
  pub found : (v : ℕ) → judge_edges n least g true ≡ given v → (maps ≡ wait_maps n g) × (count ≡ wait_count n g)
  pub blank : (k : ℕ) → judge_edges n least g true ≡ refused k → (maps ≡ replicate most_steps 0) × (count ≡ 0)

-- The answer.
pub record Responds (question : Question) (n : ℕ) (least : ℕ → ℕ) (g : List Edge) (allow : Bool) (os : List Operation) (list out : List ℕ) (r : Found) (after maps : List ℕ) : Type 0 where
  pub verdict : verdict_of r.verdict ≡ outcome question n least g allow os list out
  pub numbers : after ≡ written (outcome question n least g allow os list out) (numbers_of question n least g list) out
  pub waits : WaitsOf n least g maps r.count

-- A verdict o, checked for 13 and 14.
pub record Checked (o : Outcome ℕ) (question : Question) (n unbounded : ℕ) (leasts list : List ℕ) (room : ℕ) (p : Outcome ℕ) : Type 0 where
  pub checks : (os : List Operation) → StepsHeld n unbounded leasts os → p ≡ when_given o (check question n os list room)
  pub accepted : is_given p ≡ true → is_given o ≡ true
  pub fits : is_given p ≡ true → short question n (length list) room ≡ false

-- Tables with a row for each step and each member, and room for the answer.
pub record Writable (question : Question) (n : ℕ) (d : List (List ℤ)) (sets list out : List ℕ) : Type 0 where
  pub rows : Rows n d
  pub inside : (v a : ℕ) → v < n → member sets v a ≡ true → a < length d
  pub room : short question n (length list) (length out) ≡ false

-- The edges of a sheet, and numbers with room for their adjacency lists that hold none yet.
pub record Listable (n : ℕ) (least : ℕ → ℕ) (es lists : List ℕ) : Type 0 where
  pub sheet : SheetEdges n least es
  pub room : most_steps + length es + length es < length lists
  pub empty : Empty lists

-- What is answered about step records: one of them, or a row of them.
use Rattle.std.specs.Prelude.{◌≡◌, List, ℕ, ◌≤◌, ◌<◌, length, drop, replicate, Result, Ok, Err}
use Rattle.definitions.specs.Basics.{refused, test_bit}
use Rattle.definitions.specs.Limits.{most_steps}
use Rattle.definitions.specs.Numbers.{number}
use Rattle.definitions.specs.Bytes.{Parser, operations}
use Rattle.definitions.specs.Links.{least_with}
use Rattle.definitions.specs.declared.Operation.{Operation}
use Rattle.definitions.specs.declared.Refusal.{Refusal}
use Rattle.read_fields.specs.Answers.{item_at}
use Rattle.read_fields.specs.declared.Item.{Item}
use Rattle.read_steps.specs.Leaving.{leaving, Leaves, Leasts, LeastPut, unbounded_at}
use Rattle.read_steps.specs.declared.Steps.{Steps}

-- A step i that the parser p finds at the place `at`, up to the place `next`, what it adds, and the leasts with its least among them.
pub record StepTaken (p : Parser Operation) (s : List ℕ) (at i : ℕ) (leasts leasts' : List ℕ) (d next : ℕ) : Type 0 where
  pub step : Operation
  pub same : p (drop at s) ≡ item_at s step next
  pub inside : next ≤ length s
  pub adds : d ≡ leaving step.delay (least_with i step.delay step.least) i
  pub put : LeastPut i (least_with i step.delay step.least) leasts leasts'

-- The step is read, or refused. What the leasts are beside a refusal is not said.
abbrev pub StepReads : Parser Operation → List ℕ → ℕ → ℕ → List ℕ → List ℕ → Result (Item ℕ) Refusal → Type 0
StepReads p s at i leasts leasts' (Ok x) = StepTaken p s at i leasts leasts' x.value x.next
StepReads p s at i leasts leasts' (Err k) = p (drop at s) ≡ refused (number k)

-- A step record after its map begins within the bytes, and its step has a number among the leasts; and one with a least is not that of step 0.
pub record MappedReady (s : List ℕ) (at i : ℕ) : Type 0 where
  pub begins : at ≤ length s
  pub below : i < most_steps

pub record SlowReady (s : List ℕ) (at i : ℕ) : Type 0 where
  pub begins : at ≤ length s
  pub below : i < most_steps
  pub other : 0 < i

-- A row of n steps begins within the bytes, n keeps its limit, each step has a number of the digits, and no least stands yet.
pub record RowReady (s : List ℕ) (at n : ℕ) (digits leasts : List ℕ) : Type 0 where
  pub begins : at ≤ length s
  pub steps : n ≤ most_steps
  pub long : length digits ≡ most_steps
  pub blank : leasts ≡ replicate most_steps 0

-- The n step records from the place `at` on, which end within the bytes before the place `next`, what each of these steps adds, their leasts, and the map of those that are open.
pub record Stepped (s : List ℕ) (at n : ℕ) (digits leasts : List ℕ) (unbounded next : ℕ) : Type 0 where
  pub steps : List Operation
  pub same : operations n (drop at s) ≡ item_at s steps next
  pub inside : next ≤ length s
  pub count : length steps ≡ n
  pub leaves : Leaves steps n digits
  pub least : Leasts steps leasts
  pub opens : (i : ℕ) → i < n → test_bit unbounded i ≡ unbounded_at steps i

-- The steps are read, or the first fault is met. What the digits and the leasts are beside a refusal is not said.
abbrev pub OperationsReads : List ℕ → ℕ → ℕ → List ℕ → List ℕ → Result Steps Refusal → Type 0
OperationsReads s at n digits leasts (Ok r) = Stepped s at n digits leasts r.unbounded r.next
OperationsReads s at n digits leasts (Err k) = operations n (drop at s) ≡ refused (number k)

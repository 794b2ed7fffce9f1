-- A step that is read, by what its record says: what it adds, and the leasts with its least among them.
use mathlib.Core.Path.{◌≡◌, refl, sym, ap, ◌∙◌}
use Rattle.std.specs.Prelude.{None, Some, Result, Ok, Err}
use mathlib.Core.Logic.{inl, inr}
use mathlib.Core.List.{List}
use Prim.Native.Nat.{ℕ, ◌≤◌, ◌<◌}
use native.Mathlib.Omega.{arith}
use lib.ListN.{length, drop, set}
use Rattle.definitions.specs.Bytes.{Parser}
use Rattle.definitions.specs.Links.{ticks_said, least_with}
use Rattle.definitions.specs.declared.Delay.TheVariants.{Open, Fixed}
use Rattle.definitions.specs.declared.Operation.{Operation}
use Rattle.definitions.specs.declared.Refusal.{Refusal}
use Rattle.read_fields.specs.Answers.{item_at}
use Rattle.read_fields.specs.declared.Item.{Item}
use Rattle.read_steps.specs.Leaving.{added}
use Rattle.read_steps.specs.Answers.{StepTaken, StepReads}
use Rattle.read_steps.proofs.Leasts.{least_unsaid, least_open}

module _ (p : Parser Operation) (s : List ℕ) (at i : ℕ) (leasts : List ℕ) (d next : ℕ) (inside : next ≤ length s) where
  abbrev Adds : Operation → Type 0
  Adds o = d ≡ added i o

  abbrev Found : Operation → Type 0
  Found o = p (drop at s) ≡ item_at s o next

  pub taken_fixed : (ticks : ℕ) → Found (record { delay = Fixed ticks; least = None }) → Adds (record { delay = Fixed ticks; least = None }) → StepTaken p s at i leasts leasts d next
  unfolding least_with
  taken_fixed ticks same adds = record { step = record { delay = Fixed ticks; least = None }; same = same; inside = inside; adds = adds; put = inl (refl, refl) }

  pub taken_open : Found (record { delay = Open; least = None }) → Adds (record { delay = Open; least = None }) → StepTaken p s at i leasts leasts d next
  taken_open same adds = record { step = record { delay = Open; least = None }; same = same; inside = inside; adds = adds; put = inl (least_unsaid i, refl) }

  pub taken_slow : (ticks : ℕ) → 0 < i → Found (record { delay = Open; least = Some ticks }) → Adds (record { delay = Open; least = Some ticks }) → StepTaken p s at i leasts (set leasts i ticks) d next
  unfolding ticks_said
  taken_slow ticks h same adds = record {
    step = record { delay = Open; least = Some ticks };
    same = same;
    inside = inside;
    adds = adds;
    put = inr (ap (set leasts i) (sym (least_open i (Some ticks) (λ e. omega arith))));
  }

-- Where two parsers find the same, what is answered about one is answered about the other.
pub reads_same : (p q : Parser Operation) (s : List ℕ) (at at' i : ℕ) (leasts leasts' : List ℕ) (r : Result (Item ℕ) Refusal) → p (drop at s) ≡ q (drop at' s) → StepReads q s at' i leasts leasts' r → StepReads p s at i leasts leasts' r
reads_same p q s at at' i leasts leasts' (Ok x) e T = record { step = T.step; same = e ∙ T.same; inside = T.inside; adds = T.adds; put = T.put }
reads_same p q s at at' i leasts leasts' (Err k) e f = e ∙ f

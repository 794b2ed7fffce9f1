-- The words of any links, completed (request L3).
use Rattle.std.specs.Prelude.{◌≡◌, List, ℕ, ◌+◌, ◌≤◌, take}
use Rattle.definitions.specs.Limits.{most_added}
use Rattle.definitions.specs.Links.{Constraint, completed, delay_at, edges}
use Rattle.definitions.specs.declared.Delay.TheVariants.{Open}
use Rattle.definitions.specs.declared.Operation.{Operation}
use Rattle.data_edges.specs.Words.{graph}

-- The first c words stay, and words are put behind them: where the first c stand for links of n steps, of which 0 is open, the first c' stand for these links completed.
pub record PartCompletes (n : ℕ) (words words' : List ℕ) (c c' : ℕ) : Type 0 where
  pub few : c' ≤ c + most_added
  pub kept : take c words' ≡ take c words
  pub same : (os : List Operation) → delay_at os 0 ≡ Open → (cs : List Constraint) → graph (take c words) ≡ edges os cs → graph (take c' words') ≡ edges os (completed n cs)

-- Request L3: what the functions that complete a sheet are said with.
use Rattle.std.specs.Prelude.{◌≡◌, not, ◌&&◌, ◌||◌, List, ◌++◌, map, ℕ, ◌+◌, ◌≤◌, ◌<◌, eqb, ltb, length, take}
use Rattle.definitions.specs.Basics.{any, test_bit}
use Rattle.definitions.specs.Limits.{most_steps, most_added}
use Rattle.definitions.specs.Links.{Constraint, link_constraints, leads_into, source_link, loose_steps, delay_at, least_at, edges}
use Rattle.definitions.specs.declared.Operation.{Operation}
use Rattle.data_edges.specs.Words.{graph}
use Rattle.read_pair.specs.Parts.{link_from}
use Rattle.read_pair.specs.declared.Fields.{Fields}
use Rattle.read_steps.specs.Leaving.{leaving}

-- The map of the steps that a forward link of these leads into.
pub record Entered (cs : List Constraint) (entered : ℕ) : Type 0 where
  pub each : (v : ℕ) → test_bit entered v ≡ any (leads_into v) cs

-- That map with one record more, which has the map m and leads to j, whatever its first step and its fields.
pub record EnteredMore (m j entered r : ℕ) : Type 0 where
  pub each : (i : ℕ) (t : Fields) (v : ℕ) → test_bit r v ≡ (test_bit entered v || any (leads_into v) (link_constraints (link_from m i j t)))

-- The map of the steps below n, other than 0, that are not entered.
pub record Loose (n entered r : ℕ) : Type 0 where
  pub each : (v : ℕ) → test_bit r v ≡ (ltb v n && not (eqb v 0) && not (test_bit entered v))

-- The steps are within their limit, and behind the first c words there is room for the edges of the added links.
pub record Completable (n : ℕ) (words : List ℕ) (c : ℕ) : Type 0 where
  pub steps : n ≤ most_steps
  pub room : c + most_added ≤ length words

-- Step 0 of these n steps, where there is one, adds d.
abbrev pub SourceAdds : List Operation → ℕ → ℕ → Type 0
SourceAdds os n d = 0 < n → d ≡ leaving (delay_at os 0) (least_at os 0) 0

-- The first c words stay, and these edges are pushed behind them: those of the links that are added to any links with this map of entered steps, for all n steps of which 0 adds d.
pub record Completes (n entered d : ℕ) (words words' : List ℕ) (c c' : ℕ) : Type 0 where
  pub few : c' ≤ c + most_added
  pub kept : take c words' ≡ take c words
  pub same : (os : List Operation) → SourceAdds os n d → (cs : List Constraint) → Entered cs entered → graph (take c' words') ≡ graph (take c words) ++ edges os (map source_link (loose_steps n cs))

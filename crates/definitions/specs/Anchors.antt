-- "Start set" and "Sound", as relations and as tests.
use Rattle.std.specs.Prelude.{◌≡◌, Bool, true, not, ◌||◌, ◌⊎◌, List, ℕ, eqb}
use Rattle.definitions.specs.Basics.{all, all_below}
use Rattle.definitions.specs.Links.{Edge, Graph, Forward, After, LateInto, forwards, late_into}
use Rattle.definitions.specs.Rounds.{after_reaches}

-- a is in the start set of v: step 0 is in every set; another open step where a chain of forward links from it to v begins with an after link.
pub data InAnchorSet (E : Graph) (a v : ℕ) : Type 0 where
  is_source : a ≡ 0 → InAnchorSet E a v
  chain : After (Forward E) a v → InAnchorSet E a v

unfoldable pub in_anchor_set : ℕ → List Edge → ℕ → ℕ → Bool
in_anchor_set n es a v = eqb a 0 || after_reaches n (forwards es) a v

-- Sound: for each at-most link on (i, j), so for each return from j to i, every member of the start set of j is in that of i; for a late return, in that of i with i added.
abbrev pub WellPosedFor : Graph → ℕ → Type 0
WellPosedFor E a = (e : Edge) → E e → e.back ≡ true → InAnchorSet E a e.from → InAnchorSet E a e.to ⊎ LateInto e a

abbrev pub WellPosed : Graph → Type 0
WellPosed E = (a : ℕ) → WellPosedFor E a

unfoldable pub well_posed : ℕ → List Edge → Bool
well_posed n es = all (λ e. not e.back || all_below (λ a. not (in_anchor_set n es a e.from) || (in_anchor_set n es a e.to || late_into a e)) n) es

-- Heaviest walks by rounds over a list of edges, the executable twin of walks. A row has a cell for each step: 0 where no walk comes there, w + 1 for the weight w.
-- No walk that is sought weighs less than 0, so a sum stops there. What the cells are is proved in the crate theory.
use Rattle.std.specs.Prelude.{Bool, cond, not, ◌&&◌, List, [], ◌∷◌, map, ℕ, zero, suc, ◌+◌, ◌-◌, max, eqb, leb, ltb, get_or, set, replicate}
use Rattle.definitions.specs.Basics.{any, all}
use Rattle.definitions.specs.Links.{Edge}

-- The cell of step v.
abbrev pub cell : List ℕ → ℕ → ℕ
cell row v = get_or row v 0

-- A table as its rows: cell k of row v.
abbrev pub entry : List (List ℕ) → ℕ → ℕ → ℕ
entry d v k = cell (get_or d v []) k

-- A walk made longer by an edge.
unfoldable pub extend : ℕ → ℕ → ℕ → ℕ
extend zero gain loss = 0
extend (suc w) gain loss = suc (w + gain - loss)

-- A cell raised to c, and to what an edge offers it.
unfoldable pub raise : List ℕ → ℕ → ℕ → List ℕ
raise row v c = set row v (max (cell row v) c)

abbrev pub offer : List ℕ → Edge → ℕ
offer row e = extend (cell row e.from) e.gain e.loss

abbrev pub relax : List ℕ → Edge → List ℕ
relax row e = raise row e.to (offer row e)

-- Each edge once, in order; then k such rounds.
unfoldable pub round : List Edge → List ℕ → List ℕ
round [] row = row
round (e ∷ es) row = round es (relax row e)

unfoldable pub rounds : List Edge → ℕ → List ℕ → List ℕ
rounds es zero row = row
rounds es (suc k) row = round es (rounds es k row)

-- One more round changes nothing.
unfoldable pub stable : List Edge → List ℕ → Bool
stable es row = all (λ e. leb (offer row e) (cell row e.to)) es

-- The row of the empty walk at x.
unfoldable pub source_row : ℕ → ℕ → List ℕ
source_row n x = raise (replicate n 0) x 1

-- The row of the counted edges out of a.
unfoldable pub seed : ℕ → Edge → ℕ
seed a e = cond (e.counted && eqb e.from a) (suc (e.gain - e.loss)) 0

unfoldable pub seeds : ℕ → List Edge → List ℕ → List ℕ
seeds a [] row = row
seeds a (e ∷ es) row = seeds a es (raise row e.to (seed a e))

unfoldable pub after_row : ℕ → List Edge → ℕ → List ℕ
after_row n es a = seeds a es (replicate n 0)

-- Whether a walk goes from x to v: rounds over the edges with their weights taken away.
abbrev pub bare : Edge → Edge
bare e = record { from = e.from; to = e.to; gain = 0; loss = 0; counted = e.counted; back = e.back; late = e.late }

unfoldable pub bares : List Edge → List Edge
bares es = map bare es

unfoldable pub reaches : ℕ → List Edge → ℕ → ℕ → Bool
reaches n es x v = ltb 0 (cell (rounds (bares es) n (source_row n x)) v)

-- Whether one goes from a to v that begins with an after link out of a ≠ 0.
unfoldable pub after_reaches : ℕ → List Edge → ℕ → ℕ → Bool
after_reaches n es a v = not (eqb a 0) && any (λ e. e.counted && eqb e.from a && reaches n es e.to v) es

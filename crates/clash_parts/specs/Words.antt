-- Words of records behind each other: whose pair a word has, where those of one record begin, and which steps are entered.
use Rattle.std.specs.Prelude.{◌≡◌, Bool, cond, not, ◌&&◌, ◌≢◌, List, ℕ, suc, ◌+◌, ◌-◌, ◌*◌, ◌≤◌, ◌<◌, eqb, length, get_or}
use Rattle.definitions.specs.Limits.{most_steps}
use Rattle.definitions.specs.Links.{Edge}
use Rattle.data_edges.specs.Words.{unpack}

-- The place of the pair of an edge's link among all pairs of steps, by i, then by j: a return runs from j to i.
unfoldable pub pair_rank : Edge → ℕ
pair_rank e = cond e.back (e.to * most_steps + e.from) (e.from * most_steps + e.to)

abbrev pub rank_at : List ℕ → ℕ → ℕ
rank_at es i = pair_rank (unpack (get_or es i 0))

-- A place behind some words.
pub record Ends (es : List ℕ) (end : ℕ) : Type 0 where
  pub some : 1 ≤ end
  pub within : end ≤ length es

-- The words from `first` to `end` have one pair, and a word before them has another.
pub record Begins (es : List ℕ) (end first : ℕ) : Type 0 where
  pub below : first < end
  pub same : (i : ℕ) → first ≤ i → i < end → rank_at es i ≡ rank_at es (end - 1)
  pub apart : (i : ℕ) → suc i ≡ first → rank_at es i ≢ rank_at es (end - 1)

-- There is room for these words from a place on.
pub record Room (words : List ℕ) (at : ℕ) (these : List ℕ) : Type 0 where
  pub room : at + length these ≤ length words

-- Whether a forward edge leads into v.
unfoldable pub enters : ℕ → Edge → Bool
enters v e = not e.back && eqb e.to v

-- Adjacency lists of edge words by their start, in one array: place u, below 64, is the head of the list of step u, place 64 + i is what follows edge i.
-- Behind them stand the returns, the words of backward edges, rising, from place 64 + length es on.
-- A place holds one more than the index of an edge, or 0 at the end.
use Rattle.std.specs.Prelude.{◌≡◌, Bool, true, cond, List, ℕ, zero, suc, ◌+◌, ◌-◌, ◌<◌, ◌≤◌, eqb, length, get_or, set, Option, MatchOption}
use Rattle.definitions.specs.Limits.{most_edges, most_steps}
use Rattle.data_edges.specs.Words.{Light, unpack}

-- One more than the index of the last of the first k words whose edge leaves u; 0 where there is none.
unfoldable pub last_from : List ℕ → ℕ → ℕ → ℕ
last_from es u zero = 0
last_from es u (suc k) = cond (eqb (unpack (get_or es k 0)).from u) (suc k) (last_from es u k)

-- How many of the first k words are returns. A return stands as many places behind the first one as returns come before it.
unfoldable pub returns_before : List ℕ → ℕ → ℕ
returns_before es zero = 0
returns_before es (suc k) = cond (unpack (get_or es k 0)).back (suc (returns_before es k)) (returns_before es k)

abbrev pub return_place : List ℕ → ℕ → ℕ
return_place es i = 64 + length es + returns_before es i

-- The lists of all words, as many as a sheet may have at most, so that a place fits its number, and none that gains more than an edge of a sheet may. Places past the 0 behind the returns are free: nothing is said of them.
pub record Lists (es lists : List ℕ) : Type 0 where
  pub few : length es ≤ most_edges
  pub light : Light es
  pub heads : (u : ℕ) → u < 64 → get_or lists u 0 ≡ last_from es u (length es)
  pub nexts : (i : ℕ) → i < length es → get_or lists (64 + i) 0 ≡ last_from es (unpack (get_or es i 0)).from i
  pub returns : (i : ℕ) → i < length es → (unpack (get_or es i 0)).back ≡ true → get_or lists (return_place es i) 0 ≡ suc i
  pub last : get_or lists (return_place es (length es)) 0 ≡ 0
  pub long : 64 + length es + length es < length lists

-- No step's list has an edge yet.
abbrev pub Empty : List ℕ → Type 0
Empty lists = (u : ℕ) → u < 64 → get_or lists u 0 ≡ 0

-- The words of a sheet, and room for their lists, in which no edge stands yet.
pub record Unlisted (es lists : List ℕ) : Type 0 where
  pub few : length es ≤ most_edges
  pub light : Light es
  pub long : 64 + length es + length es < length lists
  pub empty : Empty lists

-- Edge k put before the list of the step that it leaves.
unfoldable pub put_first : List ℕ → ℕ → ℕ → List ℕ
put_first lists from k = set (set lists (64 + k) (get_or lists from 0)) from (k + 1)

-- Edge k put behind the returns, at place `at`, which it keeps where it is one; r is the place of the next.
pub record Appended (back : Bool) (at k : ℕ) (lists lists' : List ℕ) (r : ℕ) : Type 0 where
  pub put : lists' ≡ set lists at (k + 1)
  pub next : r ≡ cond back (at + 1) at

-- A loop over the edges that leave a step, from the last one on: k is one more than the index of the one that comes next, 0 at the end. That is edge i, behind which comes k'.
pub record EdgeOut (es : List ℕ) (k i k' : ℕ) : Type 0 where
  pub place : k ≡ suc i
  pub inside : i < length es
  pub follows : k' ≡ last_from es (unpack (get_or es i 0)).from i

abbrev pub NextOut : List ℕ → ℕ → Option ℕ → ℕ → Type 0
NextOut es k r k' = MatchOption r (k ≡ 0) (λ i. EdgeOut es k i k')

-- A loop over the returns, from the first one on: k, which stands at place `at`, is one more than the index of the one that comes next, 0 at the end.
pub record AtReturn (es : List ℕ) (at k : ℕ) : Type 0 where
  pub few : k ≤ length es
  pub stands : 1 ≤ k → at ≡ return_place es (k - 1)
  pub back : 1 ≤ k → (unpack (get_or es (k - 1) 0)).back ≡ true

-- The return that comes next is edge i, behind which stands k' at place at'.
pub record ReturnOut (es lists : List ℕ) (at k i at' k' : ℕ) : Type 0 where
  pub place : k ≡ suc i
  pub inside : i < length es
  pub back : (unpack (get_or es i 0)).back ≡ true
  pub behind : at' ≡ at + 1
  pub follows : k' ≡ get_or lists at' 0

abbrev pub NextReturn : List ℕ → List ℕ → ℕ → ℕ → Option ℕ → ℕ → ℕ → Type 0
NextReturn es lists at k r at' k' = MatchOption r (k ≡ 0) (λ i. ReturnOut es lists at k i at' k')

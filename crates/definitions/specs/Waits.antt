-- "Waits": serialization edges.
use Rattle.std.specs.Prelude.{◌≡◌, Bool, true, false, not, ◌&&◌, ℕ, eqb, ltb, length}
use mathlib.Core.List.{List, ◌++◌, map, flat_map}
use Rattle.definitions.specs.Limits.{most_steps}
use Rattle.definitions.specs.Basics.{any, tabulate, select_below, bits_below}
use Rattle.definitions.specs.Links.{Edge, Graph, After, UsableFrom, usable}
use Rattle.definitions.specs.Rounds.{after_reaches}
use Rattle.definitions.specs.Anchors.{InAnchorSet, in_anchor_set}

-- i waits for a: some at-most link stands on (i, j), a walk that begins with an after link out of open a ≠ 0 reaches j, and a is not in the start set of i on the sheet as sent, which is the completed one without waits. The link may count
-- from the finish of i: it then calls for no wait of i for itself.
pub record Wait (E : Graph) (a i : ℕ) : Type 0 where
  pub edge : Edge
  pub mem : UsableFrom E a edge
  pub returns : edge.back ≡ true
  pub enters : edge.to ≡ i
  pub reaches : After (UsableFrom E a) a edge.from
  pub absent : ¬ InAnchorSet E a i

unfoldable pub waits_for : ℕ → List Edge → ℕ → ℕ → Bool
waits_for n es a i = any (λ e. e.back && eqb e.to i && after_reaches n (usable es a) a e.from) (usable es a) && not (in_anchor_set n es a i)

-- Listed by a, then by i.
pub record WaitPair : Type 0 where
  pub anchor : ℕ
  pub target : ℕ

abbrev pub wait_pair : ℕ → ℕ → WaitPair
wait_pair a i = record { anchor = a; target = i }

unfoldable pub waits_of : ℕ → List Edge → ℕ → List WaitPair
waits_of n es a = map (wait_pair a) (select_below (waits_for n es a) n)

unfoldable pub wait_list : ℕ → List Edge → List WaitPair
wait_list n es = flat_map (waits_of n es) (tabulate (λ a. a) n)

-- As 64 maps of 64 bits, bit a of map i; and their count.
unfoldable pub wait_map : ℕ → List Edge → ℕ → ℕ
wait_map n es i = bits_below (λ a. ltb i n && waits_for n es a i) n

unfoldable pub wait_maps : ℕ → List Edge → List ℕ
wait_maps n es = tabulate (wait_map n es) most_steps

unfoldable pub wait_count : ℕ → List Edge → ℕ
wait_count n es = length (wait_list n es)

unfoldable pub needs_waits : ℕ → List Edge → Bool
needs_waits n es = ltb 0 (wait_count n es)

-- A wait is an added after link from a to i, with gap 0: it weighs the least of a.
abbrev pub wait_edge : (ℕ → ℕ) → WaitPair → Edge
wait_edge least w = record { from = w.anchor; to = w.target; gain = least w.anchor; loss = 0; counted = true; back = false; late = false }

-- The sheet with its waits in. Start sets and walks are then taken on it.
unfoldable pub serialized : ℕ → (ℕ → ℕ) → List Edge → List Edge
serialized n least es = es ++ map (wait_edge least) (wait_list n es)

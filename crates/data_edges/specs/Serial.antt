-- Waits held as maps, bit a of map i, as the list of pairs and the edges that they stand for: by a, then by i. Each edge weighs the least of its anchor.
use Rattle.std.specs.Prelude.{◌≡◌, true, ℕ, ◌<◌, get_or}
use mathlib.Core.List.{List, map, flat_map}
use Rattle.definitions.specs.Basics.{tabulate, select_below, test_bit}
use Rattle.definitions.specs.Links.{Edge}
use Rattle.definitions.specs.Waits.{WaitPair, wait_edge}

-- The leasts that an array holds, by step.
abbrev pub leasts_in : List ℕ → ℕ → ℕ
leasts_in leasts a = get_or leasts a 0

-- The pairs of anchor a with the targets below m.
unfoldable pub pairs_of : List ℕ → ℕ → ℕ → List WaitPair
pairs_of maps a m = map (λ i. record { anchor = a; target = i }) (select_below (λ i. test_bit (get_or maps i 0) a) m)

unfoldable pub pairs : ℕ → List ℕ → List WaitPair
pairs n maps = flat_map (λ a. pairs_of maps a n) (tabulate (λ a. a) n)

unfoldable pub wait_edges : ℕ → (ℕ → ℕ) → List ℕ → List Edge
wait_edges n least maps = map (wait_edge least) (pairs n maps)

-- Maps of waits hold no step at n or above.
abbrev pub Within : ℕ → List ℕ → Type 0
Within n maps = (i a : ℕ) → test_bit (get_or maps i 0) a ≡ true → a < n

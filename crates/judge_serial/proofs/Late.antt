-- The late edges of the words, from the union of the words.
use mathlib.Core.Path.{◌≡◌, sym, ap, ◌∙◌}
use mathlib.Core.Bool.{Bool, ◌||◌}
use mathlib.Core.List.{List, map}
use Prim.Native.Nat.{ℕ, ◌+◌, ◌<◌, ◌≤◌}
use lib.ListN.{length, get_or, take}
use lib.Seq.{take_all}
use Rattle.definitions.specs.Basics.{any, test_bit}
use Rattle.data_edges.specs.Words.{graph, unpack}
use Rattle.data_edges.proofs.Unions.{late_none, late_union}
use Rattle.laws.proofs.Searches.{any_snoc, map_take_more}

-- The union of the first k words.
abbrev pub Seen : List ℕ → ℕ → ℕ → Type 0
Seen es k seen = (unpack seen).late ≡ any (λ e. e.late) (graph (take k es))

pub seen_none : (es : List ℕ) → Seen es 0 0
unfolding graph any
seen_none es = late_none

pub seen_more : (es : List ℕ) (k seen seen' : ℕ) → k < length es → Seen es k seen → ((j : ℕ) → test_bit seen' j ≡ (test_bit seen j || test_bit (get_or es k 0) j)) → Seen es (k + 1) seen'
unfolding graph
seen_more es k seen seen' b h joins =
    late_union seen (get_or es k 0) seen' joins
    ∙ ap (λ (t : Bool). t || (unpack (get_or es k 0)).late) h
    ∙ sym (ap (any (λ e. e.late)) (map_take_more unpack es k 0 b) ∙ any_snoc (λ e. e.late) (map unpack (take k es)) (unpack (get_or es k 0)))

pub seen_all : (es : List ℕ) (k seen : ℕ) → length es ≤ k → Seen es k seen → (unpack seen).late ≡ any (λ e. e.late) (graph es)
seen_all es k seen b h = h ∙ ap (λ (l : List ℕ). any (λ e. e.late) (graph l)) (take_all k es b)

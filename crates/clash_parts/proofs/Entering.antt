-- The steps that forward edges lead into, as a map: word by word.
use mathlib.Core.Path.{◌≡◌, sym, ap, ◌∙◌}
use mathlib.Core.Bool.{Bool, not, ◌&&◌, ◌||◌}
use mathlib.Core.List.{List}
use Prim.Native.Nat.{ℕ, ◌+◌, ◌≤◌, ◌<◌}
use native.Mathlib.Omega.{arith}
use lib.Dec.{eqb}
use lib.ListN.{length, take, get_or}
use lib.Seq.{take_all}
use Rattle.definitions.specs.Basics.{any, test_bit}
use Rattle.data_edges.specs.Words.{graph, unpack}
use Rattle.laws.proofs.Bools.{eqb_turned}
use Rattle.laws.proofs.Maps.{test_zero}
use Rattle.laws.proofs.Searches.{any_snoc, map_take_more}
use Rattle.clash_parts.specs.Words.{enters}

-- The loop's invariant: m is the map of the first i words.
pub record Entering (es : List ℕ) (m i : ℕ) : Type 0 where
  pub within : i ≤ length es
  pub each : (v : ℕ) → test_bit m v ≡ any (enters v) (graph (take i es))

module _ (es : List ℕ) where
  pub entering_none : Entering es 0 0
  unfolding any graph
  entering_none = record { within = omega arith; each = test_zero }

  module _ (m i : ℕ) (so : Entering es m i) where
    -- The next word puts its end into the map where it is no return.
    pub entering_more : (to m' : ℕ) (back : Bool) → i < length es → to ≡ (unpack (get_or es i 0)).to → back ≡ (unpack (get_or es i 0)).back → ((v : ℕ) → test_bit m' v ≡ (test_bit m v || (not back && eqb v to))) → Entering es m' (i + 1)
    unfolding graph enters
    entering_more to m' back b ends runs more = record {
      within = omega arith;
      each = λ v.
          more v
          ∙ rw (so.each v, ends, runs, eqb_turned v (unpack (get_or es i 0)).to)
          (sym (ap (any (enters v)) (map_take_more unpack es i 0 b) ∙ any_snoc (enters v) (graph (take i es)) (unpack (get_or es i 0))));
    }

    pub entering_all : length es ≤ i → (v : ℕ) → test_bit m v ≡ any (enters v) (graph es)
    entering_all all v = so.each v ∙ rw (take_all i es all)

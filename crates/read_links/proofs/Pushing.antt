-- Words written one behind the other: the edges that they stand for.
use mathlib.Core.Path.{◌≡◌, refl, sym, ap, ◌∙◌}
use mathlib.Core.Bool.{Bool, true, false}
use mathlib.Core.List.{List, [], ◌∷◌, ◌++◌, append_assoc, append-nil, map-append}
use Prim.Native.Nat.{ℕ, ◌+◌, ◌≤◌, ◌<◌}
use native.Mathlib.Omega.{arith}
use native.Mathlib.Numerals.{add-one}
use lib.ListN.{length, take, set, length-set, length-append}
use lib.Seq.{take-set-le, take-suc-set}
use Rattle.definitions.specs.Links.{Edge}
use Rattle.data_edges.specs.Words.{unpack, graph}
use Rattle.read_links.specs.Pushes.{if_there, Pushed, PushedIf}

-- The first c words stand, and the next is w.
graph_set : (words : List ℕ) (c w : ℕ) → c < length words → graph (take (c + 1) (set words c w)) ≡ graph (take c words) ++ unpack w ∷ []
unfolding graph
graph_set words c w h = rw add-one (ap graph (take-suc-set words c w h) ∙ map-append unpack (take c words) (w ∷ []))

-- Nothing is pushed, or one word.
pub push_none : (e : Edge) (words : List ℕ) (c : ℕ) → PushedIf false e words words c c
push_none e words c = record {
  few = omega arith;
  kept = refl;
  pushed = record { long = refl; counts = omega arith; same = sym (append-nil (graph (take c words))) };
}

pub push_one : (words : List ℕ) (c w : ℕ) → c < length words → PushedIf true (unpack w) words (set words c w) c (c + 1)
push_one words c w h = record {
  few = omega arith;
  kept = take-set-le c words c w (omega arith);
  pushed = record { long = length-set words c w; counts = refl; same = graph_set words c w h };
}

pub push_as : {e f : Edge} {s t : List ℕ} {c d : ℕ} → e ≡ f → Pushed (e ∷ []) s t c d → Pushed (f ∷ []) s t c d
push_as h P = rw h at P

-- One push after another.
pub push_both : {es fs : List Edge} {s t u : List ℕ} {c d e : ℕ} → Pushed es s t c d → Pushed fs t u d e → Pushed (es ++ fs) s u c e
push_both {es} {fs} {s} {t} {u} {c} P Q = record {
  long = Q.long ∙ P.long;
  counts = omega (arith, P.counts, Q.counts, length-append es fs);
  same = Q.same ∙ ap (λ (x : List Edge). x ++ fs) P.same ∙ append_assoc (graph (take c s)) es fs;
}

-- What is there or not is one at most.
pub if_few : {A : Type 0} (there : Bool) (x : A) → length (if_there there x) ≤ 1
if_few true x = omega arith
if_few false x = omega arith

-- Rows of direct predecessors with the waits in are those of the edges with their waits.
use mathlib.Core.Path.{◌≡◌, ap, ap₂, refl, sym, ◌∙◌}
use mathlib.Core.Bool.{Bool, true, not, ◌&&◌, ◌||◌}
use mathlib.Core.Logic.{◌⊎◌, inl, inr}
use mathlib.Core.List.Memᴰ
use mathlib.Core.List.{List, map}
use Prim.Native.Nat.{ℕ, ◌<◌, ◌≤◌}
use native.Mathlib.Omega.{arith}
use lib.Dec.{eqb, ltb}
use lib.ListN.{length}
use borrow.Author.Tests.{eq-eqb, eqb-true, lt-ltb}
use Rattle.definitions.specs.Basics.{any}
use Rattle.definitions.specs.Links.{Edge, members}
use Rattle.definitions.specs.Waits.{serialized, wait_edge, wait_list, wait_maps}
use Rattle.laws.proofs.Bools.{and_join, and_split, or_split, same_test}
use Rattle.laws.proofs.Searches.{any_append}
use Rattle.laws.proofs.Tests.{any_by, any_has}
use Rattle.order_steps.specs.Orders.{Predecessors, precedes}
use Rattle.data_relations.specs.Rows.{row_bit}
use Rattle.theory.specs.Graphs.{Shape}
use Rattle.theory.proofs.WaitLists.{listed_wait, wait_listed, wait_maps_iff, wait_target_below}

-- Row w holds what comes directly before w, and what it waits for.
abbrev pub both_bits : List ℕ → List ℕ → ℕ → ℕ → Bool
both_bits before maps w k = row_bit before w k || row_bit maps w k

module _ (least : ℕ → ℕ) {n : ℕ} {g : List Edge} (few : n ≤ 64) (shape : Shape n (members g)) where
  -- A wait for u of v, as a forward edge: bit u of map v.
  waits_precede : (v u : ℕ) → any (precedes v u) (map (wait_edge least) (wait_list n g)) ≡ row_bit (wait_maps n g) v u
  waits_precede v u = same_test (any (precedes v u) (map (wait_edge least) (wait_list n g))) (row_bit (wait_maps n g) v u) found test
    where
      found : any (precedes v u) (map (wait_edge least) (wait_list n g)) ≡ true → row_bit (wait_maps n g) v u ≡ true
      found h =
          let r = any_has (precedes v u) (map (wait_edge least) (wait_list n g)) h in
          let p = Memᴰ.of_map (wait_edge least) (wait_list n g) r.1 in
          let s = and_split (eqb v r.0.to) (not r.0.back && eqb u r.0.from) r.2 in
          let t = and_split (not r.0.back) (eqb u r.0.from) s.1 in
          let to = eqb-true v r.0.to s.0 ∙ sym (ap (λ (e : Edge). e.to) p.2) in
          let from = eqb-true u r.0.from t.1 ∙ sym (ap (λ (e : Edge). e.from) p.2) in
          ap₂ (row_bit (wait_maps n g)) to from ∙ (wait_maps_iff few shape p.0.target p.0.anchor).1 (listed_wait shape p.1)

      test : row_bit (wait_maps n g) v u ≡ true → any (precedes v u) (map (wait_edge least) (wait_list n g)) ≡ true
      test h =
          any_by
          (precedes v u)
          (map (wait_edge least) (wait_list n g))
          (Memᴰ.map (wait_edge least) (wait_listed shape ((wait_maps_iff few shape v u).0 h)))
          (and_join (eq-eqb v v refl) (eq-eqb u u refl))

  -- Nothing comes before a step at n or above: no edge enters it, and it does not wait.
  past : (v u : ℕ) → (any (precedes v u) g || row_bit (wait_maps n g) v u) ≡ true → v < n
  past v u h = by (or_split (any (precedes v u) g) (row_bit (wait_maps n g) v u) h)
    where
      by : (any (precedes v u) g ≡ true) ⊎ (row_bit (wait_maps n g) v u ≡ true) → v < n
      by (inl k) =
          let r = any_has (precedes v u) g k in
          let s = and_split (eqb v r.0.to) (not r.0.back && eqb u r.0.from) r.2 in
          omega (arith, shape.to_below r.0 r.1, eqb-true v r.0.to s.0)
      by (inr k) = wait_target_below shape ((wait_maps_iff few shape v u).0 k)

  within : (v u : ℕ) → (ltb v n && (any (precedes v u) g || row_bit (wait_maps n g) v u)) ≡ (any (precedes v u) g || row_bit (wait_maps n g) v u)
  within v u =
      same_test
      (ltb v n && (any (precedes v u) g || row_bit (wait_maps n g) v u))
      (any (precedes v u) g || row_bit (wait_maps n g) v u)
      (λ h. (and_split (ltb v n) (any (precedes v u) g || row_bit (wait_maps n g) v u) h).1)
      (λ h. and_join (lt-ltb v n (past v u h)) h)

  pub waited_predecessors : (rows : List ℕ) → length rows ≡ 64 → ((v u : ℕ) → row_bit rows v u ≡ (ltb v n && (any (precedes v u) g || row_bit (wait_maps n g) v u))) → Predecessors (serialized n least g) rows
  unfolding serialized
  waited_predecessors rows long bits =
      record { long = long; bits = λ v u. bits v u ∙ within v u ∙ ap (λ (b : Bool). any (precedes v u) g || b) (sym (waits_precede v u)) ∙ sym (any_append (precedes v u) g (map (wait_edge least) (wait_list n g))) }

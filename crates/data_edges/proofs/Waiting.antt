-- The edges of waits that are held as maps: one for each bit that stands, and no others.
use mathlib.Core.Path.{◌≡◌, sym, ap, ◌∙◌}
use mathlib.Core.Bool.{true}
use mathlib.Core.List.Memᴰ
use mathlib.Core.List.{List, Memᴰ}
use Prim.Native.Nat.{ℕ, ◌<◌}
use native.Mathlib.Omega.{arith}
use lib.ListN.{get_or}
use Rattle.definitions.specs.Basics.{tabulate, select_below, test_bit}
use Rattle.definitions.specs.Links.{Edge}
use Rattle.definitions.specs.Waits.{wait_edge}
use Rattle.laws.proofs.Tests.{flatMap_has, flatMap_only, mem_tabulate, select_below_has, select_below_only, tabulate_mem}
use Rattle.data_edges.specs.Serial.{pairs_of, pairs, wait_edges}

-- The bit of the maps that e stands for.
pub record WaitBit (n : ℕ) (least : ℕ → ℕ) (maps : List ℕ) (e : Edge) : Type 0 where
  pub anchor : ℕ
  pub target : ℕ
  pub anchor_below : anchor < n
  pub target_below : target < n
  pub stands : test_bit (get_or maps target 0) anchor ≡ true
  pub same : e ≡ wait_edge least (record { anchor = anchor; target = target })

module _ (n : ℕ) (least : ℕ → ℕ) (maps : List ℕ) where
  pub wait_edges_has : (e : Edge) → WaitBit n least maps e → Memᴰ e (wait_edges n least maps)
  unfolding wait_edges pairs pairs_of
  wait_edges_has e w =
      Memᴰ.cast
      w.same
      (Memᴰ.map
      (wait_edge least)
      (flatMap_has
      (λ a. pairs_of maps a n)
      (tabulate (λ a. a) n)
      (tabulate_mem (λ a. a) n w.anchor_below)
      (Memᴰ.map (λ i. record { anchor = w.anchor; target = i }) (select_below_has (λ i. test_bit (get_or maps i 0) w.anchor) n w.target_below w.stands))))

  pub wait_edges_only : (e : Edge) → Memᴰ e (wait_edges n least maps) → WaitBit n least maps e
  unfolding wait_edges pairs pairs_of
  wait_edges_only e m =
      let p = Memᴰ.of_map (wait_edge least) (pairs n maps) m in
      let q = flatMap_only (λ a. pairs_of maps a n) (tabulate (λ a. a) n) p.1 in
      let r = mem_tabulate (λ a. a) n q.1 in
      let s = Memᴰ.of_map (λ i. record { anchor = q.0; target = i }) (select_below (λ i. test_bit (get_or maps i 0) q.0) n) q.2 in
      let t = select_below_only (λ i. test_bit (get_or maps i 0) q.0) n s.1 in
      record { anchor = q.0; target = s.0; anchor_below = omega (arith, r.1, r.2); target_below = t.0; stands = t.1; same = sym p.2 ∙ ap (wait_edge least) (sym s.2) }

-- What the rows of waits are: the maps of the definition, and their count.
use mathlib.Core.Path.{◌≡◌, sym, ap, ◌∙◌}
use mathlib.Core.Bool.{Bool, true, false, not, ◌&&◌, ◌||◌, or-false}
use mathlib.Core.List.{List, map}
use Prim.Native.Nat.{ℕ, ◌+◌, ◌<◌, ◌≤◌}
use native.Mathlib.Omega.{arith}
use lib.Dec.{eqb, ltb}
use lib.ListN.{length, get_or, length-set, replicate, set, take}
use lib.Seq.{ext_get_or}
use borrow.Author.Tests.{eq-eqb, eqb-true, lt-ltb, ltb-true, not-true}
use Rattle.definitions.specs.Anchors.{in_anchor_set}
use Rattle.definitions.specs.Answers.{inconsistent}
use Rattle.definitions.specs.Basics.{any, any_below, select_below, sum_below, test_bit}
use Rattle.definitions.specs.Links.{Edge, late_into, usable}
use Rattle.definitions.specs.Rounds.{after_reaches}
use Rattle.definitions.specs.Waits.{wait_count, wait_map, wait_maps, waits_for}
use Rattle.data_edges.specs.Words.{graph, unpack}
use Rattle.data_lists.proofs.Returning.{Passes}
use Rattle.laws.proofs.Bools.{and_join, and_split, both_ways, not_passing, same_test}
use Rattle.laws.proofs.Counts.{sum_below_same, select_length}
use Rattle.laws.proofs.Maps.{same_map}
use Rattle.laws.proofs.Searches.{any_below_same, any_snoc, map_take_more}
use Rattle.laws.proofs.Tests.{any_by, any_has, tabulate_length}
use Rattle.data_relations.specs.Rows.{row_bit, Gathered}
use Rattle.data_relations.proofs.Gathering.{pass_all, pass_none, store_bit}
use Rattle.theory.proofs.Usables.{late_into_iff, members_usable, usable_members, usable_shape}
use Rattle.theory.specs.Counts.{count_below}
use Rattle.theory.proofs.WaitCounts.{wait_count_members}
use Rattle.theory.proofs.WaitLists.{usable_reaches_iff, wait_map_bit, wait_maps_at}
use Rattle.theory.proofs.Walks.{after_start_below}
use Rattle.judge_waits.specs.Reaching.{Held, Reaches, Known, holds_up}

-- Refusal 11 is a loop of the rows.
pub loop_is_inconsistent : {n : ℕ} {g : List Edge} {rows : List ℕ} → Reaches n g rows → any_below (λ (v : ℕ). row_bit rows v v) n ≡ inconsistent n g
unfolding inconsistent
loop_is_inconsistent {n} {g} {rows} h = any_below_same (λ (v : ℕ). row_bit rows v v) (λ (a : ℕ). after_reaches n (usable g a) a a) n (λ v b. h.bits v v b)

-- One edge: a backward one stores what it makes wait, a forward one says nothing.
module _ (reach sets maps : List ℕ) (e : Edge) (long : length maps ≡ 64) where
  pub held_none : e.back ≡ false → Held (holds_up reach sets) e maps maps
  held_none f = record { long = long; bits = λ i a. sym (ap (λ (t : Bool). row_bit maps i a || t) (none i a) ∙ or-false (row_bit maps i a)) }
    where
      none : (i a : ℕ) → holds_up reach sets i a e ≡ false
      none i a =
          not_passing
          (holds_up reach sets i a e)
          (λ t.
          let p = and_split (eqb i e.to) (e.back && (row_bit reach e.from a && not (late_into a e) && not (row_bit sets e.to a))) t in
          both_ways (and_split e.back (row_bit reach e.from a && not (late_into a e) && not (row_bit sets e.to a)) p.1).0 f)

  pub held_store : (i j users held m : ℕ) → i ≡ e.to → i < 64 → j ≡ e.from → e.back ≡ true → ((a : ℕ) → test_bit users a ≡ (row_bit reach j a && not (late_into a e))) → ((a : ℕ) → test_bit held a ≡ (test_bit users a && not (row_bit sets i a))) → ((a : ℕ) → test_bit m a ≡ (row_bit maps i a || test_bit held a)) → Held (holds_up reach sets) e maps (set maps i m)
  held_store i j users held m to low from back may left joins =
      record { long = length-set maps i m ∙ long; bits = λ w a. store_bit maps i m (test_bit held) (omega arith) joins w a ∙ ap (λ (t : Bool). row_bit maps w a || (eqb w i && t)) (left a ∙ ap (λ (t : Bool). t && not (row_bit sets i a)) (may a)) ∙ ap (λ (t : Bool). row_bit maps w a || t) (same w a) }
    where
      same : (w a : ℕ) → (eqb w i && (row_bit reach j a && not (late_into a e) && not (row_bit sets i a))) ≡ holds_up reach sets w a e
      same w a = rw (to, from, back)

-- The words passed over: none, one more, all.
pub held_start : (reach sets es maps : List ℕ) → maps ≡ replicate 64 0 → Gathered (holds_up reach sets) (graph (take 0 es)) maps
unfolding graph
held_start reach sets es maps blank = rw blank (pass_none (holds_up reach sets) unpack es)

pub held_more : (reach sets es maps maps' : List ℕ) (k : ℕ) → k < length es → Gathered (holds_up reach sets) (graph (take k es)) maps → Held (holds_up reach sets) (unpack (get_or es k 0)) maps maps' → Gathered (holds_up reach sets) (graph (take (k + 1) es)) maps'
unfolding graph
held_more reach sets es maps maps' k b G H =
    record { long = H.long; bits = λ i a. H.bits i a ∙ ap (λ (t : Bool). t || holds_up reach sets i a (unpack (get_or es k 0))) (G.bits i a) ∙ sym (ap (any (holds_up reach sets i a)) (map_take_more unpack es k 0 b) ∙ any_snoc (holds_up reach sets i a) (map unpack (take k es)) (unpack (get_or es k 0))) }

pub held_end : (reach sets es maps : List ℕ) → Gathered (holds_up reach sets) (graph (take (length es) es)) maps → Gathered (holds_up reach sets) (graph es) maps
unfolding graph
held_end reach sets es maps G = pass_all (holds_up reach sets) unpack es (length es) (omega arith) G

-- A word that is no return may be passed over.
pub held_pass : (reach sets es maps : List ℕ) → Passes (λ k. Gathered (holds_up reach sets) (graph (take k es)) maps) es
held_pass reach sets es maps k b ahead G = held_more reach sets es maps maps k b G (held_none reach sets maps (unpack (get_or es k 0)) G.long ahead)

module _ {n : ℕ} {g : List Edge} {reach sets : List ℕ} (known : Known n g reach sets) where
  -- An anchor that reaches something is below n.
  reaching_below : (a v : ℕ) → after_reaches n (usable g a) a v ≡ true → a < n
  reaching_below a v h = after_start_below (usable_shape known.shape a) ((usable_reaches_iff known.shape a v).0 h)

  set_bit : {a i : ℕ} → a < n → i < n → row_bit sets i a ≡ in_anchor_set n g a i
  set_bit {a} {i} b c =
      known.anchors.bits a i
      ∙ ap (λ (t : Bool). t && (ltb a n && in_anchor_set n g a i)) (lt-ltb i n c)
      ∙ ap (λ (t : Bool). t && in_anchor_set n g a i) (lt-ltb a n b)

  -- Some backward edge makes i wait for a exactly where the definition lists that wait: the edges that a may use are those that are not late into a.
  pub held_up : (i a : ℕ) → any (holds_up reach sets i a) g ≡ (ltb a n && (ltb i n && waits_for n g a i))
  unfolding waits_for
  held_up i a = same_test (any (holds_up reach sets i a) g) (ltb a n && (ltb i n && (any returning (usable g a) && not (in_anchor_set n g a i)))) found test
    where
      returning : Edge → Bool
      returning e = e.back && eqb e.to i && after_reaches n (usable g a) a e.from

      found : any (holds_up reach sets i a) g ≡ true → (ltb a n && (ltb i n && (any returning (usable g a) && not (in_anchor_set n g a i)))) ≡ true
      found h =
          let r = any_has (holds_up reach sets i a) g h in
          let e = r.0 in
          let s = and_split (eqb i e.to) (e.back && (row_bit reach e.from a && not (late_into a e) && not (row_bit sets e.to a))) r.2 in
          let t = and_split e.back (row_bit reach e.from a && not (late_into a e) && not (row_bit sets e.to a)) s.1 in
          let u = and_split (row_bit reach e.from a && not (late_into a e)) (not (row_bit sets e.to a)) t.1 in
          let x = and_split (row_bit reach e.from a) (not (late_into a e)) u.0 in
          let into = eqb-true i e.to s.0 in
          let comes = sym (known.reaches.bits a e.from (known.shape.from_below e r.1)) ∙ x.0 in
          let small : a < n = reaching_below a e.from comes in
          let inside : i < n = omega (arith, known.shape.to_below e r.1) in
          and_join
          (lt-ltb a n small)
          (and_join
          (lt-ltb i n inside)
          (and_join
          (any_by returning (usable g a) (usable_members g a e (r.1, λ l. both_ways ((late_into_iff e a).1 l) (not-true (late_into a e) x.1))) (and_join (and_join t.0 (eq-eqb e.to i (sym into))) comes))
          (ap not (sym (set_bit small inside) ∙ ap (λ (x : ℕ). row_bit sets x a) into ∙ not-true (row_bit sets e.to a) u.1))))

      test : (ltb a n && (ltb i n && (any returning (usable g a) && not (in_anchor_set n g a i)))) ≡ true → any (holds_up reach sets i a) g ≡ true
      test h =
          let p = and_split (ltb a n) (ltb i n && (any returning (usable g a) && not (in_anchor_set n g a i))) h in
          let q = and_split (ltb i n) (any returning (usable g a) && not (in_anchor_set n g a i)) p.1 in
          let w = and_split (any returning (usable g a)) (not (in_anchor_set n g a i)) q.1 in
          let r = any_has returning (usable g a) w.0 in
          let e = r.0 in
          let m = members_usable g a e r.1 in
          let s = and_split (e.back && eqb e.to i) (after_reaches n (usable g a) a e.from) r.2 in
          let t = and_split e.back (eqb e.to i) s.0 in
          let into = eqb-true e.to i t.1 in
          any_by
          (holds_up reach sets i a)
          g
          m.0
          (and_join
          (eq-eqb i e.to (sym into))
          (and_join
          t.0
          (and_join
          (and_join (known.reaches.bits a e.from (known.shape.from_below e m.0) ∙ s.1) (ap not (not_passing (late_into a e) (λ l. m.1 ((late_into_iff e a).0 l)))))
          (ap (λ (x : ℕ). not (row_bit sets x a)) into ∙ ap not (set_bit (ltb-true a n p.0) (ltb-true i n q.0)) ∙ w.1))))

  -- So the rows are the maps: two maps with the same bits are the same.
  pub maps_by : {rows : List ℕ} → Gathered (holds_up reach sets) g rows → rows ≡ wait_maps n g
  unfolding wait_maps
  maps_by {rows} h =
      ext_get_or 0 rows (wait_maps n g) (h.long ∙ sym (tabulate_length (wait_map n g) 64)) (λ i b. same_map (get_or rows i 0) (get_or (wait_maps n g) i 0) (λ a. h.bits i a ∙ held_up i a ∙ sym (wait_map_bit n g i a) ∙ ap (λ (m : ℕ). test_bit m a) (sym (wait_maps_at n g i (omega (arith, h.long))))))

-- The count of the waits is the sum of the members of each map.
pub count_by : (n : ℕ) (g : List Edge) (maps : List ℕ) → n ≤ 64 → maps ≡ wait_maps n g → sum_below (λ i. length (select_below (test_bit (get_or maps i 0)) 64)) n ≡ wait_count n g
count_by n g maps few h =
    sum_below_same (λ i. length (select_below (test_bit (get_or maps i 0)) 64)) (λ i. count_below (test_bit (get_or (wait_maps n g) i 0)) 64) n row
    ∙ sym (wait_count_members n g few)
  where
    row : (i : ℕ) → i < n → length (select_below (test_bit (get_or maps i 0)) 64) ≡ count_below (test_bit (get_or (wait_maps n g) i 0)) 64
    row i b = select_length (test_bit (get_or maps i 0)) 64 ∙ ap (λ (l : List ℕ). count_below (test_bit (get_or l i 0)) 64) h

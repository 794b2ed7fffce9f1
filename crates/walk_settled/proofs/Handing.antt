-- Tests of the edges and the waits of a sheet, one after another, are the test of the list of both.
use mathlib.Core.Path.{◌≡◌, refl, sym, ap, ◌∙◌}
use mathlib.Core.Bool.{Bool, true, false, not, ◌&&◌, ◌||◌, false≢true}
use mathlib.Core.Logic.{◌⊎◌, inl, inr}
use mathlib.Core.List.Memᴰ
use mathlib.Core.List.{List, ◌++◌, Memᴰ}
use Prim.Native.Nat.{ℕ, ◌≤◌, ◌<◌}
use native.Mathlib.Omega.{arith}
use lib.Dec.{eqb, leb}
use lib.ListN.{get_or}
use borrow.Author.Tests.{eqb-true}
use Rattle.definitions.specs.Basics.{all, all_below, test_bit}
use Rattle.definitions.specs.Links.{Edge}
use Rattle.definitions.specs.Rounds.{entry, extend}
use Rattle.definitions.specs.Waits.{wait_edge}
use Rattle.data_edges.specs.Serial.{Within, wait_edges}
use Rattle.data_edges.specs.Words.{graph}
use Rattle.data_edges.proofs.Waiting.{WaitBit, wait_edges_has, wait_edges_only}
use Rattle.laws.proofs.Bools.{bool_cases, both_ways, not_passing, or_left, or_right, or_split, same_test}
use Rattle.laws.proofs.Maps.{test_zero}
use Rattle.laws.proofs.Searches.{all_below_same}
use Rattle.laws.proofs.Tests.{all_below_by, all_below_each, all_by, all_each}
use Rattle.walk_settled.specs.Settled.{handed_on, waits_handed_on}

-- An edge by its fields.
pub fields_handed : (d : List (List ℕ)) (e : Edge) {r : Bool} {from to gain loss : ℕ} → from ≡ e.from → to ≡ e.to → gain ≡ e.gain → loss ≡ e.loss → r ≡ leb (extend (entry d from 0) gain loss) (entry d to 0) → r ≡ handed_on d e
fields_handed d e f t g l h = h ∙ rw (f, t, g, l)

-- A test of the members of a map.
abbrev pub members_pass : (ℕ → Bool) → ℕ → Bool
members_pass test m = all_below (λ a. not (test_bit m a) || test a) 64

module _ (test : ℕ → Bool) where
  pub members_none : (m : ℕ) → m ≡ 0 → members_pass test m ≡ true
  members_none m z = all_below_by _ 64 (λ a b. or_left (test a) (ap not (ap (λ (x : ℕ). test_bit x a) z ∙ test_zero a)))

  -- Without a member that passes, the answer is the same.
  pub members_less : (m r x : ℕ) → test x ≡ true → ((j : ℕ) → test_bit r j ≡ (test_bit m j && not (eqb j x))) → members_pass test m ≡ members_pass test r
  members_less m r x t h = all_below_same _ _ 64 (λ a b. by a (eqb a x) (test_bit m a) (test_bit r a) refl (h a))
    where
      by : (a : ℕ) (e s s' : Bool) → eqb a x ≡ e → s' ≡ (s && not (eqb a x)) → (not s || test a) ≡ (not s' || test a)
      by a true s s' q k = let p = ap test (eqb-true a x q) ∙ t in or_right (not s) p ∙ sym (or_right (not s') p)
      by a false s s' q k = ap (λ (u : Bool). not u || test a) (keep s ∙ ap (λ (u : Bool). s && not u) (sym q) ∙ sym k)
        where
          keep : (s : Bool) → s ≡ (s && true)
          keep true = refl
          keep false = refl

  pub members_fail : (m x : ℕ) → x < 64 → test_bit m x ≡ true → test x ≡ false → members_pass test m ≡ false
  members_fail m x b s f = not_passing (members_pass test m) (λ t. go (or_split (not (test_bit m x)) (test x) (all_below_each _ 64 t x b)))
    where
      go : (not (test_bit m x) ≡ true) ⊎ (test x ≡ true) → ⊥
      go (inl q) = false≢true (ap not (sym s) ∙ q)
      go (inr q) = both_ways q f

-- The tests of the edges and of the maps are that of the list: the waits in it are the bits of the maps.
module _ (d : List (List ℕ)) (n : ℕ) (least : ℕ → ℕ) (es maps : List ℕ) where
  abbrev both : List Edge
  both = graph es ++ wait_edges n least maps

  -- The edge of a wait of i for a, and whether the map of i has it.
  abbrev pair : ℕ → ℕ → Edge
  pair i a = wait_edge least (record { anchor = a; target = i })

  abbrev stands : ℕ → ℕ → Bool
  stands i a = test_bit (get_or maps i 0) a

  pub edges_fail : all (handed_on d) (graph es) ≡ false → all (handed_on d) both ≡ false
  edges_fail f =
      not_passing (all (handed_on d) both)
      (λ t. both_ways (all_by (handed_on d) (graph es) (λ e m. all_each (handed_on d) both t e (Memᴰ.append_left (wait_edges n least maps) m))) f)

  pub both_pass : n ≤ 64 → all (handed_on d) (graph es) ≡ true → Within n maps → all_below (λ i. waits_handed_on d least (get_or maps i 0) i) n ≡ all (handed_on d) both
  both_pass few edges within = same_test _ _ to from
    where
      waits : all_below (λ i. waits_handed_on d least (get_or maps i 0) i) n ≡ true → (e : Edge) → WaitBit n least maps e → handed_on d e ≡ true
      waits t e w = go (or_split (not (stands w.target w.anchor)) (handed_on d (pair w.target w.anchor)) (all_below_each _ 64 (all_below_each _ n t w.target w.target_below) w.anchor (omega (arith, w.anchor_below))))
        where
          go : (not (stands w.target w.anchor) ≡ true) ⊎ (handed_on d (pair w.target w.anchor) ≡ true) → handed_on d e ≡ true
          go (inl q) = absurd (false≢true (ap not (sym w.stands) ∙ q))
          go (inr q) = ap (handed_on d) w.same ∙ q

      to : all_below (λ i. waits_handed_on d least (get_or maps i 0) i) n ≡ true → all (handed_on d) both ≡ true
      to t = all_by (handed_on d) both (λ e m. go e (Memᴰ.append_cases (graph es) m))
        where
          go : (e : Edge) → Memᴰ e (graph es) ⊎ Memᴰ e (wait_edges n least maps) → handed_on d e ≡ true
          go e (inl m) = all_each (handed_on d) (graph es) edges e m
          go e (inr m) = waits t e (wait_edges_only n least maps e m)

      listed : (i a : ℕ) → i < n → stands i a ≡ true → Memᴰ (pair i a) both
      listed i a b s =
          Memᴰ.append_right
          (graph es)
          (wait_edges_has n least maps (pair i a) (record { anchor = a; target = i; anchor_below = within i a s; target_below = b; stands = s; same = refl }))

      from : all (handed_on d) both ≡ true → all_below (λ i. waits_handed_on d least (get_or maps i 0) i) n ≡ true
      from t = all_below_by _ n (λ i b. all_below_by _ 64 (λ a c. go i a b (bool_cases (stands i a))))
        where
          go : (i a : ℕ) → i < n → (stands i a ≡ true) ⊎ (stands i a ≡ false) → (not (stands i a) || handed_on d (pair i a)) ≡ true
          go i a b (inl s) = or_right (not (stands i a)) (all_each (handed_on d) both t (pair i a) (listed i a b s))
          go i a b (inr s) = or_left (handed_on d (pair i a)) (ap not s)

-- Edges out of one step, one after another.
use mathlib.Core.Path.{◌≡◌, refl, sym, ap, ◌∙◌}
use mathlib.Core.Bool.{Bool, true, false, not, ◌&&◌}
use mathlib.Core.Logic.{◌⊎◌, inl, inr, ◌≢◌}
use mathlib.Core.List.{List}
use Prim.Native.Nat.{ℕ, ◌≤◌}
use native.Mathlib.Omega.{arith}
use lib.Dec.{eqb}
use lib.IntN.{ℤ}
use lib.ListN.{length}
use borrow.Author.Tests.{eq-eqb, ne_eqb}
use Rattle.definitions.specs.Basics.{test_bit}
use Rattle.definitions.specs.Links.{Edge, Graph, LateInto, UsableFrom, ◌⊑◌}
use Rattle.definitions.specs.Rounds.{extend}
use Rattle.definitions.specs.Waits.{wait_edge}
use Rattle.data_lists.proofs.Following.{Adds, Following}
use Rattle.laws.proofs.Bools.{and_split, both_ways, gone, mark_back, same_or_not, stays}
use Rattle.laws.proofs.Maps.{test_zero}
use Rattle.walk_cells.specs.Tables.{Square}
use Rattle.walk_edge.specs.Columns.{Bounds, Handed, HandedAll, Only, Under, WaitsFor, column}
use Rattle.walk_cells.proofs.Tables.{square_then}

-- What bounds the edges of a graph bounds those of a part of it.
bounds_part : {E G : Graph} {u x : ℕ} {t : ℕ → ℕ} → E ⊑ G → Bounds G u x t → Bounds E u x t
bounds_part i B = record { ends = λ e m. B.ends e (i e m) }

-- One graph and then another make a third, where the edges out of u are in one of them.
pub handed_both : {E F G : Graph} {u x : ℕ} {r s t : ℕ → ℕ} {f g h : ℕ → Bool} → E ⊑ G → F ⊑ G → ((e : Edge) → G e → e.from ≡ u → E e ⊎ F e) → Handed E u x r s f g → Handed F u x s t g h → Handed G u x r t f h
handed_both {E} {F} {G} {u} {x} {r} {s} {t} i j split H K =
    record {
      up = λ y U B v. omega (arith, H.up y U (bounds_part i B) v, K.up y (between y U B) (bounds_part j B) v);
      under = λ y U B. K.under y (between y U B) (bounds_part j B);
      hands = λ y U B e m o. by y U B e o (split e m o);
      marks = λ v q. K.marks v (H.marks v q);
      marked = λ v q. K.marked v q ∙ H.marked v (mark_back (K.marks v) q);
    }
  where
    between : (y : ℕ → ℕ) → Under y r → Bounds G u x y → Under y s
    between y U B = H.under y U (bounds_part i B)

    by : (y : ℕ → ℕ) → Under y r → Bounds G u x y → (e : Edge) → e.from ≡ u → E e ⊎ F e → extend x e.gain e.loss ≤ t e.to
    by y U B e o (inl m) = omega (arith, H.hands y U (bounds_part i B) e m o, K.up y (between y U B) (bounds_part j B) e.to)
    by y U B e o (inr m) = K.hands y (between y U B) (bounds_part j B) e m o

pub handed_all : {E F G : ℕ → Graph} {number : List ℕ} {u u' : ℕ} {x : ℕ → ℕ} {d d' d'' : List (List ℤ)} {m m' m'' : ℕ} → u' ≡ u → ((a : ℕ) → E a ⊑ G a) → ((a : ℕ) → F a ⊑ G a)
    → ((a : ℕ) (e : Edge) → G a e → e.from ≡ u → E a e ⊎ F a e) → HandedAll E number u x d d' m m' → HandedAll F number u' x d' d'' m' m'' → HandedAll G number u x d d'' m m''
handed_all {F = F} {u = u} {x = x} {d' = d'} {d'' = d''} {m' = m'} {m'' = m''} same i j split H K =
    record {
      square = square_then H.square K.square;
      each = λ width anchor N k q. let a = anchor k in let K' : Handed (F a) u (x k) (column d' k) (column d'' k) (test_bit m') (test_bit m'') = rw same at (K.each width anchor N k q) in handed_both (i a) (j a) (split a) (H.each width anchor N k q) K';
      held = λ w few L. K.held w few (H.held w few L);
    }

-- The same edges under another name.
handed_one : {E G : Graph} {u x : ℕ} {r s : ℕ → ℕ} {f g : ℕ → Bool} → E ⊑ G → G ⊑ E → Handed E u x r s f g → Handed G u x r s f g
handed_one i j h = record {
  up = λ t U B. h.up t U (bounds_part i B);
  under = λ t U B. h.under t U (bounds_part i B);
  hands = λ t U B e m o. h.hands t U (bounds_part i B) e (j e m) o;
  marks = h.marks;
  marked = h.marked;
}

pub handed_as : {E G : ℕ → Graph} {number : List ℕ} {u : ℕ} {x : ℕ → ℕ} {d d' : List (List ℤ)} {m m' : ℕ} → ((a : ℕ) → E a ⊑ G a) → ((a : ℕ) → G a ⊑ E a) → HandedAll E number u x d d' m m' → HandedAll G number u x d d' m m'
handed_as i j H =
    record {
      square = H.square;
      each = λ width anchor N k q. let a = anchor k in handed_one (i a) (j a) (H.each width anchor N k q);
      held = H.held;
    }

-- Nothing has been done while no edge of the graph leaves u.
pub handed_none : {E : ℕ → Graph} {number : List ℕ} {u : ℕ} {x : ℕ → ℕ} (d : List (List ℤ)) (m : ℕ) → Square (length d) d → ((a : ℕ) (e : Edge) → E a e → e.from ≢ u) → HandedAll E number u x d d m m
handed_none d m S away =
    record { square = S; each = λ width anchor N k q. record { up = λ t U b v. omega arith; under = λ t U b. U; hands = λ t U b e i o. absurd (away (anchor k) e i o); marks = λ v h. h; marked = λ v h. refl }; held = λ w few L. L }

-- What an anchor may use of one of two graphs.
usable_split : (E F : Graph) {a : ℕ} {e : Edge} → ¬ LateInto e a → E e ⊎ F e → UsableFrom E a e ⊎ UsableFrom F a e
usable_split E F timely (inl m) = inl (m, timely)
usable_split E F timely (inr m) = inr (m, timely)

-- The loop over the list of a step u, whose row lends x: the edges behind the one that comes next have handed on.
abbrev pub Listing : List ℕ → List ℕ → ℕ → (ℕ → ℕ) → List (List ℤ) → List (List ℤ) → ℕ → ℕ → ℕ → Type 0
Listing es number u x d₀ d m₀ m = Following (λ E. HandedAll (λ a. UsableFrom E a) number u x d₀ d m₀ m) es u

-- It begins where no edge leaves u; a turn adds one edge; at the end the edges have another name.
module _ {number : List ℕ} {u : ℕ} {x : ℕ → ℕ} {d₀ : List (List ℤ)} {m₀ : ℕ} where
  pub listed_none : Square (length d₀) d₀ → (E : Graph) → ((e : Edge) → E e → e.from ≢ u) → HandedAll (λ a. UsableFrom E a) number u x d₀ d₀ m₀ m₀
  listed_none S E away = handed_none d₀ m₀ S (λ a e b. away e b.0)

  pub listed_more : {E : Graph} {y : Edge} {d d' : List (List ℤ)} {m m' : ℕ} → HandedAll (λ a. UsableFrom (Only y) a) number y.from x d d' m m' → (G : Graph) → Adds u E y G → HandedAll (λ a. UsableFrom E a) number u x d₀ d m₀ m → HandedAll (λ a. UsableFrom G a) number u x d₀ d' m₀ m'
  listed_more {E} {y} K G A H =
      handed_all A.leaves (λ a e b. (A.old e b.0, b.1)) (λ a e o. (A.new e o.0, o.1)) (λ a e b o. usable_split E (Only y) b.1 (A.split e b.0 o)) H K

  pub listed_as : {d : List (List ℤ)} {m : ℕ} (E G : Graph) → E ⊑ G → G ⊑ E → HandedAll (λ a. UsableFrom E a) number u x d₀ d m₀ m → HandedAll (λ a. UsableFrom G a) number u x d₀ d m₀ m
  listed_as E G i j H = handed_as (λ a e b. (i e b.0, b.1)) (λ a e b. (j e b.0, b.1)) H

-- The loop over what waits for u: those that are left have not been handed to.
pub record Told (least u m left : ℕ) (e : Edge) : Type 0 where
  pub target : ℕ
  pub waits : test_bit m target ≡ true
  pub told : test_bit left target ≡ false
  pub same : e ≡ wait_edge (λ a. least) (record { anchor = u; target = target })

-- A turn tells one more.
module _ {least waiting u : ℕ} (left left' i : ℕ) (leaves : (j : ℕ) → test_bit left' j ≡ (test_bit left j && not (eqb j i))) where
  pub told_before : Told least u waiting left ⊑ Told least u waiting left'
  told_before e t =
      record { target = t.target; waits = t.waits; told = leaves t.target ∙ ap (λ (x : Bool). x && not (eqb t.target i)) t.told; same = t.same }

  pub told_new : ((j : ℕ) → test_bit left j ≡ true → test_bit waiting j ≡ true) → test_bit left i ≡ true → Only (wait_edge (λ a. least) (record { anchor = u; target = i })) ⊑ Told least u waiting left'
  told_new within member e o = record { target = i; waits = within i member; told = leaves i ∙ gone (test_bit left i) (eqb i i) (eq-eqb i i refl); same = o }

  by : (e : Edge) (t : Told least u waiting left' e) → (t.target ≡ i) ⊎ (t.target ≢ i) → Told least u waiting left e ⊎ Only (wait_edge (λ a. least) (record { anchor = u; target = i })) e
  by e t (inl q) = inr (t.same ∙ ap (λ (x : ℕ). wait_edge (λ a. least) (record { anchor = u; target = x })) q)
  by e t (inr q) =
      inl (record { target = t.target; waits = t.waits; told = sym (stays (test_bit left t.target) (eqb t.target i) (ne_eqb t.target i q)) ∙ sym (leaves t.target) ∙ t.told; same = t.same })

  pub told_split : (e : Edge) → Told least u waiting left' e → Told least u waiting left e ⊎ Only (wait_edge (λ a. least) (record { anchor = u; target = i })) e
  told_split e t = by e t (same_or_not t.target i)

-- Once none is left, all are told.
pub told_waits : {least waiting u left : ℕ} → Told least u waiting left ⊑ WaitsFor least u waiting
told_waits e t = record { target = t.target; waits = t.waits; same = t.same }

pub waits_told : {least waiting u : ℕ} (left : ℕ) → left ≡ 0 → WaitsFor least u waiting ⊑ Told least u waiting left
waits_told left z e w =
    record { target = w.target; waits = w.waits; told = ap (λ (x : ℕ). test_bit x w.target) z ∙ test_zero w.target; same = w.same }

module _ (least waiting u : ℕ) (number : List ℕ) (x : ℕ → ℕ) (d₀ : List (List ℤ)) (m₀ : ℕ) where
  pub told_start : Square (length d₀) d₀ → HandedAll (λ a. Told least u waiting waiting) number u x d₀ d₀ m₀ m₀
  told_start S = handed_none d₀ m₀ S (λ a e t o. both_ways t.waits t.told)

  -- A wait is never late, so it is for every anchor.
  pub told_turn : (d d' : List (List ℤ)) (m m' left left' i : ℕ) → ((j : ℕ) → test_bit left j ≡ true → test_bit waiting j ≡ true) → test_bit left i ≡ true
      → ((j : ℕ) → test_bit left' j ≡ (test_bit left j && not (eqb j i))) → HandedAll (λ a. Told least u waiting left) number u x d₀ d m₀ m
      → HandedAll (λ a. UsableFrom (Only (wait_edge (λ a. least) (record { anchor = u; target = i }))) a) number u x d d' m m' → HandedAll (λ a. Told least u waiting left') number u x d₀ d' m₀ m'
  told_turn d d' m m' left left' i within member leaves H K =
      handed_all refl (λ a. told_before left left' i leaves) (λ a e o. told_new left left' i leaves within member e o.0) (λ a e t o. usable a e (told_split left left' i leaves e t)) H K
    where
      usable : (a : ℕ) (e : Edge) → Told least u waiting left e ⊎ Only (wait_edge (λ a. least) (record { anchor = u; target = i })) e → Told least u waiting left e ⊎ UsableFrom (Only (wait_edge (λ a. least) (record { anchor = u; target = i }))) a e
      usable a e (inl t) = inl t
      usable a e (inr o) = inr (o, λ l. both_ways l.0 (ap (λ (y : Edge). y.late) o))

  pub told_end : (d : List (List ℤ)) (m left : ℕ) → left ≡ 0 → HandedAll (λ a. Told least u waiting left) number u x d₀ d m₀ m → HandedAll (λ a. WaitsFor least u waiting) number u x d₀ d m₀ m
  told_end d m left z H = handed_as (λ a. told_waits) (λ a. waits_told left z) H

-- What is left of a map with a member taken out was in it.
pub left_within : (waiting left left' i : ℕ) → ((j : ℕ) → test_bit left j ≡ true → test_bit waiting j ≡ true) → ((j : ℕ) → test_bit left' j ≡ (test_bit left j && not (eqb j i))) → (j : ℕ) → test_bit left' j ≡ true → test_bit waiting j ≡ true
left_within waiting left left' i within leaves j h = within j (and_split (test_bit left j) (not (eqb j i)) (sym (leaves j) ∙ h)).0

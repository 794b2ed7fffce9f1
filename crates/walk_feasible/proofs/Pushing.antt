-- Edges out of one step on one row, one after another.
use mathlib.Core.Path.{◌≡◌, refl, sym, ap, ◌∙◌}
use mathlib.Core.Bool.{Bool, true, false, ◌||◌}
use mathlib.Core.Logic.{◌⊎◌, inl, inr, ◌≢◌}
use mathlib.Core.List.{List}
use Prim.Native.Nat.{ℕ, ◌+◌, ◌≤◌, ◌<◌}
use native.Mathlib.Omega.{arith}
use lib.Dec.{eqb}
use lib.IntN.{ℤ, pos}
use lib.ListN.{length, get_or, set, length-set}
use lib.Seq.{get_or-set_same, get_or-set_other}
use borrow.Author.Tests.{eqb-true, eqb-false}
use mir.Facts.{to_z-of_z}
use mir.Syntax.{w32}
use mir.Val.{SFits}
use Rattle.data_lists.proofs.Following.{Adds, Following}
use Rattle.definitions.specs.Basics.{test_bit}
use Rattle.definitions.specs.Links.{Edge, Graph, ◌⊑◌}
use Rattle.laws.proofs.Bools.{both_ways, or_left, or_neither, same_or_not}
use Rattle.walk_cells.specs.Cells.{Clear, Delta, Movable, ground, height}
use Rattle.walk_cells.proofs.Heights.{back, value_height}
use Rattle.walk_feasible.specs.Search.{Came, HandedOut, Pushed, Room, level}
use Rattle.walk_feasible.proofs.Handing.{handed_both}

or_new : (x y : Bool) → (x || y) ≡ true → x ≡ false → y ≡ true
or_new true y h q = absurd (both_ways h q)
or_new false y h q = h

-- What the machine reads back from the bits of a signed number is that number, so what holds of the one holds of the other.
pub height_back : {z : ℤ} → SFits w32 z → height (back z) ≡ height z
height_back f = ap height (to_z-of_z f)

pub back_has : (P : ℤ → Type 0) {z : ℤ} → SFits w32 z → P z → P (back z)
back_has P f h = rw (to_z-of_z f) h

-- The moved cell weighs what the cell does and what the edge gains, less what it loses.
pub moved_weighs : {own by c : ℤ} {gain loss : ℕ} → SFits w32 own → SFits w32 by → SFits w32 c → Delta gain loss by → height c + ground ≡ height (back own) + height (back by) → height (back c) + loss ≡ height own + gain
moved_weighs o b f D sum = omega (arith, sum, D.sum, height_back o, height_back b, height_back f)

-- A cell of a row that has room for a visit can be moved.
pub room_movable : {row : List ℤ} → Room 1 row → (u : ℕ) → Movable (get_or row u (pos 0))
unfolding Clear
room_movable {row} R u =
    let own = value_height (get_or row u (pos 0)) in
    record { clear = inr (omega (arith, own, R.least u)); low = omega (arith, own, R.below u) }

-- One edge: a cell that is smaller is stored to, and gets a mark; one that is not stays.
module _ (e : Edge) (row : List ℤ) (via : List ℕ) (m own : ℕ) (c : ℤ) (long : length row ≡ 64) (noted : length via ≡ 64) (weighs : height c + e.loss ≡ own + e.gain) where
  pub pushed_stored : (m' k : ℕ) → e.to < 64 → level row e.to < height c → ((j : ℕ) → test_bit m' j ≡ (test_bit m j || eqb j e.to))
      → Pushed (λ x. x ≡ e) e.from own row (set row e.to c) (set via e.to k) m m'
  pushed_stored m' k b l bits =
      record {
        long = length-set row e.to c ∙ long;
        noted = length-set via e.to k ∙ noted;
        handed = record {
          up = λ v. up v (same_or_not v e.to);
          hands = λ x o f. rw o (omega (arith, here));
          came = λ v. came v (same_or_not v e.to);
          marks = λ v q. bits v ∙ or_left (eqb v e.to) q;
          marked = λ v q. other v (eqb-false v e.to ((or_neither (test_bit m v) (eqb v e.to)).0 (sym (bits v) ∙ q)).1);
          grows = λ v h q. grown v (eqb-true v e.to (or_new (test_bit m v) (eqb v e.to) (sym (bits v) ∙ h) q));
        };
      }
    where
      here : level (set row e.to c) e.to ≡ height c
      here = ap height (get_or-set_same row e.to c (pos 0) (omega arith))

      other : (v : ℕ) → v ≢ e.to → level (set row e.to c) v ≡ level row v
      other v h = ap height (get_or-set_other row e.to v c (pos 0) h)

      grown : (v : ℕ) → v ≡ e.to → level row v < level (set row e.to c) v
      grown v h = omega (arith, here, ap (level row) h, ap (level (set row e.to c)) h)

      up : (v : ℕ) → (v ≡ e.to) ⊎ (v ≢ e.to) → level row v ≤ level (set row e.to c) v
      up v (inl h) = omega (arith, grown v h)
      up v (inr h) = omega (arith, other v h)

      came : (v : ℕ) → (v ≡ e.to) ⊎ (v ≢ e.to) → (level (set row e.to c) v ≡ level row v) ⊎ Came (λ x. x ≡ e) e.from own (level (set row e.to c)) v
      came v (inl h) = inr (record { edge = e; mem = refl; leaves = refl; ends = sym h; weighs = omega (arith, here, ap (level (set row e.to c)) h) })
      came v (inr h) = inl (other v h)

  pub pushed_kept : height c ≤ level row e.to → Pushed (λ x. x ≡ e) e.from own row row via m m
  pushed_kept l =
      record { long = long; noted = noted; handed = record { up = λ v. omega arith; hands = λ x o f. rw o (omega arith); came = λ v. inl refl; marks = λ v q. q; marked = λ v q. refl; grows = λ v h q. absurd (both_ways h q) } }

-- The same with the edge's parts as the code has them.
module _ (e : Edge) (row : List ℤ) (via : List ℕ) (m own : ℕ) (c : ℤ) {to : ℕ} (long : length row ≡ 64) (noted : length via ≡ 64) (t : to ≡ e.to) (weighs : height c + e.loss ≡ own + e.gain) where
  pub word_stored : (m' k : ℕ) → to < 64 → level row to < height c → ((j : ℕ) → test_bit m' j ≡ (test_bit m j || eqb j to))
      → Pushed (λ x. x ≡ e) e.from own row (set row to c) (set via to k) m m'
  word_stored m' k b s bits = rw t (pushed_stored e row via m own c long noted weighs m' k (rw t at b) (rw t at s) (rw t at bits))

  pub word_kept : height c ≤ level row to → Pushed (λ x. x ≡ e) e.from own row row via m m
  word_kept s = pushed_kept e row via m own c long noted weighs (rw t at s)

-- One graph and then another.
pushed_both : {E F G : Graph} {u u' own : ℕ} {row row' row'' : List ℤ} {via' via'' : List ℕ} {m m' m'' : ℕ} → u' ≡ u → E ⊑ G → F ⊑ G
    → ((e : Edge) → G e → e.from ≡ u → E e ⊎ F e) → Pushed E u own row row' via' m m' → Pushed F u' own row' row'' via'' m' m'' → Pushed G u own row row'' via'' m m''
pushed_both {F = F} {u = u} {own = own} {row' = row'} {row'' = row''} {m' = m'} {m'' = m''} same i j split P Q =
    let K : HandedOut F u own (level row') (level row'') (test_bit m') (test_bit m'') = rw same at Q.handed in
    record { long = Q.long; noted = Q.noted; handed = handed_both i j split P.handed K }

-- The same edges under another name.
pub pushed_as : {u own : ℕ} {row row' : List ℤ} {via' : List ℕ} {m m' : ℕ} (E G : Graph) → E ⊑ G → G ⊑ E → Pushed E u own row row' via' m m' → Pushed G u own row row' via' m m'
pushed_as {u} {own} {row} {row'} E G i j P =
    let h = P.handed in
    record { long = P.long; noted = P.noted; handed = record { up = h.up; hands = λ e m o. h.hands e (j e m) o; came = λ v. came v (h.came v); marks = h.marks; marked = h.marked; grows = h.grows } }
  where
    came : (v : ℕ) → (level row' v ≡ level row v) ⊎ Came E u own (level row') v → (level row' v ≡ level row v) ⊎ Came G u own (level row') v
    came v (inl q) = inl q
    came v (inr c) = inr (record { edge = c.edge; mem = i c.edge c.mem; leaves = c.leaves; ends = c.ends; weighs = c.weighs })

-- The loop over the list of a step u: the edges behind the one that comes next have handed on. It begins where no edge leaves u; a turn adds one edge; at the end the edges have another name.
abbrev pub Listing : List ℕ → ℕ → ℕ → List ℤ → List ℤ → List ℕ → ℕ → ℕ → ℕ → Type 0
Listing es u own row₀ row via m₀ m = Following (λ E. Pushed E u own row₀ row via m₀ m) es u

module _ {u own : ℕ} {row₀ : List ℤ} {m₀ : ℕ} where
  pub pushed_none : {via : List ℕ} → length row₀ ≡ 64 → length via ≡ 64 → (E : Graph) → ((e : Edge) → E e → e.from ≢ u) → Pushed E u own row₀ row₀ via m₀ m₀
  pushed_none long noted E away = record {
    long = long;
    noted = noted;
    handed = record { up = λ v. omega arith; hands = λ e b o. absurd (away e b o); came = λ v. inl refl; marks = λ v q. q; marked = λ v q. refl; grows = λ v q o. absurd (both_ways q o) };
  }

  pub pushed_more : {E : Graph} {y : Edge} {row row' : List ℤ} {via via' : List ℕ} {m m' : ℕ} → Pushed (λ x. x ≡ y) y.from own row row' via' m m'
      → (G : Graph) → Adds u E y G → Pushed E u own row₀ row via m₀ m → Pushed G u own row₀ row' via' m₀ m'
  pushed_more Q G A P = pushed_both A.leaves A.old A.new A.split P Q

-- The level that an edge hands on, under another name.
pub pushed_own : {y : Edge} {own own' : ℕ} {row row' : List ℤ} {via' : List ℕ} {m m' : ℕ} → own ≡ own' → Pushed (λ x. x ≡ y) y.from own row row' via' m m' → Pushed (λ x. x ≡ y) y.from own' row row' via' m m'
pushed_own high P = rw high at P

-- Steps that hand on, one after another, on one row of 64 cells.
use mathlib.Core.Path.{◌≡◌, refl, sym, ap, ◌∙◌}
use mathlib.Core.Bool.{Bool, true, false, not, ◌&&◌}
use mathlib.Core.Logic.{◌⊎◌, inl, inr, ◌≢◌}
use mathlib.Core.List.{List}
use Prim.Native.Nat.{ℕ, ◌+◌, ◌-◌, ◌*◌, ◌^◌, ◌≤◌, ◌<◌}
use native.Mathlib.Omega.{arith}
use native.Mathlib.Decide.{dec_lt}
use lib.Dec.{eqb, ltb}
use lib.IntN.{ℤ}
use lib.ListN.{length}
use borrow.Author.Tests.{eq-eqb, lt-ltb, ltb-true, ne_eqb}
use Rattle.data_bits.specs.Members.{Highest}
use Rattle.definitions.specs.Basics.{test_bit}
use Rattle.definitions.specs.Limits.{most_gain, most_steps}
use Rattle.definitions.specs.Links.{Edge, Graph, members}
use Rattle.data_edges.specs.Words.{Light, graph}
use Rattle.data_edges.proofs.Places.{graph_place}
use Rattle.laws.proofs.Bools.{and_split, both_ways, same_or_not, gone, stays}
use Rattle.laws.proofs.Maps.{test_above, test_zero}
use Rattle.theory.specs.Graphs.{Gains}
use Rattle.walk_feasible.specs.Search.{Passed, Pushed, Room, level, most_level}
use Rattle.walk_feasible.proofs.Handing.{pass_both, pass_idle, pass_visit}

absent : (x y : Bool) → x ≡ false → (x && y) ≡ false
absent true y q = absurd (both_ways refl q)
absent false y q = refl

-- The gains of edges are those of their words.
graph_gains : (es : List ℕ) → Light es → Gains (members (graph es)) most_gain
graph_gains es light e m = let p = graph_place es e m in omega (arith, light p.0 p.1, ap (λ (x : Edge). x.gain) p.2)

-- A visit: the mark of u goes, and its edges hand on.
pub passed_visit : (es : List ℕ) (u : ℕ) {row row' : List ℤ} {via' : List ℕ} {m rest m' : ℕ} → Light es → ((j : ℕ) → test_bit rest j ≡ (test_bit m j && not (eqb j u)))
    → Pushed (members (graph es)) u (level row u) row row' via' rest m' → Passed (members (graph es)) (λ v. v ≡ u) 1 row row' via' m m'
passed_visit es u {m = m} {rest = rest} light bits P =
    let less : (v : ℕ) → test_bit m v ≡ false → test_bit rest v ≡ false = λ v q. bits v ∙ absent (test_bit m v) (not (eqb v u)) q in
    let others : (v : ℕ) → v ≢ u → test_bit rest v ≡ test_bit m v = λ v o. bits v ∙ stays (test_bit m v) (eqb v u) (ne_eqb v u o) in
    record { long = P.long; noted = P.noted; pass = pass_visit (graph_gains es light) less others (bits u ∙ gone (test_bit m u) (eqb u u) (eq-eqb u u refl)) P.handed }

-- Steps without a mark have nothing to hand on.
pub passed_idle : {E : Graph} {row : List ℤ} {via : List ℕ} {m : ℕ} → length row ≡ 64 → length via ≡ 64 → Passed E (λ v. test_bit m v ≡ false) 0 row row via m m
passed_idle long noted = record { long = long; noted = noted; pass = pass_idle }

-- Some steps and then others, in at most b visits.
pub passed_then : {E : Graph} {On Then All : ℕ → Type 0} {c d b : ℕ} {row row' row'' : List ℤ} {via' via'' : List ℕ} {m m' m'' : ℕ} → ((v : ℕ) → All v → On v ⊎ Then v) → c + d ≤ b
    → Passed E On c row row' via' m m' → Passed E Then d row' row'' via'' m' m'' → Passed E All b row row'' via'' m m''
passed_then split few P Q = record { long = Q.long; noted = Q.noted; pass = pass_both split few P.pass Q.pass }

-- The same said of fewer steps, or of more visits.
pub passed_less : {E : Graph} {On All : ℕ → Type 0} {c b : ℕ} {row row' : List ℤ} {via' : List ℕ} {m m' : ℕ} → ((v : ℕ) → All v → On v) → c ≤ b → Passed E On c row row' via' m m' → Passed E All b row row' via' m m'
passed_less on few P = passed_then (λ v o. inl (on v o)) (omega arith) P (passed_idle P.long P.noted)

-- c visits take the room of c.
pub passed_room : {E : Graph} {On : ℕ → Type 0} (c a b : ℕ) {row row' : List ℤ} {via' : List ℕ} {m m' : ℕ} → a + c ≤ b → Room b row → Passed E On c row row' via' m m' → Room a row'
passed_room c a b few R P =
    record {
      long = P.long;
      least = λ v. omega (arith, R.least v, P.pass.up v);
      below = λ v. omega (arith, P.pass.small (most_level - most_gain * b) (λ w. omega (arith, R.below w)) v, R.below v);
    }

pub room_less : (a b : ℕ) {row : List ℤ} → a ≤ b → Room b row → Room a row
room_less a b few R = record { long = R.long; least = R.least; below = λ v. omega (arith, R.below v) }

-- Where the mark of u does not stand, to take it away changes nothing.
pub passed_same : {E : Graph} (u : ℕ) {row : List ℤ} {via : List ℕ} (m rest : ℕ) → ((j : ℕ) → test_bit rest j ≡ (test_bit m j && not (eqb j u))) → rest ≡ m → length row ≡ 64 → length via ≡ 64 → Passed E (λ v. v ≡ u) 1 row row via m m
passed_same u m rest bits e long noted = passed_less (λ v o. ap (test_bit m) o ∙ unmarked) (omega arith) (passed_idle long noted)
  where
    unmarked : test_bit m u ≡ false
    unmarked = ap (λ (x : ℕ). test_bit x u) (sym e) ∙ bits u ∙ gone (test_bit m u) (eqb u u) (eq-eqb u u refl)

-- The loop from the last mark to the first: those that are left are below the last step that was visited, and the steps that are not left have handed on.
pub record Falling (E : Graph) (row₀ row : List ℤ) (via : List ℕ) (m₀ m left last : ℕ) : Type 0 where
  pub inside : last ≤ most_steps
  pub before : (v : ℕ) → test_bit left v ≡ true → v < last
  pub passed : Passed E (λ v. test_bit left v ≡ false) (most_steps - last) row₀ row via m₀ m

pub falling_start : {E : Graph} (row : List ℤ) (via : List ℕ) (m : ℕ) → m < 2 ^ 64 → length row ≡ 64 → length via ≡ 64 → Falling E row row via m m m most_steps
falling_start row via m small long noted = record { inside = omega arith; before = λ v h. by v h (dec_lt v 64); passed = passed_idle long noted }
  where
    by : (v : ℕ) → test_bit m v ≡ true → Dec (v < 64) → v < 64
    by v h (yes b) = b
    by v h (no b) = absurd (both_ways h (test_above m 64 v small (omega arith)))

module _ {E : Graph} (row₀ row : List ℤ) (via : List ℕ) (m₀ m left last : ℕ) (F : Falling E row₀ row via m₀ m left last) where
  pub falling_end : left ≡ 0 → Passed E (λ v. v < 64) most_steps row₀ row via m₀ m
  falling_end z = passed_less (λ v b. ap (λ (x : ℕ). test_bit x v) z ∙ test_zero v) (omega arith) F.passed

  module _ (u : ℕ) (H : Highest left u) where
    pub falling_less : u < last
    falling_less = F.before u H.member

    pub falling_room : Room most_steps row₀ → Room 1 row
    falling_room R = passed_room (most_steps - last) 1 64 (omega (arith, falling_less, F.inside)) R F.passed

    -- A step that is not left after the visit to u was not left before, or is u, or has no mark.
    pub falling_turn : (row' : List ℤ) (via' : List ℕ) (m' low left' : ℕ) → Passed E (λ v. v ≡ u) 1 row row' via' m m' → ((j : ℕ) → test_bit low j ≡ ltb j u) → ((j : ℕ) → test_bit left' j ≡ (test_bit m' j && test_bit low j)) → Falling E row₀ row' via' m₀ m' left' u
    falling_turn row' via' m' low left' P lows lefts =
        record {
          inside = omega (arith, H.below);
          before = λ v h. ltb-true v u (sym (lows v) ∙ (and_split (test_bit m' v) (test_bit low v) (sym (lefts v) ∙ h)).1);
          passed = passed_then (λ v h. split v h (same_or_not v u) (dec_lt v u)) (omega arith) (passed_then {b = most_steps - u} (λ v o. o) (omega (arith, falling_less, F.inside)) F.passed P) (passed_idle {m = m'} P.long P.noted);
        }
      where
        unmarked : (x y : Bool) → y ≡ true → (x && y) ≡ false → x ≡ false
        unmarked true y h q = absurd (both_ways h q)
        unmarked false y h q = refl

        split : (v : ℕ) → test_bit left' v ≡ false → (v ≡ u) ⊎ (v ≢ u) → Dec (v < u) → ((test_bit left v ≡ false) ⊎ (v ≡ u)) ⊎ (test_bit m' v ≡ false)
        split v h (inl o) d = inl (inr o)
        split v h (inr o) (yes b) = inr (unmarked (test_bit m' v) (test_bit low v) (lows v ∙ lt-ltb v u b) (sym (lefts v) ∙ h))
        split v h (inr o) (no b) = inl (inl (H.greatest v (omega arith)))

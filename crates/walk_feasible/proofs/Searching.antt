-- Passes from a row of weights 0, and what they say of closed walks. k of them cover every walk of k edges, and no cell says more than some walk weighs, so where no closed walk is above 0 the pass after the n-th raises nothing. Where the row comes to rest, no closed walk is above 0.
use mathlib.Core.Path.{◌≡◌, refl, sym, ap, ◌∙◌}
use mathlib.Core.Bool.{true, false}
use mathlib.Core.List.{List}
use Prim.Native.Nat.{ℕ, ◌+◌, ◌*◌, ◌≤◌, ◌<◌}
use native.Mathlib.Omega.{arith}
use native.Mathlib.Decide.{dec_lt}
use lib.Dec.{ltb}
use lib.IntN.{ℤ, pos}
use lib.ListN.{length, get_or, replicate, get_or-replicate, length-replicate, get_or-eq_default}
use borrow.Author.Tests.{lt-ltb}
use Rattle.definitions.specs.Basics.{test_bit}
use Rattle.definitions.specs.Limits.{most_gain, most_steps}
use Rattle.definitions.specs.Links.{Edge, Graph, Walk, members, step, stop}
use Rattle.data_edges.specs.Words.{graph}
use Rattle.laws.proofs.Bools.{both_ways, not_passing}
use Rattle.laws.proofs.Maps.{test_zero}
use Rattle.theory.specs.Graphs.{NonPositive, Rooted, Shape}
use Rattle.theory.proofs.Feasibility.{stable_nonpositive_iff}
use Rattle.theory.proofs.Pigeonhole.{shorten}
use Rattle.theory.proofs.Walks.{walk_none}
use Rattle.walk_cells.specs.Cells.{ground, height}
use Rattle.walk_feasible.specs.Search.{Attained, Circle, Covered, Passed, Room, level, pass_visits, rests}

-- The row before any edge.
abbrev pub first : List ℤ
first = replicate 64 (pos 0)

first_level : (v : ℕ) → level first v ≡ ground
unfolding height
first_level v = ap height (by (dec_lt v 64))
  where
    by : Dec (v < 64) → get_or first v (pos 0) ≡ pos 0
    by (yes b) = get_or-replicate 64 v (pos 0) (pos 0) b
    by (no b) = get_or-eq_default first (pos 0) {n = v} (omega (arith, length-replicate {A = ℤ} 64 (pos 0)))

-- Where every edge has handed on, no closed walk is above 0: around it the cells come back to where they were.
kept_walk : {E : Graph} (r : ℕ → ℕ) → ((e : Edge) → E e → r e.from + e.gain ≤ r e.to + e.loss) → {x y k p q : ℕ} → Walk E x y k p q → r x + p ≤ r y + q
kept_walk r keeps (stop e hk hp hq) = omega (arith, ap r e)
kept_walk r keeps (step w e m f o hk hp hq) = omega (arith, kept_walk r keeps w, keeps e m, ap r f, ap r o)

-- So numbers for the steps that keep every edge show that rounds come to rest.
pub kept_stable : (es : List ℕ) (n : ℕ) → 1 ≤ n → Shape n (members (graph es)) → Rooted n (members (graph es)) → (r : ℕ → ℕ) → ((e : Edge) → members (graph es) e → r e.from + e.gain ≤ r e.to + e.loss) → rests n es ≡ true
kept_stable es n some shape rooted r keeps =
    (stable_nonpositive_iff some shape rooted).1 (record { closed = λ {x} w. omega (arith, kept_walk r keeps w) })

-- A walk to a step below n comes from one.
start_below : {n : ℕ} {E : Graph} → Shape n E → {x y k p q : ℕ} → y < n → Walk E x y k p q → x < n
start_below shape b (stop e hk hp hq) = omega arith
start_below shape b (step w e m f o hk hp hq) = start_below shape (omega (arith, f, shape.from_below e m)) w

-- After k passes from the first row. After more than n passes, marks that stand say that some closed walk is above 0.
pub record Searched (es : List ℕ) (n k : ℕ) (row : List ℤ) (via : List ℕ) (m : ℕ) : Type 0 where
  pub long : length row ≡ 64
  pub noted : length via ≡ 64
  pub least : (v : ℕ) → ground ≤ level row v
  pub most : (v : ℕ) → level row v ≤ ground + most_gain * (pass_visits * k)
  pub attained : (v : ℕ) → Attained (members (graph es)) (level row) v
  pub covers : Shape n (members (graph es)) → Covered (members (graph es)) (level row) (test_bit m)
  pub walks : Shape n (members (graph es)) → {x y j p q : ℕ} → j ≤ k → x < n → Walk (members (graph es)) x y j p q → ground + p ≤ level row y + q
  pub spent : n < k → Shape n (members (graph es)) → ¬ NonPositive (members (graph es))

pub searched_room : (es : List ℕ) (n k : ℕ) {row : List ℤ} {via : List ℕ} {m : ℕ} → k ≤ most_steps → Searched es n k row via m → Room pass_visits row
searched_room es n k few S = record { long = S.long; least = S.least; below = λ v. omega (arith, S.most v) }

-- At the start every step below n has a mark.
pub searched_start : (es : List ℕ) (n m : ℕ) → n ≤ most_steps → ((j : ℕ) → test_bit m j ≡ ltb j n) → Searched es n 0 first (replicate 64 0) m
searched_start es n m few all =
    record {
      long = refl;
      noted = refl;
      least = λ v. omega (arith, first_level v);
      most = λ v. omega (arith, first_level v);
      attained = λ v. record { x = v; k = 0; p = 0; q = 0; walk = walk_none v; weighs = omega (arith, first_level v) };
      covers = λ shape e i q. absurd (both_ways (all e.from ∙ lt-ltb e.from n (shape.from_below e i)) q);
      walks = λ shape b. walks b;
      spent = λ h. absurd (omega arith);
    }
  where
    walks : {x y j p q : ℕ} → j ≤ 0 → x < n → Walk (members (graph es)) x y j p q → ground + p ≤ level first y + q
    walks {x} b h (stop e hk hp hq) = omega (arith, first_level x, ap (level first) e)
    walks b h (step w e m f o hk hp hq) = absurd (omega arith)

module _ (es : List ℕ) (n : ℕ) (some : 1 ≤ n) (few : n ≤ most_steps) {k : ℕ} {row : List ℤ} {via : List ℕ} {m : ℕ} (S : Searched es n k row via m) where
  -- One pass more, after which x has a mark.
  module _ {row' : List ℤ} {via' : List ℕ} {m' : ℕ} (P : Passed (members (graph es)) (λ v. v < 64) pass_visits row row' via' m m') where
    walks_more : Shape n (members (graph es)) → {x y j p q : ℕ} → j ≤ k + 1 → x < n → Walk (members (graph es)) x y j p q → ground + p ≤ level row' y + q
    walks_more shape {x} {y} b h (stop e hk hp hq) = omega (arith, S.least x, P.pass.up x, ap (level row') e)
    walks_more shape b h (step w e i f o hk hp hq) =
        omega (arith, S.walks shape (omega arith) h w, P.pass.hands (S.covers shape) e i (omega (arith, shape.from_below e i)), ap (level row) f, ap (level row') o)

    -- What a walk weighs was in the cell after n passes, where no closed walk is above 0: a walk of fewer than n edges is as heavy.
    limit : n ≡ k → Shape n (members (graph es)) → NonPositive (members (graph es)) → {x y j p q : ℕ} → Walk (members (graph es)) x y j p q → ground + p ≤ level row y + q
    limit h shape never {y = y} (stop e hk hp hq) = omega (arith, S.least y)
    limit h shape never (step w e i f o hk hp hq) =
        let t = shorten shape never (start_below shape (shape.to_below e i) (step w e i f refl hk hp hq)) (step w e i f o hk hp hq) in
        omega (arith, t.heavy, S.walks shape (omega (arith, t.few)) (start_below shape (shape.to_below e i) (step w e i f refl hk hp hq)) t.walk)

    spent_more : (x : ℕ) → x < 64 → test_bit m' x ≡ true → n ≡ k → Shape n (members (graph es)) → ¬ NonPositive (members (graph es))
    spent_more x b h e shape never =
        let A = P.pass.attained S.attained x in
        omega (arith, P.pass.clears x b h, A.weighs, limit e shape never A.walk)

    pub searched_more : (x : ℕ) → x < 64 → test_bit m' x ≡ true → k ≤ n → Searched es n (k + 1) row' via' m'
    searched_more x b h c =
        record {
          long = P.long;
          noted = P.noted;
          least = λ v. omega (arith, S.least v, P.pass.up v);
          most = λ v. omega (arith, P.pass.small (ground + most_gain * (pass_visits * k)) S.most v);
          attained = P.pass.attained S.attained;
          covers = λ shape. P.pass.covers (S.covers shape);
          walks = walks_more;
          spent = λ l. spent_more x b h (omega arith);
        }

    pub searched_rest : m' ≡ 0 → Shape n (members (graph es)) → Rooted n (members (graph es)) → true ≡ rests n es
    searched_rest z shape rooted = sym (kept_stable es n some shape rooted (level row') keeps)
      where
        keeps : (e : Edge) → members (graph es) e → level row' e.from + e.gain ≤ level row' e.to + e.loss
        keeps e i = P.pass.covers (S.covers shape) e i (ap (λ (x : ℕ). test_bit x e.from) z ∙ test_zero e.from)

  pub searched_spent : n < k → Shape n (members (graph es)) → Rooted n (members (graph es)) → false ≡ rests n es
  searched_spent h shape rooted = sym (not_passing (rests n es) (λ t. S.spent h shape ((stable_nonpositive_iff some shape rooted).0 t)))

-- A closed walk above 0.
pub circle_found : (es : List ℕ) (n : ℕ) → 1 ≤ n → Circle (members (graph es)) → Shape n (members (graph es)) → Rooted n (members (graph es)) → false ≡ rests n es
circle_found es n some C shape rooted =
    sym (not_passing (rests n es) (λ t. let c = ((stable_nonpositive_iff some shape rooted).0 t).closed C.walk in omega (arith, c, C.above)))

-- What loops over steps and their edges have been at. A loop over the list of a step comes from an edge to the one before it that leaves the same step.
use mathlib.Core.Path.{◌≡◌, sym, ap, ◌∙◌}
use mathlib.Core.Logic.{◌⊎◌, ◌≢◌, inl, inr}
use mathlib.Core.List.Memᴰ
use mathlib.Core.List.{List}
use Prim.Native.Nat.{ℕ, suc, ◌+◌, ◌-◌, ◌≤◌, ◌<◌}
use native.Mathlib.Omega.{arith}
use native.Mathlib.Decide.{dec_le}
use lib.ListN.{length, get_or}
use Rattle.definitions.specs.Links.{Edge, Graph, ◌⊑◌, members}
use Rattle.data_edges.specs.Words.{graph, unpack}
use Rattle.data_edges.proofs.Places.{graph_at, graph_place}
use Rattle.data_lists.specs.Lists.{EdgeOut, Lists, last_from}
use Rattle.data_lists.proofs.Laws.{last_below, last_leaves, last_skips}

-- The edges at place k or a later one of the list.
pub record Behind (es : List ℕ) (k : ℕ) (e : Edge) : Type 0 where
  pub place : ℕ
  pub behind : k ≤ place
  pub inside : place < length es
  pub same : e ≡ unpack (get_or es place 0)

-- From edge k - 1 of the list of u to the one before it in that list, no edge leaves u.
pub behind_split : (es : List ℕ) (u k k' : ℕ) → k' ≡ last_from es u (k - 1) → (e : Edge) → e.from ≡ u → Behind es k' e → Behind es k e ⊎ (e ≡ unpack (get_or es (k - 1) 0))
behind_split es u k k' next e o b = by (dec_le k b.place) (dec_le (k - 1) b.place)
  where
    by : Dec (k ≤ b.place) → Dec (k - 1 ≤ b.place) → Behind es k e ⊎ (e ≡ unpack (get_or es (k - 1) 0))
    by (yes c) s = inl (record { place = b.place; behind = c; inside = b.inside; same = b.same })
    by (no c) (yes s) =
        let i : b.place ≡ k - 1 = omega arith in
        inr (b.same ∙ ap (λ (x : ℕ). unpack (get_or es x 0)) i)
    by (no c) (no s) = absurd (last_skips es u (k - 1) b.place (omega (arith, b.behind)) (omega arith) (ap (λ (x : Edge). x.from) (sym b.same) ∙ o))

pub behind_mem : (es : List ℕ) (k : ℕ) → Behind es k ⊑ members (graph es)
behind_mem es k e b = Memᴰ.cast b.same (graph_at es b.place b.inside)

pub mem_behind : (es : List ℕ) (k : ℕ) → k ≡ 0 → members (graph es) ⊑ Behind es k
mem_behind es k z e i = let p = graph_place es e i in record { place = p.0; behind = omega arith; inside = p.1; same = sym p.2 }

-- G is E and one edge more, as far as edges out of u go.
pub record Adds (u : ℕ) (E : Graph) (x : Edge) (G : Graph) : Type 0 where
  pub leaves : x.from ≡ u
  pub old : E ⊑ G
  pub new : (e : Edge) → e ≡ x → G e
  pub split : (e : Edge) → G e → e.from ≡ u → E e ⊎ (e ≡ x)

-- The loop over the list of u: k is one more than the index of the edge that comes next, 0 at the end, and Q, which speaks of edges out of u, holds of those behind it.
pub record Following (Q : Graph → Type 0) (es : List ℕ) (u k : ℕ) : Type 0 where
  pub few : k ≤ length es
  pub leaves : 1 ≤ k → (unpack (get_or es (k - 1) 0)).from ≡ u
  pub been : Q (Behind es k)

leaves_at : (es : List ℕ) (u b k : ℕ) → k ≡ last_from es u b → 1 ≤ k → (unpack (get_or es (k - 1) 0)).from ≡ u
leaves_at es u b k h some = let i : k ≡ suc (k - 1) = omega arith in (last_leaves es u b (k - 1) (sym h ∙ i)).0

-- It starts at the head of the list: no edge behind it leaves u.
pub following_start : {Q : Graph → Type 0} {es : List ℕ} {u k : ℕ} → k ≡ last_from es u (length es) → ((E : Graph) → ((e : Edge) → E e → e.from ≢ u) → Q E) → Following Q es u k
following_start {es = es} {u = u} {k = k} h none =
    record { few = omega (arith, last_below es u (length es)); leaves = leaves_at es u (length es) k h; been = none (Behind es k) away }
  where
    away : (e : Edge) → Behind es k e → e.from ≢ u
    away e b o = last_skips es u (length es) b.place (omega (arith, b.behind)) b.inside (ap (λ (x : Edge). x.from) (sym b.same) ∙ o)

-- What follows an edge in its list.
pub following_next : {Q : Graph → Type 0} {es lists : List ℕ} {u k x : ℕ} → Lists es lists → 1 ≤ k → Following Q es u k → x ≡ get_or lists (63 + k) 0 → x ≡ last_from es u (k - 1)
following_next {es = es} {lists = lists} {k = k} A some L h =
    let i : 63 + k ≡ 64 + (k - 1) = omega arith in
    h
    ∙ ap (λ (j : ℕ). get_or lists j 0) i
    ∙ A.nexts (k - 1) (omega (arith, L.few))
    ∙ ap (λ (v : ℕ). last_from es v (k - 1)) (L.leaves some)

-- An edge of a list, and what follows it there.
pub edge_out : {es lists : List ℕ} {k x : ℕ} → Lists es lists → 1 ≤ k → k ≤ length es → x ≡ get_or lists (64 + (k - 1)) 0 → EdgeOut es k (k - 1) x
edge_out {k = k} A some few h =
    record { place = omega arith; inside = omega arith; follows = h ∙ A.nexts (k - 1) (omega arith) }

-- What follows it comes before it.
pub edge_out_less : {es : List ℕ} {k i k' : ℕ} → EdgeOut es k i k' → k' < k
edge_out_less {es} {i = i} N = omega (arith, N.place, N.follows, last_below es (unpack (get_or es i 0)).from i)

-- A turn: what holds of the edges behind k comes to hold of those and edge k - 1, and so of all behind the one that follows it.
pub following_turn : {Q Q' : Graph → Type 0} {es : List ℕ} {u k k' : ℕ} → 1 ≤ k → k' ≡ last_from es u (k - 1) → ((G : Graph) → Adds u (Behind es k) (unpack (get_or es (k - 1) 0)) G → Q (Behind es k) → Q' G) → Following Q es u k → Following Q' es u k'
following_turn {es = es} {u = u} {k = k} {k' = k'} some next more L =
    record { few = omega (arith, below, L.few); leaves = leaves_at es u (k - 1) k' next; been = more (Behind es k') adds L.been }
  where
    below : k' ≤ k - 1
    below = omega (arith, last_below es u (k - 1))

    old : Behind es k ⊑ Behind es k'
    old e b = record { place = b.place; behind = omega (arith, below, b.behind); inside = b.inside; same = b.same }

    new : (e : Edge) → e ≡ unpack (get_or es (k - 1) 0) → Behind es k' e
    new e o = record { place = k - 1; behind = below; inside = omega (arith, L.few); same = o }

    adds : Adds u (Behind es k) (unpack (get_or es (k - 1) 0)) (Behind es k')
    adds = record { leaves = L.leaves some; old = old; new = new; split = λ e b o. behind_split es u k k' next e o b }

-- The edge that a list gives leaves its step.
pub given_leaves : {Q : Graph → Type 0} {es : List ℕ} {u k i k' : ℕ} → EdgeOut es k i k' → Following Q es u k → (unpack (get_or es i 0)).from ≡ u
given_leaves {es = es} {k = k} {i = i} N L =
    let own : i ≡ k - 1 = omega (arith, N.place) in
    ap (λ (j : ℕ). (unpack (get_or es j 0)).from) own ∙ L.leaves (omega (arith, N.place))

-- A turn with the edge that a list gives.
pub following_given : {Q Q' : Graph → Type 0} {es : List ℕ} {u k i k' : ℕ} → EdgeOut es k i k' → ((G : Graph) → Adds u (Behind es k) (unpack (get_or es i 0)) G → Q (Behind es k) → Q' G) → Following Q es u k → Following Q' es u k'
following_given {es = es} {k = k} {i = i} N more L =
    let own : i ≡ k - 1 = omega (arith, N.place) in
    let next = N.follows ∙ ap (λ (v : ℕ). last_from es v i) (given_leaves N L) ∙ ap (last_from es _) own in
    following_turn (omega (arith, N.place)) next (rw own at more) L

-- What falls.
pub following_less : {Q : Graph → Type 0} {es : List ℕ} {u k k' : ℕ} → 1 ≤ k → k' ≡ last_from es u (k - 1) → Following Q es u k → k' < k
following_less {es = es} {u = u} {k = k} some next L = omega (arith, last_below es u (k - 1))

-- At the end Q holds of every edge.
pub following_end : {Q : Graph → Type 0} {es : List ℕ} {u k : ℕ} → k ≡ 0 → ((E G : Graph) → E ⊑ G → G ⊑ E → Q E → Q G) → Following Q es u k → Q (members (graph es))
following_end {es = es} {k = k} z same L = same (Behind es k) (members (graph es)) (behind_mem es k) (mem_behind es k z) L.been

-- A loop over the steps from the last to the first: a turn adds one step to those that it has been at.
pub down_split : (n k v : ℕ) → (k - 1 ≤ v) × (v < n) → ((k ≤ v) × (v < n)) ⊎ (v ≡ k - 1)
down_split n k v o = by (dec_le k v)
  where
    by : Dec (k ≤ v) → ((k ≤ v) × (v < n)) ⊎ (v ≡ k - 1)
    by (yes c) = inl (c, o.1)
    by (no c) = inr (omega (arith, o.0))

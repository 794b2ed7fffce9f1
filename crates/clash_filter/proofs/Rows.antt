-- The edges of records stand in rows behind each other, a row for each record: all edges of a row have the pair of its record, no row is empty, and pairs rise.
use mathlib.Core.Path.{◌≡◌, refl, sym, ap, ◌∙◌}
use Rattle.std.specs.Prelude.{None, Option, Some}
use mathlib.Core.Bool.{Bool, true, false}
use mathlib.Core.Logic.{◌⊎◌, inl, inr, ◌≢◌}
use mathlib.Core.List.Memᴰ
use mathlib.Core.List.{List, [], ◌∷◌, ◌++◌, map-append, flat_map, Memᴰ}
use Prim.Native.Nat.{ℕ, zero, suc, ◌+◌, ◌*◌, ◌≤◌, ◌<◌}
use native.Mathlib.Omega.{arith}
use lib.ListN.{length, take, get_or, length-map, length-take}
use lib.Seq.{take-suc, get_or-take}
use Rattle.definitions.specs.Clashes.{blank_link}
use Rattle.definitions.specs.Limits.{most_steps}
use Rattle.definitions.specs.Links.{Constraint, Edge, sequencing, minimum, maximum, finish_maximum, sequencing_of, minimum_of, maximum_of, finish_maximum_of, ticks_said, link_constraints, constraints, delay_at, least_at, sequencing_edge, finish_edge, edge_of, edges}
use Rattle.definitions.specs.declared.Delay.{Delay}
use Rattle.definitions.specs.declared.Delay.TheVariants.{Open, Fixed}
use Rattle.definitions.specs.declared.Link.{Link}
use Rattle.definitions.specs.declared.Operation.{Operation}
use Rattle.laws.proofs.Lists.{flatMap_append, flatMap_snoc, mem_place}
use Rattle.laws.proofs.Tests.{flatMap_only, last_or_below}
use Rattle.demands.specs.Parts.{rank, Ordered}
use Rattle.clash_parts.specs.Words.{pair_rank}

-- The row of a record, and those of records behind each other.
abbrev pub row : List Operation → Link → List Edge
row os l = edges os (link_constraints l)

abbrev pub rows : List Operation → List Link → List Edge
rows os ls = edges os (constraints ls)

pub rows_append : (os : List Operation) (ls ms : List Link) → rows os (ls ++ ms) ≡ rows os ls ++ rows os ms
unfolding edges constraints
rows_append os ls ms = ap (edges os) (flatMap_append link_constraints ls ms) ∙ map-append (edge_of os) (constraints ls) (constraints ms)

pub rows_cons : (os : List Operation) (l : Link) (ls : List Link) → rows os (l ∷ ls) ≡ row os l ++ rows os ls
unfolding edges constraints flat_map
rows_cons os l ls = map-append (edge_of os) (link_constraints l) (constraints ls)

-- Those of the first records up to number k, that one too.
pub rows_more : (os : List Operation) (ls : List Link) (k : ℕ) → k < length ls → rows os (take (suc k) ls) ≡ rows os (take k ls) ++ row os (get_or ls k blank_link)
unfolding edges constraints
rows_more os ls k b =
    let l = get_or ls k blank_link in
    ap (rows os) (take-suc ls k blank_link b)
    ∙ ap (edges os) (flatMap_snoc link_constraints (take k ls) l)
    ∙ map-append (edge_of os) (constraints (take k ls)) (link_constraints l)

-- ---- the pair of a row

-- The place of the pair of a link among all pairs: its edge has it, and so has its record.
abbrev link_rank : Constraint → ℕ
link_rank (sequencing i j g) = i * most_steps + j
link_rank (minimum i j m) = i * most_steps + j
link_rank (maximum i j u) = i * most_steps + j
link_rank (finish_maximum i j u) = i * most_steps + j

edge_ranks : (os : List Operation) (c : Constraint) → pair_rank (edge_of os c) ≡ link_rank c
unfolding pair_rank edge_of sequencing_edge finish_edge
edge_ranks os (sequencing i j g) = go (delay_at os i)
  where
    go : (d : Delay) → pair_rank (sequencing_edge d (least_at os i) i j g) ≡ i * most_steps + j
    go (Fixed x) = refl
    go Open = refl
edge_ranks os (minimum i j m) = refl
edge_ranks os (maximum i j u) = refl
edge_ranks os (finish_maximum i j u) = go (delay_at os i)
  where
    go : (d : Delay) → pair_rank (finish_edge d (least_at os i) i j u) ≡ i * most_steps + j
    go (Fixed x) = refl
    go Open = refl

-- Links of which each has this place.
abbrev Ranked : ℕ → List Constraint → Type 0
Ranked x cs = (c : Constraint) → Memᴰ c cs → link_rank c ≡ x

ranked_none : (x : ℕ) → Ranked x []
ranked_none x c m = absurd (Memᴰ.not-nil m)

ranked_one : (c : Constraint) → Ranked (link_rank c) (c ∷ [])
ranked_one c d m = ap link_rank (Memᴰ.eq_of_singleton m)

ranked_both : {x : ℕ} (cs ds : List Constraint) → Ranked x cs → Ranked x ds → Ranked x (cs ++ ds)
ranked_both {x} cs ds f g c m = go (Memᴰ.append_cases cs m)
  where
    go : Memᴰ c cs ⊎ Memᴰ c ds → link_rank c ≡ x
    go (inl i) = f c i
    go (inr i) = g c i

module _ (i j : ℕ) where
  sequencing_ranked : (b : Bool) (g : ℕ) → Ranked (i * most_steps + j) (sequencing_of i j b g)
  unfolding sequencing_of
  sequencing_ranked true g = ranked_one (sequencing i j g)
  sequencing_ranked false g = ranked_none (i * most_steps + j)

  minimum_ranked : (b : Option ℕ) → Ranked (i * most_steps + j) (minimum_of i j b)
  unfolding minimum_of
  minimum_ranked (Some m) = ranked_one (minimum i j m)
  minimum_ranked None = ranked_none (i * most_steps + j)

  maximum_ranked : (b : Option ℕ) → Ranked (i * most_steps + j) (maximum_of i j b)
  unfolding maximum_of
  maximum_ranked (Some u) = ranked_one (maximum i j u)
  maximum_ranked None = ranked_none (i * most_steps + j)

  finish_ranked : (b : Option ℕ) → Ranked (i * most_steps + j) (finish_maximum_of i j b)
  unfolding finish_maximum_of
  finish_ranked (Some u) = ranked_one (finish_maximum i j u)
  finish_ranked None = ranked_none (i * most_steps + j)

record_ranked : (l : Link) → Ranked (rank l) (link_constraints l)
unfolding link_constraints
record_ranked l =
    let i = l.from in
    let j = l.to in
    let after = sequencing_of i j l.sequencing (ticks_said l.gap) in
    let least = minimum_of i j l.minimum in
    let most = maximum_of i j l.maximum in
    ranked_both (after ++ least ++ most) (finish_maximum_of i j l.latest)
    (ranked_both (after ++ least) most (ranked_both after least (sequencing_ranked i j l.sequencing (ticks_said l.gap)) (minimum_ranked i j l.minimum)) (maximum_ranked i j l.maximum))
    (finish_ranked i j l.latest)

-- Every edge of a row has the pair of its record.
pub row_rank : (os : List Operation) (l : Link) (e : Edge) → Memᴰ e (row os l) → pair_rank e ≡ rank l
unfolding edges
row_rank os l e m =
    let r = Memᴰ.of_map (edge_of os) (link_constraints l) m in
    ap pair_rank (sym r.2) ∙ edge_ranks os r.0 ∙ record_ranked l r.0 r.1

-- An edge of the rows of some records has the pair of one of them.
rows_rank : (os : List Operation) (ls : List Link) (e : Edge) → Memᴰ e (rows os ls) → (l : Link) × Memᴰ l ls × (pair_rank e ≡ rank l)
unfolding edges constraints
rows_rank os ls e m =
    let r = Memᴰ.of_map (edge_of os) (constraints ls) m in
    let s = flatMap_only link_constraints ls r.1 in
    (s.0, s.1, ap pair_rank (sym r.2) ∙ edge_ranks os r.0 ∙ record_ranked s.0 r.0 s.2)

-- ---- records in order

module _ (ls : List Link) (ordered : Ordered ls) where
  -- Ranks rise, also past neighbours: induction on the later number.
  ranks_rise : (k i : ℕ) → i < k → k < length ls → rank (get_or ls i blank_link) < rank (get_or ls k blank_link)
  ranks_rise zero i h b = absurd (omega arith)
  ranks_rise (suc k) i h b = go (last_or_below k i h) (λ h. ranks_rise k i h (omega arith))
    where
      go : (i ≡ k) ⊎ (i < k) → (i < k → rank (get_or ls i blank_link) < rank (get_or ls k blank_link)) → rank (get_or ls i blank_link) < rank (get_or ls (suc k) blank_link)
      go (inl e) below = rw e (ordered.rises k b)
      go (inr h) below = omega (arith, below h, ordered.rises k b)

  module _ (os : List Operation) (k : ℕ) (b : k < length ls) where
    -- So no edge of the rows before that of record k has its pair.
    pub rows_apart : (e : Edge) → Memᴰ e (rows os (take k ls)) → pair_rank e ≢ rank (get_or ls k blank_link)
    rows_apart e m same =
        let r = rows_rank os (take k ls) e m in
        let p = mem_place (take k ls) blank_link r.1 in
        let inside : p.index < k = omega (arith, p.inside, length-take k ls) in
        let here : get_or ls p.index blank_link ≡ r.0 = sym (get_or-take k ls p.index blank_link inside) ∙ p.here in
        omega (arith, ranks_rise k p.index inside b, ap rank here, r.2, same)

    pub row_some : 1 ≤ length (row os (get_or ls k blank_link))
    unfolding edges
    row_some = rw length-map (ordered.some k b)

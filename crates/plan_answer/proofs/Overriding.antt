-- The tables of edges that can be scheduled and are well-posed are orderly: a member's cell is not empty, who makes b needless makes needless what b does, and before the source there is nobody.
use mathlib.Core.Path.{◌≡◌, refl, sym, subst, ◌∙◌}
use mathlib.Core.Bool.{true}
use mathlib.Core.Logic.{◌⊎◌, inl, inr, ◌≢◌}
use mathlib.Core.List.{List}
use Prim.Native.Nat.{ℕ, ◌+◌, ◌<◌, ◌≤◌}
use native.Mathlib.Omega.{arith}
use Rattle.definitions.specs.Anchors.{InAnchorSet, WellPosed, chain, is_source}
use Rattle.definitions.specs.Links.{After, Edge, Forward, members, no_leasts}
use Rattle.definitions.specs.Plan.{offset, offset_row}
use Rattle.definitions.specs.Rounds.{entry}
use Rattle.plan_deciding.specs.Working.{Holds, Orderly, covering, member}
use Rattle.plan_deciding.proofs.Laws.{member_anchor, member_below as row-member-below, overriding_same}
use Rattle.laws.proofs.Bools.{and_join, and_split, same_or_not}
use Rattle.theory.specs.Graphs.{Acyclic, Overrides, Well}
use Rattle.theory.proofs.DecidingSets.{overrides_iff}
use Rattle.theory.proofs.Irredundance.{offset_triangle}
use Rattle.theory.proofs.Offsets.{offset_found, offset_row_iff}
use Rattle.theory.proofs.Reachability.{in_anchor_set_iff}
use Rattle.theory.proofs.RelativeSchedules.{span_walk}
use Rattle.theory.proofs.Relaxation.{stable_walk}
use Rattle.theory.proofs.Sweeping.{source_settles}
use Rattle.theory.proofs.Usables.{usable_sub, well_acyclic}
use Rattle.theory.proofs.Walks.{after_trans, member_below, source_first, walk_mono}

module _ {n : ℕ} {es : List Edge} (well : Well n (members es)) (posed : WellPosed (members es)) where
  acyclic : Acyclic (Forward (members es))
  acyclic = well_acyclic well

  -- The triangle at the source: its offsets are settled over every edge, so the walk of b's offset makes its own longer.
  source_triangle : (b c : ℕ) → b < n → c < n → After (Forward (members es)) b c → offset n no_leasts es 0 b + offset n no_leasts es b c ≤ offset n no_leasts es 0 c
  unfolding offset
  source_triangle b c hb hc j =
      let O = offset_found well posed b c hc (chain j) in
      let some = (offset_row_iff well posed 0 b hb).1 (is_source refl) in
      let C = stable_walk (offset_row n es 0) (source_settles well posed) (offset n no_leasts es 0 b) 0 (record { some = some; enough = omega arith }) (walk_mono (usable_sub (members es) b) (span_walk O.span).1) in
      omega (arith, C.some, C.enough, O.attained)

  triangle : (a b c : ℕ) → b < n → c < n → InAnchorSet (members es) a b → After (Forward (members es)) b c → offset n no_leasts es a b + offset n no_leasts es b c ≤ offset n no_leasts es a c
  triangle a b c hb hc (is_source e) j = rw e (source_triangle b c hb hc j)
  triangle a b c hb hc (chain i) j =
      offset_triangle well.shape acyclic posed i j.walk.not_source (offset_found well posed a b hb (chain i)) (offset_found well posed b c hc (chain j)) (offset_found well posed a c hc (chain (after_trans i j)))

  -- An anchor before b that is not b itself: b is not the source.
  behind_source : (a b : ℕ) → a < n → b ≢ a → InAnchorSet (members es) a b → b ≢ 0
  behind_source a b h o (is_source e) z = o (z ∙ sym e)
  behind_source a b h o (chain i) z = source_first well.rooted acyclic h (subst (λ (w : ℕ). After (Forward (members es)) a w) z i)

  chained : (b c : ℕ) → b ≢ 0 → InAnchorSet (members es) b c → After (Forward (members es)) b c
  chained b c o (is_source e) = absurd (o e)
  chained b c o (chain j) = j

  further : (a b c : ℕ) → InAnchorSet (members es) a b → After (Forward (members es)) b c → InAnchorSet (members es) a c
  further a b c (is_source e) j = is_source e
  further a b c (chain i) j = chain (after_trans i j)

  apart : (a b c : ℕ) → b < n → InAnchorSet (members es) a b → After (Forward (members es)) b c → c ≢ a
  apart a b c h (is_source e) j z = source_first well.rooted acyclic h (subst (λ (w : ℕ). After (Forward (members es)) b w) (z ∙ e) j)
  apart a b c h (chain i) j z = acyclic a (after_trans i (subst (λ (w : ℕ). After (Forward (members es)) b w) z j))

  overrides_trans : (a v b c : ℕ) → v < n → Overrides (members es) (offset n no_leasts es) a v b → Overrides (members es) (offset n no_leasts es) b v c → Overrides (members es) (offset n no_leasts es) a v c
  overrides_trans a v b c h o p =
      let hb = member_below well.shape h o.inside in
      let hc = member_below well.shape h p.inside in
      let j = chained b c (behind_source a b (member_below well.shape hb o.behind) o.other o.behind) p.behind in
      record { other = apart a b c hb o.behind j; inside = p.inside; behind = further a b c o.behind j; heavy = omega (arith, o.heavy, p.heavy, triangle a b c hb hc o.behind j) }

  module _ {d : List (List ℕ)} {sets : List ℕ} (H : Holds n es d sets) where
    cell_full : (v a : ℕ) → v < n → member sets v a ≡ true → 1 ≤ entry d v a
    cell_full v a h m =
        let p = row-member-below H a v h m in
        omega (arith, H.cells a v p h m, (offset_row_iff well posed a v h).1 ((in_anchor_set_iff well.shape a v).0 (sym (member_anchor H a v p h) ∙ m)))

    pub holds_orderly : (v : ℕ) → v < n → Orderly d sets v
    holds_orderly v h = record { full = λ a m. cell_full v a h m; behind = λ b mb a m. cell_full b a (row-member-below H b v h mb) m; transitive = further_out; source = alone }
      where
        alone : (a : ℕ) → member sets 0 a ≡ true → a ≡ 0
        alone a m = by (same_or_not a 0)
          where
            p : a < n
            p = row-member-below H a 0 (omega arith) m

            by : (a ≡ 0) ⊎ (a ≢ 0) → a ≡ 0
            by (inl e) = e
            by (inr o) = absurd (behind_source a 0 p (λ e. o (sym e)) ((in_anchor_set_iff well.shape a 0).0 (sym (member_anchor H a 0 p (omega arith)) ∙ m)) refl)

        further_out : (a b c : ℕ) → member sets v a ≡ true → member sets v b ≡ true → member sets v c ≡ true → covering d sets v a b ≡ true → covering d sets v b c ≡ true → covering d sets v a c ≡ true
        further_out a b c ma mb mc ab bc =
            let pa = row-member-below H a v h ma in
            let pb = row-member-below H b v h mb in
            let pc = row-member-below H c v h mc in
            let o = (overrides_iff well.shape a v b).0 (sym (overriding_same H a v b pa h pb ma) ∙ and_join mb ab) in
            let p = (overrides_iff well.shape b v c).0 (sym (overriding_same H b v c pb h pc mb) ∙ and_join mc bc) in
            (and_split (member sets v c) (covering d sets v a c) (overriding_same H a v c pa h pc ma ∙ (overrides_iff well.shape a v c).1 (overrides_trans a v b c h o p))).1

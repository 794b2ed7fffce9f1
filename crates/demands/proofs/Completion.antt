-- Request L3: an added link asks nothing of start times; and where a forward link leads into every step none is added, and 9 was not given.
use mathlib.Core.Path.{◌≡◌, refl, ap, subst, ◌∙◌}
use mathlib.Core.Bool.{Bool, true, false, not, ◌&&◌}
use mathlib.Core.Logic.{◌⊎◌, inl, inr, ◌≢◌}
use mathlib.Core.List.Memᴰ
use mathlib.Core.List.{List, map, Memᴰ, append-nil}
use Prim.Native.Nat.{ℕ, ◌<◌}
use native.Mathlib.Omega.{arith}
use lib.Dec.{eqb}
use borrow.Author.Tests.{eq-eqb, ne_eqb, not-true}
use Rattle.definitions.specs.Basics.{any, refused, refuse_if}
use Rattle.definitions.specs.Bytes.{Records}
use Rattle.definitions.specs.Links.{Constraint, sequencing, minimum, maximum, finish_maximum, constraints, leads_into, follows_nothing, source_link, loose_steps, completed, links_of, delay_at, duration_with, duration, least_at, Keeps, KeepsAll, Edge, step, sequencing_edge, finish_edge, edge_of, edges, members, forwards}
use Rattle.definitions.specs.Rounds.{reaches}
use Rattle.definitions.specs.Answers.{closes_circle, judge_edges, judged, count_of, edges_of, leasts_of}
use Rattle.definitions.specs.declared.Delay.{Delay}
use Rattle.definitions.specs.declared.Delay.TheVariants.{Open, Fixed}
use Rattle.definitions.specs.declared.Operation.{Operation}
use Rattle.laws.proofs.Bools.{bool_cases, both_ways, not_passing, same_or_not}
use Rattle.laws.proofs.Tests.{all_below_each, any_below_has, any_by, select_below_none}
use Rattle.theory.specs.Graphs.{Shape}
use Rattle.theory.proofs.Feasibility.{rooted_iff}
use Rattle.demands.specs.Entered.{sent_edges, unreached, judge_with_9}
use Rattle.demands.specs.Demands.{AddedLinksFree, AllEntered, EnteredAsBefore, IntoSourceCircle, KeepsLinks}
use Rattle.demands.proofs.Reading.{Fits, fits_of}
use Rattle.demands.proofs.Edges.{edge_link, sheet_entered, sheet_shape}
use Rattle.demands.proofs.Judging.{judge_8, judged_edges}
use Rattle.demands.proofs.Sheets.{acyclic_rooted, not_8}

-- ## An added link asks nothing

-- Step 0 starts and ends at tick 0, and no start is before that.
source_kept : (os : List Operation) (d t : ℕ → ℕ) (v : ℕ) → delay_at os 0 ≡ Open → t 0 ≡ 0 → Keeps os d t (source_link v)
unfolding duration duration_with
source_kept os d t v h starts = let none : duration_with d 0 (delay_at os 0) ≡ 0 = ap (duration_with d 0) h in omega (arith, none, starts)

module _ {q : Records} (fits : Fits q) (d t : ℕ → ℕ) where
  pub completed_kept : KeepsAll q.steps (constraints q.pairs) d t → KeepsLinks q d t
  unfolding links_of completed
  completed_kept K = record { starts = K.starts; keeps = λ c m. go c (Memᴰ.append_cases (constraints q.pairs) m) }
    where
      go : (c : Constraint) → Memᴰ c (constraints q.pairs) ⊎ Memᴰ c (map source_link (loose_steps (count_of q) (constraints q.pairs))) → Keeps q.steps d t c
      go c (inl i) = K.keeps c i
      go c (inr i) =
          let r = Memᴰ.of_map source_link (loose_steps (count_of q) (constraints q.pairs)) i in
          subst (Keeps q.steps d t) r.2 (source_kept q.steps d t r.0 fits.source K.starts)

  pub sent_kept : KeepsLinks q d t → KeepsAll q.steps (constraints q.pairs) d t
  unfolding links_of completed
  sent_kept K = record { starts = K.starts; keeps = λ c m. K.keeps c (Memᴰ.append_left _ m) }

pub added_free : AddedLinksFree
added_free s q sheet d t = (sent_kept (fits_of sheet) d t, completed_kept (fits_of sheet) d t)

-- ## A link into step 0

-- Else a chain leads from step 0 to where the link comes from, and the link closes it.
pub into_source : IntoSourceCircle
into_source s allow q sheet x = go (bool_cases (closes_circle (count_of q) (edges_of q)))
  where
    fits : Fits q
    fits = fits_of sheet

    go : (closes_circle (count_of q) (edges_of q) ≡ true) ⊎ (closes_circle (count_of q) (edges_of q) ≡ false) → judged s allow ≡ refused 8
    go (inl h) = judged_edges s sheet.reads allow ∙ (judge_8 (count_of q) (leasts_of q) (edges_of q) allow).1 h
    go (inr h) =
        let J = acyclic_rooted fits.some (sheet_shape fits) (sheet_entered fits) h x.edge.from ((sheet_shape fits).from_below x.edge x.mem) in
        absurd (not_8 fits.some (sheet_shape fits) h 0 J.k _ _ (step J.walk x.edge (x.mem, x.forward) refl x.enters refl refl refl))

-- ## Nothing added

-- A forward edge into v is a link that leads into v.
forward_leads : (os : List Operation) (v : ℕ) (c : Constraint) → (edge_of os c).back ≡ false → (edge_of os c).to ≡ v → leads_into v c ≡ true
unfolding edge_of leads_into sequencing_edge finish_edge
forward_leads os v (sequencing i j g) h e = go (delay_at os i) e
  where
    go : (d : Delay) → (sequencing_edge d (least_at os i) i j g).to ≡ v → eqb j v ≡ true
    go (Fixed x) e = eq-eqb j v e
    go Open e = eq-eqb j v e
forward_leads os v (minimum i j m) h e = eq-eqb j v e
forward_leads os v (maximum i j u) h e = absurd (both_ways refl h)
forward_leads os v (finish_maximum i j u) h e = go (delay_at os i) h
  where
    go : (d : Delay) → (finish_edge d (least_at os i) i j u).back ≡ false → false ≡ true
    go (Fixed x) h = absurd (both_ways refl h)
    go Open h = absurd (both_ways refl h)

module _ {q : Records} (fits : Fits q) (entered : AllEntered q) where
  none_loose : (v : ℕ) → v < count_of q → follows_nothing (constraints q.pairs) v ≡ false
  unfolding follows_nothing
  none_loose v b = go (same_or_not v 0)
    where
      go : (v ≡ 0) ⊎ (v ≢ 0) → (not (eqb v 0) && not (any (leads_into v) (constraints q.pairs))) ≡ false
      go (inl e) = rw (eq-eqb v 0 e)
      go (inr z) =
          let x = entered v b z in
          let r = edge_link q.steps (constraints q.pairs) x.edge x.mem in
          let leads = forward_leads q.steps v r.0 (ap (λ (e : Edge). e.back) r.2 ∙ x.forward) (ap (λ (e : Edge). e.to) r.2 ∙ x.enters) in
          rw (ne_eqb v 0 z, any_by (leads_into v) (constraints q.pairs) r.1 leads)

  same_links : links_of q ≡ constraints q.pairs
  unfolding links_of completed loose_steps
  same_links = rw (select_below_none (follows_nothing (constraints q.pairs)) (count_of q) none_loose) (append-nil (constraints q.pairs))

  same_edges : edges_of q ≡ sent_edges q
  unfolding edges_of
  same_edges = ap (edges q.steps) same_links

  -- Where no circle is closed every step has a chain from step 0, so that 9 was not given.
  all_reached : closes_circle (count_of q) (sent_edges q) ≡ false → unreached (count_of q) (sent_edges q) ≡ false
  unfolding unreached
  all_reached h = not_passing _ (λ t.
      let r = any_below_has (λ v. not (reaches (count_of q) (forwards (sent_edges q)) 0 v)) (count_of q) t in
      both_ways (reached r.0 r.1) (not-true (reaches (count_of q) (forwards (sent_edges q)) 0 r.0) r.2))
    where
      shape : Shape (count_of q) (members (sent_edges q))
      shape = subst (λ (es : List Edge). Shape (count_of q) (members es)) same_edges (sheet_shape fits)

      reached : (v : ℕ) → v < count_of q → reaches (count_of q) (forwards (sent_edges q)) 0 v ≡ true
      reached = all_below_each (reaches (count_of q) (forwards (sent_edges q)) 0) (count_of q) ((rooted_iff fits.some shape).1 (acyclic_rooted fits.some shape entered h))

  same_judgement : (allow : Bool) → judge_edges (count_of q) (leasts_of q) (edges_of q) allow ≡ judge_with_9 (count_of q) (leasts_of q) (sent_edges q) allow
  unfolding judge_edges judge_with_9 refuse_if
  same_judgement allow = rw same_edges (go (bool_cases (closes_circle (count_of q) (sent_edges q))))
    where
      go : (closes_circle (count_of q) (sent_edges q) ≡ true) ⊎ (closes_circle (count_of q) (sent_edges q) ≡ false) → judge_edges (count_of q) (leasts_of q) (sent_edges q) allow ≡ judge_with_9 (count_of q) (leasts_of q) (sent_edges q) allow
      go (inl h) = rw h
      go (inr h) = rw (h, all_reached h)

pub as_entered : EnteredAsBefore
as_entered s q sheet entered = record { links = same_links (fits_of sheet) entered; edges = same_edges (fits_of sheet) entered; judges = same_judgement (fits_of sheet) entered }

-- The edges of a sheet: what holds of each, and that start times keep a link exactly if they keep its edge. The sheet may be a rival's, of any length.
use mathlib.Core.Path.{◌≡◌, refl, sym, ap, subst, ◌∙◌}
use Rattle.std.specs.Prelude.{None, Option, Some}
use mathlib.Core.Bool.{Bool, true, false, not, false≢true}
use mathlib.Core.Logic.{◌⊎◌, inl, inr, ◌≢◌, ◌↔◌}
use mathlib.Core.List.Memᴰ
use mathlib.Core.List.{List, ◌++◌, Memᴰ, map}
use Prim.Native.Nat.{ℕ, zero, suc, ◌+◌, ◌-◌, ◌≤◌, ◌<◌}
use native.Mathlib.Omega.{arith}
use lib.Dec.{eqb}
use borrow.Author.Tests.{eq-eqb, eqb-true, ne_eqb}
use Rattle.definitions.specs.Limits.{most_ticks, most_gain, most_first_gain, most_loss}
use Rattle.definitions.specs.Basics.{any, select_below}
use Rattle.definitions.specs.Bytes.{Records}
use Rattle.definitions.specs.Links.{Constraint, sequencing, minimum, maximum, finish_maximum, sequencing_of, minimum_of, maximum_of, finish_maximum_of, ticks_said, link_constraints, constraints, delay_at, least_at, Respects, leads_into, follows_nothing, source_link, loose_steps, completed, links_of, duration_with, duration, Keeps, KeepsAll, Edge, sequencing_edge, finish_edge, edge_of, edges, members, ◌⊑◌}
use Rattle.definitions.specs.Rival.{Further, Extension, Lasts}
use Rattle.definitions.specs.Answers.{count_of, leasts_of, edges_of}
use Rattle.definitions.specs.declared.Delay.{Delay}
use Rattle.definitions.specs.declared.Delay.TheVariants.{Open, Fixed}
use Rattle.definitions.specs.declared.Operation.{Operation}
use Rattle.definitions.specs.declared.Link.{Link}
use Rattle.laws.proofs.Bools.{and_join, bool_cases, both_ways, same_or_not}
use Rattle.laws.proofs.Tests.{any_has, flatMap_only, select_below_has, select_below_only}
use Rattle.theory.specs.Graphs.{KeepsEdge, Schedule, Shape, Entered, Entry, FirstGains, Gains, Leasts, Losses, Timely}
use Rattle.theory.proofs.DelayLimits.{least_source}
use Rattle.demands.specs.Demands.{NoLateLinks}
use Rattle.demands.proofs.Reading.{Fits, LinkFits}

-- Both ends of a link are steps.
abbrev pub Ends : ℕ → Constraint → Type 0
Ends n (sequencing i j g) = (i < n) × (j < n)
Ends n (minimum i j m) = (i < n) × (j < n)
Ends n (maximum i j u) = (i < n) × (j < n)
Ends n (finish_maximum i j u) = (i < n) × (j < n)

-- And its ticks are at most g.
abbrev pub TicksWithin : ℕ → Constraint → Type 0
TicksWithin g (sequencing i j x) = x ≤ g
TicksWithin g (minimum i j m) = m ≤ g
TicksWithin g (maximum i j u) = u ≤ g
TicksWithin g (finish_maximum i j u) = u ≤ g

-- What is true of every edge that a link is: its ends, no weight against its direction, and where it is counted or late.
pub record EdgeFits (os : List Operation) (n : ℕ) (e : Edge) : Type 0 where
  pub from_below : e.from < n
  pub to_below : e.to < n
  pub back_uncounted : e.back ≡ true → e.counted ≡ false
  pub forward_lossless : e.back ≡ false → e.loss ≡ 0
  pub counted_open : e.counted ≡ true → delay_at os e.from ≡ Open
  pub counted_not_source : e.counted ≡ true → e.from ≢ 0
  pub forward_timely : e.back ≡ false → e.late ≡ false
  pub late_open : e.late ≡ true → delay_at os e.to ≡ Open
  pub late_not_source : e.late ≡ true → e.to ≢ 0
  pub least_gained : e.counted ≡ true → least_at os e.from ≤ e.gain

false_true : {A : Type 0} → false ≡ true → A
false_true e = absurd (false≢true e)

-- No step is both.
fixed_open : {ticks : ℕ} → Fixed ticks ≡ Open → ⊥
fixed_open e = let z : ◌≡◌ {A = ℕ} 0 1 = cc in absurd (omega arith)

-- An edge that is neither counted nor late.
plain_fits : {os : List Operation} {n : ℕ} {e : Edge} → e.from < n → e.to < n → e.counted ≡ false → e.late ≡ false → (e.back ≡ false → e.loss ≡ 0) → EdgeFits os n e
plain_fits from to uncounted timely lossless = record {
  from_below = from;
  to_below = to;
  back_uncounted = λ z. uncounted;
  forward_lossless = lossless;
  counted_open = λ z. absurd (both_ways z uncounted);
  counted_not_source = λ z. absurd (both_ways z uncounted);
  forward_timely = λ z. timely;
  late_open = λ z. absurd (both_ways z timely);
  late_not_source = λ z. absurd (both_ways z timely);
  least_gained = λ z. absurd (both_ways z uncounted);
}

sequencing_fits : (os : List Operation) (n i j g : ℕ) (d : Delay) → delay_at os i ≡ d → i < n → j < n → EdgeFits os n (sequencing_edge d (least_at os i) i j g)
unfolding sequencing_edge
sequencing_fits os n i j g (Fixed x) h a b = plain_fits a b refl refl (λ z. refl)
sequencing_fits os n i j g Open h a b = record {
  from_below = a;
  to_below = b;
  back_uncounted = λ z. false_true z;
  forward_lossless = λ z. refl;
  counted_open = λ z. h;
  counted_not_source = λ z e. false_true (sym (ap not (eq-eqb i 0 e)) ∙ z);
  forward_timely = λ z. refl;
  late_open = λ z. false_true z;
  late_not_source = λ z. false_true z;
  least_gained = λ z. omega arith;
}

finish_fits : (os : List Operation) (n i j u : ℕ) (d : Delay) → delay_at os i ≡ d → i < n → j < n → EdgeFits os n (finish_edge d (least_at os i) i j u)
unfolding finish_edge
finish_fits os n i j u (Fixed x) h a b = plain_fits b a refl refl (λ z. false_true (sym z))
finish_fits os n i j u Open h a b = record {
  from_below = b;
  to_below = a;
  back_uncounted = λ z. refl;
  forward_lossless = λ z. false_true (sym z);
  counted_open = λ z. false_true z;
  counted_not_source = λ z. false_true z;
  forward_timely = λ z. false_true (sym z);
  late_open = λ z. h;
  late_not_source = λ z e. false_true (sym (ap not (eq-eqb i 0 e)) ∙ z);
  least_gained = λ z. false_true z;
}

edge_fits : (os : List Operation) (n : ℕ) (c : Constraint) → Ends n c → EdgeFits os n (edge_of os c)
unfolding edge_of
edge_fits os n (sequencing i j g) h = sequencing_fits os n i j g (delay_at os i) refl h.0 h.1
edge_fits os n (minimum i j m) h = plain_fits h.0 h.1 refl refl (λ z. refl)
edge_fits os n (maximum i j u) h = plain_fits h.1 h.0 refl refl (λ z. false_true (sym z))
edge_fits os n (finish_maximum i j u) h = finish_fits os n i j u (delay_at os i) refl h.0 h.1

-- An edge of a list of links is the edge of one of them.
pub edge_link : (os : List Operation) (cs : List Constraint) (e : Edge) → members (edges os cs) e → (c : Constraint) × Memᴰ c cs × (edge_of os c ≡ e)
unfolding edges
edge_link os cs e m = Memᴰ.of_map (edge_of os) cs m

pub link_edge : (os : List Operation) (cs : List Constraint) (c : Constraint) → Memᴰ c cs → members (edges os cs) (edge_of os c)
unfolding edges
link_edge os cs c m = Memᴰ.map (edge_of os) m

pub all_fit : (os : List Operation) (n : ℕ) (cs : List Constraint) → ((c : Constraint) → Memᴰ c cs → Ends n c) → (e : Edge) → members (edges os cs) e → EdgeFits os n e
all_fit os n cs ends e m =
    let r = edge_link os cs e m in
    subst (EdgeFits os n) r.2 (edge_fits os n r.0 (ends r.0 r.1))

pub edges_shape : (os : List Operation) (n : ℕ) (cs : List Constraint) → ((c : Constraint) → Memᴰ c cs → Ends n c) → Shape n (members (edges os cs))
edges_shape os n cs ends = record {
  from_below = λ e m. (all_fit os n cs ends e m).from_below;
  to_below = λ e m. (all_fit os n cs ends e m).to_below;
  back_uncounted = λ e m. (all_fit os n cs ends e m).back_uncounted;
  forward_lossless = λ e m. (all_fit os n cs ends e m).forward_lossless;
  forward_timely = λ e m. (all_fit os n cs ends e m).forward_timely;
  late_not_source = λ e m. (all_fit os n cs ends e m).late_not_source;
}

-- A link's edge is late where it counts from the finish of an open step other than 0, and nowhere else.
finish_timely : (os : List Operation) (i j u : ℕ) (d : Delay) → delay_at os i ≡ d → ¬ Lasts os i → (finish_edge d (least_at os i) i j u).late ≡ false
unfolding finish_edge
finish_timely os i j u (Fixed x) h none = refl
finish_timely os i j u Open h none = go (same_or_not i 0)
  where
    go : (i ≡ 0) ⊎ (i ≢ 0) → not (eqb i 0) ≡ false
    go (inl e) = ap not (eq-eqb i 0 e)
    go (inr e) = absurd (none (record { not_source = e; open_step = h }))

link_timely : (os : List Operation) (c : Constraint) → ((i j u : ℕ) → c ≡ finish_maximum i j u → ¬ Lasts os i) → (edge_of os c).late ≡ false
unfolding edge_of sequencing_edge
link_timely os (sequencing i j g) none = sequencing_timely (delay_at os i)
  where
    sequencing_timely : (d : Delay) → (sequencing_edge d (least_at os i) i j g).late ≡ false
    sequencing_timely (Fixed x) = refl
    sequencing_timely Open = refl
link_timely os (minimum i j m) none = refl
link_timely os (maximum i j u) none = refl
link_timely os (finish_maximum i j u) none = finish_timely os i j u (delay_at os i) refl (none i j u refl)

-- What steps last past their leasts.
abbrev pub past : List Operation → (ℕ → ℕ) → ℕ → ℕ
past os d i = d i - least_at os i

-- Start times keep a link exactly if they keep its edge under the delays past the leasts: the edge is counted, or late, just where the duration is the delay, and gains or loses the least there. By the kind
-- of link and the delay of its first step.
module _ (os : List Operation) (d t : ℕ → ℕ) (respects : Respects os d) where
  sequencing_keeps : (i j g : ℕ) (x : Delay) → (t i + duration_with d i x + g ≤ t j) ↔ KeepsEdge (past os d) t (sequencing_edge x (least_at os i) i j g)
  unfolding duration_with sequencing_edge
  sequencing_keeps i j g (Fixed x) = (λ h. omega arith, λ h. omega arith)
  sequencing_keeps zero j g Open = (λ h. omega (arith, least_source os), λ h. omega (arith, least_source os))
  sequencing_keeps (suc i) j g Open =
      let c : eqb (suc i) 0 ≡ false = ne_eqb (suc i) 0 (λ e. omega arith) in
      rw c (λ h. omega (arith, respects (suc i)), λ h. omega (arith, respects (suc i)))

  finish_keeps : (i j u : ℕ) (x : Delay) → (t j ≤ t i + duration_with d i x + u) ↔ KeepsEdge (past os d) t (finish_edge x (least_at os i) i j u)
  unfolding duration_with finish_edge
  finish_keeps i j u (Fixed x) = (λ h. omega arith, λ h. omega arith)
  finish_keeps zero j u Open = (λ h. omega (arith, least_source os), λ h. omega (arith, least_source os))
  finish_keeps (suc i) j u Open =
      let c : eqb (suc i) 0 ≡ false = ne_eqb (suc i) 0 (λ e. omega arith) in
      rw c (λ h. omega (arith, respects (suc i)), λ h. omega (arith, respects (suc i)))

  pub link_keeps : (c : Constraint) → Keeps os d t c ↔ KeepsEdge (past os d) t (edge_of os c)
  unfolding edge_of duration
  link_keeps (sequencing i j g) = sequencing_keeps i j g (delay_at os i)
  link_keeps (minimum i j m) = (λ h. omega arith, λ h. omega arith)
  link_keeps (maximum i j u) = (λ h. omega arith, λ h. omega arith)
  link_keeps (finish_maximum i j u) = finish_keeps i j u (delay_at os i)

  pub keeps_schedule : (cs : List Constraint) → KeepsAll os cs d t → Schedule (members (edges os cs)) (past os d) t
  keeps_schedule cs K = record { starts = K.starts; keeps = λ e m. let r = edge_link os cs e m in subst (KeepsEdge (past os d) t) r.2 ((link_keeps r.0).0 (K.keeps r.0 r.1)) }

  pub schedule_keeps : (cs : List Constraint) → Schedule (members (edges os cs)) (past os d) t → KeepsAll os cs d t
  schedule_keeps cs S = record { starts = S.starts; keeps = λ c m. (link_keeps c).1 (S.keeps (edge_of os c) (link_edge os cs c m)) }

-- Gains and losses: of a fixed duration or a least, or of the link's ticks, or of both: an after link gains both, and a return from the finish loses both. An edge that is counted or leaves step 0, which is
-- open, gains the least and the link's ticks alone.
record Weighs (os : List Operation) (g : ℕ) (e : Edge) : Type 0 where
  gain : e.gain ≤ g + g
  loss : e.loss ≤ g + g
  first : (e.from ≡ 0) ⊎ (e.counted ≡ true) → e.gain ≤ least_at os e.from + g

weighs_light : {os : List Operation} {g : ℕ} {e : Edge} → e.gain ≤ g → e.loss ≤ g + g → Weighs os g e
weighs_light light loss = record { gain = omega arith; loss = loss; first = λ h. omega arith }

module _ (os : List Operation) (g : ℕ) (source : delay_at os 0 ≡ Open) (ticks : (i x : ℕ) → delay_at os i ≡ Fixed x → x ≤ g) (leasts : (i : ℕ) → least_at os i ≤ g) where
  sequencing_weighs : (i j gap : ℕ) (x : Delay) → delay_at os i ≡ x → gap ≤ g → Weighs os g (sequencing_edge x (least_at os i) i j gap)
  unfolding sequencing_edge
  sequencing_weighs i j gap Open h w = record { gain = omega (arith, leasts i); loss = omega arith; first = λ k. omega arith }
  sequencing_weighs i j gap (Fixed x) h w = record { gain = omega (arith, ticks i x h); loss = omega arith; first = λ k. absurd (none k) }
    where
      none : (i ≡ 0) ⊎ (false ≡ true) → ⊥
      none (inl e) = fixed_open (sym h ∙ ap (delay_at os) e ∙ source)
      none (inr e) = false_true e

  finish_weighs : (i j u : ℕ) (x : Delay) → delay_at os i ≡ x → u ≤ g → Weighs os g (finish_edge x (least_at os i) i j u)
  unfolding finish_edge
  finish_weighs i j u (Fixed x) h w = weighs_light (omega arith) (omega (arith, ticks i x h))
  finish_weighs i j u Open h w = weighs_light (omega arith) (omega (arith, leasts i))

  edge_weighs : (c : Constraint) → TicksWithin g c → Weighs os g (edge_of os c)
  unfolding edge_of
  edge_weighs (sequencing i j gap) w = sequencing_weighs i j gap (delay_at os i) refl w
  edge_weighs (minimum i j m) w = weighs_light w (omega arith)
  edge_weighs (maximum i j u) w = weighs_light (omega arith) (omega arith)
  edge_weighs (finish_maximum i j u) w = finish_weighs i j u (delay_at os i) refl w

-- A link record's links: on its pair, with its ticks.
pub record LinkIs (n g : ℕ) (c : Constraint) : Type 0 where
  pub ends : Ends n c
  pub within : TicksWithin g c

sequencing_is : (n g i j : ℕ) (there : Bool) (gap : Option ℕ) (c : Constraint) → i < n → j < n → ((x : ℕ) → gap ≡ Some x → x ≤ g) → Memᴰ c (sequencing_of i j there (ticks_said gap)) → LinkIs n g c
unfolding sequencing_of ticks_said
sequencing_is n g i j true (Some x) c a b h m = subst (LinkIs n g) (sym (Memᴰ.eq_of_singleton m)) (record { ends = (a, b); within = h x refl })
sequencing_is n g i j true None c a b h m = subst (LinkIs n g) (sym (Memᴰ.eq_of_singleton m)) (record { ends = (a, b); within = omega arith })
sequencing_is n g i j false gap c a b h m = absurd (Memᴰ.not-nil m)

minimum_is : (n g i j : ℕ) (x : Option ℕ) (c : Constraint) → i < n → j < n → ((m : ℕ) → x ≡ Some m → m ≤ g) → Memᴰ c (minimum_of i j x) → LinkIs n g c
unfolding minimum_of
minimum_is n g i j (Some x) c a b h m = subst (LinkIs n g) (sym (Memᴰ.eq_of_singleton m)) (record { ends = (a, b); within = h x refl })
minimum_is n g i j None c a b h m = absurd (Memᴰ.not-nil m)

maximum_is : (n g i j : ℕ) (x : Option ℕ) (c : Constraint) → i < n → j < n → ((m : ℕ) → x ≡ Some m → m ≤ g) → Memᴰ c (maximum_of i j x) → LinkIs n g c
unfolding maximum_of
maximum_is n g i j (Some x) c a b h m = subst (LinkIs n g) (sym (Memᴰ.eq_of_singleton m)) (record { ends = (a, b); within = h x refl })
maximum_is n g i j None c a b h m = absurd (Memᴰ.not-nil m)

finish_is : (n g i j : ℕ) (x : Option ℕ) (c : Constraint) → i < n → j < n → ((m : ℕ) → x ≡ Some m → m ≤ g) → Memᴰ c (finish_maximum_of i j x) → LinkIs n g c
unfolding finish_maximum_of
finish_is n g i j (Some x) c a b h m = subst (LinkIs n g) (sym (Memᴰ.eq_of_singleton m)) (record { ends = (a, b); within = h x refl })
finish_is n g i j None c a b h m = absurd (Memᴰ.not-nil m)

record_is : (n : ℕ) (l : Link) (c : Constraint) → LinkFits n l → Memᴰ c (link_constraints l) → LinkIs n most_ticks c
unfolding link_constraints
record_is n l c f m = go (Memᴰ.append_cases (three l) m)
  where
    one : Link → List Constraint
    one l = sequencing_of l.from l.to l.sequencing (ticks_said l.gap)

    two : Link → List Constraint
    two l = one l ++ minimum_of l.from l.to l.minimum

    three : Link → List Constraint
    three l = two l ++ maximum_of l.from l.to l.maximum

    first : Memᴰ c (one l) ⊎ Memᴰ c (minimum_of l.from l.to l.minimum) → LinkIs n most_ticks c
    first (inl i) = sequencing_is n most_ticks l.from l.to l.sequencing l.gap c f.from_below f.to_below f.gap_few i
    first (inr i) = minimum_is n most_ticks l.from l.to l.minimum c f.from_below f.to_below f.minimum_few i

    second : Memᴰ c (two l) ⊎ Memᴰ c (maximum_of l.from l.to l.maximum) → LinkIs n most_ticks c
    second (inl i) = first (Memᴰ.append_cases (one l) i)
    second (inr i) = maximum_is n most_ticks l.from l.to l.maximum c f.from_below f.to_below f.maximum_few i

    go : Memᴰ c (three l) ⊎ Memᴰ c (finish_maximum_of l.from l.to l.latest) → LinkIs n most_ticks c
    go (inl i) = second (Memᴰ.append_cases (two l) i)
    go (inr i) = finish_is n most_ticks l.from l.to l.latest c f.from_below f.to_below f.latest_few i

-- A forward link into v is a forward edge into v.
leads_forward : (os : List Operation) (v : ℕ) (c : Constraint) → leads_into v c ≡ true → ((edge_of os c).back ≡ false) × ((edge_of os c).to ≡ v)
unfolding leads_into edge_of sequencing_edge
leads_forward os v (sequencing i j g) h = go (delay_at os i)
  where
    go : (d : Delay) → ((sequencing_edge d (least_at os i) i j g).back ≡ false) × ((sequencing_edge d (least_at os i) i j g).to ≡ v)
    go (Fixed x) = (refl, eqb-true j v h)
    go Open = (refl, eqb-true j v h)
leads_forward os v (minimum i j m) h = (refl, eqb-true j v h)
leads_forward os v (maximum i j u) h = false_true h
leads_forward os v (finish_maximum i j u) h = false_true h

-- The edges of a sheet that has been read.
module _ {q : Records} (fits : Fits q) where
  record_link : (c : Constraint) → Memᴰ c (constraints q.pairs) → LinkIs (count_of q) most_ticks c
  unfolding constraints
  record_link c m = let r = flatMap_only link_constraints q.pairs m in record_is (count_of q) r.0 c (fits.links r.0 r.1) r.2

  -- A link of the records, or one that was added: from step 0 to a step, with no gap.
  pub sheet_link : (c : Constraint) → Memᴰ c (links_of q) → LinkIs (count_of q) most_ticks c
  unfolding links_of completed loose_steps
  sheet_link c m = go (Memᴰ.append_cases (constraints q.pairs) m)
    where
      go : Memᴰ c (constraints q.pairs) ⊎ Memᴰ c (map source_link (select_below (follows_nothing (constraints q.pairs)) (count_of q))) → LinkIs (count_of q) most_ticks c
      go (inl i) = record_link c i
      go (inr i) =
          let r = Memᴰ.of_map source_link (select_below (follows_nothing (constraints q.pairs)) (count_of q)) i in
          let below = (select_below_only (follows_nothing (constraints q.pairs)) (count_of q) r.1).0 in
          subst (LinkIs (count_of q) most_ticks) r.2 (record { ends = (fits.some, below); within = omega arith })

  -- A forward edge leads into every step other than 0: that of a record's link, or of the one that was added.
  pub sheet_entered : Entered (count_of q) (members (edges_of q))
  unfolding edges_of links_of completed loose_steps follows_nothing leads_into
  sheet_entered v b z = go (bool_cases (any (leads_into v) (constraints q.pairs)))
    where
      entry : (c : Constraint) → Memᴰ c (links_of q) → leads_into v c ≡ true → Entry (members (edges q.steps (links_of q))) v
      entry c m h = let r = leads_forward q.steps v c h in record { edge = edge_of q.steps c; mem = link_edge q.steps (links_of q) c m; forward = r.0; enters = r.1 }

      go : (any (leads_into v) (constraints q.pairs) ≡ true) ⊎ (any (leads_into v) (constraints q.pairs) ≡ false) → Entry (members (edges q.steps (links_of q))) v
      go (inl h) = let r = any_has (leads_into v) (constraints q.pairs) h in entry r.0 (Memᴰ.append_left _ r.1) r.2
      go (inr h) =
          let loose : follows_nothing (constraints q.pairs) v ≡ true = and_join (ap not (ne_eqb v 0 z)) (ap not h) in
          entry (source_link v) (Memᴰ.append_right (constraints q.pairs) (Memᴰ.map source_link (select_below_has (follows_nothing (constraints q.pairs)) (count_of q) b loose))) (eq-eqb v v refl)

  pub sheet_ends : (c : Constraint) → Memᴰ c (links_of q) → Ends (count_of q) c
  sheet_ends c m = (sheet_link c m).ends

  pub sheet_fits : (e : Edge) → members (edges_of q) e → EdgeFits q.steps (count_of q) e
  unfolding edges_of
  sheet_fits = all_fit q.steps (count_of q) (links_of q) sheet_ends

  pub sheet_shape : Shape (count_of q) (members (edges_of q))
  unfolding edges_of
  sheet_shape = edges_shape q.steps (count_of q) (links_of q) sheet_ends

  -- The numbers of a sheet are of two bytes: a gain is one or two of them, and so is a loss.
  sheet_weighs : (e : Edge) → members (edges_of q) e → Weighs q.steps most_ticks e
  unfolding edges_of
  sheet_weighs e m =
      let r = edge_link q.steps (links_of q) e m in
      subst (Weighs q.steps most_ticks) r.2 (edge_weighs q.steps most_ticks fits.source fits.ticks fits.leasts r.0 (sheet_link r.0 r.1).within)

  pub sheet_gains : Gains (members (edges_of q)) most_gain
  sheet_gains e m = (sheet_weighs e m).gain

  pub sheet_leasts : Leasts (leasts_of q) (members (edges_of q))
  sheet_leasts e m = (sheet_fits e m).least_gained

  pub sheet_first_gains : FirstGains (leasts_of q) (members (edges_of q)) most_first_gain
  sheet_first_gains e m = (sheet_weighs e m).first

  pub sheet_losses : Losses (members (edges_of q)) most_loss
  sheet_losses e m = (sheet_weighs e m).loss

  -- Without late links no edge is late: by the link that it is.
  pub sheet_timely : NoLateLinks q → Timely (members (edges_of q))
  unfolding edges_of
  sheet_timely none e m =
      let r = edge_link q.steps (links_of q) e m in
      subst (λ (x : Edge). x.late ≡ false) r.2 (link_timely q.steps r.0 (λ i j u h. none i j u (subst (λ (c : Constraint). Memᴰ c (links_of q)) h r.1)))

  -- A rival's sheet: its graph has the sheet's edges, and the shape of a sheet's.
  module _ {fs : List Constraint} (extension : Extension q.steps (links_of q) fs) where
    further_ends : (c : Constraint) → Further (count_of q) c → Ends (count_of q) c
    further_ends (sequencing i j g) h = h
    further_ends (minimum i j m) h = h
    further_ends (maximum i j u) h = absurd h
    further_ends (finish_maximum i j u) h = absurd h

    rival_ends : (c : Constraint) → Memᴰ c fs → Ends (count_of q) c
    rival_ends c m = go (extension.only c m)
      where
        go : Memᴰ c (links_of q) ⊎ Further (count_of q) c → Ends (count_of q) c
        go (inl i) = sheet_ends c i
        go (inr h) = further_ends c h

    pub rival_leasts : Leasts (leasts_of q) (members (edges q.steps fs))
    rival_leasts e m = (all_fit q.steps (count_of q) fs rival_ends e m).least_gained

    pub rival_shape : Shape (count_of q) (members (edges q.steps fs))
    rival_shape = edges_shape q.steps (count_of q) fs rival_ends

    further_late : (c : Constraint) → Further (count_of q) c → (i j u : ℕ) → c ≡ finish_maximum i j u → ¬ Lasts q.steps i
    further_late c h i j u e = absurd (subst (Further (count_of q)) e h)

    pub rival_timely : NoLateLinks q → Timely (members (edges q.steps fs))
    rival_timely none e m =
        let r = edge_link q.steps fs e m in
        subst (λ (x : Edge). x.late ≡ false) r.2 (link_timely q.steps r.0 (by r.0 (extension.only r.0 r.1)))
      where
        by : (c : Constraint) → Memᴰ c (links_of q) ⊎ Further (count_of q) c → (i j u : ℕ) → c ≡ finish_maximum i j u → ¬ Lasts q.steps i
        by c (inl k) i j u h = none i j u (subst (λ (c : Constraint). Memᴰ c (links_of q)) h k)
        by c (inr f) i j u h = further_late c f i j u h

    pub rival_above : members (edges_of q) ⊑ members (edges q.steps fs)
    unfolding edges_of
    rival_above e m =
        let r = edge_link q.steps (links_of q) e m in
        subst (members (edges q.steps fs)) r.2 (link_edge q.steps fs r.0 (extension.keeps_all r.0 r.1))

-- Request L11: rivals without foresight. A strategy on the links of a sheet is one on its edges: durations differ exactly where the delays of its open steps do.
use mathlib.Core.Path.{◌≡◌, refl, sym, ap, subst, fun_ext, ◌∙◌}
use mathlib.Core.Bool.{Bool, true, false}
use mathlib.Core.Logic.{◌⊎◌, inl, inr, ◌≢◌, ◌↔◌}
use mathlib.Core.List.{List}
use Prim.Native.Nat.{ℕ, zero, suc, ◌+◌, ◌-◌, ◌≤◌, ◌<◌}
use native.Mathlib.Omega.{arith}
use native.Mathlib.Decide.{dec_lt}
use Rattle.definitions.specs.Basics.{refused}
use Rattle.definitions.specs.Anchors.{InAnchorSet}
use Rattle.definitions.specs.Bytes.{Records}
use Rattle.definitions.specs.Links.{Edge, Graph, LateInto, members, links_of, delay_at, duration_with, duration}
use Rattle.definitions.specs.Rival.{Lasts, DelayAssignment, FinishedBy, DynamicStrategy}
use Rattle.definitions.specs.Rounds.{cell}
use Rattle.definitions.specs.Waits.{Wait, serialized}
use Rattle.definitions.specs.Answers.{infeasible, inconsistent, unserializable, judged, count_of, edges_of, serialized_of, leasts_of}
use Rattle.definitions.specs.declared.Delay.{Delay}
use Rattle.definitions.specs.declared.Delay.TheVariants.{Open, Fixed}
use Rattle.definitions.specs.declared.Operation.{Operation}
use Rattle.laws.proofs.Bools.{bool_cases, both_ways}
use Rattle.laws.proofs.Outcomes.{refused_same}
use Rattle.theory.specs.Graphs.{Carries, Schedule, Serializable, Timely, Well}
use Rattle.theory.specs.Strategies.{Assigned, Ended, Strategy, Unbounded}
use Rattle.theory.proofs.DelayLimits.{least_open}
use Rattle.theory.proofs.Plans.{plan_least_strategy, plan_strategy, plan_strategy_serializable, plan_timely}
use Rattle.theory.proofs.Serialization.{waited_timely}
use Rattle.theory.proofs.Usables.{timely_usable, usable_sub, usable_timely}
use Rattle.theory.proofs.WaitLists.{serialized_waited}
use Rattle.theory.proofs.Walks.{after_mono, offset_same, some_after}
use Rattle.demands.specs.Demands.{Accepted, IsSheet, KeepsLinks, WellFormed, extras, NoLateLinks, NoRival, NothingNewFor, PlainWait, Sound, our_start}
use Rattle.demands.proofs.Reading.{Fits, fits_of}
use Rattle.demands.proofs.Edges.{sheet_fits, sheet_leasts, sheet_shape, sheet_timely}
use Rattle.demands.proofs.Impossibility.{keeps_sheet}
use Rattle.demands.proofs.Formed.{accepted_fits, accepted_serial, accepted_well, formed_acyclic, formed_fits, formed_serial, formed_shape, formed_well, judged_28, not_judged_10, not_judged_11}
use Rattle.demands.proofs.OurStarts.{open_duration, our_starts_by}
use Rattle.demands.proofs.Verdicts.{refused_formed}
use Rattle.demands.proofs.Listing.{listed_for}
use Rattle.demands.proofs.Planning.{offset_for}

-- A step is open and not step 0, or is not; there its duration does not turn on the delays.
lasts_by : (os : List Operation) (v : ℕ) (x : Delay) → delay_at os v ≡ x → Lasts os v ⊎ (¬ Lasts os v)
lasts_by os zero x h = inr (λ o. o.not_source refl)
lasts_by os (suc v) Open h = inl (record { not_source = λ e. omega arith; open_step = h })
lasts_by os (suc v) (Fixed t) h = inr (λ o. let c : ◌≡◌ {A = ℕ} 0 1 = cc in omega arith)

lasts_or_not : (os : List Operation) (v : ℕ) → Lasts os v ⊎ (¬ Lasts os v)
lasts_or_not os v = lasts_by os v (delay_at os v) refl

duration_same : (os : List Operation) (d d' : ℕ → ℕ) (v : ℕ) → ¬ Lasts os v → duration os d v ≡ duration os d' v
unfolding duration duration_with
duration_same os d d' v none = go v (delay_at os v) refl none
  where
    go : (v : ℕ) (x : Delay) → delay_at os v ≡ x → ¬ Lasts os v → duration_with d v x ≡ duration_with d' v x
    go v (Fixed t) h none = refl
    go zero Open h none = refl
    go (suc v) Open h none = absurd (none (record { not_source = λ e. omega arith; open_step = h }))

lasting : (os : List Operation) (d : ℕ → ℕ) (v : ℕ) → Lasts os v → duration os d v ≡ d v
unfolding duration
lasting os d v o = open_duration d v (delay_at os v) o.not_source o.open_step

module _ {q : Records} (fits : Fits q) where
  unbounded : Unbounded (Lasts q.steps) (members (edges_of q))
  unbounded = record {
    not_source = λ o. o.not_source refl;
    counted_open = λ e m c z. record { not_source = z; open_step = (sheet_fits fits e m).counted_open c };
    late_open = λ e m l. record { not_source = (sheet_fits fits e m).late_not_source l; open_step = (sheet_fits fits e m).late_open l };
  }

  abbrev ls : ℕ → ℕ
  ls = leasts_of q

  -- Durations are leasts and what is past them. A step that does not last has neither.
  abbrev with_leasts : (ℕ → ℕ) → ℕ → ℕ
  with_leasts x v = x v + ls v

  least_none : (v : ℕ) → ¬ Lasts q.steps v → ls v ≡ 0
  least_none v none = go (dec_lt 0 (ls v))
    where
      go : Dec (0 < ls v) → ls v ≡ 0
      go (yes h) = let r = least_open q.steps v h in absurd (none (record { not_source = r.0; open_step = r.1 }))
      go (no h) = omega arith

  assignment : {x : ℕ → ℕ} → Assigned (Lasts q.steps) x → DelayAssignment q.steps (with_leasts x)
  assignment L = record { idle = λ v none. omega (arith, L v none, least_none v none); respects = λ v. omega arith }

  assigned : {d : ℕ → ℕ} → DelayAssignment q.steps d → Assigned (Lasts q.steps) (extras q d)
  assigned L v none = omega (arith, L.idle v none)

  past_with : (x : ℕ → ℕ) → extras q (with_leasts x) ≡ x
  past_with x = fun_ext (λ v. omega arith)

  with_past : {d : ℕ → ℕ} → DelayAssignment q.steps d → with_leasts (extras q d) ≡ d
  with_past L = fun_ext (λ v. omega (arith, L.respects v))

  -- Where two lists give the same durations, and where they give the same past the leasts. The starts s and s' are those under each.
  module _ (s s' d d' : ℕ → ℕ) (L : DelayAssignment q.steps d) (L' : DelayAssignment q.steps d') (t v : ℕ) where
    abbrev Over : (ℕ → ℕ) → (ℕ → ℕ) → Type 0
    Over s d = s v + duration q.steps d v ≤ t

    abbrev Past : (ℕ → ℕ) → (ℕ → ℕ) → Type 0
    Past s d = s v + ls v + extras q d v ≤ t

    lasts : (d : ℕ → ℕ) → DelayAssignment q.steps d → Lasts q.steps v → duration q.steps d v ≡ ls v + extras q d v
    lasts d L o = omega (arith, lasting q.steps d v o, L.respects v)

    same_durations : (Past s d ⊎ Past s' d' → extras q d v ≡ extras q d' v) → Over s d ⊎ Over s' d' → duration q.steps d v ≡ duration q.steps d' v
    same_durations h = by (lasts_or_not q.steps v)
      where
        by : Lasts q.steps v ⊎ (¬ Lasts q.steps v) → Over s d ⊎ Over s' d' → duration q.steps d v ≡ duration q.steps d' v
        by (inr o) f = duration_same q.steps d d' v o
        by (inl o) (inl f) = omega (arith, lasts d L o, lasts d' L' o, h (inl (omega (arith, f, lasts d L o))))
        by (inl o) (inr f) = omega (arith, lasts d L o, lasts d' L' o, h (inr (omega (arith, f, lasts d' L' o))))

    same_extras : (Over s d ⊎ Over s' d' → duration q.steps d v ≡ duration q.steps d' v) → Past s d ⊎ Past s' d' → extras q d v ≡ extras q d' v
    same_extras h = by (lasts_or_not q.steps v)
      where
        by : Lasts q.steps v ⊎ (¬ Lasts q.steps v) → Past s d ⊎ Past s' d' → extras q d v ≡ extras q d' v
        by (inr o) f = omega (arith, assigned L v o, assigned L' v o)
        by (inl o) (inl f) = omega (arith, lasts d L o, lasts d' L' o, h (inl (omega (arith, f, lasts d L o))))
        by (inl o) (inr f) = omega (arith, lasts d L o, lasts d' L' o, h (inr (omega (arith, f, lasts d' L' o))))

  -- A rival on the links is one on the edges, for what is past the leasts; and one on the edges, one on the links.
  on_edges : {ρ : (ℕ → ℕ) → ℕ → ℕ} → DynamicStrategy q.steps (links_of q) ρ → Strategy (count_of q) ls (Lasts q.steps) (members (edges_of q)) (λ x. ρ (with_leasts x))
  on_edges {ρ} R = record { keeps = keeps; blind = blind }
    where
      keeps : (x : ℕ → ℕ) → Assigned (Lasts q.steps) x → Schedule (members (edges_of q)) x (ρ (with_leasts x))
      keeps x L =
          subst (λ (y : ℕ → ℕ). Schedule (members (edges_of q)) y (ρ (with_leasts x))) (past_with x)
          ((keeps_sheet q (with_leasts x) (ρ (with_leasts x)) (assignment L).respects).0 (R.keeps (with_leasts x) (assignment L)))

      blind : (x x' : ℕ → ℕ) → Assigned (Lasts q.steps) x → Assigned (Lasts q.steps) x' → (t : ℕ) → ((v : ℕ) → v < count_of q → Ended ls (λ y. ρ (with_leasts y)) x v t ⊎ Ended ls (λ y. ρ (with_leasts y)) x' v t → x v ≡ x' v) → (v : ℕ) → v < count_of q → ρ (with_leasts x) v ≡ t → ρ (with_leasts x') v ≡ t
      blind x x' L L' t h =
          R.blind (with_leasts x) (with_leasts x') (assignment L) (assignment L') t
          (λ v b. same_durations (ρ (with_leasts x)) (ρ (with_leasts x')) (with_leasts x) (with_leasts x') (assignment L) (assignment L') t v (told v (h v b)))
        where
          -- What is past the leasts in durations made of them is what they were made of.
          told : (v : ℕ) → (Ended ls (λ y. ρ (with_leasts y)) x v t ⊎ Ended ls (λ y. ρ (with_leasts y)) x' v t → x v ≡ x' v) → (ρ (with_leasts x) v + ls v + (x v + ls v - ls v) ≤ t) ⊎ (ρ (with_leasts x') v + ls v + (x' v + ls v - ls v) ≤ t) → x v + ls v - ls v ≡ x' v + ls v - ls v
          told v same (inl p) = omega (arith, same (inl (omega (arith, p))))
          told v same (inr p) = omega (arith, same (inr (omega (arith, p))))

  on_links : {σ ρ : (ℕ → ℕ) → ℕ → ℕ} → Strategy (count_of q) ls (Lasts q.steps) (members (edges_of q)) σ → ((d : ℕ → ℕ) → DelayAssignment q.steps d → ρ d ≡ σ (extras q d)) → DynamicStrategy q.steps (links_of q) ρ
  on_links {σ} {ρ} R same = record { keeps = keeps; blind = blind }
    where
      keeps : (d : ℕ → ℕ) → DelayAssignment q.steps d → KeepsLinks q d (ρ d)
      keeps d L = rw (same d L) ((keeps_sheet q d (σ (extras q d)) L.respects).1 (R.keeps (extras q d) (assigned L)))

      blind : (d d' : ℕ → ℕ) → DelayAssignment q.steps d → DelayAssignment q.steps d' → (t : ℕ) → ((v : ℕ) → v < count_of q → FinishedBy q.steps ρ d v t ⊎ FinishedBy q.steps ρ d' v t → duration q.steps d v ≡ duration q.steps d' v) → (v : ℕ) → v < count_of q → ρ d v ≡ t → ρ d' v ≡ t
      blind d d' L L' t =
          rw (same d L, same d' L')
          (λ h. R.blind (extras q d) (extras q d') (assigned L) (assigned L') t
          (λ v b. same_extras (σ (extras q d)) (σ (extras q d')) d d' L L' t v (h v b)))

  ours_by : Well (count_of q) (members (edges_of q)) → Serializable (members (serialized (count_of q) ls (edges_of q))) → DynamicStrategy q.steps (links_of q) (our_start q)
  unfolding serialized_of
  ours_by well serial = on_links (plan_strategy ls well serial unbounded (sheet_leasts fits)) (λ d L. ap cell (our_starts_by fits well serial d L.respects))

module _ {s : List ℕ} {allow : Bool} {q : Records} {v : ℕ} (accepted : Accepted s allow q v) where
  pub ours_dynamic : DynamicStrategy q.steps (links_of q) (our_start q)
  ours_dynamic = ours_by (accepted_fits accepted) (accepted_well accepted) (accepted_serial accepted)

  pub earliest_of_strategies : (ρ : (ℕ → ℕ) → ℕ → ℕ) → DynamicStrategy q.steps (links_of q) ρ → (d : ℕ → ℕ) → DelayAssignment q.steps d → (i : ℕ) → i < count_of q → our_start q d i ≤ ρ d i
  unfolding serialized_of
  earliest_of_strategies ρ R d L i b =
      let fits = accepted_fits accepted in
      let least = plan_least_strategy (leasts_of q) (accepted_well accepted) (accepted_serial accepted) (unbounded fits) (on_edges fits R) i b (extras q d) (assigned fits L) in
      let ours = ap (λ (S : ℕ → ℕ). S i) (ap cell (our_starts_by fits (accepted_well accepted) (accepted_serial accepted) d L.respects)) in
      omega (arith, least, ours, ap (λ (e : ℕ → ℕ). ρ e i) (with_past fits L))

-- 28: a rival keeps the waits and shows that they can be put in; and where they can, ours is one.
module _ (s : List ℕ) (allow : Bool) (q : Records) (formed : WellFormed s q) where
  abbrev unserial : Bool
  unserial = unserializable (count_of q) (leasts_of q) (edges_of q)

  refused_no_rival : judged s allow ≡ refused 28 → NoRival q
  refused_no_rival h ρ R =
      let serial = plan_strategy_serializable (formed_shape formed) (formed_acyclic formed) (unbounded (formed_fits formed)) (sheet_leasts (formed_fits formed)) (on_edges (formed_fits formed) R) in
      both_ways ((judged_28 formed allow).0 h).2 ((formed_serial formed).1 serial)

  no_rival_refused : judged s allow ≢ refused 10 → judged s allow ≢ refused 11 → NoRival q → judged s allow ≡ refused 28
  no_rival_refused h k nobody = go (bool_cases unserial)
    where
      feasible : infeasible (count_of q) (edges_of q) ≡ false
      feasible = not_judged_10 formed allow h

      consistent : inconsistent (count_of q) (edges_of q) ≡ false
      consistent = not_judged_11 formed allow feasible k

      go : (unserial ≡ true) ⊎ (unserial ≡ false) → judged s allow ≡ refused 28
      go (inl t) = (judged_28 formed allow).1 (feasible, consistent, t)
      go (inr f) = absurd (nobody (our_start q) (ours_by (formed_fits formed) (formed_well formed feasible consistent) ((formed_serial formed).0 f)))

  pub rivals_28 : (judged s allow ≡ refused 28) ↔ ((judged s allow ≢ refused 10) × (judged s allow ≢ refused 11) × NoRival q)
  rivals_28 = (λ h. (other h (λ e. omega arith), other h (λ e. omega arith), refused_no_rival h), λ r. no_rival_refused r.0 r.1 r.2)
    where
      other : {k : ℕ} → judged s allow ≡ refused 28 → 28 ≢ k → judged s allow ≢ refused k
      other h apart e = apart (refused_same (sym h ∙ e))

-- Without late links every walk may take every edge, and the waits can always be put in.
module _ (s : List ℕ) (allow : Bool) (q : Records) (sheet : IsSheet s q) (none : NoLateLinks q) where
  abbrev E : Graph
  E = members (edges_of q)

  timely : Timely E
  timely = sheet_timely (fits_of sheet) none

  timely_serialized : Timely (members (serialized_of q))
  unfolding serialized_of
  timely_serialized = waited_timely (serialized_waited (sheet_shape (fits_of sheet))) (sheet_shape (fits_of sheet)) timely

  plain_sound : Sound q ↔ ((a : ℕ) → Carries E a)
  plain_sound = (λ posed a e m b i. here a e (posed a e m b i) (timely e m), λ carries a e m b i. inl (carries a e m b i))
    where
      here : (a : ℕ) (e : Edge) → InAnchorSet E a e.to ⊎ LateInto e a → e.late ≡ false → InAnchorSet E a e.to
      here a e (inl i) f = i
      here a e (inr l) f = absurd (both_ways l.0 f)

  plain_waits : (a i : ℕ) → Wait E a i ↔ PlainWait E a i
  plain_waits a i = (
    λ w. record { edge = w.edge; mem = w.mem.0; returns = w.returns; enters = w.enters; reaches = some_after (after_mono (usable_sub E a) w.reaches.walk); absent = w.absent },
    λ w. record { edge = w.edge; mem = timely_usable timely a w.edge w.mem; returns = w.returns; enters = w.enters; reaches = some_after (after_mono (timely_usable timely a) w.reaches.walk); absent = w.absent },
  )

  never : judged s allow ≢ refused 28
  never h =
      let formed = refused_formed s allow q sheet (λ e. omega arith) h in
      let r = (judged_28 formed allow).0 h in
      both_ways r.2 ((formed_serial formed).1 (plan_timely (leasts_of q) timely (formed_well formed r.0 r.1) (formed_acyclic formed)))

  pub nothing_new_for : NothingNewFor s allow q
  nothing_new_for = record {
    unwaited = λ a. usable_timely (edges_of q) a timely;
    with_waits = λ a. usable_timely (serialized_of q) a timely_serialized;
    sound = plain_sound;
    waits = λ a i. let l = (listed_for (fits_of sheet)).listed a i in (λ m. (plain_waits a i).0 (l.0 m), λ w. l.1 ((plain_waits a i).1 w));
    offsets = λ v h a i b m. offset_same (usable_sub (members (serialized_of q)) a) (timely_usable timely_serialized a) (offset_for (record { sheet = sheet; accepts = h }) a i b m).heaviest;
    never_28 = never;
  }

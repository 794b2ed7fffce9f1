-- An accepted sheet: our starts keep every link and wait, nobody is earlier, and the sheet with its waits is one of the rivals' sheets.
use mathlib.Core.Path.{◌≡◌, refl, sym, ap, subst, ◌∙◌}
use mathlib.Core.Bool.{Bool, true, false, cond}
use mathlib.Core.Logic.{◌⊎◌, inl, inr, ◌≢◌, ◌↔◌}
use mathlib.Core.List.Memᴰ
use mathlib.Core.List.{List, [], ◌∷◌, ◌++◌, map, Memᴰ, map-append, map-map}
use Prim.Native.Nat.{ℕ, zero, suc, ◌+◌, ◌≤◌, ◌<◌}
use native.Mathlib.Omega.{arith}
use borrow.Author.Tests.{ne_eqb}
use Rattle.definitions.specs.Bytes.{Records}
use Rattle.definitions.specs.Links.{Edge, members, Constraint, links_of, delay_at, no_leasts, Respects, duration_with, KeepsAll, sequencing_edge, edge_of, edges}
use Rattle.definitions.specs.Waits.{WaitPair, needs_waits, wait_edge, serialized}
use Rattle.definitions.specs.Anchors.{WellPosed}
use Rattle.definitions.specs.Plan.{start_times}
use Rattle.definitions.specs.Rival.{Further, Extension}
use Rattle.definitions.specs.Rounds.{cell}
use Rattle.definitions.specs.Answers.{count_of, leasts_of, edges_of, serialized_of}
use Rattle.definitions.specs.declared.Delay.{Delay}
use Rattle.definitions.specs.declared.Delay.TheVariants.{Open, Fixed}
use Rattle.theory.specs.Graphs.{Leasts, Schedule, Serializable, Well}
use Rattle.theory.proofs.DelayLimits.{least_source}
use Rattle.theory.proofs.Extras.{start_times_extra}
use Rattle.theory.proofs.Plans.{plan_posed, plan_keeps_waits, plan_least_unwaited, plan_least_rival, plan_well}
use Rattle.theory.proofs.Serialization.{waited_leasts}
use Rattle.theory.proofs.StartTimes.{start_time}
use Rattle.theory.proofs.WaitLists.{serialized_waited}
use Rattle.demands.specs.Demands.{Accepted, Durations, extras, KeepsLinks, KeptFor, OursAmong, our_start, sheet_waits, wait_link, links_and_waits, NoLateLinks}
use Rattle.demands.proofs.Reading.{Fits}
use Rattle.demands.proofs.Edges.{keeps_schedule, schedule_keeps, sheet_leasts, sheet_shape, sheet_timely, rival_shape, rival_above, rival_leasts, rival_timely}
use Rattle.demands.proofs.Meaning.{wait_of}
use Rattle.demands.proofs.Formed.{accepted_fits, accepted_serial, accepted_verdict, accepted_well}
use Rattle.demands.proofs.Impossibility.{extras_source, keeps_sheet}

-- Verdict 0 says that no waits are needed.
pub verdict_zero : (b : Bool) → (cond {A = ℕ} b 1 0 ≡ 0) ↔ (b ≡ false)
verdict_zero true = (λ h. absurd (omega arith), λ h. let z : ◌≡◌ {A = ℕ} 1 0 = cc in z)
verdict_zero false = (λ h. refl, λ h. refl)

-- A wait is for an open step other than 0: as an after link it counts that step's delay.
pub open_duration : (d : ℕ → ℕ) (i : ℕ) (x : Delay) → i ≢ 0 → x ≡ Open → duration_with d i x ≡ d i
unfolding duration_with
open_duration d zero x z e = absurd (z refl)
open_duration d (suc i) Open z e = refl
open_duration d (suc i) (Fixed t) z e = let c : ◌≡◌ {A = ℕ} 0 1 = cc in absurd (omega arith)

open_edge : (i j l : ℕ) (x : Delay) → i ≢ 0 → x ≡ Open → sequencing_edge x l i j 0 ≡ record { from = i; to = j; gain = l + 0; loss = 0; counted = true; back = false; late = false }
unfolding sequencing_edge
open_edge i j l Open z e = rw (ne_eqb i 0 z)
open_edge i j l (Fixed t) z e = let c : ◌≡◌ {A = ℕ} 0 1 = cc in absurd (omega arith)

-- Two functions that agree on the members of a list give the same list.
map_agree : {A B : Type 0} (f g : A → B) (l : List A) → ((x : A) → Memᴰ x l → f x ≡ g x) → map f l ≡ map g l
map_agree f g [] h = refl
map_agree f g (x ∷ l) h = let rest = map_agree f g l (λ y m. h y (Memᴰ.tail m)) in let head = h x (Memᴰ.head refl) in rw (head, rest)

module _ {q : Records} (fits : Fits q) where
  -- The edge of a wait is that of its after link; so the edges of the sheet with its waits are those of the links and the waits' links.
  wait_edge_link : (w : WaitPair) → Memᴰ w (sheet_waits q) → edge_of q.steps (wait_link w) ≡ wait_edge (leasts_of q) w
  unfolding edge_of
  wait_edge_link w m =
      let r = wait_of fits w m in
      let l = leasts_of q w.anchor in
      let same : l + 0 ≡ l = omega arith in
      open_edge w.anchor w.target l (delay_at q.steps w.anchor) r.not_source r.lasts
      ∙ ap (λ (g : ℕ). record { from = w.anchor; to = w.target; gain = g; loss = 0; counted = true; back = false; late = false }) same

  pub edges_with_waits : edges q.steps (links_and_waits q) ≡ serialized_of q
  unfolding edges serialized_of serialized edges_of
  edges_with_waits =
      map-append (edge_of q.steps) (links_of q) (map wait_link (sheet_waits q))
      ∙ ap (λ (l : List Edge). map (edge_of q.steps) (links_of q) ++ l) (map-map (edge_of q.steps) wait_link (sheet_waits q) ∙ map_agree (λ w. edge_of q.steps (wait_link w)) (wait_edge (leasts_of q)) (sheet_waits q) wait_edge_link)

-- The edges of a sheet with its waits hold the leasts.
pub waits_leasts : {q : Records} → Fits q → Leasts (leasts_of q) (members (serialized_of q))
unfolding serialized_of
waits_leasts {q} fits = waited_leasts (serialized_waited (sheet_shape fits)) (sheet_leasts fits)

pub our_starts_by : {q : Records} → Fits q → Well (count_of q) (members (edges_of q)) → Serializable (members (serialized (count_of q) (leasts_of q) (edges_of q))) → (d : ℕ → ℕ) → Respects q.steps d → start_times (count_of q) (leasts_of q) (serialized_of q) d ≡ start_times (count_of q) no_leasts (serialized_of q) (extras q d)
unfolding serialized_of
our_starts_by {q} fits well serial d respects =
    start_times_extra (leasts_of q) (plan_well (leasts_of q) well serial) (plan_posed (leasts_of q) well serial) (waits_leasts fits) (least_source q.steps) d (extras q d) (λ a b. omega (arith, respects a))

module _ {s : List ℕ} {allow : Bool} {q : Records} {v : ℕ} (accepted : Accepted s allow q v) where
  fits : Fits q
  fits = accepted_fits accepted

  -- Our starts, by offsets from the ends of steps, are those of the theory for what the steps last past their leasts.
  module _ (d : ℕ → ℕ) (D : Durations q d) where
    pub our_start_extra : our_start q d ≡ start_time (count_of q) (serialized_of q) (extras q d)
    our_start_extra = ap cell (our_starts_by fits (accepted_well accepted) (accepted_serial accepted) d D.respects)

    schedule : Schedule (members (serialized_of q)) (extras q d) (our_start q d)
    schedule = subst (Schedule (members (serialized_of q)) (extras q d)) (sym our_start_extra) (unfold serialized_of in plan_keeps_waits (leasts_of q) (accepted_well accepted) (accepted_serial accepted) (extras q d) (extras_source q d D))

    -- Our starts keep the links and the waits' links together.
    all_kept : KeepsAll q.steps (links_and_waits q) d (our_start q d)
    all_kept = schedule_keeps q.steps d (our_start q d) D.respects (links_and_waits q) (subst (λ (l : List Edge). Schedule (members l) (extras q d) (our_start q d)) (sym (edges_with_waits fits)) schedule)

  pub kept_for : (d : ℕ → ℕ) → Durations q d → KeptFor q d
  kept_for d D =
      let k = all_kept d D in
      record { links = record { starts = k.starts; keeps = λ c m. k.keeps c (Memᴰ.append_left (map wait_link (sheet_waits q)) m) }; waits = λ w m. k.keeps (wait_link w) (Memᴰ.append_right (links_of q) (Memᴰ.map wait_link m)) }

  -- The waits' links are further links, and with them the sheet is sound.
  pub ours_among : (d : ℕ → ℕ) → Durations q d → OursAmong q d (links_and_waits q)
  unfolding serialized_of
  ours_among d D = record {
    extension = record {
      keeps_all = λ c m. Memᴰ.append_left (map wait_link (sheet_waits q)) m;
      only = λ c m. only c (Memᴰ.append_cases (links_of q) m);
      well_posed = subst (λ (l : List Edge). WellPosed (members l)) (sym (edges_with_waits fits)) (plan_posed (leasts_of q) (accepted_well accepted) (accepted_serial accepted));
    };
    kept = all_kept d D;
  }
    where
      further : (w : WaitPair) → Memᴰ w (sheet_waits q) → Further (count_of q) (wait_link w)
      further w m = let r = wait_of fits w m in (r.anchor_below, r.target_below)

      only : (c : Constraint) → Memᴰ c (links_of q) ⊎ Memᴰ c (map wait_link (sheet_waits q)) → Memᴰ c (links_of q) ⊎ Further (count_of q) c
      only c (inl m) = inl m
      only c (inr m) = let r = Memᴰ.of_map wait_link (sheet_waits q) m in inr (subst (Further (count_of q)) r.2 (further r.0 r.1))

  -- Nobody is earlier, on sheets without late links. With verdict 0 the sheet is sound as sent; with waits every rival's sheet keeps them already.
  module _ (timely : NoLateLinks q) where
    pub earliest : v ≡ 0 → (d t : ℕ → ℕ) → Durations q d → KeepsLinks q d t → (i : ℕ) → i < count_of q → our_start q d i ≤ t i
    unfolding serialized_of
    earliest h d t D k i b =
        omega (arith, ap (λ (S : ℕ → ℕ). S i) (our_start_extra d D), plan_least_unwaited (leasts_of q) (accepted_well accepted) (accepted_serial accepted) (sheet_timely fits timely) ((verdict_zero (needs_waits (count_of q) (edges_of q))).0 (accepted_verdict accepted ∙ h)) (extras_source q d D) ((keeps_sheet q d t D.respects).0 k) i b)

    pub earliest_of_rivals : (fs : List Constraint) → Extension q.steps (links_of q) fs → (d t : ℕ → ℕ) → Durations q d → KeepsAll q.steps fs d t → (i : ℕ) → i < count_of q → our_start q d i ≤ t i
    unfolding serialized_of
    earliest_of_rivals fs extension d t D k i b =
        omega (arith, ap (λ (S : ℕ → ℕ). S i) (our_start_extra d D), plan_least_rival (leasts_of q) (accepted_well accepted) (accepted_serial accepted) (sheet_timely fits timely) (rival_above fits extension) (rival_shape fits extension) extension.well_posed (rival_timely fits extension timely) (rival_leasts fits extension) (extras_source q d D) (keeps_schedule q.steps d t D.respects fs k) i b)

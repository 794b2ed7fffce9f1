-- The plan of a sheet with its waits in: what is proved of well-posed lists of edges, for `serialized n least es`.
use mathlib.Core.Path.{◌≡◌, subst, sym}
use mathlib.Core.Bool.{Bool, false, true}
use mathlib.Core.Logic.{◌≢◌}
use mathlib.Core.List.{List}
use Prim.Native.Nat.{◌*◌, ◌+◌, ◌-◌, ◌<◌, ◌≤◌, ℕ}
use native.Mathlib.Omega.{arith}
use native.Mathlib.Nat.{mul-le-mul_right}
use Rattle.definitions.specs.Limits.{most_steps, most_duration, most_extra, most_gain, most_first_gain, most_walk, most_offset, most_start}
use Rattle.definitions.specs.Anchors.{InAnchorSet, WellPosed}
use Rattle.definitions.specs.Basics.{largest}
use Rattle.definitions.specs.Links.{After, Edge, Forward, Graph, ◌⊑◌, members, no_leasts}
use Rattle.definitions.specs.Plan.{decides, offset}
use Rattle.definitions.specs.Waits.{Wait, needs_waits, serialized}
use Rattle.theory.specs.Graphs.{Acyclic, FirstGains, ForwardAcyclic, Gains, Lasting, Leasts, Relative, Schedule, Serializable, Shape, Timely, Well, sole_delay}
use Rattle.theory.specs.Strategies.{Assigned, Strategy, Unbounded}
use Rattle.theory.proofs.AnchorOrder.{least_acyclic}
use Rattle.theory.proofs.DecidingSets.{Suffices, deciding_enough, deciding_least, deciding_some, deciding_strict}
use Rattle.theory.proofs.Offsets.{offset_gains, offset_limit, walk_limit}
use Rattle.theory.proofs.Reachability.{dec_member}
use Rattle.theory.proofs.RelativeSchedules.{relative_keeps}
use Rattle.theory.proofs.Serialization.{forward_acyclic, rival_keeps, timely_serializable, wait_chain, wait_other, waited_first_gains, waited_gains, waited_leasts, waited_timely, waited_well}
use Rattle.theory.proofs.StartTimes.{relative_small, start_term, start_time, start_times_relative}
use Rattle.theory.proofs.Strategies.{ours_strategy, strategy_earliest, strategy_serializable, unbounded_waited}
use Rattle.theory.proofs.WaitLists.{serialized_none, serialized_waited, serialized_well_posed, wait_anchor_below}
use Rattle.theory.proofs.Walks.{member_below, schedule_mono, source_first}

-- Where no return is late the waits can always be put in: 28 never occurs.
pub plan_timely : (least : ℕ → ℕ) {n : ℕ} {es : List Edge} → Timely (members es) → Well n (members es) → ForwardAcyclic (members es) → Serializable (members (serialized n least es))
plan_timely least timely well once = timely_serializable (serialized_waited well.shape) timely well once

-- A rival without foresight keeps the waits, and so shows that they can be put in.
pub plan_strategy_serializable : {n : ℕ} {least : ℕ → ℕ} {es : List Edge} {Open : ℕ → Type 0} {ρ : (ℕ → ℕ) → ℕ → ℕ} → Shape n (members es) → ForwardAcyclic (members es) → Unbounded Open (members es) → Leasts least (members es) → Strategy n least Open (members es) ρ → Serializable (members (serialized n least es))
plan_strategy_serializable shape once unbounded leasts R = strategy_serializable shape unbounded R (serialized_waited shape) leasts once

module _ (least : ℕ → ℕ) {n : ℕ} {es : List Edge} (well : Well n (members es)) (serial : Serializable (members (serialized n least es))) where
  abbrev acyclic : Acyclic (Forward (members (serialized n least es)))
  acyclic = forward_acyclic serial.acyclic

  -- With its waits the graph can be scheduled and is well-posed.
  pub plan_well : Well n (members (serialized n least es))
  plan_well = waited_well (dec_member well.shape) (serialized_waited well.shape) well serial

  pub plan_posed : WellPosed (members (serialized n least es))
  plan_posed = serialized_well_posed well.shape least acyclic

  -- Waits gain the leasts of their anchors too, so that a plan with leasts can be read off it.
  pub plan_lasting : Leasts least (members es) → least 0 ≡ 0 → Lasting n least (members (serialized n least es))
  plan_lasting leasts none = record { well = plan_well; posed = plan_posed; leasts = waited_leasts (serialized_waited well.shape) leasts; source = none }

  -- No step waits for itself, and step 0 waits for none.
  pub plan_wait_other : {a i : ℕ} → Wait (members es) a i → a ≢ i
  plan_wait_other = wait_other well.shape (serialized_waited well.shape) (dec_member well.shape) acyclic

  pub plan_wait_not_source : {a i : ℕ} → Wait (members es) a i → i ≢ 0
  plan_wait_not_source {a} w e =
      source_first
      plan_well.rooted
      acyclic
      (wait_anchor_below well.shape w)
      (subst (λ (x : ℕ). After (Forward (members (serialized n least es))) a x) e (wait_chain (serialized_waited well.shape) w))

  -- Our starts are the relative schedule; so they keep every link and every wait, whatever the delays.
  pub plan_relative : (d : ℕ → ℕ) → d 0 ≡ 0 → Relative n (members (serialized n least es)) d (start_time n (serialized n least es) d) (offset n no_leasts (serialized n least es))
  plan_relative = start_times_relative plan_well plan_posed

  pub plan_keeps_waits : (d : ℕ → ℕ) → d 0 ≡ 0 → Schedule (members (serialized n least es)) d (start_time n (serialized n least es) d)
  plan_keeps_waits d d0 = relative_keeps plan_well.shape plan_posed plan_well.never (plan_relative d d0)

  -- Where no return is late, none that keep the links and waits start anything earlier.
  module _ (timely : Timely (members es)) where
    pub plan_least : {d t : ℕ → ℕ} → d 0 ≡ 0 → Schedule (members (serialized n least es)) d t → (v : ℕ) → v < n → start_time n (serialized n least es) d v ≤ t v
    plan_least {d} d0 s = least_acyclic plan_well.shape (waited_timely (serialized_waited well.shape) well.shape timely) acyclic (plan_relative d d0) s

    -- Where no waits are needed, none that keep the links do.
    pub plan_least_unwaited : {d t : ℕ → ℕ} → needs_waits n es ≡ false → d 0 ≡ 0 → Schedule (members es) d t → (v : ℕ) → v < n → start_time n (serialized n least es) d v ≤ t v
    plan_least_unwaited {d} {t} h d0 s = plan_least d0 (subst (λ (l : List Edge). Schedule (members l) d t) (sym (serialized_none well.shape least h)) s)

    -- And none that keep a well-posed extension do: it keeps the waits already.
    pub plan_least_rival : {F : Graph} {d t : ℕ → ℕ} → members es ⊑ F → Shape n F → WellPosed F → Timely F → Leasts least F → d 0 ≡ 0 → Schedule F d t → (v : ℕ) → v < n → start_time n (serialized n least es) d v ≤ t v
    plan_least_rival above shape posed on_time leasts d0 s = plan_least d0 (rival_keeps (serialized_waited well.shape) above shape posed on_time leasts s)

  -- Late returns or not: no rival without foresight starts anything earlier, and our starts are such a rival.
  module _ {Open : ℕ → Type 0} (unbounded : Unbounded Open (members es)) where
    pub plan_least_strategy : {ρ : (ℕ → ℕ) → ℕ → ℕ} → Strategy n least Open (members es) ρ → (v : ℕ) → v < n → (d : ℕ → ℕ) → Assigned Open d → start_time n (serialized n least es) d v ≤ ρ d v
    plan_least_strategy = strategy_earliest well.shape unbounded (serialized_waited well.shape) acyclic plan_posed plan_relative

    pub plan_strategy : Leasts least (members es) → Strategy n least Open (members es) (start_time n (serialized n least es))
    plan_strategy leasts =
        let R = ours_strategy plan_well.shape acyclic plan_relative (unbounded_waited unbounded (serialized_waited well.shape)) plan_posed (waited_leasts (serialized_waited well.shape) leasts) plan_well.never in
        record { keeps = λ d L. schedule_mono (serialized_waited well.shape).keeps_all (R.keeps d L); blind = R.blind }

  -- The largest term over the deciding members is the start.
  pub plan_enough : (d : ℕ → ℕ) → d 0 ≡ 0 → (v : ℕ) → v < n → start_time n (serialized n least es) d v ≡ largest (λ a. decides n no_leasts (serialized n least es) a v) (start_term n (serialized n least es) d v) n
  plan_enough = deciding_enough plan_well plan_posed

  pub plan_some : (v : ℕ) → v < n → (a : ℕ) × (a < n) × (decides n no_leasts (serialized n least es) a v ≡ true)
  plan_some = deciding_some plan_well plan_posed

  -- Each of at most n anchors on the way to a step adds a delay and an offset.
  plan_start_within : (m : ℕ) → n ≤ most_steps → (d : ℕ → ℕ) → d 0 ≡ 0 → ((a v : ℕ) → a < n → v < n → InAnchorSet (members (serialized n least es)) a v → d a + offset n no_leasts (serialized n least es) a v ≤ m) → (v : ℕ) → v < n → start_time n (serialized n least es) d v ≤ most_steps * m
  plan_start_within m few d d0 adds v b =
      omega (arith, relative_small plan_well.shape acyclic (plan_relative d d0) m (λ a v b i. adds a v (member_below plan_well.shape b i) b i) v b, mul-le-mul_right m few)

  -- An offset by what its first edge gains and the others do.
  pub plan_offset_gains : (f : ℕ) {g : ℕ} → Leasts least (members es) → FirstGains least (members es) f → Gains (members es) g → (a v : ℕ) → v < n → InAnchorSet (members (serialized n least es)) a v → offset n no_leasts (serialized n least es) a v ≤ least a + f + (n - 2) * g
  plan_offset_gains f leasts firsts gains = offset_gains least f plan_well plan_posed (waited_first_gains f (serialized_waited well.shape) firsts) (waited_gains (serialized_waited well.shape) leasts gains)

  -- With the limits of a sheet.
  module _ (leasts : Leasts least (members es)) (gains : Gains (members es) most_gain) (few : n ≤ most_steps) where
    waited : Gains (members (serialized n least es)) most_gain
    waited = waited_gains (serialized_waited well.shape) leasts gains

    plan_walk_limit : (a v : ℕ) → v < n → InAnchorSet (members (serialized n least es)) a v → offset n no_leasts (serialized n least es) a v ≤ most_walk
    plan_walk_limit = walk_limit plan_well plan_posed waited few

    -- What starts are at most by the gains of the edges alone.
    pub plan_start_fits : (d : ℕ → ℕ) → d 0 ≡ 0 → ((a : ℕ) → a < n → d a ≤ most_duration) → (v : ℕ) → v < n → start_time n (serialized n least es) d v ≤ most_steps * (most_duration + most_walk)
    plan_start_fits d d0 short = plan_start_within (most_duration + most_walk) few d d0 (λ a v c b i. omega (arith, short a c, plan_walk_limit a v b i))

    -- And what offsets and starts are at most, where first edges gain less.
    module _ (firsts : FirstGains least (members es) most_first_gain) where
      pub plan_offset_limit : (a v : ℕ) → v < n → InAnchorSet (members (serialized n least es)) a v → offset n no_leasts (serialized n least es) a v ≤ least a + most_offset
      plan_offset_limit = offset_limit plan_well plan_posed waited few least (waited_first_gains most_first_gain (serialized_waited well.shape) firsts)

      pub plan_start_limit : (d : ℕ → ℕ) → d 0 ≡ 0 → ((a : ℕ) → a < n → d a + least a ≤ most_duration) → (v : ℕ) → v < n → start_time n (serialized n least es) d v ≤ most_start
      plan_start_limit d d0 short = plan_start_within (most_duration + most_offset) few d d0 (λ a v c b i. omega (arith, short a c, plan_offset_limit a v b i))

    -- No deciding member can be left out: the delays that show it are within the limit.
    pub plan_strict : (a v : ℕ) → v < n → decides n no_leasts (serialized n least es) a v ≡ true → (b : ℕ) → b ≢ a → InAnchorSet (members (serialized n least es)) b v → start_term n (serialized n least es) (sole_delay most_extra a) v b < start_term n (serialized n least es) (sole_delay most_extra a) v a
    plan_strict = deciding_strict plan_well plan_posed most_walk plan_walk_limit most_extra (omega arith)

    pub plan_deciding_least : (part : ℕ → Bool) (a v : ℕ) → v < n → Suffices n (serialized n least es) (sole_delay most_extra a) part v → decides n no_leasts (serialized n least es) a v ≡ true → part a ≡ true
    plan_deciding_least = deciding_least plan_well plan_posed most_walk plan_walk_limit most_extra (omega arith)

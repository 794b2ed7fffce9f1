-- The plan of an accepted sheet: its verdict and waits, offsets, starts, deciding sets and table are those of document 01.
use mathlib.Core.Path.{◌≡◌, refl, sym, ap, subst, ◌∙◌}
use mathlib.Core.Bool.{Bool, true, false, cond, not}
use mathlib.Core.Logic.{◌⊎◌, inl, inr, ◌↔◌}
use mathlib.Core.List.{List, [], ◌∷◌}
use Prim.Native.Nat.{ℕ, suc, ◌+◌, ◌-◌, ◌*◌, ◌≤◌, ◌<◌}
use native.Mathlib.Omega.{arith}
use native.Mathlib.Decide.{dec_lt}
use lib.ListN.{length, get_or-eq_default}
use borrow.Author.Tests.{ltb-false, le-ltb}
use Rattle.definitions.specs.Limits.{most_extra, most_offset, most_start}
use Rattle.definitions.specs.Basics.{any_below, largest}
use Rattle.definitions.specs.Bytes.{Records}
use Rattle.definitions.specs.Links.{Edge, members, Forward, no_leasts}
use Rattle.definitions.specs.Anchors.{InAnchorSet, WellPosed}
use Rattle.definitions.specs.Waits.{WaitPair, wait_list, wait_count, needs_waits, serialized}
use Rattle.definitions.specs.Plan.{offset, start_times, overrides, decides, plan_entry, delays}
use Rattle.definitions.specs.Answers.{count_of, leasts_of, edges_of, serialized_of}
use Rattle.laws.proofs.Bools.{bool_cases, both_ways, and_join, not_passing}
use Rattle.laws.proofs.Tests.{any_below_has, any_below_by, largest_same, largest_same_test}
use Rattle.theory.specs.Graphs.{Gains, Shape, Well, Acyclic, Relative, Decides, Overrides, Serializable, sole_delay}
use Rattle.theory.proofs.Walks.{member_below}
use Rattle.theory.proofs.Serialization.{forward_acyclic}
use Rattle.theory.proofs.Reachability.{in_anchor_set_iff}
use Rattle.theory.proofs.WaitLists.{needs_waits_iff}
use Rattle.theory.proofs.Extras.{decides_extra, offset_extra, offset_heaviest, overrides_extra}
use Rattle.theory.proofs.StartTimes.{start_term, start_time, start_times_length, start_times_source, start_times_rule}
use Rattle.theory.proofs.DecidingSets.{overrides_iff, decides_iff}
use Rattle.theory.proofs.PlanTables.{plan_table_length, plan_table_at, plan_table_row}
use Rattle.theory.proofs.Plans.{plan_some, plan_posed, plan_well, plan_wait_other, plan_wait_not_source, plan_relative, plan_enough, plan_offset_gains, plan_offset_limit, plan_start_limit, plan_strict, plan_deciding_least}
use Rattle.demands.specs.Demands.{Accepted, Durations, extras, IsDelayList, in_start_set, sheet_offset, sheet_decides, our_start, term, WaitsFor, OffsetFor, StartRuleFor, GivesStart, Needed, LeftOut, DecidingFor, PlanFor}
use Rattle.demands.proofs.Reading.{Fits}
use Rattle.demands.proofs.Edges.{sheet_shape, sheet_first_gains, sheet_gains, sheet_leasts}
use Rattle.demands.proofs.Meaning.{waits_shape, meant_for}
use Rattle.demands.proofs.Listing.{listed_iff}
use Rattle.theory.proofs.DelayLimits.{least_source, list_most}
use Rattle.demands.proofs.DelayLists.{sole_list, sole_extras, sole_allowed, list_durations}
use Rattle.demands.proofs.Formed.{accepted_fits, accepted_serial, accepted_verdict, accepted_well}
use Rattle.demands.proofs.Impossibility.{extras_source}
use Rattle.demands.proofs.OurStarts.{our_start_extra, verdict_zero, waits_leasts}

-- Waits are needed exactly if the list of waits is not empty.
needs_none : (n : ℕ) (es : List Edge) → (needs_waits n es ≡ false) ↔ (wait_list n es ≡ [])
unfolding needs_waits wait_count
needs_none n es = (λ h. empty (wait_list n es) (ltb-false 0 (length (wait_list n es)) h), λ h. le-ltb 0 (length (wait_list n es)) (omega (arith, ap length h)))
  where
    empty : (l : List WaitPair) → length l ≤ 0 → l ≡ []
    empty [] h = refl
    empty (w ∷ l) h = absurd (omega arith)

module _ {s : List ℕ} {allow : Bool} {q : Records} {v : ℕ} (accepted : Accepted s allow q v) where
  abbrev n : ℕ
  n = count_of q

  fits : Fits q
  fits = accepted_fits accepted

  well : Well n (members (edges_of q))
  well = accepted_well accepted

  abbrev ls : ℕ → ℕ
  ls = leasts_of q

  serial : Serializable (members (serialized n ls (edges_of q)))
  serial = accepted_serial accepted

  unneeded : (v ≡ 0) ↔ (needs_waits n (edges_of q) ≡ false)
  unneeded =
      let r = verdict_zero (needs_waits n (edges_of q)) in
      (λ h. r.0 (accepted_verdict accepted ∙ h), λ h. sym (accepted_verdict accepted) ∙ r.1 h)

  pub waits_for_sheet : WaitsFor q v
  unfolding serialized_of
  waits_for_sheet =
      let sound = needs_waits_iff (sheet_shape fits) in
      let none = needs_none n (edges_of q) in
      record {
        verdicts = verdict_of (needs_waits n (edges_of q)) (accepted_verdict accepted);
        sound = (λ h. sound.0 (unneeded.0 h), λ h. unneeded.1 (sound.1 h));
        none = (λ h. none.0 (unneeded.0 h), λ h. unneeded.1 (none.1 h));
        itself = λ a m. plan_wait_other ls well serial ((listed_iff fits a a).0 m) refl;
        source = λ a m. plan_wait_not_source ls well serial ((listed_iff fits a 0).0 m) refl;
        then_sound = plan_posed ls well serial;
        then_no_circle = λ r. serial.acyclic r.0 r.1 r.2 r.3 r.4;
        then_no_gain = λ x k g l w. serial.never.closed w;
      }
    where
      verdict_of : (b : Bool) → cond b 1 0 ≡ v → (v ≡ 0) ⊎ (v ≡ 1)
      verdict_of true e = inr (sym e)
      verdict_of false e = inl (sym e)

  -- Start sets, by test.
  shape : Shape n (members (serialized_of q))
  shape = waits_shape fits

  member : (a i : ℕ) → (in_start_set q a i ≡ true) ↔ InAnchorSet (members (serialized_of q)) a i
  member = in_anchor_set_iff shape

  acyclic : Acyclic (Forward (members (serialized_of q)))
  unfolding serialized_of
  acyclic = forward_acyclic serial.acyclic

  -- The sheet with its waits can be scheduled, is sound, and its edges hold the leasts: so its offsets from the ends of steps are the theory's, which count from their starts, less the leasts.
  whole : Well n (members (serialized_of q))
  unfolding serialized_of
  whole = plan_well ls well serial

  posed : WellPosed (members (serialized_of q))
  unfolding serialized_of
  posed = plan_posed ls well serial

  abbrev span : ℕ → ℕ → ℕ
  span a i = offset n no_leasts (serialized_of q) a i

  offset_span : (a i : ℕ) → i < n → in_start_set q a i ≡ true → sheet_offset q a i + ls a ≡ span a i
  offset_span a i b h = offset_extra ls whole posed (waits_leasts fits) (least_source q.steps) a i b ((member a i).0 h)

  offset_most : (a i : ℕ) → i < n → in_start_set q a i ≡ true → sheet_offset q a i ≤ most_offset
  unfolding serialized_of
  offset_most a i b h = omega (arith, offset_span a i b h, plan_offset_limit ls well serial (sheet_leasts fits) (sheet_gains fits) fits.few (sheet_first_gains fits) a i b ((member a i).0 h))

  -- By what edges gain, where that is less than it may be.
  pub offset_by_gains : {g : ℕ} → Gains (members (edges_of q)) g → (a i : ℕ) → i < n → in_start_set q a i ≡ true → sheet_offset q a i ≤ g + (n - 2) * g
  unfolding serialized_of
  offset_by_gains {g} gains a i b h = omega (arith, offset_span a i b h, plan_offset_gains ls well serial g (sheet_leasts fits) (λ e m k. omega (arith, gains e m)) gains a i b ((member a i).0 h))

  pub offset_for : (a i : ℕ) → i < n → in_start_set q a i ≡ true → OffsetFor q a i
  offset_for a i b h = record { heaviest = offset_heaviest ls whole posed (waits_leasts fits) (least_source q.steps) a i b ((member a i).0 h); small = offset_most a i b h }

  -- Our starts are the largest of the terms: none is above, and one is met. A term is the theory's for what its step lasts past its least.
  module _ (d : ℕ → ℕ) (D : Durations q d) where
    relative : Relative n (members (serialized_of q)) (extras q d) (our_start q d) span
    relative = subst (λ (S : ℕ → ℕ). Relative n (members (serialized_of q)) (extras q d) S span) (sym (our_start_extra accepted d D)) (unfold serialized_of in plan_relative ls well serial (extras q d) (extras_source q d D))

    term_extra : (a i : ℕ) → i < n → in_start_set q a i ≡ true → term q d i a ≡ start_term n (serialized_of q) (extras q d) i a
    term_extra a i b h = omega (arith, ap (λ (S : ℕ → ℕ). S a) (our_start_extra accepted d D), offset_span a i b h, D.respects a)

    above : (a i : ℕ) → i < n → in_start_set q a i ≡ true → term q d i a ≤ our_start q d i
    above a i b h = omega (arith, relative.above a i b ((member a i).0 h), offset_span a i b h, D.respects a)

  -- A list's durations are within the limit, and past its end 0.
  starts_most : (list : List ℕ) → IsDelayList q list → (i : ℕ) → Dec (i < n) → our_start q (delays list) i ≤ most_start
  unfolding serialized_of
  starts_most list L i (no c) = omega (arith, get_or-eq_default (start_times n ls (serialized_of q) (delays list)) 0 {n = i} (omega (arith, start_times_length n ls (serialized_of q) (delays list))))
  starts_most list L i (yes c) =
      let D = list_durations q fits.some list L in
      omega (
        arith,
        ap (λ (S : ℕ → ℕ). S i) (our_start_extra accepted (delays list) D),
        plan_start_limit ls well serial (sheet_leasts fits) (sheet_gains fits) fits.few (sheet_first_gains fits) (extras q (delays list)) (extras_source q (delays list) D) (λ a b. omega (arith, list_most q.steps list L.within a b, D.respects a)) i c,
      )

  pub start_rule_for : StartRuleFor q
  start_rule_for = record {
    source = λ d. start_times_source ls shape d;
    rule = λ d i b. start_times_rule ls shape d acyclic (suc i) b (λ e. omega arith);
    small = λ list L i. starts_most list L i (dec_lt i n);
    narrow = λ list L i. omega (arith, starts_most list L i (dec_lt i n));
  }

  module _ (i : ℕ) (inside : i < n) where
    -- Who decides by offsets from the ends decides by the theory's.
    same_decides : (a : ℕ) → sheet_decides q a i ≡ decides n no_leasts (serialized_of q) a i
    same_decides a = decides_extra ls whole posed (waits_leasts fits) (least_source q.steps) a i inside

    decided : (a : ℕ) → (sheet_decides q a i ≡ true) ↔ Decides (members (serialized_of q)) span a i
    decided a = let r = decides_iff shape a i inside in (λ h. r.0 (sym (same_decides a) ∙ h), λ D. same_decides a ∙ r.1 D)

    decided_member : (a : ℕ) → sheet_decides q a i ≡ true → in_start_set q a i ≡ true
    decided_member a h = (member a i).1 ((decided a).0 h).inside

    enough_extra : (d : ℕ → ℕ) → Durations q d → start_time n (serialized_of q) (extras q d) i ≡ largest (λ a. decides n no_leasts (serialized_of q) a i) (start_term n (serialized_of q) (extras q d) i) n
    unfolding serialized_of
    enough_extra d D = plan_enough ls well serial (extras q d) (extras_source q d D) i inside

    enough : (d : ℕ → ℕ) → Durations q d → our_start q d i ≡ largest (λ a. sheet_decides q a i) (term q d i) n
    enough d D =
        ap (λ (S : ℕ → ℕ). S i) (our_start_extra accepted d D)
        ∙ enough_extra d D
        ∙ sym (largest_same_test (λ a. sheet_decides q a i) (λ a. decides n no_leasts (serialized_of q) a i) (start_term n (serialized_of q) (extras q d) i) n (λ a b. same_decides a))
        ∙ sym (largest_same (λ a. sheet_decides q a i) (term q d i) (start_term n (serialized_of q) (extras q d) i) n (λ a b h. term_extra d D a i inside (decided_member a h)))

    some : (a : ℕ) × (sheet_decides q a i ≡ true)
    unfolding serialized_of
    some = let r = plan_some ls well serial i inside in (r.0, same_decides r.0 ∙ r.2)

    deciding_part : GivesStart q i (λ a. sheet_decides q a i)
    deciding_part = record { some = some; within = decided_member; same = λ list L. enough (delays list) (list_durations q fits.some list L) }

    below : (a : ℕ) → in_start_set q a i ≡ true → a < n
    below a h = member_below shape inside ((member a i).0 h)

    -- The list that shows the member a.
    shows : (a : ℕ) → in_start_set q a i ≡ true → IsDelayList q (sole_list q a)
    shows a h = sole_allowed q a (below a h) fits.leasts ((meant_for fits).others_open a i h)

    shown : (a : ℕ) → in_start_set q a i ≡ true → Durations q (delays (sole_list q a))
    shown a h = list_durations q fits.some (sole_list q a) (shows a h)

    -- A term under that list, in the theory.
    shown_term : (a : ℕ) → in_start_set q a i ≡ true → (b : ℕ) → in_start_set q b i ≡ true → term q (delays (sole_list q a)) i b ≡ start_term n (serialized_of q) (sole_delay most_extra a) i b
    shown_term a h b k = term_extra (delays (sole_list q a)) (shown a h) b i inside k ∙ ap (λ (x : ℕ → ℕ). start_term n (serialized_of q) x i b) (sole_extras q a (below a h))

    smallest : (part : ℕ → Bool) → GivesStart q i part → (a : ℕ) → sheet_decides q a i ≡ true → part a ≡ true
    unfolding serialized_of
    smallest part P a h =
        plan_deciding_least ls well serial (sheet_leasts fits) (sheet_gains fits) fits.few part a i inside (record {
          within = P.within;
          some = any_below_by part n (below P.some.0 (P.within P.some.0 P.some.1)) P.some.1;
          same =
              ap (λ (x : ℕ → ℕ). start_time n (serialized_of q) x i) (sym (sole_extras q a (below a m)))
              ∙ ap (λ (S : ℕ → ℕ). S i) (sym (our_start_extra accepted (delays (sole_list q a)) (shown a m)))
              ∙ P.same (sole_list q a) (shows a m)
              ∙ largest_same part (term q (delays (sole_list q a)) i) (start_term n (serialized_of q) (sole_delay most_extra a) i) n (λ b c k. shown_term a m b (P.within b k));
        }) (sym (same_decides a) ∙ h)
      where
        m : in_start_set q a i ≡ true
        m = decided_member a h

    needed_by : (a : ℕ) → sheet_decides q a i ≡ true → Needed q a i
    unfolding serialized_of
    needed_by a h =
        let m = decided_member a h in
        record { list = sole_list q a; allowed = shows a m; alone = λ b other k. omega (arith, shown_term a m b k, shown_term a m a m, plan_strict ls well serial (sheet_leasts fits) (sheet_gains fits) fits.few a i inside (sym (same_decides a) ∙ h) b other ((member b i).0 k)) }

    -- Left out: by the criterion of document 01.
    left_out_by : (a : ℕ) → in_start_set q a i ≡ true → sheet_decides q a i ≡ false → (b : ℕ) × LeftOut q a i b
    unfolding decides
    left_out_by a m h = go (bool_cases (any_below (overrides n ls (serialized_of q) a i) n))
      where
        go : (any_below (overrides n ls (serialized_of q) a i) n ≡ true) ⊎ (any_below (overrides n ls (serialized_of q) a i) n ≡ false) → (b : ℕ) × LeftOut q a i b
        go (inl t) =
            let r = any_below_has (overrides n ls (serialized_of q) a i) n t in
            let o = (overrides_iff shape a i r.0).0 (sym (overrides_extra ls whole posed (waits_leasts fits) (least_source q.steps) a i r.0 inside ((member a i).0 m)) ∙ r.2) in
            let k = (member r.0 i).1 o.inside in
            let l = (member a r.0).1 o.behind in
            (r.0, record { other = o.other; member = k; behind = l; reaches = omega (arith, o.heavy, offset_span a i inside m, offset_span a r.0 (below r.0 k) l, offset_span r.0 i inside k) })
        go (inr f) = absurd (both_ways (and_join m (ap not f)) h)

    outdone : (a b : ℕ) → in_start_set q a i ≡ true → LeftOut q a i b → Overrides (members (serialized_of q)) span a i b
    outdone a b m L = record { other = L.other; inside = (member b i).0 L.member; behind = (member a b).0 L.behind; heavy = omega (arith, L.reaches, offset_span a i inside m, offset_span a b (below b L.member) L.behind, offset_span b i inside L.member) }

    out_left : (a b : ℕ) → in_start_set q a i ≡ true → LeftOut q a i b → sheet_decides q a i ≡ false
    out_left a b m L = not_passing (sheet_decides q a i) (λ t. ((decided a).0 t).alone b (outdone a b m L))

    -- Whoever is left out is never alone the largest.
    needed_decides : (a : ℕ) → in_start_set q a i ≡ true → Needed q a i → sheet_decides q a i ≡ true
    needed_decides a m N = go (bool_cases (sheet_decides q a i))
      where
        refuse : (b : ℕ) → LeftOut q a i b → ⊥
        refuse b L =
            let D = list_durations q fits.some N.list N.allowed in
            omega (arith, N.alone b L.other L.member, above (delays N.list) D a b (below b L.member) L.behind, L.reaches, D.respects b)

        go : (sheet_decides q a i ≡ true) ⊎ (sheet_decides q a i ≡ false) → sheet_decides q a i ≡ true
        go (inl t) = t
        go (inr f) = let r = left_out_by a m f in absurd (refuse r.0 r.1)

    pub deciding_for : DecidingFor q i
    deciding_for = record { enough = enough; part = deciding_part; smallest = smallest; needed = λ a m. (needed_by a, needed_decides a m); left_out = λ a m. (left_out_by a m, λ r. out_left a r.0 m r.1) }

  pub plan_for : PlanFor q
  plan_for = record {
    size = plan_table_length n ls (serialized_of q);
    entry = λ i a b c. unfold plan_entry in plan_table_at n ls (serialized_of q) i a 0 b c;
    row = λ i b rest. plan_table_row n ls (serialized_of q) i b rest;
    apart = λ i a b h. omega (arith, offset_most a i b (decided_member i b a h));
  }

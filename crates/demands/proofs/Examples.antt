-- The hypotheses of the theorems are met: by sheets of the worked table, computed.
use mathlib.Core.Path.{◌≡◌, refl, sym, subst}
use mathlib.Core.Bool.{Bool, true, false}
use mathlib.Core.Logic.{◌⊎◌, inl, inr}
use mathlib.Core.List.Memᴰ
use mathlib.Core.List.{List, [], ◌∷◌, ◌++◌, Memᴰ}
use Prim.Native.Nat.{ℕ, zero, suc, ◌+◌, ◌≤◌, ◌<◌}
use native.Mathlib.Omega.{arith}
use native.Mathlib.Decide.{dec_lt}
use lib.Dec.{eqb, leb, ltb}
use lib.ListN.{length, get_or}
use borrow.Author.Tests.{eqb-true, ltb-true, leb-true}
use Rattle.definitions.specs.Basics.{all, all_below, Outcome, given, refused}
use Rattle.definitions.specs.Bytes.{Records, read}
use Rattle.definitions.specs.Links.{Constraint, sequencing, minimum, maximum, finish_maximum, links_of, delay_at, Respects, duration_with, duration, Keeps, edges}
use Rattle.definitions.specs.Anchors.{well_posed}
use Rattle.definitions.specs.Rival.{Further, DelayAssignment, Lasts}
use Rattle.definitions.specs.Answers.{closes_circle, count_of, leasts_of, edges_of, serialized_of, judged}
use Rattle.definitions.specs.Clashes.{impossible, few}
use Rattle.definitions.specs.Price.{comparisons_of, entry_at, largest_offset, plan_of, power_from, price_of, price_records, printed_entry, printed_table, registers_of, stands_at, too_large}
use Rattle.definitions.specs.Worked.{Worked, every_definition, far_undecided, listing, lists, stand, two_clashes, worked_sheets}
use Rattle.definitions.specs.declared.Delay.TheVariants.{Open}
use Rattle.definitions.specs.declared.Operation.{Operation}
use Rattle.laws.proofs.Tests.{all_below_each, all_each}
use Rattle.laws.proofs.Lists.{mem_at}
use Rattle.theory.proofs.DelayLimits.{least_past}
use Rattle.theory.proofs.Reachability.{well_posed_iff}
use Rattle.demands.specs.Demands.{Bytes, IsSheet, WellFormed, Accepted, WorkedBytes, RivalMet, ForesightEarlier, HypothesesMet, our_start}
use Rattle.demands.specs.Clashes.{FewFor, FewMet}
use Rattle.demands.specs.Pricing.{PriceMet, StartSetsUncounted}
use Rattle.demands.proofs.Reading.{fits_of}
use Rattle.demands.proofs.Edges.{Ends, edges_shape, sheet_ends}
use Rattle.demands.proofs.Impossibility.{impossible_for}
use Rattle.demands.proofs.Formed.{formed_regular}
use Rattle.demands.proofs.Clashes.{few_for, impossible_lists}
use Rattle.demands.proofs.Pricing.{price_for}
use Rattle.demands.proofs.PricingCalls.{small_iff}

-- Sheet k of the table, and its records.
abbrev no_sheet : Worked
no_sheet = record { bytes = []; question = listing true; expected = lists (refused 0) }

abbrev worked : ℕ → List ℕ
worked k = (get_or worked_sheets k no_sheet).bytes

abbrev pub records_in : Outcome Records → Records
records_in (given q) = q
records_in (refused k) = record { steps = []; pairs = [] }

abbrev worked_records : ℕ → Records
worked_records k = records_in (read (worked k))

in_table : (k : ℕ) → k < length worked_sheets → WorkedBytes (worked k)
in_table k h = (get_or worked_sheets k no_sheet, mem_at worked_sheets k no_sheet h, refl)

are_bytes : (s : List ℕ) → all (λ b. ltb b 256) s ≡ true → Bytes s
are_bytes s h b m = ltb-true b 256 (all_each (λ b. ltb b 256) s h b m)

-- Whether start times keep a link.
keeps_test : List Operation → (ℕ → ℕ) → (ℕ → ℕ) → Constraint → Bool
keeps_test os d t (sequencing i j g) = leb (t i + duration os d i + g) (t j)
keeps_test os d t (minimum i j m) = leb (t i + m) (t j)
keeps_test os d t (maximum i j u) = leb (t j) (t i + u)
keeps_test os d t (finish_maximum i j u) = leb (t j) (t i + duration os d i + u)

keeps_tested : (os : List Operation) (d t : ℕ → ℕ) (c : Constraint) → keeps_test os d t c ≡ true → Keeps os d t c
unfolding keeps_test
keeps_tested os d t (sequencing i j g) h = leb-true (t i + duration os d i + g) (t j) h
keeps_tested os d t (minimum i j m) h = leb-true (t i + m) (t j) h
keeps_tested os d t (maximum i j u) h = leb-true (t j) (t i + u) h
keeps_tested os d t (finish_maximum i j u) h = leb-true (t j) (t i + duration os d i + u) h

-- A rival's sheet for two hands: the wait, with a gap of 2, and step 3 at least 7 after step 0. Hand 1 takes 3, hand 2 takes 4: ours starts step 3 at 4, the rival at 7.
abbrev hands : Records
hands = worked_records 3

abbrev further : List Constraint
further = sequencing 2 3 2 ∷ minimum 0 3 7 ∷ []

abbrev rival_links : List Constraint
rival_links = links_of hands ++ further

abbrev hands_take : ℕ → ℕ
hands_take a = get_or (0 ∷ 3 ∷ 4 ∷ []) a 0

abbrev rival_times : ℕ → ℕ
rival_times i = get_or (0 ∷ 0 ∷ 0 ∷ 7 ∷ 4 ∷ []) i 0

-- The hand that is held back (43) takes 10. We start it at 6, since it may take no time; a rival that knows its duration starts it at 0.
abbrev back : Records
back = worked_records 43

abbrev hand_takes : ℕ → ℕ
hand_takes a = get_or (0 ∷ 10 ∷ []) a 0

abbrev foresight_times : ℕ → ℕ
foresight_times i = get_or (0 ∷ 0 ∷ 10 ∷ []) i 0

-- Request L14: the sheet with two clashes.
abbrev clash : Records
clash = records_in (read two_clashes)

-- All that is computed: the stand sheet (1 of the table) is sound, with limit 1 (2) it is refused 10, two hands (3) is accepted with waits, and 5 is refused 11; both-finish (35) and too-late (37) are
-- refused 28, held_back (43) is sound, and slow-hand (69) is sound with a least; and of the sheet with two clashes two records stay.
abbrev used : List ℕ
used = 1 ∷ 2 ∷ 3 ∷ 5 ∷ 35 ∷ 37 ∷ 43 ∷ 69 ∷ []

record Computed : Type 0 where
  size : ltb 69 (length worked_sheets) ≡ true
  bytes : (k : ℕ) → Memᴰ k used → all (λ b. ltb b 256) (worked k) ≡ true
  reads : (k : ℕ) → Memᴰ k used → read (worked k) ≡ given (worked_records k)
  formed : (k : ℕ) → Memᴰ k used → closes_circle (count_of (worked_records k)) (edges_of (worked_records k)) ≡ false
  sound : judged (worked 1) false ≡ given 0
  with_waits : judged (worked 3) true ≡ given 1
  infeasible : judged (worked 2) true ≡ refused 10
  inconsistent : judged (worked 5) true ≡ refused 11
  rival_sound : well_posed (count_of hands) (edges hands.steps rival_links) ≡ true
  rival_keeps : all (keeps_test hands.steps hands_take rival_times) rival_links ≡ true
  our_third : our_start hands hands_take 3 ≡ 4
  five : count_of hands ≡ 5
  hands_no_leasts : all_below (λ v. eqb (leasts_of hands v) 0) (count_of hands) ≡ true
  held_back : judged (worked 43) false ≡ given 0
  hand_open : delay_at back.steps 1 ≡ Open
  foresight_keeps : all (keeps_test back.steps hand_takes foresight_times) (links_of back) ≡ true
  our_first : our_start back hand_takes 1 ≡ 6
  three : count_of back ≡ 3
  back_no_leasts : all_below (λ v. eqb (leasts_of back v) 0) (count_of back) ≡ true
  circle : judged (worked 35) false ≡ refused 28
  with_circle : closes_circle (count_of (worked_records 35)) (serialized_of (worked_records 35)) ≡ true
  too_late : judged (worked 37) false ≡ refused 28
  no_circle : closes_circle (count_of (worked_records 37)) (serialized_of (worked_records 37)) ≡ false
  slow : judged (worked 69) false ≡ given 0
  slow_least : leasts_of (worked_records 69) 1 ≡ 8
  clash_bytes : all (λ b. ltb b 256) two_clashes ≡ true
  clash_reads : read two_clashes ≡ given clash
  clash_formed : closes_circle (count_of clash) (edges_of clash) ≡ false
  clash_impossible : impossible clash ≡ true
  clash_records : length clash.pairs ≡ 4
  clash_few : few clash ≡ 0 ∷ 2 ∷ []

-- What holds of the eight sheets that are used holds of each.
each_used : (P : ℕ → Type 0) → P 1 → P 2 → P 3 → P 5 → P 35 → P 37 → P 43 → P 69 → (k : ℕ) → Memᴰ k used → P k
each_used P a b c d e f g h k m = go (Memᴰ.cases_cons m)
  where
    put : {l : ℕ} → P l → k ≡ l → P k
    put p i = subst P (sym i) p

    eighth : (k ≡ 69) ⊎ Memᴰ k [] → P k
    eighth (inl i) = put h i
    eighth (inr i) = absurd (Memᴰ.not-nil i)

    seventh : (k ≡ 43) ⊎ Memᴰ k (69 ∷ []) → P k
    seventh (inl i) = put g i
    seventh (inr i) = eighth (Memᴰ.cases_cons i)

    sixth : (k ≡ 37) ⊎ Memᴰ k (43 ∷ 69 ∷ []) → P k
    sixth (inl i) = put f i
    sixth (inr i) = seventh (Memᴰ.cases_cons i)

    fifth : (k ≡ 35) ⊎ Memᴰ k (37 ∷ 43 ∷ 69 ∷ []) → P k
    fifth (inl i) = put e i
    fifth (inr i) = sixth (Memᴰ.cases_cons i)

    fourth : (k ≡ 5) ⊎ Memᴰ k (35 ∷ 37 ∷ 43 ∷ 69 ∷ []) → P k
    fourth (inl i) = put d i
    fourth (inr i) = fifth (Memᴰ.cases_cons i)

    third : (k ≡ 3) ⊎ Memᴰ k (5 ∷ 35 ∷ 37 ∷ 43 ∷ 69 ∷ []) → P k
    third (inl i) = put c i
    third (inr i) = fourth (Memᴰ.cases_cons i)

    second : (k ≡ 2) ⊎ Memᴰ k (3 ∷ 5 ∷ 35 ∷ 37 ∷ 43 ∷ 69 ∷ []) → P k
    second (inl i) = put b i
    second (inr i) = third (Memᴰ.cases_cons i)

    go : (k ≡ 1) ⊎ Memᴰ k (2 ∷ 3 ∷ 5 ∷ 35 ∷ 37 ∷ 43 ∷ 69 ∷ []) → P k
    go (inl i) = put a i
    go (inr i) = second (Memᴰ.cases_cons i)

computed : Computed
unfolding every_definition duration_with duration well_posed judged worked_sheets keeps_test
computed = record {
  size = refl;
  bytes = each_used (λ k. all (λ b. ltb b 256) (worked k) ≡ true) refl refl refl refl refl refl refl refl;
  reads = each_used (λ k. read (worked k) ≡ given (worked_records k)) refl refl refl refl refl refl refl refl;
  formed = each_used (λ k. closes_circle (count_of (worked_records k)) (edges_of (worked_records k)) ≡ false) refl refl refl refl refl refl refl refl;
  sound = refl;
  with_waits = refl;
  infeasible = refl;
  inconsistent = refl;
  rival_sound = refl;
  rival_keeps = refl;
  our_third = refl;
  five = refl;
  hands_no_leasts = refl;
  held_back = refl;
  hand_open = refl;
  foresight_keeps = refl;
  our_first = refl;
  three = refl;
  back_no_leasts = refl;
  circle = refl;
  with_circle = refl;
  too_late = refl;
  no_circle = refl;
  slow = refl;
  slow_least = refl;
  clash_bytes = refl;
  clash_reads = refl;
  clash_formed = refl;
  clash_impossible = refl;
  clash_records = refl;
  clash_few = refl;
}

-- Where each stands among them.
is_1 : Memᴰ 1 used
is_1 = Memᴰ.head refl

is_2 : Memᴰ 2 used
is_2 = Memᴰ.tail (Memᴰ.head refl)

is_3 : Memᴰ 3 used
is_3 = Memᴰ.tail (Memᴰ.tail (Memᴰ.head refl))

is_5 : Memᴰ 5 used
is_5 = Memᴰ.tail (Memᴰ.tail (Memᴰ.tail (Memᴰ.head refl)))

is_35 : Memᴰ 35 used
is_35 = Memᴰ.tail (Memᴰ.tail (Memᴰ.tail (Memᴰ.tail (Memᴰ.head refl))))

is_37 : Memᴰ 37 used
is_37 = Memᴰ.tail (Memᴰ.tail (Memᴰ.tail (Memᴰ.tail (Memᴰ.tail (Memᴰ.head refl)))))

is_43 : Memᴰ 43 used
is_43 = Memᴰ.tail (Memᴰ.tail (Memᴰ.tail (Memᴰ.tail (Memᴰ.tail (Memᴰ.tail (Memᴰ.head refl))))))

is_69 : Memᴰ 69 used
is_69 = Memᴰ.tail (Memᴰ.tail (Memᴰ.tail (Memᴰ.tail (Memᴰ.tail (Memᴰ.tail (Memᴰ.tail (Memᴰ.head refl)))))))

is_sheet : (k : ℕ) → Memᴰ k used → IsSheet (worked k) (worked_records k)
is_sheet k h = record { bytes = are_bytes (worked k) (computed.bytes k h); reads = computed.reads k h }

is_formed : (k : ℕ) → Memᴰ k used → WellFormed (worked k) (worked_records k)
is_formed k h = record { sheet = is_sheet k h; no_circle = computed.formed k h }

in_worked : (k : ℕ) → k < 70 → WorkedBytes (worked k)
in_worked k h = in_table k (omega (arith, ltb-true 69 (length worked_sheets) computed.size))

-- The rival's sheet is an extension: by the computed test for sound.
further_each : (c : Constraint) → Memᴰ c further → Further (count_of hands) c
further_each c m = go (Memᴰ.cases_cons m)
  where
    last : (c ≡ minimum 0 3 7) ⊎ Memᴰ c [] → Further (count_of hands) c
    last (inl e) = subst (Further (count_of hands)) (sym e) (omega (arith, computed.five), omega (arith, computed.five))
    last (inr m) = absurd (Memᴰ.not-nil m)

    go : (c ≡ sequencing 2 3 2) ⊎ Memᴰ c (minimum 0 3 7 ∷ []) → Further (count_of hands) c
    go (inl e) = subst (Further (count_of hands)) (sym e) (omega (arith, computed.five), omega (arith, computed.five))
    go (inr m) = last (Memᴰ.cases_cons m)

rival_only : (c : Constraint) → Memᴰ c (links_of hands) ⊎ Memᴰ c further → Memᴰ c (links_of hands) ⊎ Further (count_of hands) c
rival_only c (inl m) = inl m
rival_only c (inr m) = inr (further_each c m)

further_ends : (c : Constraint) → Further (count_of hands) c → Ends (count_of hands) c
further_ends (sequencing i j g) h = h
further_ends (minimum i j m) h = h
further_ends (maximum i j u) h = absurd h
further_ends (finish_maximum i j u) h = absurd h

rival_ends : (c : Constraint) → Memᴰ c rival_links → Ends (count_of hands) c
rival_ends c m = go (rival_only c (Memᴰ.append_cases (links_of hands) m))
  where
    go : Memᴰ c (links_of hands) ⊎ Further (count_of hands) c → Ends (count_of hands) c
    go (inl i) = sheet_ends (fits_of (is_sheet 3 is_3)) c i
    go (inr f) = further_ends c f

-- Neither sheet has leasts.
hands_respected : Respects hands.steps hands_take
hands_respected v = go v (dec_lt v (count_of hands))
  where
    go : (v : ℕ) → Dec (v < count_of hands) → leasts_of hands v ≤ hands_take v
    go v (yes b) = omega (arith, eqb-true (leasts_of hands v) 0 (all_below_each (λ v. eqb (leasts_of hands v) 0) (count_of hands) computed.hands_no_leasts v b))
    go v (no b) = omega (arith, least_past hands.steps v (omega arith))

rival_met : RivalMet hands
rival_met = record {
  links = rival_links;
  extension = record {
    keeps_all = λ c m. Memᴰ.append_left further m;
    only = λ c m. rival_only c (Memᴰ.append_cases (links_of hands) m);
    well_posed = (well_posed_iff (edges_shape hands.steps (count_of hands) rival_links rival_ends)).0 computed.rival_sound;
  };
  durations = hands_take;
  respected = record { source = refl; respects = hands_respected };
  times = rival_times;
  kept = record { starts = refl; keeps = λ c m. keeps_tested hands.steps hands_take rival_times c (all_each (keeps_test hands.steps hands_take rival_times) rival_links computed.rival_keeps c m) };
  step = 3;
  exists = omega (arith, computed.five);
  later = omega (arith, computed.our_third);
}

-- Only the hand lasts.
hand_assigned : DelayAssignment back.steps hand_takes
hand_assigned = record { idle = idle; respects = respected }
  where
    idle : (v : ℕ) → ¬ Lasts back.steps v → hand_takes v ≡ 0
    idle zero none = refl
    idle (suc zero) none = absurd (none (record { not_source = λ e. omega arith; open_step = computed.hand_open }))
    idle (suc (suc v)) none = refl

    respected : (v : ℕ) → leasts_of back v ≤ hand_takes v
    respected v = go v (dec_lt v (count_of back))
      where
        go : (v : ℕ) → Dec (v < count_of back) → leasts_of back v ≤ hand_takes v
        go v (yes b) = omega (arith, eqb-true (leasts_of back v) 0 (all_below_each (λ v. eqb (leasts_of back v) 0) (count_of back) computed.back_no_leasts v b))
        go v (no b) = omega (arith, least_past back.steps v (omega arith))

foresight_met : ForesightEarlier back
foresight_met = record {
  durations = hand_takes;
  assigned = hand_assigned;
  times = foresight_times;
  kept = record { starts = refl; keeps = λ c m. keeps_tested back.steps hand_takes foresight_times c (all_each (keeps_test back.steps hand_takes foresight_times) (links_of back) computed.foresight_keeps c m) };
  step = 1;
  exists = omega (arith, computed.three);
  earlier = omega (arith, computed.our_first);
}

pub examples : HypothesesMet
examples =
    let none = impossible_for (worked 5) true (worked_records 5) (is_formed 5 is_5) in
    record {
      sound = (worked 1, worked_records 1, in_worked 1 (omega arith), record { sheet = is_sheet 1 is_1; accepts = computed.sound });
      with_waits = (worked 3, hands, in_worked 3 (omega arith), record { sheet = is_sheet 3 is_3; accepts = computed.with_waits }, rival_met);
      infeasible = (worked 2, worked_records 2, in_worked 2 (omega arith), is_formed 2 is_2, computed.infeasible);
      inconsistent = (worked 5, worked_records 5, in_worked 5 (omega arith), is_formed 5 is_5, computed.inconsistent, (none.refused_11.0 computed.inconsistent).1);
      foresight = (worked 43, back, in_worked 43 (omega arith), record { sheet = is_sheet 43 is_43; accepts = computed.held_back }, foresight_met);
      circle = (worked 35, worked_records 35, in_worked 35 (omega arith), is_formed 35 is_35, computed.circle, computed.with_circle);
      no_circle = (worked 37, worked_records 37, in_worked 37 (omega arith), is_formed 37 is_37, computed.too_late, computed.no_circle);
      least = (worked 69, worked_records 69, in_worked 69 (omega arith), record { sheet = is_sheet 69 is_69; accepts = computed.slow }, 1, omega (arith, computed.slow_least));
    }

-- What is reported of the sheet with two clashes has all that is claimed of such a report.
pub clash_met : FewMet
clash_met =
    let formed : WellFormed two_clashes clash = record { sheet = record { bytes = are_bytes two_clashes computed.clash_bytes; reads = computed.clash_reads }; no_circle = computed.clash_formed } in
    let none = (impossible_lists (formed_regular formed)).0 computed.clash_impossible in
    (clash, formed, none, computed.clash_records, computed.clash_few, subst (FewFor clash) computed.clash_few (few_for two_clashes clash formed none))

-- The stand sheet has a price, and its registers are computed.
abbrev stand_records : Records
stand_records = records_in (read (stand 2))

stand_registers : (price_records printed_table stand_records).registers ≡ 2 ∷ 0 ∷ 1 ∷ 0 ∷ 0 ∷ []
unfolding every_definition power_from printed_entry printed_table entry_at stands_at largest_offset registers_of comparisons_of price_of plan_of price_records
stand_registers = refl

stand_accepted : Accepted (stand 2) true stand_records 0
unfolding every_definition judged
stand_accepted = record { sheet = record { bytes = are_bytes (stand 2) refl; reads = refl }; accepts = refl }

pub prices_met : PriceMet
prices_met = (stand_records, stand_accepted, price_for stand_accepted printed_table, stand_registers)

-- Computed; that 19 does not apply is what the test for it says.
abbrev far_records : Records
far_records = records_in (read far_undecided)

far_accepted : Accepted far_undecided true far_records 0
unfolding every_definition judged
far_accepted = record { sheet = record { bytes = are_bytes far_undecided refl; reads = refl }; accepts = refl }

pub far_uncounted : StartSetsUncounted
unfolding every_definition power_from printed_entry printed_table entry_at stands_at largest_offset registers_of comparisons_of price_of plan_of price_records too_large
far_uncounted = (far_records, record { accepted = far_accepted; member = refl; far = refl; small = (small_iff [] far_undecided true far_records [] [] far_accepted.sheet far_accepted).0 refl; registers = refl })

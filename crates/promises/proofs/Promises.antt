-- The demands 2 and 3 hold of what the library's functions return: the contracts are equations with the definitions of which the crate demands proves them.
use mathlib.Core.Path.{◌≡◌, refl, sym, ap, ◌∙◌}
use Rattle.definitions.specs.Numbers.{Verdict, verdict_of}
use mathlib.Core.Bool.{Bool, true}
use mathlib.Core.Logic.{◌⊎◌, inl, inr, ◌≢◌, ◌↔◌}
use mathlib.Core.List.{List}
use Prim.Native.Nat.{ℕ, ◌+◌, ◌*◌, ◌≤◌, ◌<◌}
use native.Mathlib.Omega.{arith}
use native.Mathlib.Decide.{dec_lt}
use lib.Arith.{digits_lt}
use lib.ListN.{get_or-append, get_or-eq_default, drop, length, length-take, take}
use lib.Seq.{get_or-take}
use Rattle.definitions.specs.Answers.{count_of, judged, leasts_of, serialized_of}
use Rattle.definitions.specs.Basics.{Outcome, given, refused}
use Rattle.definitions.specs.Bytes.{Records}
use Rattle.definitions.specs.Links.{Constraint, Keeps, Respects, delay_at, finish_maximum, maximum, minimum, sequencing}
use Rattle.definitions.specs.Plan.{delays}
use Rattle.definitions.specs.Plan as Plan
use Rattle.definitions.specs.Rival.{DelayAssignment, Lasts}
use Rattle.definitions.specs.Rounds.{cell}
use Rattle.definitions.specs.declared.Delay.{Delay}
use Rattle.definitions.specs.declared.Delay.TheVariants.{Fixed, Open}
use Rattle.definitions.specs.declared.Operation.{Operation}
use Rattle.demands.specs.Demands.{Accepted, Durations, WellFormed, WithinLimits, our_start, wait_link}
use Rattle.demands.proofs.Demands.{calls_exactly, deciding_sets, each_call_refuses, impossible_exactly, nobody_earlier, nobody_earlier_with_waits, nobody_earlier_without_foresight, offsets_right, refused_28_exactly, starts_kept, starts_returned, waits_listed}
use Rattle.demands.proofs.Demands as Demands
use Rattle.demands.proofs.Edges.{Ends, sheet_ends}
use Rattle.demands.proofs.Reading.{read_fits}
use Rattle.laws.proofs.Bools.{same_or_not}
use Rattle.theory.proofs.DelayLimits.{least_past}
use Rattle.theory.proofs.StartTimes.{start_times_same}
use Rattle.promises.specs.Promises.{Impossible, ImpossibleFromEachCall, PlanIsThat, StartsKeepAndNobodyIsEarlier, WaitsAreThose}

-- A verdict that refuses with 10, 11 and 28 exactly where judging does.
impossible_by : {s : List ℕ} (allow : Bool) {q : Records} (r : Verdict) → WellFormed s q → ((k : ℕ) → k ≢ 13 → k ≢ 14 → (verdict_of r ≡ refused k) ↔ (judged s allow ≡ refused k)) → Impossible q r
impossible_by {s} allow {q} r well same =
    let I = impossible_exactly s allow q well in
    let L = refused_28_exactly s allow q well in
    let last = same 28 (λ e. omega arith) (λ e. omega arith) in
    record {
      refused_10 = (λ h. I.refused_10.0 (ten.0 h), λ h. ten.1 (I.refused_10.1 h));
      refused_11 = (λ h. let p = I.refused_11.0 (eleven.0 h) in (λ e. p.0 (ten.0 e), p.1), λ h. eleven.1 (I.refused_11.1 (λ e. h.0 (ten.1 e), h.1)));
      impossible = (λ h. I.impossible.0 (forth h), λ h. back (I.impossible.1 h));
      otherwise = λ h k. I.otherwise (λ e. h (ten.1 e)) (λ e. k (eleven.1 e));
      refused_28 = (λ h. let p = L.0 (last.0 h) in (λ e. p.0 (ten.0 e), λ e. p.1 (eleven.0 e), p.2), λ p. last.1 (L.1 (λ e. p.0 (ten.1 e), λ e. p.1 (eleven.1 e), p.2)));
    }
  where
    ten : (verdict_of r ≡ refused 10) ↔ (judged s allow ≡ refused 10)
    ten = same 10 (λ e. omega arith) (λ e. omega arith)

    eleven : (verdict_of r ≡ refused 11) ↔ (judged s allow ≡ refused 11)
    eleven = same 11 (λ e. omega arith) (λ e. omega arith)

    forth : (verdict_of r ≡ refused 10) ⊎ (verdict_of r ≡ refused 11) → (judged s allow ≡ refused 10) ⊎ (judged s allow ≡ refused 11)
    forth (inl e) = inl (ten.0 e)
    forth (inr e) = inr (eleven.0 e)

    back : (judged s allow ≡ refused 10) ⊎ (judged s allow ≡ refused 11) → (verdict_of r ≡ refused 10) ⊎ (verdict_of r ≡ refused 11)
    back (inl e) = inl (ten.1 e)
    back (inr e) = inr (eleven.1 e)

-- An equal outcome is a refusal exactly where the other is.
same_refused : {o p p' : Outcome ℕ} (k : ℕ) → o ≡ p → (p ≡ refused k) ↔ (p' ≡ refused k) → (o ≡ refused k) ↔ (p' ≡ refused k)
same_refused k e h = (λ f. h.0 (sym e ∙ f), λ f. e ∙ h.1 f)

pub impossible_from_each_call : ImpossibleFromEachCall
impossible_from_each_call s allow q well = record {
  judge = λ r e. impossible_by allow r well (λ k a b. (λ f. sym e.verdict ∙ f, λ f. e.verdict ∙ f));
  waits = λ r e. impossible_by true r.verdict well (λ k a b. same_refused k e.verdict (each_call_refuses s true k a b).waits);
  plan = λ table after r e. impossible_by allow r well (λ k a b. same_refused k e.verdict ((each_call_refuses s allow k a b).plan table));
  starts = λ list out after r e. impossible_by allow r well (λ k a b. same_refused k e.verdict ((each_call_refuses s allow k a b).starts list out));
}

-- Start times that agree on the steps keep the same links.
keeps_same : (os : List Operation) (d t u : ℕ → ℕ) (n : ℕ) → ((i : ℕ) → i < n → u i ≡ t i) → (c : Constraint) → Ends n c → Keeps os d t c → Keeps os d u c
keeps_same os d t u n same (sequencing i j g) b h = omega (arith, same i b.0, same j b.1)
keeps_same os d t u n same (minimum i j m) b h = omega (arith, same i b.0, same j b.1)
keeps_same os d t u n same (maximum i j m) b h = omega (arith, same i b.0, same j b.1)
keeps_same os d t u n same (finish_maximum i j m) b h = omega (arith, same i b.0, same j b.1)

-- The first N entries of a list that is not refused: 0 but for open steps other than step 0, and none below its least. Our starts turn on no others.
module _ (q : Records) (list : List ℕ) (within : WithinLimits q list) where
  front : (i : ℕ) → i < count_of q → delays (take (count_of q) list) i ≡ delays list i
  front i b = get_or-take (count_of q) list i 0 b

  -- No entry is below its least: every step has one.
  list_respects : count_of q ≤ length list → Respects q.steps (delays list)
  list_respects long v = by (dec_lt v (count_of q))
    where
      by : Dec (v < count_of q) → leasts_of q v ≤ delays list v
      by (yes b) = within.respects v b (omega arith)
      by (no b) = omega (arith, least_past q.steps v (omega arith))

  list_durations : count_of q ≤ length list → Durations q (delays list)
  list_durations long = record { source = within.source; respects = list_respects long }

  front_idle : 0 < count_of q → (v : ℕ) → ¬ Lasts q.steps v → delays (take (count_of q) list) v ≡ 0
  front_idle some v none = by (dec_lt v (count_of q))
    where
      kind : (x : Delay) → delay_at q.steps v ≡ x → v < count_of q → (v ≡ 0) ⊎ (v ≢ 0) → delays list v ≡ 0
      kind x h b (inl e) = ap (delays list) e ∙ within.source
      kind Open h b (inr e) = absurd (none (record { not_source = e; open_step = h }))
      kind (Fixed ticks) h b (inr e) = within.fixed v ticks b h

      by : Dec (v < count_of q) → delays (take (count_of q) list) v ≡ 0
      by (yes b) = front v b ∙ kind (delay_at q.steps v) refl b (same_or_not v 0)
      by (no b) = get_or-eq_default (take (count_of q) list) 0 (omega (arith, length-take (count_of q) list))

  front_respects : count_of q ≤ length list → Respects q.steps (delays (take (count_of q) list))
  front_respects long v = by (dec_lt v (count_of q))
    where
      by : Dec (v < count_of q) → leasts_of q v ≤ delays (take (count_of q) list) v
      by (yes b) = omega (arith, front v b, list_respects long v)
      by (no b) = omega (arith, least_past q.steps v (omega arith))

  front_assigned : 0 < count_of q → count_of q ≤ length list → DelayAssignment q.steps (delays (take (count_of q) list))
  front_assigned some long = record { idle = front_idle some; respects = front_respects long }

  front_start : (i : ℕ) → our_start q (delays list) i ≡ our_start q (delays (take (count_of q) list)) i
  front_start i = ap (λ (l : List ℕ). cell l i) (start_times_same (count_of q) (leasts_of q) (serialized_of q) (delays list) (delays (take (count_of q) list)) (λ a b. sym (front a b)))

pub starts_keep_and_nobody_is_earlier : StartsKeepAndNobodyIsEarlier
starts_keep_and_nobody_is_earlier s allow q list out r after v sheet e h =
    let returned = starts_returned s allow q v list out sheet (sym e.verdict ∙ h) in
    let numbers : (i : ℕ) → i < count_of q → cell after i ≡ our_start q (delays list) i = λ i b. ap (λ (l : List ℕ). cell l i) e.numbers ∙ returned.numbers i b in
    let accepted = returned.accepted in
    let fits = read_fits s q sheet.bytes sheet.reads in
    let same = keeps_same q.steps (delays list) (our_start q (delays list)) (cell after) (count_of q) numbers in
    let waits = waits_listed s q sheet in
    let call = (((calls_exactly s allow q sheet).starts list out).accepted v).0 (sym e.verdict ∙ h) in
    let within = call.1 in
    let durations = list_durations q list within call.2 in
    let kept = starts_kept s allow q v accepted (delays list) durations in
    record {
      links = record { starts = numbers 0 (omega (arith, fits.some)) ∙ kept.links.starts; keeps = λ c m. same c (sheet_ends fits c m) (kept.links.keeps c m) };
      waits = λ w m. same (wait_link w) ((waits.each w m).anchor_below, (waits.each w m).target_below) (kept.waits w m);
      earliest = λ none z t k i b. omega (arith, numbers i b, nobody_earlier s allow q (at_zero accepted z) none (delays list) t durations k i b);
      earliest_of_rivals = λ none fs x t k i b. omega (arith, numbers i b, nobody_earlier_with_waits s allow q v accepted none fs x (delays list) t durations k i b);
      earliest_without_foresight = λ ρ R i b. omega (arith, numbers i b, front_start q list within i, nobody_earlier_without_foresight s allow q v accepted ρ R (delays (take (count_of q) list)) (front_assigned q list within fits.some call.2) i b);
    }
  where
    at_zero : Accepted s allow q v → v ≡ 0 → Accepted s allow q 0
    at_zero accepted z = record { sheet = accepted.sheet; accepts = accepted.accepts ∙ ap given z }

pub waits_are_those : WaitsAreThose
waits_are_those s q r v sheet e h =
    let call = (calls_exactly s true q sheet).waits in
    let maps = e.maps ∙ call.maps v (sym e.verdict ∙ h) in
    let count = e.count ∙ call.count v (sym e.verdict ∙ h) in
    let waits = waits_listed s q sheet in
    record {
      bits = λ a i. rw maps ((λ t. (waits.listed a i).0 ((waits.maps_bits a i).0 t), λ w. (waits.maps_bits a i).1 ((waits.listed a i).1 w)));
      count = count ∙ rw maps waits.count_maps;
    }

pub plan_is_that : PlanIsThat
plan_is_that s allow q table r after v sheet e h =
    let call = (calls_exactly s allow q sheet).plan table in
    let accepts = ((call.accepted v).0 (sym e.verdict ∙ h)).0 in
    let accepted : Accepted s allow q v = record { sheet = sheet; accepts = accepts } in
    let plan = Demands.plan_table s allow q v accepted in
    let numbers = e.numbers ∙ call.numbers v (sym e.verdict ∙ h) in
    record {
      entry = λ i a b c. ap (λ (l : List ℕ). cell l (i * count_of q + a)) numbers ∙ get_or-append (Plan.plan_table (count_of q) (leasts_of q) (serialized_of q)) (drop (count_of q * count_of q) table) 0 (i * count_of q + a) (omega (arith, plan.size, digits_lt b c)) ∙ plan.entry i a b c;
      deciding = deciding_sets s allow q v accepted;
      offsets = offsets_right s allow q v accepted;
    }

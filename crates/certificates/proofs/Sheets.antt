-- What runs use of an accepted sheet: its start sets, deciding sets and starts, and the table as it is lent.
use mathlib.Core.Path.{◌≡◌, sym, ap, ◌∙◌}
use mathlib.Core.Bool.{Bool, true, cond}
use mathlib.Core.Logic.{◌⊎◌, inl, inr, ◌≢◌, ◌↔◌}
use mathlib.Core.List.{List}
use Prim.Native.Nat.{ℕ, ◌+◌, ◌*◌, ◌≤◌, ◌<◌}
use native.Mathlib.Omega.{arith}
use lib.Arith.{digits_lt}
use lib.ListN.{get_or, length, length-take}
use lib.Seq.{get_or-take}
use Rattle.definitions.specs.Limits.{most_steps}
use Rattle.definitions.specs.Bytes.{Records}
use Rattle.definitions.specs.Links.{After, Forward, members, delay_at, no_leasts}
use Rattle.definitions.specs.declared.Delay.TheVariants.{Open}
use Rattle.definitions.specs.Anchors.{InAnchorSet, WellPosed, chain, is_source}
use Rattle.definitions.specs.Plan.{decides, undecided}
use Rattle.definitions.specs.Answers.{count_of, leasts_of, serialized_of}
use Rattle.laws.proofs.Tests.{largest_above, largest_below}
use Rattle.theory.specs.Graphs.{Well}
use Rattle.theory.proofs.Reachability.{in_anchor_set_iff}
use Rattle.theory.proofs.DecidingSets.{decides_iff}
use Rattle.theory.proofs.DelayLimits.{least_source}
use Rattle.theory.proofs.Extras.{decides_extra}
use Rattle.theory.proofs.Plans.{plan_well, plan_posed}
use Rattle.theory.proofs.AnchorOrder.{anchor_induct}
use Rattle.theory.proofs.Usables.{well_acyclic}
use Rattle.theory.proofs.Walks.{member_below}
use Rattle.demands.specs.Demands.{Accepted, Durations, in_start_set, sheet_offset, sheet_decides, our_start, term}
use Rattle.demands.proofs.Meaning.{meant_for}
use Rattle.demands.proofs.Formed.{accepted_fits, accepted_serial, accepted_well}
use Rattle.demands.proofs.OurStarts.{waits_leasts}
use Rattle.demands.proofs.Planning.{deciding_for, plan_for, start_rule_for}
use Rattle.certificates.specs.Runs.{IsLent}
use Rattle.certificates.proofs.StartSets as StartSets

module _ {s : List ℕ} {allow : Bool} {q : Records} {w : ℕ} (accepted : Accepted s allow q w) where
  pub some_steps : 0 < count_of q
  some_steps = (accepted_fits accepted).some

  pub few_steps : count_of q ≤ most_steps
  few_steps = (accepted_fits accepted).few

  -- The sheet with its waits in can be scheduled for all delays, and is sound.
  well : Well (count_of q) (members (serialized_of q))
  unfolding serialized_of
  well = plan_well (leasts_of q) (accepted_well accepted) (accepted_serial accepted)

  posed : WellPosed (members (serialized_of q))
  unfolding serialized_of
  posed = plan_posed (leasts_of q) (accepted_well accepted) (accepted_serial accepted)

  member : (a v : ℕ) → (in_start_set q a v ≡ true) ↔ InAnchorSet (members (serialized_of q)) a v
  member = in_anchor_set_iff well.shape

  pub start_member_below : (a v : ℕ) → v < count_of q → in_start_set q a v ≡ true → a < count_of q
  start_member_below a v b h = member_below well.shape b ((member a v).0 h)

  pub decider_member : (a v : ℕ) → v < count_of q → sheet_decides q a v ≡ true → in_start_set q a v ≡ true
  decider_member a v b = (deciding_for accepted v b).part.within a

  pub decider_below : (a v : ℕ) → v < count_of q → sheet_decides q a v ≡ true → a < count_of q
  decider_below a v b h = start_member_below a v b (decider_member a v b h)

  pub some_decider : (v : ℕ) → v < count_of q → (a : ℕ) × (sheet_decides q a v ≡ true)
  some_decider v b = (deciding_for accepted v b).part.some

  -- Step 0 is alone in its own start set: no chain of forward links leads to it.
  pub source_member : (a : ℕ) → in_start_set q a 0 ≡ true → a ≡ 0
  source_member a h = StartSets.source_alone well ((member a 0).0 h)

  -- Who decides by offsets from the starts of steps, as in the theory, decides.
  same_decides : (a v : ℕ) → v < count_of q → sheet_decides q a v ≡ decides (count_of q) no_leasts (serialized_of q) a v
  same_decides = decides_extra (leasts_of q) well posed (waits_leasts (accepted_fits accepted)) (least_source q.steps)

  -- Each member decides, or is a member of one that decides.
  pub member_decider : (a v : ℕ) → v < count_of q → in_start_set q a v ≡ true → (c : ℕ) × (sheet_decides q c v ≡ true) × ((a ≡ c) ⊎ (in_start_set q a c ≡ true))
  member_decider a v b h =
      let r = StartSets.member_decider well posed v b a (start_member_below a v b h) ((member a v).0 h) in
      (r.0, same_decides r.0 v b ∙ (decides_iff well.shape r.0 v b).1 r.1, go r.0 r.2)
    where
      go : (c : ℕ) → (a ≡ c) ⊎ InAnchorSet (members (serialized_of q)) a c → (a ≡ c) ⊎ (in_start_set q a c ≡ true)
      go c (inl e) = inl e
      go c (inr i) = inr ((member a c).1 i)

  -- A member of a member's start set is a member. What holds of a step once it holds of the members of its start set, but step 0, holds of every step.
  pub start_member_trans : (a b v : ℕ) → in_start_set q a b ≡ true → in_start_set q b v ≡ true → in_start_set q a v ≡ true
  start_member_trans a b v h k = (member a v).1 (StartSets.member_trans well ((member a b).0 h) ((member b v).0 k))

  pub start_set_induct : (P : ℕ → Type 0) → ((v : ℕ) → v < count_of q → ((a : ℕ) → a < count_of q → a ≢ 0 → in_start_set q a v ≡ true → P a) → P v) → (v : ℕ) → v < count_of q → P v
  start_set_induct P each = anchor_induct (count_of q) (Forward (members (serialized_of q))) (well_acyclic well) P (λ v b ih. each v b (λ a c z h. ih a c (chained z ((member a v).0 h))))
    where
      chained : {a v : ℕ} → a ≢ 0 → InAnchorSet (members (serialized_of q)) a v → After (Forward (members (serialized_of q))) a v
      chained z (is_source e) = absurd (z e)
      chained z (chain u) = u

  -- A member other than step 0 is open.
  pub member_open : (a v : ℕ) → in_start_set q a v ≡ true → (a ≡ 0) ⊎ (delay_at q.steps a ≡ Open)
  member_open = (meant_for (accepted_fits accepted)).others_open

  -- Durations that agree on the start set of v give the same start of v.
  pub our_start_agrees : (d d' : ℕ → ℕ) (v : ℕ) → v < count_of q → ((a : ℕ) → in_start_set q a v ≡ true → d a ≡ d' a) → our_start q d v ≡ our_start q d' v
  our_start_agrees d d' v b same = StartSets.start_agrees well (leasts_of q) d d' v b (λ a i. same a ((member a v).1 i))

  pub our_start_source : (d : ℕ → ℕ) → our_start q d 0 ≡ 0
  our_start_source = (start_rule_for accepted).source

  -- A start is the largest of the deciding terms.
  pub our_start_above : (d : ℕ → ℕ) → Durations q d → (a v : ℕ) → v < count_of q → sheet_decides q a v ≡ true → term q d v a ≤ our_start q d v
  our_start_above d D a v b h = omega (arith, (deciding_for accepted v b).enough d D, largest_above (λ a. sheet_decides q a v) (term q d v) (count_of q) a (decider_below a v b h) h)

  pub our_start_below : (d : ℕ → ℕ) → Durations q d → (v x : ℕ) → v < count_of q → ((a : ℕ) → sheet_decides q a v ≡ true → term q d v a ≤ x) → our_start q d v ≤ x
  our_start_below d D v x b h = omega (arith, (deciding_for accepted v b).enough d D, largest_below (λ a. sheet_decides q a v) (term q d v) (count_of q) x (λ a c i. h a i))

  -- The numbers of a lent table.
  module _ {table : List ℕ} (lent : IsLent q table) where
    pub lent_entry : (v a : ℕ) → v < count_of q → a < count_of q → get_or table (v * count_of q + a) 0 ≡ cond (sheet_decides q a v) (sheet_offset q a v) undecided
    lent_entry v a b c =
        sym (get_or-take (count_of q * count_of q) table (v * count_of q + a) 0 (digits_lt b c))
        ∙ ap (λ (l : List ℕ). get_or l (v * count_of q + a) 0) lent.plan
        ∙ (plan_for accepted).entry v a b c

    pub lent_long : count_of q * count_of q ≤ length table
    lent_long = omega (arith, length-take (count_of q * count_of q) table, ap length lent.plan, (plan_for accepted).size)

    pub lent_apart : (v a : ℕ) → v < count_of q → sheet_decides q a v ≡ true → sheet_offset q a v < undecided
    lent_apart = (plan_for accepted).apart

-- Request L6 moves nothing on sheets without a least: what the parser before it answers, but for 4, the parser of now answers, and with all leasts 0 nothing is added, subtracted or refused for them.
use mathlib.Core.Path.{◌≡◌, refl, ap, fun_ext, ◌∙◌}
use Rattle.std.specs.Prelude.{None}
use mathlib.Core.Bool.{Bool, true, false, cond, not, ◌&&◌, ◌||◌, or-false}
use mathlib.Core.Logic.{inl, inr, ◌≢◌}
use mathlib.Core.List.{List, Memᴰ, map}
use Prim.Native.Nat.{ℕ, zero, suc, ◌+◌, ◌<◌}
use native.Mathlib.Omega.{arith}
use native.Mathlib.Decide.{dec_lt}
use lib.Dec.{leb, ltb}
use lib.ListN.{get_or}
use borrow.Author.Tests.{eqb-true, le-ltb, leb-true, not-true}
use Rattle.definitions.specs.Limits.{most_steps, most_records}
use Rattle.definitions.specs.Basics.{all_below, test_bit, Outcome, given, refused, when_given}
use Rattle.definitions.specs.Bytes.{give, demand, byte, two_bytes, ticks_if, operation_map, operation, bound_from, operations, links, at_end, Records, sheet, read, blank_operation}
use Rattle.definitions.specs.Links.{Constraint, sequencing, minimum, maximum, finish_maximum, ticks_said, links_of, delay_at, least_with, least_at, no_leasts, Edge, sequencing_edge, finish_edge, edge_of, edges}
use Rattle.definitions.specs.Waits.{serialized}
use Rattle.definitions.specs.Plan.{offset, overrides, delay_limit, delay_wrong}
use Rattle.definitions.specs.Answers.{count_of, leasts_of, edges_of, serialized_of}
use Rattle.definitions.specs.declared.Delay.{Delay}
use Rattle.definitions.specs.declared.Delay.TheVariants.{Open, Fixed}
use Rattle.definitions.specs.declared.Operation.{Operation}
use Rattle.laws.proofs.Bools.{same_truth}
use Rattle.laws.proofs.Lists.{mem_at}
use Rattle.laws.proofs.Outcomes.{given_not_refused, given_same, refused_same, when_given_has}
use Rattle.laws.proofs.Tests.{all_below_each}
use Rattle.theory.proofs.DelayLimits.{least_past}
use Rattle.demands.specs.Leastless.{leastless_map, leastless_operation, leastless_operations, leastless_sheet, leastless_read, leastless_sequencing, leastless_finish, leastless_edge, leastless_edges_of, leastless_serialized, leastless_offset, leastless_overrides, leastless_wrong}
use Rattle.demands.specs.Demands.{Bytes, LeastlessAsBefore, LeastlessFor}
use Rattle.demands.proofs.Reading.{Takes, row_each, takes_bind, takes_byte, takes_demand, takes_end, takes_give, takes_links, takes_records, takes_ticks, takes_two_bytes}
use Rattle.demands.proofs.Agreeing.{Agree, Agrees, agree_same, agree_then, agrees_bind, agrees_demand, agrees_records, agrees_self}

-- ## Maps

-- A map without bit 2 is allowed as before: tests computed for each byte.
abbrev as_allowed : ℕ → Bool
as_allowed m = test_bit m 2 || cond (operation_map false m) (leastless_map false m) (not (leastless_map false m))

each_allowed : all_below as_allowed 256 ≡ true
unfolding all_below operation_map leastless_map test_bit
each_allowed = refl

maps_same : (first : Bool) (m : ℕ) → m < 256 → test_bit m 2 ≡ false → operation_map first m ≡ leastless_map first m
unfolding operation_map leastless_map
maps_same true m b none = refl
maps_same false m b none = same_truth (operation_map false m) (leastless_map false m) (rw none at (all_below_each as_allowed 256 each_allowed m b))

-- No map that was allowed has bit 2.
map_below : (first : Bool) (m : ℕ) → leastless_map first m ≡ true → m < 3
unfolding leastless_map
map_below true m h = omega (arith, eqb-true m 1 h)
map_below false m h = omega (arith, leb-true m 2 h)

no_bit : (first : Bool) (m : ℕ) → leastless_map first m ≡ true → test_bit m 2 ≡ false
no_bit first m h = not-true (test_bit m 2) (all_below_each (λ m. not (test_bit m 2)) 3 (unfold all_below test_bit in refl) m (map_below first m h))

-- ## Reading

-- Behind the map nothing differs where bit 2 does not stand: no least is read, and none is said.
agrees_operation : (first : Bool) → Agrees (leastless_operation first) (operation first)
unfolding leastless_operation operation bound_from ticks_if when_given
agrees_operation first =
    agrees_bind (agrees_self byte)
    (λ m. agrees_demand (leastless_map first m) (operation_map first m) (λ h. maps_same first m (omega (arith, map_below first m h)) (no_bit first m h) ∙ h)
    (λ h s.
    let none = no_bit first m h in
    rw none (inr refl)))

agrees_sheet : Agrees leastless_sheet sheet
unfolding leastless_sheet sheet leastless_operations operations
agrees_sheet =
    agrees_bind (agrees_self byte)
    (λ n. agrees_bind (agrees_self (demand (leb 1 n && leb n most_steps) 2))
    (λ u2. agrees_bind (agrees_self two_bytes)
    (λ r. agrees_bind (agrees_self (demand (leb r most_records) 3))
    (λ u3. agrees_bind (agrees_records leastless_operation operation (λ o. false) agrees_operation n true)
    (λ os. agrees_bind (agrees_self (links n r))
    (λ ls. agrees_bind (agrees_self at_end)
    (λ u7. agrees_self (give (record { steps = os; pairs = ls })))))))))

agrees_read : (s : List ℕ) → Agree (leastless_read s) (read s)
unfolding leastless_read read
agrees_read s = agree_then (agrees_sheet s) (λ t. inr refl)

read_same : (s : List ℕ) {o : Outcome Records} → leastless_read s ≡ o → o ≢ refused 4 → read s ≡ o
read_same s = agree_same (agrees_read s)

-- ## Leasts

-- What was read before says no least.
abbrev NoLeast : Operation → Type 0
NoLeast o = o.least ≡ None

abbrev NoLeasts : Records → Type 0
NoLeasts q = (o : Operation) → Memᴰ o q.steps → NoLeast o

takes_leastless : (first : Bool) → Takes (leastless_operation first) NoLeast
unfolding leastless_operation
takes_leastless first =
    takes_bind takes_byte
    (λ m bm. takes_bind (takes_demand (leastless_map first m) 4 (inl (omega arith)))
    (λ u4 allowed. takes_bind (takes_ticks (test_bit m 1))
    (λ ticks few. takes_give _ refl)))

takes_leastless_sheet : Takes leastless_sheet NoLeasts
unfolding leastless_sheet leastless_operations
takes_leastless_sheet =
    takes_bind takes_byte
    (λ n bn. takes_bind (takes_demand (leb 1 n && leb n most_steps) 2 (inl (omega arith)))
    (λ u2 hn. takes_bind takes_two_bytes
    (λ r br. takes_bind (takes_demand (leb r most_records) 3 (inl (omega arith)))
    (λ u3 hr. takes_bind (takes_records (λ first. NoLeast) (λ o. false) leastless_operation takes_leastless n true)
    (λ os O. takes_bind (takes_links n r)
    (λ ls L. takes_bind takes_end
    (λ u7 e7. takes_give (record { steps = os; pairs = ls }) (λ o m. row_each (λ first. NoLeast) (λ o. false) NoLeast (λ state x h. h) true os O.1 o m))))))))

no_least_said : (s : List ℕ) (q : Records) → Bytes s → leastless_read s ≡ given q → NoLeasts q
unfolding leastless_read
no_least_said s q b e =
    let r = when_given_has (leastless_sheet s) (λ t. given t.value) e in
    let same : r.0.value ≡ q = given_same r.2 in
    rw same at (takes_leastless_sheet.each s b r.0 r.1).0

-- So each is 0.
absent_zero : (i : ℕ) (x : Delay) → least_with i x None ≡ 0
unfolding least_with ticks_said
absent_zero zero Open = refl
absent_zero (suc i) Open = refl
absent_zero zero (Fixed x) = refl
absent_zero (suc i) (Fixed x) = refl

least_zero : (q : Records) → NoLeasts q → (i : ℕ) → leasts_of q i ≡ 0
unfolding least_at
least_zero q none i = go (dec_lt i (count_of q))
  where
    go : Dec (i < count_of q) → leasts_of q i ≡ 0
    go (yes h) = let absent = none (get_or q.steps i blank_operation) (mem_at q.steps i blank_operation h) in rw (absent, absent_zero i (delay_at q.steps i))
    go (no h) = least_past q.steps i (omega arith)

-- ## With all leasts 0

-- An after link then weighs its gap, and a return from the finish −u.
after_same : (i j g : ℕ) (x : Delay) → sequencing_edge x 0 i j g ≡ leastless_sequencing x i j g
unfolding sequencing_edge leastless_sequencing
after_same i j g Open = let same : 0 + g ≡ g = omega arith in rw same
after_same i j g (Fixed x) = refl

finish_same : (i j u : ℕ) (x : Delay) → finish_edge x 0 i j u ≡ leastless_finish x i j u
unfolding finish_edge leastless_finish
finish_same i j u Open = let same : 0 + u ≡ u = omega arith in rw same
finish_same i j u (Fixed x) = refl

module _ (q : Records) (leasts : leasts_of q ≡ no_leasts) where
  at_zero : (i : ℕ) → leasts_of q i ≡ 0
  at_zero i = ap (λ (f : ℕ → ℕ). f i) leasts

  edge_same : (c : Constraint) → edge_of q.steps c ≡ leastless_edge q.steps c
  unfolding edge_of leastless_edge
  edge_same (sequencing i j g) = rw (at_zero i) (after_same i j g (delay_at q.steps i))
  edge_same (minimum i j m) = refl
  edge_same (maximum i j u) = refl
  edge_same (finish_maximum i j u) = rw (at_zero i) (finish_same i j u (delay_at q.steps i))

  edges_same : edges_of q ≡ leastless_edges_of q
  unfolding edges_of edges leastless_edges_of
  edges_same = ap (λ (f : Constraint → Edge). map f (links_of q)) (fun_ext edge_same)

  waits_same : serialized_of q ≡ leastless_serialized (count_of q) (edges_of q)
  unfolding serialized_of serialized leastless_serialized
  waits_same = ap (λ (f : ℕ → ℕ). serialized (count_of q) f (edges_of q)) leasts

  offset_same : (es : List Edge) (a v : ℕ) → offset (count_of q) (leasts_of q) es a v ≡ leastless_offset (count_of q) es a v
  unfolding offset leastless_offset
  offset_same es a v = ap (λ (f : ℕ → ℕ). offset (count_of q) f es a v) leasts

  overrides_same : (es : List Edge) (a v b : ℕ) → overrides (count_of q) (leasts_of q) es a v b ≡ leastless_overrides (count_of q) es a v b
  unfolding overrides leastless_overrides
  overrides_same es a v b =
      let same : leastless_offset (count_of q) es a b + leasts_of q b ≡ leastless_offset (count_of q) es a b = omega (arith, at_zero b) in
      rw (offset_same es a v, offset_same es a b, offset_same es b v, same)

  wrong_same : (list : List ℕ) (i : ℕ) → delay_wrong q.steps list i ≡ leastless_wrong q.steps list i
  unfolding delay_wrong leastless_wrong
  wrong_same list i = rw (le-ltb (get_or list i 0) (leasts_of q i) (omega (arith, at_zero i))) (or-false (ltb (delay_limit i (delay_at q.steps i)) (get_or list i 0)))

  leastless_for : LeastlessFor q
  leastless_for = record {
    leasts = leasts;
    edges = edges_same;
    waits = waits_same;
    offsets = offset_same (serialized_of q);
    left_out = overrides_same (serialized_of q);
    lists = wrong_same;
    durations = λ d source. record { source = source; respects = λ i. omega (arith, at_zero i) };
  }

-- ## The statement

pub leastless_all : LeastlessAsBefore
leastless_all = record {
  sheets = λ s q bytes before. (read_same s before (λ e. given_not_refused e), leastless_for q (fun_ext (least_zero q (no_least_said s q bytes before))));
  refusals = λ s k other e. read_same s e (λ f. other (refused_same f));
  maps = maps_same;
}

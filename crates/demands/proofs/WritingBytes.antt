-- Request L4: what is written are bytes, and no more of them than the longest sheet has. Part by part, as the definition puts them together.
use mathlib.Core.Path.{◌≡◌, refl}
use Rattle.std.specs.Prelude.{None, Option, Some}
use mathlib.Core.Bool.{Bool, true, false}
use mathlib.Core.Logic.{◌⊎◌, inl, inr}
use mathlib.Core.List.Memᴰ
use mathlib.Core.List.{List, [], ◌∷◌, ◌++◌, flat_map, Memᴰ}
use Prim.Native.Nat.{ℕ, zero, suc, ◌+◌, ◌*◌, ◌≤◌, ◌<◌}
use native.Mathlib.Omega.{arith}
use lib.Dec.{eqb, leb}
use lib.ListN.{length, length-append}
use borrow.Author.Tests.{leb-true, eqb-true}
use Rattle.definitions.specs.Limits.{most_steps, most_records, most_ticks, longest_sheet, longest_step, longest_record}
use Rattle.definitions.specs.Bytes.{operation_map, Records}
use Rattle.definitions.specs.Links.{is_open}
use Rattle.definitions.specs.Writer.{two_bytes_of, field_of, duration_of, operation_map_of, operation_bytes, link_bytes, rising, sheet_bytes, steps_mapped}
use Rattle.definitions.specs.declared.Delay.{Delay}
use Rattle.definitions.specs.declared.Delay.TheVariants.{Open, Fixed}
use Rattle.definitions.specs.declared.Operation.{Operation}
use Rattle.definitions.specs.declared.Link.{Link}
use Rattle.laws.proofs.Bools.{and_split, or_split}
use Rattle.laws.proofs.Tests.{flatMap_only}
use Rattle.demands.specs.Demands.{Bytes}
use Rattle.demands.specs.Writing.{FieldFits, StepNumbers, LinkNumbers, Numbers}
use Rattle.demands.proofs.Reading.{endpoints_fit}
use Rattle.demands.proofs.WritingOrder.{rising_mem, rising_length}
use Rattle.demands.proofs.WritingRead.{there, flag, flag_small, Digits, step_digits, link_digits, Passing}

-- ---- bytes

no_bytes : Bytes []
no_bytes b m = absurd (Memᴰ.not-nil m)

one_more : {x : ℕ} {s : List ℕ} → x < 256 → Bytes s → Bytes (x ∷ s)
one_more {x} {s} h g b m = go (Memᴰ.cases_cons m)
  where
    go : (b ≡ x) ⊎ Memᴰ b s → b < 256
    go (inl e) = omega arith
    go (inr i) = g b i

both : {s t : List ℕ} → Bytes s → Bytes t → Bytes (s ++ t)
both {s} {t} g h b m = go (Memᴰ.append_cases s m)
  where
    go : Memᴰ b s ⊎ Memᴰ b t → b < 256
    go (inl i) = g b i
    go (inr i) = h b i

each_one : {A : Type 0} (f : A → List ℕ) (xs : List A) → ((x : A) → Memᴰ x xs → Bytes (f x)) → Bytes (flat_map f xs)
each_one f xs h b m = let r = flatMap_only f xs m in h r.0 r.1 b r.2

two_of : (x : ℕ) → x ≤ most_ticks → Bytes (two_bytes_of x)
unfolding two_bytes_of
two_of x h = one_more (omega arith) (one_more (omega arith) no_bytes)

field_bytes : (b : Option ℕ) → FieldFits b → Bytes (field_of b)
unfolding field_of
field_bytes None h = no_bytes
field_bytes (Some x) h = two_of x (h x refl)

-- A duration that is written is the duration.
duration_fits : (x : Delay) → ((t : ℕ) → x ≡ Fixed t → t ≤ most_ticks) → FieldFits (duration_of x)
unfolding duration_of
duration_fits Open h y e = let z : ◌≡◌ {A = ℕ} 0 1 = cc in absurd (omega arith)
duration_fits (Fixed zero) h y e = let z : ◌≡◌ {A = ℕ} 0 1 = cc in absurd (omega arith)
duration_fits (Fixed (suc x)) h y e = let z : suc x ≡ y = cc in omega (arith, h (suc x) refl)

-- A map of five digits.
digits_small : {m : ℕ} {a b c d e : Bool} → Digits m a b c d e → m < 256
digits_small {m} {a} {b} {c} {d} {e} D = omega (arith, D.sum, flag_small a, flag_small b, flag_small c, flag_small d, flag_small e)

step_bytes : (o : Operation) → StepNumbers o → Bytes (operation_bytes o)
unfolding operation_bytes
step_bytes o N = one_more (digits_small (step_digits o)) (both (field_bytes (duration_of o.delay) (duration_fits o.delay N.duration)) (field_bytes o.least N.least))

record_bytes : (l : Link) → l.from < 256 → l.to < 256 → LinkNumbers l → Bytes (link_bytes l)
unfolding link_bytes
record_bytes l hi hj N =
    one_more (digits_small (link_digits l))
    (one_more hi
    (one_more hj
    (both (both (both (field_bytes l.minimum N.minimum) (field_bytes l.maximum N.maximum)) (field_bytes l.gap N.gap)) (field_bytes l.latest N.latest))))

pub written_bytes : (q : Records) → Numbers q → Passing (length q.steps) (length q.pairs) q → Bytes (sheet_bytes q)
unfolding sheet_bytes
written_bytes q N P =
    let c = and_split (leb 1 (length q.steps)) (leb (length q.steps) most_steps) P.count in
    let few = leb-true (length q.steps) most_steps c.1 in
    let records-few = leb-true (length q.pairs) most_records P.few in
    one_more (omega arith)
    (both
    (both (two_of (length q.pairs) (omega arith)) (each_one operation_bytes q.steps (λ o m. step_bytes o (N.steps o m))))
    (each_one link_bytes (rising q.pairs) (λ l m.
    let i = rising_mem q.pairs m in
    let e = endpoints_fit (length q.steps) l.from l.to (P.links l i).ends in
    record_bytes l (omega (arith, e.0)) (omega (arith, e.1)) (N.links l i))))

-- ---- lengths

field_length : (b : Option ℕ) → length (field_of b) ≡ 2 * flag (there b)
unfolding field_of there two_bytes_of
field_length None = refl
field_length (Some x) = refl

-- A step record has a field at most, and that of step 0 none.
operation_length : (o : Operation) → length (operation_bytes o) ≡ 1 + 2 * flag (there (duration_of o.delay)) + 2 * flag (there o.least)
unfolding operation_bytes
operation_length o = omega (arith, length-append (field_of (duration_of o.delay)) (field_of o.least), field_length (duration_of o.delay), field_length o.least)

step_short : (o : Operation) → operation_map false (operation_map_of o) ≡ true → length (operation_bytes o) ≤ longest_step
unfolding operation_map
step_short o h = go (or_split (leb (operation_map_of o) 2) (eqb (operation_map_of o) 5) h)
  where
    go : (leb (operation_map_of o) 2 ≡ true) ⊎ (eqb (operation_map_of o) 5 ≡ true) → length (operation_bytes o) ≤ longest_step
    go (inl t) = omega (arith, leb-true (operation_map_of o) 2 t, operation_length o, (step_digits o).sum, flag_small (there (duration_of o.delay)))
    go (inr t) = omega (arith, eqb-true (operation_map_of o) 5 t, operation_length o, (step_digits o).sum, flag_small (is_open o.delay), flag_small (there (duration_of o.delay)))

source_short : (o : Operation) → operation_map true (operation_map_of o) ≡ true → length (operation_bytes o) ≤ 1
unfolding operation_map
source_short o h = omega (arith, eqb-true (operation_map_of o) 1 h, operation_length o, (step_digits o).sum)

-- A link record has four fields at most.
field_short : (b : Option ℕ) → length (field_of b) ≤ 2
field_short b = omega (arith, field_length b, flag_small (there b))

record_short : (l : Link) → length (link_bytes l) ≤ longest_record
unfolding link_bytes
record_short l =
    let least = field_of l.minimum in
    let most = field_of l.maximum in
    let gap = field_of l.gap in
    let latest = field_of l.latest in
    omega (arith, length-append least most, length-append (least ++ most) gap, length-append (least ++ most ++ gap) latest, field_short l.minimum, field_short l.maximum, field_short l.gap, field_short l.latest)

-- Rows of records: induction on the list.
records_short : (ls : List Link) → length (flat_map link_bytes ls) ≤ longest_record * length ls
unfolding flat_map
records_short [] = omega arith
records_short (l ∷ ls) = omega (arith, length-append (link_bytes l) (flat_map link_bytes ls), record_short l, records_short ls)

later_short : (os : List Operation) → steps_mapped false os ≡ true → length (flat_map operation_bytes os) ≤ longest_step * length os
unfolding flat_map steps_mapped
later_short [] h = omega arith
later_short (o ∷ os) h =
    let r = and_split (operation_map false (operation_map_of o)) (steps_mapped false os) h in
    omega (arith, length-append (operation_bytes o) (flat_map operation_bytes os), step_short o r.0, later_short os r.1)

steps_short : (os : List Operation) → steps_mapped true os ≡ true → 1 ≤ length os → length (flat_map operation_bytes os) + longest_step ≤ 1 + longest_step * length os
unfolding flat_map steps_mapped
steps_short [] h some = absurd (omega arith)
steps_short (o ∷ os) h some =
    let r = and_split (operation_map true (operation_map_of o)) (steps_mapped false os) h in
    omega (arith, length-append (operation_bytes o) (flat_map operation_bytes os), source_short o r.0, later_short os r.1)

-- N and R before the step records, and these before the link records.
pub sheet_length : (q : Records) → length (sheet_bytes q) ≡ 3 + length (flat_map operation_bytes q.steps) + length (flat_map link_bytes (rising q.pairs))
unfolding sheet_bytes two_bytes_of
sheet_length q = omega (arith, length-append (flat_map operation_bytes q.steps) (flat_map link_bytes (rising q.pairs)))

pub written_short : (q : Records) → Passing (length q.steps) (length q.pairs) q → length (sheet_bytes q) ≤ longest_sheet
written_short q P =
    let c = and_split (leb 1 (length q.steps)) (leb (length q.steps) most_steps) P.count in
    let some = leb-true 1 (length q.steps) c.0 in
    let few = leb-true (length q.steps) most_steps c.1 in
    omega (arith, sheet_length q, steps_short q.steps P.steps some, records_short (rising q.pairs), rising_length q.pairs, leb-true (length q.pairs) most_records P.few)

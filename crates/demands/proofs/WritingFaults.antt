-- Request L4: the tests for the parts' faults say what the faults are in words.
use mathlib.Core.Path.{◌≡◌, refl, sym, ap, ◌∙◌}
use Rattle.std.specs.Prelude.{None, Option, Some}
use mathlib.Core.Bool.{Bool, true, false, not, ◌&&◌, ◌||◌, and-true, true≢false, false≢true}
use mathlib.Core.Logic.{◌⊎◌, inl, inr, ◌≢◌, ◌↔◌}
use mathlib.Core.List.Memᴰ
use mathlib.Core.List.{List, [], ◌∷◌, Memᴰ}
use Prim.Native.Nat.{ℕ, zero, suc, ◌≤◌, ◌<◌}
use native.Mathlib.Omega.{arith}
use native.Mathlib.Decide.{dec_lt}
use lib.Dec.{leb, ltb}
use borrow.Author.Tests.{ltb-true, ltb-false, lt-ltb, leb-true, le-leb, leb-false, ne_eqb, not-true, not-false}
use Rattle.definitions.specs.Limits.{most_steps, most_records}
use Rattle.definitions.specs.Basics.{any}
use Rattle.definitions.specs.Bytes.{Records, operation_map, link_map, sequenced, endpoints}
use Rattle.definitions.specs.Writer.{bit_of, duration_of, open_bit, operation_map_of, link_map_of, steps_mapped, bad_maps, unsequenced, bad_ends, comes_twice}
use Rattle.definitions.specs.declared.Delay.{Delay}
use Rattle.definitions.specs.declared.Delay.TheVariants.{Open, Fixed}
use Rattle.definitions.specs.declared.Operation.{Operation}
use Rattle.definitions.specs.declared.Link.{Link}
use Rattle.laws.proofs.Bools.{bool_cases, same_or_not, both_ways, and_split, and_join, and_fails, or_split, or_left, or_right, or_neither, not_passing}
use Rattle.laws.proofs.Negations.{fails_unless}
use Rattle.laws.proofs.Tests.{any_has, any_by, any_none, none_any}
use Rattle.demands.specs.Writing.{BadCount, TooMany, BadMaps, source_fixed, source_least, fixed_least, no_link, gap_alone, LimitAlone, BadEnds, Before4, Before26, NoFault}
use Rattle.demands.proofs.Reading.{endpoints_fit}
use Rattle.demands.proofs.WritingOrder.{twice_iff}
use Rattle.demands.proofs.WritingRead.{there, flag, flag_small, bit_0, bit_3, bit_4, link_digits, Passing}

-- ---- 2 and 3

-- The test passes from 1 to 64.
pub count_iff : (n : ℕ) → (not (leb 1 n && leb n most_steps) ≡ true) ↔ BadCount n
count_iff n = (λ h. out h (dec_lt 0 n), back)
  where
    out : not (leb 1 n && leb n most_steps) ≡ true → Dec (0 < n) → BadCount n
    out h (no z) = inl (omega arith)
    out h (yes p) = go (bool_cases (leb n most_steps))
      where
        go : (leb n most_steps ≡ true) ⊎ (leb n most_steps ≡ false) → BadCount n
        go (inl t) = absurd (both_ways (and_join (le-leb 1 n (omega arith)) t) (not-true (leb 1 n && leb n most_steps) h))
        go (inr f) = inr (leb-false n most_steps f)

    fails : BadCount n → (leb 1 n && leb n most_steps) ≡ true → ⊥
    fails (inl z) t = let r = leb-true 1 n (and_split (leb 1 n) (leb n most_steps) t).0 in omega arith
    fails (inr b) t = let r = leb-true n most_steps (and_split (leb 1 n) (leb n most_steps) t).1 in omega arith

    back : BadCount n → not (leb 1 n && leb n most_steps) ≡ true
    back b = ap not (not_passing (leb 1 n && leb n most_steps) (fails b))

pub many_iff : (r : ℕ) → (ltb most_records r ≡ true) ↔ TooMany r
many_iff r = (ltb-true most_records r, lt-ltb most_records r)

-- ---- 4: step maps

abbrev made : Delay → Option ℕ → Operation
made x b = record { delay = x; least = b }

abbrev IsFixed : Delay → Type 0
IsFixed x = (t : ℕ) × (x ≡ Fixed t)

abbrev HasField : Option ℕ → Type 0
HasField b = (t : ℕ) × (b ≡ Some t)

-- The map of step 0 is allowed unless it is fixed or has a least; that of another unless it is fixed and has one. By the cases of both.
source_wrong : (x : Delay) (b : Option ℕ) → operation_map true (operation_map_of (made x b)) ≡ false → IsFixed x ⊎ HasField b
unfolding operation_map operation_map_of open_bit bit_of duration_of
source_wrong Open None h = absurd (both_ways refl h)
source_wrong Open (Some t) h = inr (t, refl)
source_wrong (Fixed t) b h = inl (t, refl)

source_right : (x : Delay) (b : Option ℕ) → operation_map true (operation_map_of (made x b)) ≡ true → (¬ IsFixed x) × (¬ HasField b)
unfolding operation_map operation_map_of open_bit bit_of duration_of
source_right Open None h = ((λ r. let z : ◌≡◌ {A = ℕ} 0 1 = cc r.1 in omega arith), λ r. let z : ◌≡◌ {A = ℕ} 0 1 = cc r.1 in omega arith)
source_right Open (Some t) h = absurd (both_ways h refl)
source_right (Fixed zero) None h = absurd (both_ways h refl)
source_right (Fixed zero) (Some t) h = absurd (both_ways h refl)
source_right (Fixed (suc x)) None h = absurd (both_ways h refl)
source_right (Fixed (suc x)) (Some t) h = absurd (both_ways h refl)

later_wrong : (x : Delay) (b : Option ℕ) → operation_map false (operation_map_of (made x b)) ≡ false → IsFixed x × HasField b
unfolding operation_map operation_map_of open_bit bit_of duration_of
later_wrong Open None h = absurd (both_ways refl h)
later_wrong Open (Some t) h = absurd (both_ways refl h)
later_wrong (Fixed zero) None h = absurd (both_ways refl h)
later_wrong (Fixed (suc x)) None h = absurd (both_ways refl h)
later_wrong (Fixed x) (Some t) h = ((x, refl), (t, refl))

later_right : (x : Delay) (b : Option ℕ) → operation_map false (operation_map_of (made x b)) ≡ true → IsFixed x → HasField b → ⊥
unfolding operation_map operation_map_of open_bit bit_of duration_of
later_right Open b h r s = let z : ◌≡◌ {A = ℕ} 0 1 = cc r.1 in omega arith
later_right (Fixed x) None h r s = let z : ◌≡◌ {A = ℕ} 0 1 = cc s.1 in omega arith
later_right (Fixed zero) (Some t) h r s = both_ways h refl
later_right (Fixed (suc x)) (Some t) h r s = both_ways h refl

-- A fixed step with a least, at any place: it is found where the maps of later steps do not pass, and it is not there where all pass. Induction on the list.
pub record FixedLeast (os : List Operation) : Type 0 where
  pub step : Operation
  pub member : Memᴰ step os
  pub fixed : IsFixed step.delay
  pub least : HasField step.least

later_found : (os : List Operation) → steps_mapped false os ≡ false → FixedLeast os
unfolding steps_mapped
later_found [] h = absurd (both_ways refl h)
later_found (o ∷ os) h = go (and_fails (operation_map false (operation_map_of o)) (steps_mapped false os) h) (later_found os)
  where
    go : (operation_map false (operation_map_of o) ≡ false) ⊎ (steps_mapped false os ≡ false) → (steps_mapped false os ≡ false → FixedLeast os) → FixedLeast (o ∷ os)
    go (inl t) below = let r = later_wrong o.delay o.least t in record { step = o; member = Memᴰ.head refl; fixed = r.0; least = r.1 }
    go (inr t) below = let r = below t in record { step = r.step; member = Memᴰ.tail r.member; fixed = r.fixed; least = r.least }

none_allowed : (first : Bool) (o : Operation) → operation_map first (operation_map_of o) ≡ true → IsFixed o.delay → HasField o.least → ⊥
none_allowed true o h f l = (source_right o.delay o.least h).0 f
none_allowed false o h f l = later_right o.delay o.least h f l

never_mapped : (first : Bool) (os : List Operation) → steps_mapped first os ≡ true → FixedLeast os → ⊥
unfolding steps_mapped
never_mapped first [] h r = absurd (Memᴰ.not-nil r.member)
never_mapped first (o ∷ os) h r = go (Memᴰ.cases_cons r.member) (never_mapped false os)
  where
    both : (operation_map first (operation_map_of o) ≡ true) × (steps_mapped false os ≡ true)
    both = and_split (operation_map first (operation_map_of o)) (steps_mapped false os) h

    go : (r.step ≡ o) ⊎ Memᴰ r.step os → (steps_mapped false os ≡ true → FixedLeast os → ⊥) → ⊥
    go (inl e) below = none_allowed first o both.0 (rw e at r.fixed) (rw e at r.least)
    go (inr i) below = below both.1 (record { step = r.step; member = i; fixed = r.fixed; least = r.least })

source_mapped : (o : Operation) (os : List Operation) → steps_mapped true (o ∷ os) ≡ true → operation_map true (operation_map_of o) ≡ true
unfolding steps_mapped
source_mapped o os h = (and_split (operation_map true (operation_map_of o)) (steps_mapped false os) h).0

-- ---- 4, 26 and 5: link records

-- Two steps that differ are ends; nothing else is.
fitting : {n i j : ℕ} → (i < n) × (j < n) × (i ≢ j) → (n ≤ i) ⊎ (n ≤ j) ⊎ (i ≡ j) → ⊥
fitting f (inl h) = omega (arith, f.0)
fitting f (inr (inl h)) = omega (arith, f.1)
fitting f (inr (inr h)) = f.2 h

unfit : (n i j : ℕ) → endpoints n i j ≡ false → (n ≤ i) ⊎ (n ≤ j) ⊎ (i ≡ j)
unfolding endpoints
unfit n i j h = go (dec_lt i n) (dec_lt j n) (same_or_not i j)
  where
    go : Dec (i < n) → Dec (j < n) → (i ≡ j) ⊎ (i ≢ j) → (n ≤ i) ⊎ (n ≤ j) ⊎ (i ≡ j)
    go (no a) b c = inl (omega arith)
    go (yes a) (no b) c = inr (inl (omega arith))
    go (yes a) (yes b) (inl c) = inr (inr c)
    go (yes a) (yes b) (inr c) = absurd (both_ways (and_join (and_join (lt-ltb i n a) (lt-ltb j n b)) (ap not (ne_eqb i j c))) h)

-- A record's map is allowed if some bit stands, and bit 3 only with bit 0; it is paired if bit 4 stands only with bit 0. Its bits are what the record has.
map_is : (l : Link) → link_map (link_map_of l) ≡ (leb 1 (link_map_of l) && (l.sequencing || not (there l.gap)))
unfolding link_map
map_is l =
    let D = link_digits l in
    let small : leb (link_map_of l) 31 ≡ true = le-leb (link_map_of l) 31 (omega (arith, D.sum, flag_small l.sequencing, flag_small (there l.minimum), flag_small (there l.maximum), flag_small (there l.gap), flag_small (there l.latest))) in
    rw (small, bit_0 D, bit_3 D, and-true (leb 1 (link_map_of l)))

paired_is : (l : Link) → sequenced (link_map_of l) ≡ (l.sequencing || not (there l.latest))
unfolding sequenced
paired_is l = let D = link_digits l in rw (bit_0 D, bit_4 D)

-- A field is there exactly if its flag is 1.
there_field : {b : (Option ℕ)} → HasField b → there b ≡ true
unfolding there
there_field h = rw h.1

no_flag : (b : Bool) → flag b ≡ 0 → b ≡ false
no_flag true e = absurd (omega arith)
no_flag false e = refl

no_field : (b : Option ℕ) → flag (there b) ≡ 0 → b ≡ None
unfolding there
no_field None e = refl
no_field (Some x) e = absurd (omega arith)

field_there : (b : Option ℕ) → there b ≡ true → HasField b
unfolding there
field_there None e = absurd (false≢true e)
field_there (Some x) e = (x, refl)

module _ (l : Link) where
  abbrev after_or_gapless : Bool
  after_or_gapless = l.sequencing || not (there l.gap)

  -- A record whose map is not allowed has the map 0, so that each digit is 0, or a gap without after.
  found : {q : Records} → Memᴰ l q.pairs → link_map (link_map_of l) ≡ false → BadMaps q
  found {q} m h = go (and_fails (leb 1 (link_map_of l)) after_or_gapless (sym (map_is l) ∙ h))
    where
      go : (leb 1 (link_map_of l) ≡ false) ⊎ (after_or_gapless ≡ false) → BadMaps q
      go (inl z) =
          let zero-map = leb-false 1 (link_map_of l) z in
          let D = link_digits l in
          no_link l m (no_flag l.sequencing (omega (arith, D.sum))) (no_field l.minimum (omega (arith, D.sum))) (no_field l.maximum (omega (arith, D.sum))) (no_field l.gap (omega (arith, D.sum))) (no_field l.latest (omega (arith, D.sum)))
      go (inr z) =
          let r = (or_neither l.sequencing (not (there l.gap))).0 z in
          let g = field_there l.gap (not-false (there l.gap) r.1) in
          gap_alone l g.0 m r.0 g.1

  allowed : link_map (link_map_of l) ≡ true → (1 ≤ link_map_of l) × (after_or_gapless ≡ true)
  allowed h = let r = and_split (leb 1 (link_map_of l)) after_or_gapless (sym (map_is l) ∙ h) in (leb-true 1 (link_map_of l) r.0, r.1)

  -- A record with no link at all has the map 0.
  no_map : l.sequencing ≡ false → l.minimum ≡ None → l.maximum ≡ None → l.gap ≡ None → l.latest ≡ None → link_map_of l ≡ 0
  unfolding link_map_of bit_of
  no_map a b c d e = rw (a, b, c, d, e)

-- Bad maps are found where a test fails, and none is there where all pass.
step_found : (q : Records) (os : List Operation) → q.steps ≡ os → steps_mapped true os ≡ false → BadMaps q
unfolding steps_mapped
step_found q [] e h = absurd (true≢false h)
step_found q (o ∷ os) e h = go (and_fails (operation_map true (operation_map_of o)) (steps_mapped false os) h)
  where
    source : IsFixed o.delay ⊎ HasField o.least → BadMaps q
    source (inl r) = source_fixed o os r.0 e r.1
    source (inr r) = source_least o os r.0 e r.1

    go : (operation_map true (operation_map_of o) ≡ false) ⊎ (steps_mapped false os ≡ false) → BadMaps q
    go (inl t) = source (source_wrong o.delay o.least t)
    go (inr t) = let r = later_found os t in fixed_least r.step r.fixed.0 r.least.0 (rw e (Memᴰ.tail r.member)) r.fixed.1 r.least.1

no_bad_maps : (q : Records) → steps_mapped true q.steps ≡ true → ((l : Link) → Memᴰ l q.pairs → link_map (link_map_of l) ≡ true) → ¬ BadMaps q
no_bad_maps q h k (source_fixed o os x e d) = (source_right o.delay o.least (source_mapped o os (rw e at h))).0 (x, d)
no_bad_maps q h k (source_least o os x e b) = (source_right o.delay o.least (source_mapped o os (rw e at h))).1 (x, b)
no_bad_maps q h k (fixed_least o x y m d b) = never_mapped true q.steps h (record { step = o; member = m; fixed = (x, d); least = (y, b) })
no_bad_maps q h k (no_link l m a b c d e) = omega (arith, (allowed l (k l m)).0, no_map l a b c d e)
no_bad_maps q h k (gap_alone l x m a g) = false≢true (rw (a, there_field (x, g)) at (allowed l (k l m)).1)

-- By the steps' test and the records'.
pub maps_iff : (q : Records) → (bad_maps q.steps q.pairs ≡ true) ↔ BadMaps q
unfolding bad_maps
maps_iff q = (λ h. out (or_split (not (steps_mapped true q.steps)) (any wrong q.pairs) h), λ b. back b (bool_cases (steps_mapped true q.steps)) (bool_cases (any wrong q.pairs)))
  where
    wrong : Link → Bool
    wrong l = not (link_map (link_map_of l))

    out : (not (steps_mapped true q.steps) ≡ true) ⊎ (any wrong q.pairs ≡ true) → BadMaps q
    out (inl t) = step_found q q.steps refl (not-true (steps_mapped true q.steps) t)
    out (inr t) = let r = any_has wrong q.pairs t in found r.0 r.1 (not-true (link_map (link_map_of r.0)) r.2)

    back : BadMaps q → (steps_mapped true q.steps ≡ true) ⊎ (steps_mapped true q.steps ≡ false) → (any wrong q.pairs ≡ true) ⊎ (any wrong q.pairs ≡ false) → (not (steps_mapped true q.steps) || any wrong q.pairs) ≡ true
    back b (inr f) t = or_left (any wrong q.pairs) (ap not f)
    back b (inl s) (inl t) = or_right (not (steps_mapped true q.steps)) t
    back b (inl s) (inr t) = absurd (no_bad_maps q s (λ l m. not-false (link_map (link_map_of l)) (any_none wrong q.pairs t l m)) b)

-- 26 and 5: some record does not pass its test.
pub limits_iff : (ls : List Link) → (unsequenced ls ≡ true) ↔ LimitAlone ls
unfolding unsequenced
limits_iff ls = (out, back)
  where
    wrong : Link → Bool
    wrong l = not (sequenced (link_map_of l))

    out : any wrong ls ≡ true → LimitAlone ls
    out h =
        let r = any_has wrong ls h in
        let s = (or_neither r.0.sequencing (not (there r.0.latest))).0 (sym (paired_is r.0) ∙ not-true (sequenced (link_map_of r.0)) r.2) in
        let u = field_there r.0.latest (not-false (there r.0.latest) s.1) in
        record { link = r.0; member = r.1; not_after = s.0; ticks = u.0; limit = u.1 }

    back : LimitAlone ls → any wrong ls ≡ true
    back r =
        let l = r.link in
        let fails : (l.sequencing || not (there l.latest)) ≡ false = rw (r.not_after, there_field (r.ticks, r.limit)) in
        any_by wrong ls r.member (ap not (paired_is l ∙ fails))

pub ends_iff : (n : ℕ) (ls : List Link) → (bad_ends n ls ≡ true) ↔ BadEnds n ls
unfolding bad_ends
ends_iff n ls = (out, back)
  where
    wrong : Link → Bool
    wrong l = not (endpoints n l.from l.to)

    out : any wrong ls ≡ true → BadEnds n ls
    out h =
        let r = any_has wrong ls h in
        let l = r.0 in
        record { link = l; member = r.1; ends = unfit n l.from l.to (not-true (endpoints n l.from l.to) r.2) }

    back : BadEnds n ls → any wrong ls ≡ true
    back r =
        let l = r.link in
        any_by wrong ls r.member (ap not (not_passing (endpoints n l.from l.to) (λ t. fitting (endpoints_fit n l.from l.to t) r.ends)))

-- ---- no fault is there exactly if all tests pass: each by what it says

pub passing_by : {n r : ℕ} {q : Records} → NoFault n r q → Passing n r q
unfolding bad_maps unsequenced bad_ends
passing_by {n} {r} {q} N =
    let before-6 = N.passed in
    let before-5 = before-6.passed in
    let before_26 = before-5.passed in
    let before_4 = before_26.passed in
    let maps = (or_neither (not (steps_mapped true q.steps)) (any (λ l. not (link_map (link_map_of l))) q.pairs)).0 ((fails_unless (bad_maps q.steps q.pairs) (maps_iff q)).1 before_26.maps) in
    let limits = (fails_unless (unsequenced q.pairs) (limits_iff q.pairs)).1 before-5.limits in
    let ends = (fails_unless (bad_ends n q.pairs) (ends_iff n q.pairs)).1 before-6.ends in
    record {
      count = not-false (leb 1 n && leb n most_steps) ((fails_unless (not (leb 1 n && leb n most_steps)) (count_iff n)).1 before_4.count);
      few = le-leb r most_records (ltb-false most_records r ((fails_unless (ltb most_records r) (many_iff r)).1 before_4.few));
      steps = not-false (steps_mapped true q.steps) maps.0;
      links = λ l m. record {
        map = not-false (link_map (link_map_of l)) (any_none (λ l. not (link_map (link_map_of l))) q.pairs maps.1 l m);
        paired = not-false (sequenced (link_map_of l)) (any_none (λ l. not (sequenced (link_map_of l))) q.pairs limits l m);
        ends = not-false (endpoints n l.from l.to) (any_none (λ l. not (endpoints n l.from l.to)) q.pairs ends l m);
      };
      once = (fails_unless (comes_twice q.pairs) (twice_iff q.pairs)).1 N.once;
    }

pub faultless : {n r : ℕ} {q : Records} → Passing n r q → NoFault n r q
unfolding unsequenced bad_ends
faultless {n} {r} {q} P =
    let before_4 : Before4 n r = record { count = (fails_unless (not (leb 1 n && leb n most_steps)) (count_iff n)).0 (ap not P.count); few = λ h. omega (arith, leb-true r most_records P.few) } in
    let before_26 : Before26 n r q = record { passed = before_4; maps = no_bad_maps q P.steps (λ l m. (P.links l m).map) } in
    let limits = (fails_unless (unsequenced q.pairs) (limits_iff q.pairs)).0 (none_any (λ l. not (sequenced (link_map_of l))) q.pairs (λ l m. ap not (P.links l m).paired)) in
    let ends = (fails_unless (bad_ends n q.pairs) (ends_iff n q.pairs)).0 (none_any (λ l. not (endpoints n l.from l.to)) q.pairs (λ l m. ap not (P.links l m).ends)) in
    record { passed = record { passed = record { passed = before_26; limits = limits }; ends = ends }; once = (fails_unless (comes_twice q.pairs) (twice_iff q.pairs)).0 P.once }

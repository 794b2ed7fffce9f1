-- Numbers stand for the parts that they are the numbers of; and what they stand for fits two bytes.
use mathlib.Core.Path.{◌≡◌, refl, sym, ap, ap₂, subst, ◌∙◌}
use Rattle.std.specs.Prelude.{None, Option, Some}
use mathlib.Core.Bool.{Bool, true, false, cond}
use mathlib.Core.List.{List, Memᴰ}
use Prim.Native.Nat.{ℕ, zero, suc, ◌+◌, ◌*◌, ◌/◌, ◌≤◌, ◌<◌}
use native.Mathlib.Omega.{arith}
use lib.Dec.{leb}
use lib.ListN.{get_or, length, take, length-take}
use lib.Seq.{get_or-drop, get_or-take}
use Rattle.definitions.specs.Basics.{tabulate, test_bit}
use Rattle.definitions.specs.Bytes.{blank_operation, bound_from, delay_from, operation_map}
use Rattle.definitions.specs.Clashes.{blank_link}
use Rattle.definitions.specs.Limits.{most_ticks}
use Rattle.definitions.specs.Links.{ticks_said}
use Rattle.definitions.specs.Plan.{row_part}
use Rattle.definitions.specs.Writer.{bit_of, duration_of, link_map_of, open_bit, operation_map_of}
use Rattle.definitions.specs.declared.Delay.{Delay}
use Rattle.definitions.specs.declared.Delay.TheVariants.{Open, Fixed}
use Rattle.definitions.specs.declared.Link.{Link}
use Rattle.definitions.specs.declared.Operation.{Operation}
use Rattle.laws.proofs.Bools.{both_ways, cond_false}
use Rattle.laws.proofs.Lists.{mem_place}
use Rattle.laws.proofs.Tests.{tabulate_at, tabulate_length}
use Rattle.demands.specs.Writing.{FieldFits, LinkNumbers, StepNumbers}
use Rattle.demands.proofs.WritingRead.{bit_0, bit_1, bit_2, bit_3, bit_4, bound_back, flag_small, link_digits, there}
use Rattle.write_numbers.specs.Decoding.{end_from, record_at, record_from, records_in, step_at, step_from, steps_in, wrong_step}
use Rattle.write_numbers.specs.Encoding.{NumbersFit, NumbersStandFor, link_numbers, step_numbers, step_ticks}
use Rattle.write_numbers.proofs.Decoded.{record_known, record_wrong}

-- ---- numbers at their places

-- The i-th of the k-th numbers, where each part has so many of them and these are known.
held : (numbers : List ℕ) (size k i place : ℕ) {l : List ℕ} → row_part numbers size k ≡ l → i < size → place ≡ k * size + i → get_or numbers place 0 ≡ get_or l i 0
unfolding row_part
held numbers size k i place e h p =
    ap (λ (j : ℕ). get_or numbers j 0) p ∙ sym (get_or-take size _ i 0 h ∙ get_or-drop (k * size) numbers i 0) ∙ ap (λ (m : List ℕ). get_or m i 0) e

-- ---- a step

-- By the cases of a step whose map is allowed.
step_again : (x : Delay) (b : Option ℕ) → operation_map false (operation_map_of (record { delay = x; least = b })) ≡ true → step_from (operation_map_of (record { delay = x; least = b })) (step_ticks x b) ≡ record { delay = x; least = b }
unfolding step_from step_ticks operation_map operation_map_of open_bit bit_of duration_of test_bit delay_from bound_from ticks_said
step_again Open None h = refl
step_again Open (Some t) h = refl
step_again (Fixed zero) None h = refl
step_again (Fixed (suc x)) None h = refl
step_again (Fixed zero) (Some t) h = absurd (both_ways h refl)
step_again (Fixed (suc x)) (Some t) h = absurd (both_ways h refl)

-- ---- a link record

-- Each bit of the map says whether its field is there.
module _ (l : Link) where
  small : link_map_of l ≤ 31
  small = omega (arith, (link_digits l).sum, flag_small l.sequencing, flag_small (there l.minimum), flag_small (there l.maximum), flag_small (there l.gap), flag_small (there l.latest))

  field_again : (b : Option ℕ) (k : ℕ) → test_bit (link_map_of l) k ≡ there b → b ≡ bound_from (test_bit (link_map_of l) k) (ticks_said b)
  field_again b k e = sym (ap (λ (c : Bool). bound_from c (ticks_said b)) e ∙ bound_back b)

  link_again : l.from ≤ 255 → l.to ≤ 255 → record_from (link_map_of l) l.from l.to (ticks_said l.minimum) (ticks_said l.maximum) (ticks_said l.gap) (ticks_said l.latest) ≡ l
  link_again a b =
      let D = link_digits l in
      sym
      (record_known _ _ _ _ _ _ _ small l
      (omega arith)
      (omega arith)
      (sym (bit_0 D))
      (field_again l.minimum 1 (bit_1 D))
      (field_again l.maximum 2 (bit_2 D))
      (field_again l.gap 3 (bit_3 D))
      (field_again l.latest 4 (bit_4 D)))

module _ (numbers : List ℕ) (k : ℕ) where
  step_stands : (o : Operation) → operation_map false (operation_map_of o) ≡ true → row_part numbers 2 k ≡ step_numbers o → step_at numbers k ≡ o
  unfolding step_at step_numbers
  step_stands o h e =
      ap₂ step_from (held numbers 2 k 0 (2 * k) e (omega arith) (omega arith)) (held numbers 2 k 1 (2 * k + 1) e (omega arith) (omega arith))
      ∙ step_again o.delay o.least h

  link_stands : (l : Link) → l.from ≤ 255 → l.to ≤ 255 → row_part numbers 7 k ≡ link_numbers l → record_at numbers k ≡ l
  unfolding record_at link_numbers
  link_stands l a b e =
      let number : (i : ℕ) → i < 7 → get_or numbers (7 * k + i) 0 ≡ get_or (link_numbers l) i 0 = λ i h. held numbers 7 k i (7 * k + i) e h (omega arith) in
      let map = held numbers 7 k 0 (7 * k) e (omega arith) (omega arith) in
      rw (map, number 1 (omega arith), number 2 (omega arith), number 3 (omega arith), number 4 (omega arith), number 5 (omega arith), number 6 (omega arith)) (link_again l a b)

  other_step : operation_map false (get_or numbers (2 * k) 0) ≡ false → step_at numbers k ≡ wrong_step
  unfolding step_at step_from
  other_step h = cond_false _ wrong_step h

  other_link : 31 < get_or numbers (7 * k) 0 → record_at numbers k ≡ blank_link
  unfolding record_at
  other_link h = sym (record_wrong _ _ _ _ _ _ _ h)

pub numbers_stand_for : NumbersStandFor
numbers_stand_for numbers k = record { step = step_stands numbers k; link = link_stands numbers k; other_step = other_step numbers k; other_link = other_link numbers k }

-- ---- what fits

-- A field that is read off a number that fits.
field_fits : (b : Bool) (t : ℕ) → t ≤ most_ticks → FieldFits (bound_from b t)
unfolding bound_from
field_fits true t h x e = let same : ◌≡◌ {A = ℕ} t x = cc in omega (arith, same)
field_fits false t h x e = let z : ◌≡◌ {A = ℕ} 0 1 = cc in absurd (omega arith)

-- A fixed duration, likewise; 0 where its bit does not stand.
duration_fits : (b c : Bool) (t : ℕ) → t ≤ most_ticks → (x : ℕ) → delay_from b (cond c t 0) ≡ Fixed x → x ≤ most_ticks
unfolding delay_from
duration_fits true c t h x e = let z : ◌≡◌ {A = ℕ} 0 1 = cc in absurd (omega arith)
duration_fits false true t h x e = let same : ◌≡◌ {A = ℕ} t x = cc in omega (arith, same)
duration_fits false false t h x e = let same : ◌≡◌ {A = ℕ} 0 x = cc in omega (arith, same)

step_fits : (m t : ℕ) → t ≤ most_ticks → StepNumbers (step_from m t)
unfolding step_from
step_fits m t h = go (operation_map false m)
  where
    go : (known : Bool) → StepNumbers (cond known (record { delay = delay_from (test_bit m 0) (cond (test_bit m 1) t 0); least = bound_from (test_bit m 2) t }) wrong_step)
    go true = record { duration = duration_fits (test_bit m 0) (test_bit m 1) t h; least = field_fits (test_bit m 2) t h }
    go false = record { duration = λ x e. let same : ◌≡◌ {A = ℕ} 0 x = cc in omega (arith, same); least = λ x e. let same : ◌≡◌ {A = ℕ} 0 x = cc in omega (arith, same) }

link_fits : (m i j a b c d : ℕ) → a ≤ most_ticks → b ≤ most_ticks → c ≤ most_ticks → d ≤ most_ticks → LinkNumbers (record_from m i j a b c d)
unfolding record_from
link_fits m i j a b c d fa fb fc fd = go (leb m 31)
  where
    go : (known : Bool) → LinkNumbers (cond known (record { from = end_from i; to = end_from j; sequencing = test_bit m 0; minimum = bound_from (test_bit m 1) a; maximum = bound_from (test_bit m 2) b; gap = bound_from (test_bit m 3) c; latest = bound_from (test_bit m 4) d }) blank_link)
    go true = record { minimum = field_fits (test_bit m 1) a fa; maximum = field_fits (test_bit m 2) b fb; gap = field_fits (test_bit m 3) c fc; latest = field_fits (test_bit m 4) d fd }
    go false = record { minimum = none; maximum = none; gap = none; latest = none }
      where
        none : FieldFits None
        none x e = let z : ◌≡◌ {A = ℕ} 0 1 = cc in absurd (omega arith)

-- What holds of each f i holds of each of the first n of a list that is tabulated.
of_tabulated : {A : Type 0} (P : A → Type 0) (f : ℕ → A) (z : A) → ((i : ℕ) → P (f i)) → (n m : ℕ) (x : A) → Memᴰ x (take n (tabulate f m)) → P x
of_tabulated P f z h n m x i =
    let at = mem_place (take n (tabulate f m)) z i in
    let below : at.index < m = omega (arith, at.inside, length-take n (tabulate f m), tabulate_length f m) in
    let before : at.index < n = omega (arith, at.inside, length-take n (tabulate f m)) in
    subst P (sym (tabulate_at f m at.index z below) ∙ sym (get_or-take n (tabulate f m) at.index z before) ∙ at.here) (h at.index)

pub numbers_fit : NumbersFit
unfolding steps_in records_in step_at record_at
numbers_fit n r steps links a b = record {
  steps = of_tabulated StepNumbers (step_at steps) blank_operation steps_fit n (length steps / 2);
  links = of_tabulated LinkNumbers (record_at links) blank_link links_fit r (length links / 7);
}
  where
    steps_fit : (k : ℕ) → StepNumbers (step_at steps k)
    steps_fit k = step_fits _ _ (a (2 * k + 1))

    links_fit : (k : ℕ) → LinkNumbers (record_at links k)
    links_fit k = link_fits _ _ _ _ _ _ _ (b (7 * k + 3)) (b (7 * k + 4)) (b (7 * k + 5)) (b (7 * k + 6))

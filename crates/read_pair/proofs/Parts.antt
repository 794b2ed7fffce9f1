-- What the parser of a link record finds at a place of the bytes, case by case. Each law is the parser's text, computed at the bytes that are there.
use mathlib.Core.Path.{◌≡◌, refl, sym, ap, subst, ◌∙◌}
use Rattle.std.specs.Prelude.{None, Some}
use Rattle.definitions.specs.Bytes.{Previous, Parser, Taken, ◌>>=◌, give, demand, byte, ticks_if, link_map, sequenced, endpoints, rises, bound_from, link}
use mathlib.Core.Bool.{Bool, true, false, not, ◌&&◌, ◌||◌, or-false}
use mathlib.Core.Logic.{◌⊎◌, inl, inr}
use mathlib.Core.List.{List, [], ◌∷◌}
use Prim.Native.Nat.{ℕ, ◌+◌, ◌≤◌, ◌<◌}
use native.Mathlib.Omega.{arith}
use native.Mathlib.Decide.{dec_lt}
use lib.Dec.{T, leb, ltb, eqb}
use lib.ListN.{length, get_or, drop}
use mir.Val.{has_key}
use types.Run.{OneOf, hit}
use borrow.Author.Tests.{leb-true, ltb-true, ltb-false, eqb-false, not-true, lt-ltb, le-ltb, lt-leb, le-leb, eq-eqb, ne_eqb}
use Rattle.definitions.specs.Basics.{all, all_below, test_bit, Outcome, given, refused, when_given}
use Rattle.definitions.specs.declared.Link.{Link}
use Rattle.laws.proofs.Bools.{both_ways, bool_cases, same_or_not, and_split, not_passing}
use Rattle.laws.proofs.Tests.{all_below_each}
use Rattle.laws.proofs.Parsers.{when_given_twice, drop_byte, drop_end}
use Rattle.read_fields.specs.Answers.{item_at, field_at, field_end}
use Rattle.read_fields.proofs.Parts.{field_there, field_cut, field_forth}
use Rattle.read_pair.specs.Answers.{Ranks, Ranked, allowed, upper_allowed, map_refusal}
use Rattle.read_pair.specs.Parts.{link_ticks, link_from, link_fields, link_pair}
use Rattle.read_pair.specs.declared.Fields.{Fields}

-- A map that is refused with 26: bit 4 without bit 0, and without bit 3.
abbrev pub unsequenced : ℕ → Bool
unsequenced m = link_map m && not (sequenced m)

-- A value among a list of keys passes a test that each of them passes. Induction on the list.
keys_pass : (test : ℕ → Bool) (ks : List ℕ) (m : ℕ) → all test ks ≡ true → OneOf ks m → test m ≡ true
unfolding all
keys_pass test [] m h k = absurd k
keys_pass test (k₀ ∷ []) m h e = ap test e ∙ (and_split (test k₀) true h).0
keys_pass test (k₀ ∷ (k₁ ∷ ks)) m h (inl e) = ap test e ∙ (and_split (test k₀) (all test (k₁ ∷ ks)) h).0
keys_pass test (k₀ ∷ (k₁ ∷ ks)) m h (inr k) = keys_pass test (k₁ ∷ ks) m (and_split (test k₀) (all test (k₁ ∷ ks)) h).1 k

-- The maps with bit 0 and with bit 3 or bit 4, and those with bit 4 and without bits 0 and 3.
abbrev upper_maps : List ℕ
upper_maps = 9 ∷ 11 ∷ 13 ∷ 15 ∷ 17 ∷ 19 ∷ 21 ∷ 23 ∷ 25 ∷ 27 ∷ 29 ∷ 31 ∷ []

abbrev alone_maps : List ℕ
alone_maps = 16 ∷ 18 ∷ 20 ∷ 22 ∷ []

pub map_upper : (m : ℕ) → OneOf upper_maps m → upper_allowed m ≡ true
unfolding all link_map sequenced test_bit
map_upper m k = keys_pass upper_allowed upper_maps m refl k

pub map_alone : (m : ℕ) → OneOf alone_maps m → unsequenced m ≡ true
unfolding all link_map sequenced test_bit
map_alone m k = keys_pass unsequenced alone_maps m refl k

-- The maps with neither: a test computed for each.
pub map_low : (m : ℕ) → 1 ≤ m → m < 8 → allowed m ≡ true
unfolding all_below link_map sequenced test_bit
map_low m from to = rw (le-ltb m 1 from) at (all_below_each (λ k. ltb k 1 || allowed k) 8 refl m to)

-- No map from 32 on is known.
abbrev maps_end : ℕ
maps_end = 32

map_small : (m : ℕ) → link_map m ≡ true → m < maps_end
unfolding link_map
map_small m h =
    let bits = and_split (leb 1 m && leb m 31) (test_bit m 0 || not (test_bit m 3)) h in
    let to : m ≤ 31 = leb-true m 31 (and_split (leb 1 m) (leb m 31) bits.0).1 in
    omega arith

-- A map that is not listed fails a test of known maps: of those below 32, the listed ones alone pass it, as a computed test says.
not_listed : (listed test : ℕ → Bool) (m : ℕ) → (test m ≡ true → link_map m ≡ true) → all_below (λ k. listed k || not (test k)) maps_end ≡ true → listed m ≡ false → test m ≡ false
not_listed listed test m known each none = not_passing (test m) (λ t. both_ways t (not-true (test m) (rw none at (all_below_each (λ k. listed k || not (test k)) maps_end each m (map_small m (known t))))))

none_of : (keys : List ℕ) (m : ℕ) → (OneOf keys m → ⊥) → has_key keys m ≡ false
none_of keys m none = not_passing (has_key keys m) (λ k. none (hit keys m (subst T (sym k) tt)))

pub map_not_upper : (m : ℕ) → (OneOf upper_maps m → ⊥) → upper_allowed m ≡ false
unfolding all_below link_map sequenced test_bit
map_not_upper m none = not_listed (has_key upper_maps) upper_allowed m (λ t. (and_split (link_map m) (sequenced m) (and_split (leb 8 m) (allowed m) t).1).0) refl (none_of upper_maps m none)

-- A map with more than bits 0 to 2, or with none, is allowed only with bit 3 or bit 4.
pub map_outside : (m : ℕ) → (m < 1) ⊎ (8 ≤ m) → upper_allowed m ≡ allowed m
unfolding link_map
map_outside m (inl h) = rw (lt-leb 8 m (omega arith), lt-leb 1 m h)
map_outside m (inr h) = rw (le-leb 8 m h)

pub map_not_alone : (m : ℕ) → (OneOf alone_maps m → ⊥) → unsequenced m ≡ false
unfolding all_below link_map sequenced test_bit
map_not_alone m none = not_listed (has_key alone_maps) unsequenced m (λ t. (and_split (link_map m) (not (sequenced m)) t).0) refl (none_of alone_maps m none)

-- The fields of a link record with the map m, from the place `at` on: where those after the first begin and the last ends, and their ticks.
abbrev most_at : ℕ → ℕ → ℕ
most_at m at = field_end at (test_bit m 1)

abbrev gap_at : ℕ → ℕ → ℕ
gap_at m at = field_end (most_at m at) (test_bit m 2)

abbrev latest_at : ℕ → ℕ → ℕ
latest_at m at = field_end (gap_at m at) (test_bit m 3)

abbrev pub ticks_end : ℕ → ℕ → ℕ
ticks_end m at = field_end (latest_at m at) (test_bit m 4)

abbrev pub fields_at : ℕ → List ℕ → ℕ → Fields
fields_at m s at = record { least = field_at s at (test_bit m 1); most = field_at s (most_at m at) (test_bit m 2); gap = field_at s (gap_at m at) (test_bit m 3); latest = field_at s (latest_at m at) (test_bit m 4) }

-- They end within the bytes, or the first that does not is cut off.
module _ (m : ℕ) (s : List ℕ) (at : ℕ) where
  pub ticks_there : ticks_end m at ≤ length s → link_ticks m (drop at s) ≡ item_at s (fields_at m s at) (ticks_end m at)
  unfolding link_ticks when_given
  ticks_there h =
      let third : latest_at m at ≤ length s = omega (arith, field_forth (latest_at m at) (test_bit m 4)) in
      let second : gap_at m at ≤ length s = omega (arith, field_forth (gap_at m at) (test_bit m 3)) in
      let first : most_at m at ≤ length s = omega (arith, field_forth (most_at m at) (test_bit m 2)) in
      rw (field_there s at (test_bit m 1) first, field_there s (most_at m at) (test_bit m 2) second, field_there s (gap_at m at) (test_bit m 3) third, field_there s (latest_at m at) (test_bit m 4) h)

  pub ticks_cut : at ≤ length s → length s < ticks_end m at → link_ticks m (drop at s) ≡ refused 1
  unfolding link_ticks when_given
  ticks_cut inside h = go (dec_lt (length s) (most_at m at)) (dec_lt (length s) (gap_at m at)) (dec_lt (length s) (latest_at m at))
    where
      first : most_at m at ≤ length s → ticks_if (test_bit m 1) (drop at s) ≡ item_at s (field_at s at (test_bit m 1)) (most_at m at)
      first = field_there s at (test_bit m 1)

      second : gap_at m at ≤ length s → ticks_if (test_bit m 2) (drop (most_at m at) s) ≡ item_at s (field_at s (most_at m at) (test_bit m 2)) (gap_at m at)
      second = field_there s (most_at m at) (test_bit m 2)

      go : Dec (length s < most_at m at) → Dec (length s < gap_at m at) → Dec (length s < latest_at m at) → link_ticks m (drop at s) ≡ refused 1
      go (yes k) l o = rw (field_cut s at (test_bit m 1) inside k)
      go (no k) (yes l) o = rw (first (omega arith), field_cut s (most_at m at) (test_bit m 2) (omega arith) l)
      go (no k) (no l) (yes o) = rw (first (omega arith), second (omega arith), field_cut s (gap_at m at) (test_bit m 3) (omega arith) o)
      go (no k) (no l) (no o) = rw (first (omega arith), second (omega arith), field_there s (gap_at m at) (test_bit m 3) (omega arith), field_cut s (latest_at m at) (test_bit m 4) (omega arith) h)

-- A gap that the map does not say is there has 0 ticks, where the fields are taken; gap-in reads it off what is taken.
gap_in : Outcome (Taken Fields) → ℕ
gap_in (given t) = t.value.gap
gap_in (refused k) = 0

pub gap_none : (m : ℕ) (s : List ℕ) (at next : ℕ) {t : Fields} → at ≤ length s → item_at s t next ≡ link_ticks m (drop at s) → test_bit m 3 ≡ false → t.gap ≡ 0
unfolding gap_in
gap_none m s at next {t} inside taken none = go (dec_lt (length s) (ticks_end m at))
  where
    go : Dec (length s < ticks_end m at) → t.gap ≡ 0
    go (yes cut) = ap gap_in (taken ∙ ticks_cut m s at inside cut)
    go (no there) = rw none at (ap gap_in (taken ∙ ticks_there m s at (omega arith)))

-- A map of an after link alone says that no field is there.
abbrev pub no_fields : Fields
no_fields = record { least = 0; most = 0; gap = 0; latest = 0 }

pub ticks_none : (m : ℕ) (t : List ℕ) → m ≡ 1 → link_ticks m t ≡ given (record { value = no_fields; rest = t })
unfolding link_ticks ticks_if test_bit when_given
ticks_none m t e = rw e

-- So the record is theirs, or is refused as they are.
module _ (m i j : ℕ) (t : List ℕ) where
  pub fields_there : {fields : Fields} {rest : List ℕ} → link_ticks m t ≡ given (record { value = fields; rest = rest }) → link_fields m i j t ≡ given (record { value = link_from m i j fields; rest = rest })
  unfolding link_fields when_given
  fields_there e = rw e

  pub fields_refused : {k : ℕ} → link_ticks m t ≡ refused k → link_fields m i j t ≡ refused k
  unfolding link_fields when_given
  fields_refused e = rw e

-- Pairs that rise: by i, and by j where i is the same.
rises_same : (i₀ j₀ i j : ℕ) → i₀ ≡ i → rises (Some (i₀, j₀)) i j ≡ ltb j₀ j
unfolding rises
rises_same i₀ j₀ i j e = rw (le-ltb i₀ i (omega arith), eq-eqb i₀ i e)

rises_other : (i₀ j₀ i j : ℕ) → (i₀ ≡ i → ⊥) → rises (Some (i₀, j₀)) i j ≡ ltb i₀ i
unfolding rises
rises_other i₀ j₀ i j e = rw (ne_eqb i₀ i e) (or-false (ltb i₀ i))

-- A pair rises exactly where its number does.
pub rank_above : (previous : Previous) (last i j r : ℕ) → Ranked previous last → Ranks i j r → last < r → rises previous i j ≡ true
unfolding rises
rank_above None last i j r e f h = refl
rank_above (Some (i₀, j₀)) last i j r e f h =
    elim (same_or_not i₀ i) [
      | inl same ↦ rises_same i₀ j₀ i j same ∙ lt-ltb j₀ j (omega (arith, e.0, e.1, f.0, f.1))
      | inr other ↦ rises_other i₀ j₀ i j other ∙ lt-ltb i₀ i (omega (arith, e.0, e.1, f.0, f.1))
    ]

pub rank_below : (previous : Previous) (last i j r : ℕ) → Ranked previous last → Ranks i j r → r ≤ last → (i ≡ j → ⊥) → rises previous i j ≡ false
rank_below None last i j r e f h apart = absurd (apart (omega (arith, f.0)))
rank_below (Some (i₀, j₀)) last i j r e f h apart =
    elim (same_or_not i₀ i) [
      | inl same ↦ rises_same i₀ j₀ i j same ∙ le-ltb j₀ j (omega (arith, e.0, e.1, f.0, f.1))
      | inr other ↦ rises_other i₀ j₀ i j other ∙ le-ltb i₀ i (omega (arith, e.0, e.1, f.0, f.1))
    ]

-- What is asked of the ends.
pub endpoints_below : (n i j : ℕ) → endpoints n i j ≡ true → (i < n) × (j < n)
unfolding endpoints
endpoints_below n i j h =
    let r = and_split (ltb i n && ltb j n) (not (eqb i j)) h in
    let s = and_split (ltb i n) (ltb j n) r.0 in
    (ltb-true i n s.0, ltb-true j n s.1)

pub endpoints_apart : (n i j : ℕ) → endpoints n i j ≡ true → i ≡ j → ⊥
unfolding endpoints
endpoints_apart n i j h = eqb-false i j (not-true (eqb i j) (and_split (ltb i n && ltb j n) (not (eqb i j)) h).1)

-- A link record: its map, its pair, its fields.
module _ (n : ℕ) (previous : Previous) (s : List ℕ) (at : ℕ) where
  pub link_none : length s ≤ at → link n previous (drop at s) ≡ refused 1
  unfolding link byte when_given
  link_none h = rw (drop_end s at h)

  -- The map is not allowed: it is not known, or lacks bit 0.
  pub link_refused : at < length s → allowed (get_or s at 0) ≡ false → link n previous (drop at s) ≡ refused (map_refusal (get_or s at 0))
  unfolding link byte demand when_given
  link_refused h e =
      elim (bool_cases (link_map (get_or s at 0))) [
        | inl known ↦ let alone : sequenced (get_or s at 0) ≡ false = rw known at e in rw (drop_byte s at h, known, alone)
        | inr unknown ↦ rw (drop_byte s at h, unknown)
      ]

  pair_missing : (m : ℕ) → length s ≤ at → link_pair n previous m (drop at s) ≡ refused 1
  unfolding link_pair byte when_given
  pair_missing m h = rw (drop_end s at h)

  pair_half : (m : ℕ) → at < length s → length s ≤ at + 1 → link_pair n previous m (drop at s) ≡ refused 1
  unfolding link_pair byte when_given
  pair_half m h k = rw (drop_byte s at h, drop_end s (at + 1) k)

  -- One byte of the pair is there, or none.
  pub pair_none : (m : ℕ) → length s ≤ at + 1 → link_pair n previous m (drop at s) ≡ refused 1
  pair_none m h = elim (bool_cases (ltb at (length s))) [ inl k ↦ pair_half m (ltb-true at (length s) k) h | inr k ↦ pair_missing m (ltb-false at (length s) k) ]

  module _ (m : ℕ) (h : at + 1 < length s) where
    pub pair_endpoint : endpoints n (get_or s at 0) (get_or s (at + 1) 0) ≡ false → link_pair n previous m (drop at s) ≡ refused 5
    unfolding link_pair byte demand when_given
    pair_endpoint e = rw (drop_byte s at (omega arith), drop_byte s (at + 1) h, e)

    pub pair_order : endpoints n (get_or s at 0) (get_or s (at + 1) 0) ≡ true → rises previous (get_or s at 0) (get_or s (at + 1) 0) ≡ false → link_pair n previous m (drop at s) ≡ refused 6
    unfolding link_pair byte demand when_given
    pair_order e f = rw (drop_byte s at (omega arith), drop_byte s (at + 1) h, e, f)

    pub pair_there : endpoints n (get_or s at 0) (get_or s (at + 1) 0) ≡ true → rises previous (get_or s at 0) (get_or s (at + 1) 0) ≡ true → link_pair n previous m (drop at s) ≡ link_fields m (get_or s at 0) (get_or s (at + 1) 0) (drop (at + 2) s)
    unfolding link_pair byte demand when_given
    pair_there e f = let two : at + 1 + 1 ≡ at + 2 = omega arith in rw (drop_byte s at (omega arith), drop_byte s (at + 1) h, e, f, two)

-- The definitions' own text of the fields is `link_fields`, which reads all of them before it makes the record.
abbrev as_defined : ℕ → ℕ → ℕ → Parser Link
as_defined m i j = do
  least ← ticks_if (test_bit m 1)
  most ← ticks_if (test_bit m 2)
  gap ← ticks_if (test_bit m 3)
  latest ← ticks_if (test_bit m 4)
  give (record { from = i; to = j; sequencing = test_bit m 0; minimum = bound_from (test_bit m 1) least; maximum = bound_from (test_bit m 2) most; gap = bound_from (test_bit m 3) gap; latest = bound_from (test_bit m 4) latest })

fields_as_defined : (m i j : ℕ) (s : List ℕ) → as_defined m i j s ≡ link_fields m i j s
unfolding link_fields link_ticks link_from when_given
fields_as_defined m i j s = simp when_given_twice

pub link_there : (n : ℕ) (previous : Previous) (s : List ℕ) (at : ℕ) → at < length s → allowed (get_or s at 0) ≡ true → link n previous (drop at s) ≡ link_pair n previous (get_or s at 0) (drop (at + 1) s)
unfolding link link_pair byte demand when_given
link_there n previous s at h e = let m = and_split (link_map (get_or s at 0)) (sequenced (get_or s at 0)) e in rw (drop_byte s at h, m.0, m.1) (simp fields_as_defined)

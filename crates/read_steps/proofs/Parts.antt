-- What the parser of a step record finds at a place of the bytes, case by case. Each law is the parser's text, computed at the bytes that are there.
use mathlib.Core.Path.{◌≡◌, refl, ap₂}
use Rattle.std.specs.Prelude.{None, Some}
use mathlib.Core.Bool.{Bool, true, false, ◌||◌}
use mathlib.Core.List.{List}
use Prim.Native.Nat.{ℕ, ◌+◌, ◌≤◌, ◌<◌}
use native.Mathlib.Omega.{arith}
use lib.ListN.{length, get_or, drop}
use borrow.Author.Tests.{ne_eqb, lt-leb}
use Rattle.definitions.specs.Basics.{test_bit, given, refused, when_given}
use Rattle.definitions.specs.Bytes.{demand, byte, two_bytes, ticks_if, bound_from, operation_map, delay_from, operation}
use Rattle.definitions.specs.declared.Delay.TheVariants.{Open, Fixed}
use Rattle.laws.proofs.Parsers.{drop_byte, drop_end}
use Rattle.read_steps.specs.Parts.{operation_mapped, fixed, slow}

-- Maps that a step record may not have: other than 1 at step 0, and above 2 but for 5.
pub map_first : (m : ℕ) → (m ≡ 1 → ⊥) → operation_map true m ≡ false
unfolding operation_map
map_first m h = ne_eqb m 1 h

pub map_above : (first : Bool) (m : ℕ) → 2 < m → (m ≡ 5 → ⊥) → operation_map first m ≡ false
unfolding operation_map
map_above true m h other = ne_eqb m 1 (λ e. omega arith)
map_above false m h other = ap₂ (λ (s t : Bool). s || t) (lt-leb m 2 h) (ne_eqb m 5 other)

-- A step record: its map, and what comes after it.
pub operation_none : (s : List ℕ) (at : ℕ) (first : Bool) → length s ≤ at → operation first (drop at s) ≡ refused 1
unfolding operation byte when_given
operation_none s at first h = rw (drop_end s at h)

pub operation_there : (s : List ℕ) (at : ℕ) (first : Bool) → at < length s → operation first (drop at s) ≡ operation_mapped first (get_or s at 0) (drop (at + 1) s)
unfolding operation byte when_given operation_mapped
operation_there s at first h = rw (drop_byte s at h)

-- What comes after the map, by what that is.
module _ (t : List ℕ) where
  module _ (first : Bool) (m : ℕ) where
    pub mapped_refused : operation_map first m ≡ false → operation_mapped first m t ≡ refused 4
    unfolding operation_mapped demand when_given
    mapped_refused e = rw e

    pub mapped_open : m ≡ 1 → operation_mapped first m t ≡ given (record { value = record { delay = Open; least = None }; rest = t })
    unfolding operation_mapped demand ticks_if bound_from test_bit operation_map delay_from when_given
    mapped_open e = rw e (go first)
      where
        go : (first : Bool) → operation_mapped first 1 t ≡ given (record { value = record { delay = Open; least = None }; rest = t })
        go true = refl
        go false = refl

    -- A step other than 0.
    module _ (later : first ≡ false) where
      pub mapped_zero : m ≡ 0 → operation_mapped first m t ≡ given (record { value = record { delay = Fixed 0; least = None }; rest = t })
      unfolding operation_mapped demand ticks_if bound_from test_bit operation_map delay_from when_given
      mapped_zero e = rw (later, e)

      pub mapped_fixed : m ≡ 2 → operation_mapped first m t ≡ fixed t
      unfolding operation_mapped demand ticks_if bound_from test_bit operation_map delay_from when_given fixed
      mapped_fixed e = rw (later, e)

      pub mapped_slow : m ≡ 5 → operation_mapped first m t ≡ slow t
      unfolding operation_mapped demand ticks_if bound_from test_bit operation_map delay_from when_given slow
      mapped_slow e = rw (later, e)

  -- The number of ticks of a step that lasts a fixed time; and the least of an open one.
  pub fixed_there : {rest : List ℕ} {ticks : ℕ} → two_bytes t ≡ given (record { value = ticks; rest = rest }) → fixed t ≡ given (record { value = record { delay = Fixed ticks; least = None }; rest = rest })
  unfolding fixed when_given
  fixed_there there = rw there

  pub fixed_refused : {k : ℕ} → two_bytes t ≡ refused k → fixed t ≡ refused k
  unfolding fixed when_given
  fixed_refused not_there = rw not_there

  pub slow_there : {rest : List ℕ} {ticks : ℕ} → two_bytes t ≡ given (record { value = ticks; rest = rest }) → slow t ≡ given (record { value = record { delay = Open; least = Some ticks }; rest = rest })
  unfolding slow when_given
  slow_there there = rw there

  pub slow_refused : {k : ℕ} → two_bytes t ≡ refused k → slow t ≡ refused k
  unfolding slow when_given
  slow_refused not_there = rw not_there

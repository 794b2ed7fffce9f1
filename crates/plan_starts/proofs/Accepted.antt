-- What an accepted sheet gives to callers: its starts have 32 bits, for a list that is not refused. Assumes nothing.
use mathlib.Core.Path.{◌≡◌, ap}
use mathlib.Core.Bool.{false}
use mathlib.Core.List.{List}
use Prim.Native.Nat.{ℕ, ◌+◌, ◌-◌, ◌<◌, ◌≤◌}
use native.Mathlib.Omega.{arith}
use lib.ListN.{length}
use Rattle.definitions.specs.Limits.{most_gain, most_steps}
use Rattle.definitions.specs.Links.{Edge, least_at, members}
use Rattle.definitions.specs.Plan.{delays, delays_wrong, start_times}
use Rattle.definitions.specs.Rounds.{cell}
use Rattle.definitions.specs.Waits.{serialized}
use Rattle.definitions.specs.declared.Operation.{Operation}
use Rattle.theory.proofs.DelayLimits.{list_most, list_respects, source_zero}
use Rattle.theory.proofs.Extras.{start_times_extra}
use Rattle.plan_starts.specs.Times.{cut}
use Rattle.theory.specs.Graphs.{Gains, Leasts, Serializable, Well}
use Rattle.theory.proofs.Plans.{plan_lasting, plan_start_fits}

module _ (least : ℕ → ℕ) {n : ℕ} {es : List Edge} (well : Well n (members es)) (serial : Serializable (members (serialized n least es))) (leasts : Leasts least (members es)) (gains : Gains (members es) most_gain) (few : n ≤ most_steps) where
  -- A list of a sheet whose steps have these leasts.
  module _ (os : List Operation) (list : List ℕ) (long : length os ≡ n) (same : (a : ℕ) → a < n → least a ≡ least_at os a) (enough : n ≤ length list) (right : delays_wrong os list ≡ false) where
    -- Each entry is its least and an extra.
    abbrev extra : ℕ → ℕ
    extra a = delays list a - least a

    parts : (a : ℕ) → a < n → delays list a ≡ least a + extra a
    parts a b = omega (arith, same a b, list_respects os list right (omega arith) a (omega arith))

    source : delays list 0 ≡ 0
    source = source_zero os list (omega (arith, well.some)) right

    unlasting : least 0 ≡ 0
    unlasting = omega (arith, parts 0 well.some, source)

    -- No start is near 2 ^ 32: starts of durations are those of their extras.
    pub plan_starts_fit : (v : ℕ) → v < n → cell (start_times n least (serialized n least es) (delays list)) v < cut + 1
    plan_starts_fit v b =
        let L = plan_lasting least well serial leasts unlasting in
        omega (
          arith,
          ap (λ (l : List ℕ). cell l v) (start_times_extra least L.well L.posed L.leasts L.source (delays list) extra parts),
          plan_start_fits
              least
              well
              serial
              leasts
              gains
              few
              extra
              (omega (arith, source))
              (λ a c. omega (arith, list_most os list right a (omega arith)))
              v
              b,
        )

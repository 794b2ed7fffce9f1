-- The sweep over the steps: what is known once v of them have been looked at. Assumes nothing.
use mathlib.Core.Path.{◌≡◌, refl, sym, ap, ap₂, ◌∙◌}
use Rattle.std.specs.Prelude.{Ok}
use mathlib.Core.Bool.{true, false}
use mathlib.Core.List.{List}
use Prim.Native.Nat.{ℕ, suc, ◌+◌, ◌^◌, ◌≤◌, ◌<◌}
use native.Mathlib.Omega.{arith}
use native.Mathlib.Nat.{pow-suc}
use native.Mathlib.Numerals.{add-one}
use lib.Bits.{bit_or}
use lib.ListN.{set}
use lib.Pow.{pow_mono}
use Rattle.definitions.specs.Basics.{bits_below}
use Rattle.definitions.specs.Dispatcher.{ready, starting, start_ticks, sweep}
use Rattle.definitions.specs.declared.State.{State}
use Rattle.laws.proofs.Maps.{bits_below_lt}
use Rattle.run_release.specs.Sweeps.{Swept}

module _ (st : State) (table : List ℕ) where
  -- The steps below v have been looked at: the map and the start ticks are the definition's so far.
  pub record SweptBelow (start : List ℕ) (map v : ℕ) : Type 0 where
    pub map_is : map ≡ bits_below (ready st table) v
    pub start_is : start ≡ start_ticks st table v

module _ {st : State} {table : List ℕ} where
  -- None so far.
  pub swept_none : SweptBelow st table st.start 0 0
  unfolding bits_below start_ticks
  swept_none = record { map_is = refl; start_is = refl }

  -- A step that starts.
  pub swept_start : {start : List ℕ} {map v p : ℕ} → SweptBelow st table start map v → ready st table v ≡ true → p ≡ 2 ^ v → SweptBelow st table (set start v st.tick) (map + p) (v + 1)
  unfolding bits_below start_ticks
  swept_start {v = v} S r e =
      record { map_is = rw (add-one, r) (ap₂ (λ (x y : ℕ). x + y) S.map_is e); start_is = rw (add-one, r) (ap (λ (l : List ℕ). set l v st.tick) S.start_is) }

  -- One that does not.
  pub swept_over : {start : List ℕ} {map v : ℕ} → SweptBelow st table start map v → ready st table v ≡ false → SweptBelow st table start map (v + 1)
  unfolding bits_below start_ticks
  swept_over {v = v} S r =
      let e : bits_below (ready st table) v + 0 ≡ bits_below (ready st table) v = omega arith in
      record { map_is = rw (add-one, r) (S.map_is ∙ sym e); start_is = rw (add-one, r) S.start_is }

  -- The map so far is below 2 ^ v, so one bit more fits.
  pub swept_fits : {start : List ℕ} {map v p : ℕ} → SweptBelow st table start map v → v < st.n → st.n ≤ 64 → p ≡ 2 ^ v → map + p < 2 ^ 64
  swept_fits {map = map} {v} {p} S h k e =
      let m : 2 ^ suc v ≤ 2 ^ 64 = pow_mono (let l : suc v ≤ 64 = omega arith in l) in
      omega (arith, S.map_is, bits_below_lt (ready st table) v, pow-suc 2 v, m)

  -- All of them: the definition's map and start ticks.
  pub swept_all : {start : List ℕ} {map v : ℕ} → SweptBelow st table start map v → v ≤ st.n → st.n ≤ v → (map ≡ starting st table) × (start ≡ start_ticks st table st.n)
  unfolding starting
  swept_all {v = v} S w h =
      let e : v ≡ st.n = omega arith in
      (S.map_is ∙ ap (bits_below (ready st table)) e, S.start_is ∙ ap (start_ticks st table) e)

-- The sweep's map and start ticks, put into the state.
abbrev with_starts : State → ℕ → List ℕ → State
with_starts st map start = record { n = st.n; unbounded = st.unbounded; tick = st.tick; started = bit_or st.started map; finished = st.finished; start = start; finish = st.finish; least = st.least }

pub swept_now : (st : State) (table : List ℕ) {map : ℕ} {start : List ℕ} → map ≡ starting st table → start ≡ start_ticks st table st.n → Swept st table (record { status = (Ok tt); state = with_starts st map start; map = map })
unfolding sweep
swept_now st table m s = record { status = refl; state = ap₂ (with_starts st) m s; map = m }

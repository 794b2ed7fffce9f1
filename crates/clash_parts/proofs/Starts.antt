-- Where the words of one record begin: going back from its last word while the pair is the same.
use mathlib.Core.Path.{◌≡◌, sym, ap, ◌∙◌}
use mathlib.Core.Logic.{◌⊎◌, inl, inr, ◌≢◌}
use mathlib.Core.List.{List}
use Prim.Native.Nat.{ℕ, suc, ◌-◌, ◌≤◌, ◌<◌}
use native.Mathlib.Omega.{arith}
use Rattle.laws.proofs.Bools.{same_or_not}
use Rattle.clash_parts.specs.Words.{rank_at, Begins}

-- The loop's invariant: the words from `first` on, up to `end`, have this pair.
pub record Going (es : List ℕ) (end pair first : ℕ) : Type 0 where
  pub below : first < end
  pub same : (i : ℕ) → first ≤ i → i < end → rank_at es i ≡ pair

module _ (es : List ℕ) (end pair : ℕ) where
  -- It begins with the last word alone.
  pub going_last : 1 ≤ end → pair ≡ rank_at es (end - 1) → Going es end pair (end - 1)
  going_last some e = record { below = omega arith; same = λ i h b. let last : i ≡ end - 1 = omega arith in ap (rank_at es) last ∙ sym e }

  module _ (first : ℕ) (so : Going es end pair first) where
    begins : ((i : ℕ) → suc i ≡ first → rank_at es i ≢ pair) → Begins es end first
    begins other =
        let last = so.same (end - 1) (omega (arith, so.below)) (omega (arith, so.below)) in
        record { below = so.below; same = λ i h b. so.same i h b ∙ sym last; apart = λ i h e. other i h (e ∙ last) }

    -- The one before has it too, or another, or there is none. x is its pair.
    module _ (some : 0 < first) (x : ℕ) (read : x ≡ rank_at es (first - 1)) where
      pub going_more : x ≡ pair → Going es end pair (first - 1)
      going_more e = record { below = omega (arith, so.below); same = λ i h b. at i h b (same_or_not i (first - 1)) }
        where
          at : (i : ℕ) → first - 1 ≤ i → i < end → (i ≡ first - 1) ⊎ (i ≢ first - 1) → rank_at es i ≡ pair
          at i h b (inl this) = ap (rank_at es) this ∙ sym read ∙ e
          at i h b (inr other) = so.same i (omega arith) b

      pub going_stops : x ≢ pair → Begins es end first
      going_stops other = begins (λ i h e. let before : i ≡ first - 1 = omega arith in other (read ∙ ap (rank_at es) (sym before) ∙ e))

    pub going_ends : first ≡ 0 → Begins es end first
    going_ends none = begins (λ i h e. omega arith)

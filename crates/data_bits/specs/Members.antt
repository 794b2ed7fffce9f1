-- What is said of a map of 64 bits as a set of the numbers below 64.
use Rattle.std.specs.Prelude.{◌≡◌, ◌&&◌, not, eqb, true, false, ℕ, ◌<◌, Option, MatchOption}
use Rattle.definitions.specs.Basics.{test_bit}

-- k is the smallest member of m.
pub record Lowest (m k : ℕ) : Type 0 where
  pub below : k < 64
  pub member : test_bit m k ≡ true
  pub least : (j : ℕ) → j < k → test_bit m j ≡ false

-- k is the largest member of m.
pub record Highest (m k : ℕ) : Type 0 where
  pub below : k < 64
  pub member : test_bit m k ≡ true
  pub greatest : (j : ℕ) → k < j → test_bit m j ≡ false

-- The lowest member of m is k, and r is m without it; or m has none, and r neither.
abbrev pub NextMember : ℕ → Option ℕ → ℕ → Type 0
NextMember m o r = MatchOption o ((m ≡ 0) × (r ≡ 0)) (λ k. Lowest m k × ((j : ℕ) → test_bit r j ≡ (test_bit m j && not (eqb j k))))

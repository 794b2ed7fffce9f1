-- Counts over the numbers below n.
use Rattle.std.specs.Prelude.{Bool, cond, List, ℕ, get_or}
use Rattle.definitions.specs.Limits.{most_steps}
use Rattle.definitions.specs.Basics.{sum_below, test_bit}

-- How many numbers below n pass a test.
abbrev pub count_below : (ℕ → Bool) → ℕ → ℕ
count_below test n = sum_below (λ k. cond (test k) 1 0) n

-- How many bits stand in 64 maps of 64 bits.
abbrev pub standing_bits : List ℕ → ℕ
standing_bits maps = sum_below (λ i. count_below (test_bit (get_or maps i 0)) most_steps) most_steps

-- A relation between numbers below 64, held as 64 maps of bits: bit k of row v stands where k is related to v.
use Rattle.std.specs.Prelude.{◌≡◌, Bool, ◌&&◌, ◌||◌, List, ℕ, eqb, length, get_or}
use Rattle.definitions.specs.Basics.{any, test_bit}

abbrev pub row_bit : List ℕ → ℕ → ℕ → Bool
row_bit rows v k = test_bit (get_or rows v 0) k

-- The rows hold what a list says: bit k of row v stands where some element passes the test for v and k.
pub record Gathered {A : Type 0} (test : ℕ → ℕ → A → Bool) (xs : List A) (rows : List ℕ) : Type 0 where
  pub long : length rows ≡ 64
  pub bits : (v k : ℕ) → row_bit rows v k ≡ any (test v k) xs

-- The rows whose numbers are members of m have taken in v.
pub record Spread (m v : ℕ) (rows rows' : List ℕ) : Type 0 where
  pub long : length rows' ≡ length rows
  pub bits : (k w : ℕ) → row_bit rows' k w ≡ (row_bit rows k w || (test_bit m k && eqb w v))

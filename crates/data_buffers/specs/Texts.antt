-- What a writer leaves in a lent buffer, and texts one after the other.
use Rattle.std.specs.Prelude.{◌≡◌, List, [], ◌++◌, ℕ, zero, suc, ◌+◌, length, take, drop}

-- A list with a text written over it from position at on; all else stays.
unfoldable pub overlay : {A : Type 0} → List A → ℕ → List A → List A
overlay old at text = take at old ++ text ++ drop (at + length text) old

-- A writer's promise: the text stands at position at, and the next position is behind it.
pub record Put (text : List ℕ) (at next : ℕ) (old new : List ℕ) : Type 0 where
  pub behind : next ≡ at + length text
  pub bytes : new ≡ overlay old at text

-- The texts of the numbers below n, one after the other.
unfoldable pub texts : (ℕ → List ℕ) → ℕ → List ℕ
texts f zero = []
texts f (suc n) = texts f n ++ f n

-- What the programs print: a verdict that is given by its number, and the text of an input.
use Rattle.std.specs.Prelude.{◌≡◌, ℕ, ◌-◌, ◌≤◌, cond, ltb, length, take, List, ◌∷◌, ◌++◌, codes, decimal, Option}
use Rattle.std.specs.Io.KnownBytes.{Consumes}
use Rattle.std.specs.Fn.{Shared}
use denote.Ref.{Bor, MutBor}

-- A space, then the number below 256, else `refused` and the refusal's.
abbrev pub code_text : ℕ → List ℕ
code_text code = cond (ltb code 256) (32 ∷ decimal code) (codes " refused" ++ 32 ∷ decimal (code - 256))

-- What was taken of an input stands at the front of a buffer, so that none of it is lost.
abbrev pub TakenToFront : Option (List ℕ) → Option (List ℕ) → List ℕ → Type 0
TakenToFront old new buffer = (n : ℕ) × (n ≤ length buffer) × Consumes old new (take n buffer)

-- A formatter: it may be called with a buffer of that room, and says an end within it.
module _ {F : Type 0} (g : Shared F (Bor (List ℕ) × (MutBor (List ℕ) × Unit {0})) (ℕ × (MutBor (List ℕ) × Unit {0}))) (f : F) (room : ℕ) where
  pub record FitsIn : Type 0 where
    pub callable : (s : Bor (List ℕ)) (out : MutBor (List ℕ)) → length out.now ≡ room → g.pre f (s, (out, tt))
    pub within : (s : Bor (List ℕ)) (out left : MutBor (List ℕ)) (n : ℕ) → length out.now ≡ room → g.post f (s, (out, tt)) (n, (left, tt)) → n ≤ length left.now

  -- Before that end it leaves the text of its bytes.
  pub record Formats (form : List ℕ → List ℕ) : Type 0 where
    pub gives : (s : Bor (List ℕ)) (out left : MutBor (List ℕ)) (n : ℕ) → length out.now ≡ room → g.post f (s, (out, tt)) (n, (left, tt)) → take n left.now ≡ form s.now

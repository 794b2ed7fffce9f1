-- A test that says when a property holds says when it does not.
use mathlib.Core.Path.{◌≡◌, refl}
use mathlib.Core.Bool.{Bool, true, false}
use mathlib.Core.Logic.{◌↔◌}
use Rattle.laws.proofs.Bools.{both_ways, not_passing}

-- A test that passes exactly if P holds fails exactly if P does not; and the other way round. By the test's value.
pub fails_unless : {P : Type 0} (b : Bool) → ((b ≡ true) ↔ P) → (b ≡ false) ↔ (¬ P)
fails_unless b r = (λ h p. both_ways (r.1 p) h, λ f. not_passing b (λ h. f (r.0 h)))

pub passes_unless : {P : Type 0} (b : Bool) → ((b ≡ false) ↔ P) → (b ≡ true) ↔ (¬ P)
passes_unless {P} b r = (λ h p. both_ways h (r.1 p), λ f. go b r f)
  where
    go : (b : Bool) → ((b ≡ false) ↔ P) → ¬ P → b ≡ true
    go true r f = refl
    go false r f = absurd (f (r.0 refl))

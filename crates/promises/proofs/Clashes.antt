-- What is promised of the records that clash holds of what the call returns: its contract is an equation with the definition of which the crate demands proves it.
use mathlib.Core.Path.{◌≡◌, sym, ap, subst, ◌∙◌}
use mathlib.Core.Logic.{◌↔◌}
use mathlib.Core.List.{List}
use Prim.Native.Nat.{ℕ}
use lib.ListN.{drop, length, take}
use lib.Seq.{drop_at, take_at}
use Rattle.definitions.specs.Basics.{Outcome, refused}
use Rattle.definitions.specs.Clashes.{few, few_answer}
use Rattle.definitions.specs.Numbers.{tally_of}
use Rattle.demands.specs.Clashes.{FewFor}
use Rattle.demands.proofs.Demands.{few_clash, few_exactly}
use Rattle.promises.specs.Clashes.{FewIsThat, FewRefusalsKeep}

-- An answer that equals the definition's is refused exactly where that is.
same_refused : {o p : Outcome ℕ} {P : Type 0} {k : ℕ} → o ≡ p → (p ≡ refused k) ↔ P → (o ≡ refused k) ↔ P
same_refused e h = (λ f. h.0 (sym e ∙ f), λ x. e ∙ h.1 x)

pub few_is_that : FewIsThat
few_is_that s q list r after sheet returned =
    let call = few_exactly.sheets s list q sheet in
    record {
      reported = λ k h.
          let answer = sym returned.tally ∙ h in
          let met = (call.reported k).0 answer in
          let numbers = returned.numbers ∙ call.numbers k answer in
          let front = ap (take k) numbers ∙ take_at (few q) (drop (length (few q)) list) k (sym met.2) in
          let rest = ap (drop k) numbers ∙ drop_at (few q) (drop (length (few q)) list) k (sym met.2) ∙ ap (λ (j : ℕ). drop j list) (sym met.2) in
          record { impossible = met.1; within = met.3; report = front; clash = subst (FewFor q) (sym front) (few_clash s q met.0 met.1); rest = rest };
      refused_8 = same_refused returned.tally call.refused_8;
      refused_31 = same_refused returned.tally call.refused_31;
      refused_14 = same_refused returned.tally call.refused_14;
    }

pub few_refusals_keep : FewRefusalsKeep
few_refusals_keep s list r after k returned h = returned.numbers ∙ few_exactly.untouched s list k (sym returned.tally ∙ h)

-- What a sheet gives to begin a run with is what a run of it is begun with: by the definitions of the three parts.
use mathlib.Core.Path.{◌≡◌, refl, sym, ap, subst, ◌∙◌}
use mathlib.Core.Bool.{Bool, true, ◌&&◌, false≢true}
use mathlib.Core.Logic.{◌↔◌}
use mathlib.Core.List.{List}
use Prim.Native.Nat.{ℕ, ◌<◌}
use native.Mathlib.Omega.{arith}
use lib.ListN.{drop, length-append}
use borrow.Author.Tests.{lt-ltb}
use Rattle.definitions.specs.Answers.{Beginning, beginning, count_of, leasts_of, open_map, steps_answer, steps_read, too_short}
use Rattle.definitions.specs.Basics.{given, tabulate, test_bit}
use Rattle.definitions.specs.Bytes.{Records}
use Rattle.definitions.specs.Links.{delay_at, is_open}
use Rattle.definitions.specs.declared.Delay.{Delay}
use Rattle.definitions.specs.declared.Delay.TheVariants.{Open, Fixed}
use Rattle.laws.proofs.Fronts.{laid_at}
use Rattle.laws.proofs.Maps.{test_bits_below}
use Rattle.laws.proofs.Outcomes.{given_same, refuse_given, when_given_by}
use Rattle.laws.proofs.Tests.{tabulate_length}
use Rattle.demands.specs.Demands.{IsSheet}
use Rattle.certificates.specs.Runs.{IsOpenMap, AreLeasts, BeginsRun, begins}

pub is_open_iff : (x : Delay) → (is_open x ≡ true) ↔ (x ≡ Open)
unfolding is_open
is_open_iff Open = (λ h. refl, λ h. refl)
is_open_iff (Fixed x) = (λ h. absurd (false≢true h), λ h. let c : ◌≡◌ {A = ℕ} 0 1 = cc in absurd (omega arith))

module _ (q : Records) where
  -- Below N the map says of each step whether it is open.
  map_of : IsOpenMap q (open_map q.steps)
  unfolding open_map
  map_of = record { stands = λ i z b. let r = is_open_iff (delay_at q.steps i) in (λ h. r.0 (sym (same i b) ∙ h), λ h. same i b ∙ r.1 h) }
    where
      same : (i : ℕ) → i < count_of q → test_bit (open_map q.steps) i ≡ is_open (delay_at q.steps i)
      same i b = test_bits_below (λ i. is_open (delay_at q.steps i)) (count_of q) i ∙ ap (λ (t : Bool). t && is_open (delay_at q.steps i)) (lt-ltb i (count_of q) b)

  -- The first N numbers are the leasts.
  leasts_laid : (lent : List ℕ) → AreLeasts q (beginning q lent).leasts
  unfolding beginning
  leasts_laid lent = record {
    long = omega (arith, length-append (tabulate (leasts_of q) (count_of q)) (drop (count_of q) lent), tabulate_length (leasts_of q) (count_of q));
    each = λ i b. laid_at (leasts_of q) (count_of q) lent i 0 b;
  }

  begins_with : (lent : List ℕ) → BeginsRun q (beginning q lent)
  unfolding beginning
  begins_with lent = record {
    count = refl;
    open_map = map_of;
    leasts = leasts_laid lent;
    run = λ before table g t e. begins before _ _ table g map_of (leasts_laid lent) t e refl;
  }

-- The sheet was read, and enough is lent.
pub begins_run : {s : List ℕ} {q : Records} → IsSheet s q → (lent : List ℕ) (b : Beginning) → steps_answer s lent ≡ given b → BeginsRun q b
unfolding steps_answer steps_read
begins_run {s} {q} sheet lent b e =
    let answer = sym (when_given_by (λ q. steps_read q lent) sheet.reads) ∙ e in
    subst (BeginsRun q) (given_same ((refuse_given (too_short lent (count_of q)) 14 (given (beginning q lent)) b).0 answer).1) (begins_with q lent)

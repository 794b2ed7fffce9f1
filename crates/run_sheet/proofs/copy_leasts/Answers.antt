-- The part that is copied is the table of the first n leasts.
use mathlib.Core.Path.{◌≡◌, sym, ap, ◌∙◌}
use mathlib.Core.List.{List, ◌++◌}
use Prim.Native.Nat.{ℕ}
use native.Mathlib.Omega.{arith}
use lib.ListN.{length, take, drop}
use Rattle.std.proofs.Common.{length-take, get_or-take}
use Rattle.definitions.specs.Basics.{tabulate}
use Rattle.laws.proofs.Fronts.{tabulate_list}
use Rattle.data_edges.specs.Serial.{leasts_in}
use Rattle.run_sheet.proofs.copy_leasts.Goals as goal

pub returns : goal.returns
returns c =
    let a = c.args in
    let held = a.held.now in
    let long : length (take a.n held) ≡ a.n = simp length-take (omega arith) in
    let table : tabulate (leasts_in held) a.n ≡ take a.n held = tabulate_list (take a.n held) (leasts_in held) a.n 0 long (λ i b. sym (get_or-take a.n held i 0 b)) in
    ap (λ (front : List ℕ). front ++ drop a.n a.leasts.now) (c.copy_from_slice.ensures.after ∙ sym table)

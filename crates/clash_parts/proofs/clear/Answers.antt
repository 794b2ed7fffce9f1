use mathlib.Core.Path.{ap, ◌∙◌}
use mathlib.Core.List.{List}
use Prim.Native.Nat.{ℕ}
use native.Mathlib.Omega.{arith}
use lib.ListN.{drop, get_or, get_or-append, length-take}
use Rattle.laws.proofs.Lists.{zeros_at}
use Rattle.clash_parts.proofs.clear.Goals as goal

pub returns : goal.returns
returns c u b =
    let lists = c.args.lists.now in
    get_or-append c.fill.new.self (drop 64 lists) 0 u (omega (arith, c.fill.ensures.len, length-take 64 lists))
    ∙ ap (λ (l : List ℕ). get_or l u 0) (c.fill.ensures.after (λ y h. h))
    ∙ zeros_at _ u

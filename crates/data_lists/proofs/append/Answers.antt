-- `data_lists::append` meets its contract: a return keeps the place that it was put into, another edge does not.
use mathlib.Core.Path.{refl, sym, ◌∙◌}
use Prim.Native.Nat.{◌+◌}
use Rattle.laws.proofs.Bools.{cond_false, cond_true}
use Rattle.data_lists.proofs.append.Goals as goal

pub returns-then-is_back : goal.returns-then-is_back
returns-then-is_back c =
    record { put = refl; next = sym (cond_true (c.args.at + 1) c.args.at (sym c.is_back.ensures ∙ c.if-is_back.true)) }

pub returns : goal.returns
returns c =
    record { put = refl; next = sym (cond_false (c.args.at + 1) c.args.at (sym c.is_back.ensures ∙ c.if-is_back.false)) }

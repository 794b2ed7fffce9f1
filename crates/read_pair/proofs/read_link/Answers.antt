-- The map is judged first; `link_there` is the definition from the pair on.
use mathlib.Core.Path.{◌≡◌, sym, ap, ◌∙◌}
use Prim.Native.Nat.{◌+◌}
use native.Mathlib.Omega.{arith}
use lib.ListN.{get_or, drop}
use Rattle.definitions.specs.Basics.{refused}
use Rattle.read_pair.specs.Answers.{PairReads}
use Rattle.read_pair.specs.Parts.{link_pair}
use Rattle.read_pair.proofs.Parts.{link_none, link_refused, link_there}
use Rattle.read_pair.proofs.read_link.Goals as goal

pub returns-then-s-at : goal.returns-then-s-at
returns-then-s-at c previous ranked = record { same = sym (link_none _ _ _ _ c.if-s-at.true); inside = tt }

pub returns-then-not-map_allowed : goal.returns-then-not-map_allowed
returns-then-not-map_allowed c previous ranked =
    record { same = ap refused c.map_fault.ensures ∙ sym (link_refused _ _ c.args.s.now _ (omega arith) (sym c.map_allowed.ensures ∙ c.if-not-map_allowed.true)); inside = tt }

pub returns : goal.returns
returns c previous ranked =
    let a = c.args in
    let three : a.at + 1 + 2 ≡ a.at + 3 = omega arith in
    let found : PairReads a.s.now (a.at + 3) a.n (link_pair a.n previous (get_or a.s.now a.at 0) (drop (a.at + 1) a.s.now)) c.read_pair.result = rw three at (c.read_pair.ensures previous ranked) in
    record { same = found.same ∙ sym (link_there _ _ a.s.now _ (omega arith) (sym c.map_allowed.ensures ∙ c.if-not-map_allowed.false)); inside = found.inside }

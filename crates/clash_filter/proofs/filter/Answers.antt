use borrow.Author.Rules.{rules}
use Prim.Native.Nat.{◌-◌}
use native.Mathlib.Omega.{arith}
use Rattle.laws.proofs.Parsers.{part_rest}
use Rattle.clash_filter.proofs.Working.{working_begins, working_ends, working_triable, working_dropped, working_kept, working_done}
use Rattle.clash_filter.proofs.filter.Goals as goal

pub loop-k-init : goal.loop-k-init
loop-k-init c = working_begins _ _ _ _ _ _ _ c.requires.0 c.requires.1

pub record_start-first-requires : goal.record_start-first-requires
record_start-first-requires c =
    working_ends _ _ _ _ c.requires.0 _ _ _ _ _ _ _ _ c.loop-k.invariant c.loop-k-test.true

pub impossible_with-requires : goal.impossible_with-requires
impossible_with-requires c =
    working_triable _ _ _ _ c.requires.0 _ _ _ _ _ _ _ _ c.loop-k.invariant c.loop-k-test.true _ c.record_start-first.ensures _ (part_rest c.loop-k.kept c.loop-k.back)

pub loop-k-preserved-then-not-impossible_with : goal.loop-k-preserved-then-not-impossible_with
loop-k-preserved-then-not-impossible_with c =
    working_kept _ _ _ _ c.requires.0 _ _ _ _ _ _ _ _ c.loop-k.invariant c.loop-k-test.true _ c.record_start-first.ensures _ (part_rest c.loop-k.kept c.loop-k.back) _ _ _ c.impossible_with.ensures (search rules) (search rules) _ c.put.ensures c.if-not-impossible_with.true

pub loop-k-preserved : goal.loop-k-preserved
loop-k-preserved c =
    working_dropped _ _ _ _ c.requires.0 _ _ _ _ _ _ _ _ c.loop-k.invariant c.loop-k-test.true _ c.record_start-first.ensures _ (part_rest c.loop-k.kept c.loop-k.back) _ _ _ c.impossible_with.ensures (search rules) (search rules) c.if-not-impossible_with.false

pub returns : goal.returns
returns c = working_done _ _ _ _ _ _ _ _ _ _ _ (omega arith) c.loop-k.invariant

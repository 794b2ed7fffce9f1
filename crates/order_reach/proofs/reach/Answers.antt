use native.Mathlib.Omega.{arith}
use mathlib.Core.Bool.{true≢false}
use Rattle.order_reach.proofs.Returning.{stripped_still}
use Rattle.order_reach.proofs.Searching.{searched_end, searched_more, searched_rest, searched_start}
use Rattle.order_reach.proofs.reach.Goals as goal

pub loop-done-init : goal.loop-done-init
loop-done-init c =
    let h = c.push_returns-marks.ensures in
    (h.long, λ sets. searched_start _ _ _ _ _ _ sets c.strip.ensures h)

pub returns-then-marks-eq0 : goal.returns-then-marks-eq0
returns-then-marks-eq0 c =
    let h = c.push_returns-marks.ensures in
    let start = c.strip.ensures in
    record {
      walks = λ sets. searched_rest _ _ 0 _ _ h.long c.if-marks-eq0.true (searched_start _ _ _ _ _ _ sets start h);
      nothing_new = λ new. stripped_still _ _ _ _ _ h.long c.if-marks-eq0.true h.marked start;
    }

pub returns-then-marks-eq0-2 : goal.returns-then-marks-eq0-2
returns-then-marks-eq0-2 c = record {
  walks = λ sets. searched_rest _ _ _ _ _ c.loop-done.invariant.0 c.if-marks-eq0-2.true (c.loop-done.invariant.1 sets);
  nothing_new = λ new. absurd (true≢false new);
}

pub loop-done-preserved : goal.loop-done-preserved
loop-done-preserved c = (c.carry-marks.ensures.long, λ sets. searched_more _ _ _ _ _ _ _ c.carry-marks.ensures (c.loop-done.invariant.1 sets))

pub returns : goal.returns
returns c = record {
  walks = λ sets. searched_end _ _ _ _ _ c.loop-done.invariant.0 (omega arith) (c.loop-done.invariant.1 sets);
  nothing_new = λ new. absurd (true≢false new);
}

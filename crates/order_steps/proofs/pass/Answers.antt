-- A turn tries the member that it takes out.
use Rattle.std.proofs.Common.{rules, arith, ◌≡◌}
use Rattle.order_steps.proofs.Placing.{passing_end, passing_more, passing_start, placing_room}
use Rattle.order_steps.proofs.pass.Goals as goal

pub loop-u-init : goal.loop-u-init
loop-u-init c = let e : c.into_iter-u-iterator.result.left ≡ c.args.front.left = search rules in rw e (passing_start c.requires.1)

pub place-after-requires : goal.place-after-requires
place-after-requires c =
    let low = c.in-Some.ensures.steps.0 in
    let P = c.loop-u.invariant in
    let room = placing_room c.in-Some.u P.placing (P.untried c.in-Some.u low.member) in
    record { long = P.placing.long; step = low.below; place = omega (arith, room, c.requires.0) }

pub loop-u-preserved : goal.loop-u-preserved
loop-u-preserved c = passing_more c.in-Some.u c.next.new.self.left c.requires.0 c.loop-u.invariant c.in-Some.ensures.steps.0.member c.in-Some.ensures.steps.1 c.place-after.ensures

pub returns : goal.returns
returns c = passing_end c.in-None.ensures.steps.0 c.loop-u.invariant

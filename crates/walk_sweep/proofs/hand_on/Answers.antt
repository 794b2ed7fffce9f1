-- `walk_sweep::hand_on` meets its contract: a step without a mark has nothing to hand on; one with a mark loses it, and its row goes along its edges and to what waits for it.
use mathlib.Core.Path.{sym, ap, ◌∙◌}
use native.Mathlib.Omega.{arith}
use Rattle.definitions.specs.Basics.{test_bit}
use Rattle.data_edges.specs.Serial.{leasts_in}
use Rattle.walk_cells.proofs.Tables.{square_own}
use Rattle.walk_sweep.proofs.Sweeping.{swept_none, visited}
use Rattle.walk_sweep.proofs.hand_on.Goals as goal

pub returns-then-not-has : goal.returns-then-not-has
returns-then-not-has c =
    (swept_none c.requires.network.linked.square (λ v o. ap (test_bit c.args.marks) o ∙ sym c.has.ensures ∙ c.if-not-has.true), c.requires.long)

pub extent-own-requires : goal.extent-own-requires
extent-own-requires c = record { few = c.requires.few; long = c.requires.network.linked.square.cells c.args.u c.requires.inside }

pub take-top-requires : goal.take-top-requires
take-top-requires c =
    (record { target = record { row = c.requires.inside; few = c.extent-own.ensures.0.fits; square = c.requires.network.linked.square }; low = λ k. c.requires.held.most c.args.u k; long = c.requires.long }, c.extent-own.ensures.1)

pub push_row-left-requires : goal.push_row-left-requires
push_row-left-requires c =
    let p = c.requires in
    record { below = p.below; few = c.extent-own.ensures.0.fits; linked = p.network.linked; ready = c.take-top.ensures.ready }

pub push_waits-requires : goal.push_waits-requires
push_waits-requires c =
    let S = c.push_row-left.ensures.square in
    record { few = c.extent-own.ensures.0.fits; inside = λ i h. omega (arith, c.requires.network.waits c.args.u i h, S.rows); square = square_own S; movable = c.take-top.ensures.ready.movable }

pub returns : goal.returns
returns c =
    let took = c.take-top.ensures in
    (visited _ (leasts_in c.args.leasts.now) c.args.waiting.now _ _ _ _ _ _ _ _ _ _ _ _ _ c.extent-own.ensures.0 took c.remove-rest.ensures c.push_row-left.ensures (c.push_waits.ensures _ _), took.ready.movable.long)

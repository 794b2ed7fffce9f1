use Rattle.std.proofs.Common.{rules, arith, ◌≡◌}
use mir.Facts.{to_z-of_z}
use mir.Syntax.{w32}
use mir.Val.{SFits}
use borrow.Author.Rules.{sfits_of}
use Rattle.data_edges.specs.Serial.{leasts_in}
use Rattle.walk_cells.proofs.Tables.{square_own}
use Rattle.walk_seed.proofs.Numbering.{still_left}
use Rattle.walk_seed.proofs.Seeding.{passed_end, passed_more, passed_start, stored_cell}
use Rattle.walk_seed.proofs.seed_row.Goals as goal

pub loop-a-init : goal.loop-a-init
loop-a-init c = let e : c.into_iter-a-iterator.result.left ≡ c.args.map = search rules in rw e (λ j h. h, passed_start _ _ _ _ _ c.requires.1)

pub loop-a-preserved : goal.loop-a-preserved
loop-a-preserved c =
    let low = c.in-Some.ensures.steps.0 in
    let leaves = c.in-Some.ensures.steps.1 in
    let k = c.place-k in
    let least = c.of_least in
    let fits : SFits w32 least.result = sfits_of least.type_inv in
    let S = c.loop-a.invariant.1.square in
    let stored = stored_cell c.args.v k.result least.result c.loop-a.d (square_own S) (omega (arith, c.requires.0, S.rows)) k.ensures.1 in (
      λ j h. c.loop-a.invariant.0 j (still_left c.loop-a.a-iterator.left c.next.new.self.left c.in-Some.a leaves j h).0,
      rw (to_z-of_z fits) (passed_more (leasts_in c.args.leasts.now) c.args.number.now c.args.v c.args.map c.loop-a.a-iterator.left c.next.new.self.left c.in-Some.a k.result least.result low.below (c.loop-a.invariant.0 _ low.member) low.member leaves k.ensures.0 least.ensures.0 (omega (arith, least.ensures.1)) c.loop-a.invariant.1 stored),
    )

pub shape_of-d : goal.shape_of-d
shape_of-d c = c.loop-a.invariant.1.square.rows

pub returns : goal.returns
returns c = passed_end _ _ _ _ _ c.in-None.ensures.steps.0 c.loop-a.invariant.1

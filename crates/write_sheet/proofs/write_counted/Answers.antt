-- What the parts show decides 4, 26 and 5; their cells 6; the counts 14; and then the sheet is written.
use mathlib.Core.Path.{refl}
use lib.ListN.{replicate}
use native.Mathlib.Omega.{arith}
use Rattle.std.proofs.lemmas.Result.{err_from_is_err_and}
use Rattle.write_sheet.proofs.Verdicts.{leaves_refused, parts_refused}
use Rattle.write_sheet.proofs.Whole.{Faultless, ready, verdict_fewer_links, verdict_fewer_steps, verdict_twice, whole_left, whole_ready}
use Rattle.write_sheet.proofs.write_counted.Goals as goal
use Rattle.write_sheet.proofs.write_counted.Goals.{In_ok-fault}

-- No fault before 6.
faultless : (c : In_ok-fault) → Faultless c.args.n c.args.a c.args.r c.args.b c.args.steps c.args.links c.scan_links-seen.new.cells c.scan_steps-found.result c.scan_links-seen.result
faultless c = record {
  counts = c.requires;
  all_steps = omega arith;
  all_links = omega arith;
  blank = replicate 512 0;
  steps_seen = c.scan_steps-found.ensures;
  links_seen = c.scan_links-seen.ensures;
  none = c.in_ok-fault.ensures;
}

pub returns-in_err-fault : goal.returns-in_err-fault
returns-in_err-fault c =
    let p = err_from_is_err_and c.from_residual.result c.from_residual.ensures.1 in
    rw (p.1, p.2) (leaves_refused (parts_refused _ _ _ c.scan_steps-found.ensures c.scan_links-seen.ensures.shown (c.in_err-fault.ensures)))

pub order_cells-requires : goal.order_cells-requires
order_cells-requires c = ready (faultless (goal.at.order_cells-requires c).In_ok-fault) refl

pub returns-then-order_cells : goal.returns-then-order_cells
returns-then-order_cells c =
    leaves_refused (verdict_twice (faultless (goal.at.returns-then-order_cells c).In_ok-fault) c.order_cells.ensures _ c.if-order_cells.true)

pub returns-then-a-n : goal.returns-then-a-n
returns-then-a-n c =
    leaves_refused (verdict_fewer_steps (faultless (goal.at.returns-then-a-n c).In_ok-fault) c.order_cells.ensures c.if-order_cells.false _ c.if-a-n.true)

pub returns-then-b-r : goal.returns-then-b-r
returns-then-b-r c =
    leaves_refused (verdict_fewer_links (faultless (goal.at.returns-then-b-r c).In_ok-fault) c.order_cells.ensures c.if-order_cells.false _ c.if-b-r.true)

pub write_whole-requires : goal.write_whole-requires
write_whole-requires c =
    whole_ready (faultless (goal.at.write_whole-requires c).In_ok-fault) c.order_cells.ensures c.if-order_cells.false c.if-a-n.false c.if-b-r.false refl

pub returns : goal.returns
returns c =
    whole_left (faultless (goal.at.returns c).In_ok-fault) c.order_cells.ensures c.if-order_cells.false c.if-a-n.false c.if-b-r.false c.write_whole.ensures

-- What planning refuses is refused; else the plan that it leaves is priced, with the N and the open map that a run of the sheet is begun with.
use Rattle.std.proofs.Common.{refl}
use Rattle.std.specs.Prelude.{Ok}
use Prim.Native.Nat.{◌*◌}
use native.Mathlib.Omega.{arith}
use Rattle.definitions.specs.Numbers.{verdict_of}
use Rattle.std.proofs.lemmas.Result.{err_from_is_err_and}
use Rattle.read_sheet.proofs.Whole.{bytes_by}
use Rattle.price_sheet.proofs.Sheets.{Held, count_is, accepts, front_length, holds, map_is, plan_room, plan_small, quotes_sheet, quotes_unread}
use borrow.Author.Rules.{rules}
use Rattle.price_sheet.proofs.quote.Goals as goal

pub returns-in_err-acceptance : goal.returns-in_err-acceptance
returns-in_err-acceptance c =
    let bytes = bytes_by c.args.s.now (λ i. omega (arith, c.type_inv.s i)) in
    let p = err_from_is_err_and c.from_residual.result c.from_residual.ensures.1 in
    rw (p.1, p.2)
    (quotes_unread c.args.s.now bytes _ _ (search rules) _ _ _ _ _ _ (rw c.in_err-acceptance.was at c.answer-found.ensures.verdict))

pub overflow_mul-size : goal.overflow_mul-size
overflow_mul-size c =
    let h : Held c.args.s.now c.args.allow (verdict_of (Ok c.in_ok-acceptance.acceptance)) c.answer-found.new.out =
    holds c.args.s.now (bytes_by c.args.s.now (λ i. omega (arith, c.type_inv.s i))) _ _ (search rules) _ (rw c.in_ok-acceptance.was at c.answer-found.ensures.verdict) (accepts c.in_ok-acceptance.acceptance) c.answer-found.ensures.numbers
    in
    omega (arith, plan_small h (search rules) c.steps.ensures)

pub slice_bounds-table-end : goal.slice_bounds-table-end
slice_bounds-table-end c =
    let h : Held c.args.s.now c.args.allow (verdict_of (Ok c.in_ok-acceptance.acceptance)) c.answer-found.new.out =
    holds c.args.s.now (bytes_by c.args.s.now (λ i. omega (arith, c.type_inv.s i))) _ _ (search rules) _ (rw c.in_ok-acceptance.was at c.answer-found.ensures.verdict) (accepts c.in_ok-acceptance.acceptance) c.answer-found.ensures.numbers
    in
    plan_room h (search rules) c.steps.ensures

pub slice_bounds-quote_plan-end : goal.slice_bounds-quote_plan-end
slice_bounds-quote_plan-end c =
    let h : Held c.args.s.now c.args.allow (verdict_of (Ok c.in_ok-acceptance.acceptance)) c.answer-found.new.out =
    holds c.args.s.now (bytes_by c.args.s.now (λ i. omega (arith, c.type_inv.s i))) _ _ (search rules) _ (rw c.in_ok-acceptance.was at c.answer-found.ensures.verdict) (accepts c.in_ok-acceptance.acceptance) c.answer-found.ensures.numbers
    in
    front_length _ _ (plan_room h (search rules) c.steps.ensures)

pub quote_plan-requires : goal.quote_plan-requires
quote_plan-requires c =
    let h : Held c.args.s.now c.args.allow (verdict_of (Ok c.in_ok-acceptance.acceptance)) c.answer-found.new.out =
    holds c.args.s.now (bytes_by c.args.s.now (λ i. omega (arith, c.type_inv.s i))) _ _ (search rules) _ (rw c.in_ok-acceptance.was at c.answer-found.ensures.verdict) (accepts c.in_ok-acceptance.acceptance) c.answer-found.ensures.numbers
    in
    record { few = omega (arith, count_is h (search rules) c.steps.ensures, h.few); long = omega (arith, front_length (c.steps.new.n * c.steps.new.n) c.answer-found.new.out (plan_room h (search rules) c.steps.ensures)) }

pub returns : goal.returns
returns c =
    let h : Held c.args.s.now c.args.allow (verdict_of (Ok c.in_ok-acceptance.acceptance)) c.answer-found.new.out =
    holds c.args.s.now (bytes_by c.args.s.now (λ i. omega (arith, c.type_inv.s i))) _ _ (search rules) _ (rw c.in_ok-acceptance.was at c.answer-found.ensures.verdict) (accepts c.in_ok-acceptance.acceptance) c.answer-found.ensures.numbers
    in
    quotes_sheet h _ _ _ (count_is h (search rules) c.steps.ensures) (map_is h (search rules) c.steps.ensures) refl (c.quote_plan.ensures h.value h.verdict)

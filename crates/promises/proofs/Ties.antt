-- The contracts are tied to the promises: what each function's own contract says of its arguments a, its result r and what is lent at its exit x, as the toolchain reads it from the source (`Post`), is the record that the promises are made of.
-- And it asks nothing of its caller (`Pre`). A contract that says less, no longer cites the record, or asks for something breaks this file.
use contract.Lifetimes.{Lfts}
use borrow.Fn.Kinds.{Dens, ended_of, res_t}
use denote.Triple.Clauses.{AtExit}
use Rattle.plan_answer.specs.Returned.{JudgeReturned, PlanReturned, StartsReturned, WaitsReturned}
use Rattle.judge_sheet.proofs.judge.Kinds as judge
use Rattle.judge_sheet.proofs.judge.Reads as judge-says
use Rattle.judge_sheet.proofs.waits.Kinds as waits
use Rattle.judge_sheet.proofs.waits.Reads as waits-says
use Rattle.plan_sheet.proofs.plan.Kinds as plan
use Rattle.plan_sheet.proofs.plan.Reads as plan-says
use Rattle.plan_times.proofs.starts.Kinds as starts
use Rattle.plan_times.proofs.starts.Reads as starts-says
use Rattle.run_calls.specs.Calls.{BeginReturned, FinishReturned, TickReturned}
use Rattle.run_calls.proofs.begin.Kinds as begin
use Rattle.run_calls.proofs.begin.Reads as begin-says
use Rattle.run_calls.proofs.tick.Kinds as tick
use Rattle.run_calls.proofs.tick.Reads as tick-says
use Rattle.run_calls.proofs.finish.Kinds as finish
use Rattle.run_calls.proofs.finish.Reads as finish-says
use Rattle.clash_sheet.specs.Reports.{FewReturned}
use Rattle.clash_sheet.proofs.clashes.Kinds as clashes
use Rattle.clash_sheet.proofs.clashes.Reads as clashes-says
use Rattle.price_sheet.specs.Returned.{PriceReturned}
use Rattle.price_sheet.proofs.price.Kinds as price
use Rattle.price_sheet.proofs.price.Reads as price-says
use Rattle.run_sheet.specs.Steps.{StepsReturned, memory}
use Rattle.run_sheet.proofs.steps.Kinds as steps
use Rattle.run_sheet.proofs.steps.Reads as steps-says
use Rattle.write_sheet.specs.Written.{Wrote}
use Rattle.write_sheet.proofs.write.Kinds as write
use Rattle.write_sheet.proofs.write.Reads as write-says

judge_tied : (κs : Lfts 1) (a : Dens κs judge.ps) (r : (res_t judge.r κs).Denot) (x : AtExit (ended_of 1 judge.ps judge.r) κs) → judge-says.Post κs a r x → JudgeReturned a.0.now a.1.0 r
judge_tied κs a r x p = p

waits_tied : (κs : Lfts 1) (a : Dens κs waits.ps) (r : (res_t waits.r κs).Denot) (x : AtExit (ended_of 1 waits.ps waits.r) κs) → waits-says.Post κs a r x → WaitsReturned a.0.now r
waits_tied κs a r x p = p

plan_tied : (κs : Lfts 2) (a : Dens κs plan.ps) (r : (res_t plan.r κs).Denot) (x : AtExit (ended_of 2 plan.ps plan.r) κs) → plan-says.Post κs a r x → PlanReturned a.0.now a.1.0 a.1.1.0.now r x.1.1.0.now
plan_tied κs a r x p = p

starts_tied : (κs : Lfts 3) (a : Dens κs starts.ps) (r : (res_t starts.r κs).Denot) (x : AtExit (ended_of 3 starts.ps starts.r) κs) → starts-says.Post κs a r x → StartsReturned a.0.now a.1.0 a.1.1.0.now a.1.1.1.0.now r x.1.1.1.0.now
starts_tied κs a r x p = p

begin_tied : (κs : Lfts 2) (a : Dens κs begin.ps) (r : (res_t begin.r κs).Denot) (x : AtExit (ended_of 2 begin.ps begin.r) κs) → begin-says.Post κs a r x → BeginReturned a.0 a.1.0 a.1.1.0 a.1.1.1.0.now a.1.1.1.1.0.now r
begin_tied κs a r x p = p

tick_tied : (κs : Lfts 1) (a : Dens κs tick.ps) (r : (res_t tick.r κs).Denot) (x : AtExit (ended_of 1 tick.ps tick.r) κs) → tick-says.Post κs a r x → TickReturned a.0 a.1.0.now r
tick_tied κs a r x p = p

finish_tied : (κs : Lfts 1) (a : Dens κs finish.ps) (r : (res_t finish.r κs).Denot) (x : AtExit (ended_of 1 finish.ps finish.r) κs) → finish-says.Post κs a r x → FinishReturned a.0 a.1.0 a.1.1.0.now r
finish_tied κs a r x p = p

steps_tied : (κs : Lfts 4) (a : Dens κs steps.ps) (r : (res_t steps.r κs).Denot) (x : AtExit (ended_of 4 steps.ps steps.r) κs)
    → steps-says.Post κs a r x → StepsReturned a.0.now (memory a.1.0.now a.1.1.0.now a.1.1.1.0.now) r (memory x.1.0.now x.1.1.0.now x.1.1.1.0.now)
steps_tied κs a r x p = p

clashes_tied : (κs : Lfts 2) (a : Dens κs clashes.ps) (r : (res_t clashes.r κs).Denot) (x : AtExit (ended_of 2 clashes.ps clashes.r) κs) → clashes-says.Post κs a r x → FewReturned a.0.now a.1.0.now r x.1.0.now
clashes_tied κs a r x p = p

write_tied : (κs : Lfts 1) (a : Dens κs write.ps) (r : (res_t write.r κs).Denot) (x : AtExit (ended_of 1 write.ps write.r) κs)
    → write-says.Post κs a r x → Wrote a.0 a.1.1.0 a.1.0 a.1.1.1.0 a.1.1.1.1.0.now r x.1.1.1.1.0.now
write_tied κs a r x p = p

price_tied : (κs : Lfts 3) (a : Dens κs price.ps) (r : (res_t price.r κs).Denot) (x : AtExit (ended_of 3 price.ps price.r) κs) → price-says.Post κs a r x → PriceReturned a.0.now a.1.0 a.1.1.0.now a.1.1.1.0.now r x.1.1.0.now x.1.1.1.0.now
price_tied κs a r x p = p

judge_asks_nothing : (κs : Lfts 1) (a : Dens κs judge.ps) → judge-says.Pre κs a
judge_asks_nothing κs a = tt

waits_asks_nothing : (κs : Lfts 1) (a : Dens κs waits.ps) → waits-says.Pre κs a
waits_asks_nothing κs a = tt

plan_asks_nothing : (κs : Lfts 2) (a : Dens κs plan.ps) → plan-says.Pre κs a
plan_asks_nothing κs a = tt

starts_asks_nothing : (κs : Lfts 3) (a : Dens κs starts.ps) → starts-says.Pre κs a
starts_asks_nothing κs a = tt

begin_asks_nothing : (κs : Lfts 2) (a : Dens κs begin.ps) → begin-says.Pre κs a
begin_asks_nothing κs a = tt

tick_asks_nothing : (κs : Lfts 1) (a : Dens κs tick.ps) → tick-says.Pre κs a
tick_asks_nothing κs a = tt

finish_asks_nothing : (κs : Lfts 1) (a : Dens κs finish.ps) → finish-says.Pre κs a
finish_asks_nothing κs a = tt

steps_asks_nothing : (κs : Lfts 4) (a : Dens κs steps.ps) → steps-says.Pre κs a
steps_asks_nothing κs a = tt

clashes_asks_nothing : (κs : Lfts 2) (a : Dens κs clashes.ps) → clashes-says.Pre κs a
clashes_asks_nothing κs a = tt

write_asks_nothing : (κs : Lfts 1) (a : Dens κs write.ps) → write-says.Pre κs a
write_asks_nothing κs a = tt

price_asks_nothing : (κs : Lfts 3) (a : Dens κs price.ps) → price-says.Pre κs a
price_asks_nothing κs a = tt

-- On a refusal no total is stored; on acceptance both are.
use native.Mathlib.Omega.{arith}
use Rattle.c_price.proofs.Codes.{prices_as_lent, prices_stored}
use Rattle.c_price.proofs.standplan_price.Goals as goal

pub returns-then-code-ge-REFUSALS_PAST : goal.returns-then-code-ge-REFUSALS_PAST
returns-then-code-ge-REFUSALS_PAST c = prices_as_lent c.args.totals.now c.price-priced.ensures c.verdict_code-code.ensures (omega arith)

pub returns : goal.returns
returns c = prices_stored c.args.totals.now c.price-priced.ensures c.verdict_code-code.ensures (omega arith)

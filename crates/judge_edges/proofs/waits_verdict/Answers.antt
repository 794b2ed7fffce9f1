-- `judge_edges::waits_verdict` meets its contract.
use mathlib.Core.Path.{sym, ◌∙◌}
use native.Mathlib.Omega.{arith}
use Rattle.judge_edges.proofs.Judging.{waits_none, waits_allowed, waits_refused}
use Rattle.judge_edges.proofs.waits_verdict.Reads as reads
use Rattle.judge_edges.proofs.waits_verdict.Lts as lts
use Rattle.judge_edges.proofs.waits_verdict.Goals as goal

pub returns-then-count-eq0 : goal.returns-then-count-eq0
returns-then-count-eq0 c n g e = sym (waits_none n g (sym e ∙ c.if-count-eq0.true) _)

pub returns-then-allow : goal.returns-then-allow
returns-then-allow c n g e = rw c.if-allow.true (sym (waits_allowed n g (omega arith)))

pub returns : goal.returns
returns c n g e = rw c.if-allow.false (sym (waits_refused n g (omega arith)))

-- `judge_serial::can_serialize` meets its contract: without a late return waits can always be put in; else they are tried, as the edges as sent are for 8 and for 10.
use mathlib.Core.Path.{sym, ◌∙◌}
use Rattle.data_edges.specs.Serial.{leasts_in}
use Rattle.judge_serial.proofs.Trying.{circle_refused, timely_passes, times_refused}
use Rattle.judge_serial.proofs.can_serialize.Goals as goal

pub returns-then-not-has_late : goal.returns-then-not-has_late
returns-then-not-has_late c w = timely_passes (leasts_in c.args.leasts.now) c.requires.few w.well w.acyclic (sym c.has_late.ensures ∙ c.if-not-has_late.true)

pub returns-then-closes_circle : goal.returns-then-closes_circle
returns-then-closes_circle c w =
    let least = leasts_in c.args.leasts.now in
    circle_refused least c.requires.few w.well (sym (c.closes_circle.ensures least w.well.shape w.waits) ∙ c.if-closes_circle.true)

pub returns : goal.returns
returns c w =
    let least = leasts_in c.args.leasts.now in
    let no_circle = sym (c.closes_circle.ensures least w.well.shape w.waits) ∙ c.if-closes_circle.false in
    c.leaves_times.ensures w.well w.gains w.leasts w.waits no_circle ∙ times_refused least c.requires.few w.well no_circle

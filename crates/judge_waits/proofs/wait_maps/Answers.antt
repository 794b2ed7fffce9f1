use mathlib.Core.Path.{◌∙◌}
use Rattle.data_lists.proofs.Returning.{returning_given, returning_start}
use Rattle.judge_waits.proofs.Waiting.{held_end, held_more, held_pass, held_start, maps_by}
use Rattle.judge_waits.proofs.wait_maps.Goals as goal

pub loop-k-init : goal.loop-k-init
loop-k-init c =
    let a = c.args in
    let h = c.returns-k-items.ensures in
    let first = rw h.1 at h.2 in
    rw c.into_iter-k-iterator.ensures.into_iter_gives (h.0, rw h.1 (returning_start a.es.listed (held_pass a.reach.now a.sets.now _ _) first (held_start a.reach.now a.sets.now a.es.words.now _ c.requires)))

pub loop-k-preserved : goal.loop-k-preserved
loop-k-preserved c =
    let a = c.args in
    let own = c.loop-k.invariant.0 in
    let step = c.in-Some.ensures.steps in
    let given = rw own at step.0 in
    (step.1 ∙ own, returning_given a.es.listed (held_pass a.reach.now a.sets.now _ _) given (λ G. held_more a.reach.now a.sets.now _ _ _ _ given.inside G c.hold_up.ensures) c.loop-k.invariant.1)

pub returns : goal.returns
returns c =
    let all = held_end c.args.reach.now c.args.sets.now _ _ (c.loop-k.invariant.1.done c.in-None.ensures.steps.0) in
    record { bits = all; definition = λ n known. maps_by known all }

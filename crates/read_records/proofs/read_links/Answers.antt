-- A record more is one turn of `Edged`, by its map and pair and then by its fields and edges. After the last one the bytes must end too; then the added links are pushed.
use mathlib.Core.Path.{refl, sym, ◌∙◌}
use native.Mathlib.Omega.{arith}
use Rattle.std.proofs.lemmas.Result.{err_from_is_err_and}
use Rattle.read_records.proofs.Parts.{links_refused, links_trailing, links_whole}
use Rattle.read_records.proofs.Edging.{edged_none, edged_more, edged_refused, edged_all, links_found}
use Rattle.read_records.proofs.read_links.Goals as goal

pub loop-init : goal.loop-init
loop-init c = (refl, edged_none _ _ _ _ _)

-- The map or the pair is refused.
pub returns-in_err-pair : goal.returns-in_err-pair
returns-in_err-pair c =
    let l = c.loop in
    let so = l.invariant.1 in
    let p = err_from_is_err_and c.from_residual.result c.from_residual.ensures.1 in
    rw (p.1, p.2) (links_refused _ _ _ (edged_refused _ _ _ _ l.counter _ _ _ _ _ so (omega arith) _ (sym (c.in_err-pair.ensures so.previous so.ranked).same)))

pub bounds-digits-from : goal.bounds-digits-from
bounds-digits-from c =
    let so = c.loop.invariant.1 in
    omega (arith, (c.in_ok-pair.ensures so.previous so.ranked).inside.from, c.requires.steps)

pub overflow_add-next : goal.overflow_add-next
overflow_add-next c =
    let so = c.loop.invariant.1 in
    omega (arith, (c.in_ok-pair.ensures so.previous so.ranked).inside.begins)

pub push_link-requires : goal.push_link-requires
push_link-requires c =
    let so = c.loop.invariant in
    let W = (c.in_ok-pair.ensures so.1.previous so.1.ranked).inside in
    let pre = c.requires in
    record {
      begins = W.begins;
      room = record { room = omega (arith, so.0, so.1.few, pre.room); ends = (omega (arith, W.from, pre.steps), omega (arith, W.to, pre.steps)) };
    }

-- The fields are cut off.
pub returns-in_err-link : goal.returns-in_err-link
returns-in_err-link c =
    let l = c.loop in
    let so = l.invariant.1 in
    let F = c.in_ok-pair.ensures so.previous so.ranked in
    let p = err_from_is_err_and c.from_residual-in_err-link.result c.from_residual-in_err-link.ensures.1 in
    rw (p.1, p.2) (links_refused _ _ _ (edged_refused _ _ _ _ l.counter _ _ _ _ _ so (omega arith) _ (sym F.same ∙ c.in_err-link.ensures)))

pub with_entered-entered-requires : goal.with_entered-entered-requires
with_entered-entered-requires c =
    let so = c.loop.invariant.1 in
    omega (arith, (c.in_ok-pair.ensures so.previous so.ranked).inside.to, c.requires.steps)

pub loop-preserved : goal.loop-preserved
loop-preserved c =
    let l = c.loop in
    let so = l.invariant.1 in
    let F = c.in_ok-pair.ensures so.previous so.ranked in
    let T = c.in_ok-link.ensures in
    (T.pushed.long ∙ l.invariant.0, edged_more _ _ _ _ l.counter _ _ _ _ _ so _ _ _ _ _ F.same _ _ _ T (omega arith) c.from.ensures F.inside.from _ c.rank-last.ensures _ c.with_entered-entered.ensures)

-- Bytes follow the last record.
pub returns-then-next-part : goal.returns-then-next-part
returns-then-next-part c =
    let l = c.loop in
    links_trailing _ _ _ l.next (edged_all _ _ _ _ l.counter _ _ _ _ _ l.invariant.1 (omega arith)) c.if-next-part.true

pub complete-all-requires : goal.complete-all-requires
complete-all-requires c =
    let so = c.loop.invariant in
    let pre = c.requires in
    record { steps = pre.steps; room = omega (arith, so.0, so.1.few, so.1.within, pre.room) }

pub returns : goal.returns
returns c =
    let l = c.loop in
    links_found _ _ _ _ l.counter _ _ _ _ _ l.invariant.1 _ _ c.complete-all.ensures (omega arith) (links_whole _ _ _ l.next (edged_all _ _ _ _ l.counter _ _ _ _ _ l.invariant.1 (omega arith)) c.if-next-part.false)

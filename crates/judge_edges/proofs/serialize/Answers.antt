-- `judge_edges::serialize` meets its contract: where no return brings anything new no waits are needed; else 11, and then the waits.
use mathlib.Core.Path.{sym, ap, ◌∙◌}
use Rattle.definitions.specs.Numbers.{verdict_of}
use Rattle.judge_edges.proofs.Judging.{order_acyclic, passed_well, reached_reaches, unweighed_11, unweighed_posed, unweighed_rest}
use Rattle.judge_edges.proofs.serialize.Goals as goal

pub returns-then-not-reach : goal.returns-then-not-reach
returns-then-not-reach c =
    let p = c.requires in
    let w = c.waits_counted.ensures in
    (w.sorts, λ h. unweighed_posed _ _ _ _ _ _ _ h.sheet.shape (c.reach.ensures.walks h.anchors) p.some p.few h.sheet.entered h.anchors h.passes (c.reach.ensures.nothing_new c.if-not-reach.true) p.rows.no_maps w.counts (λ e. w.judges _ _ (sym w.counts ∙ e)))

pub returns-then-is_inconsistent : goal.returns-then-is_inconsistent
returns-then-is_inconsistent c =
    let u = c.refused.ensures in (
      u.1.sorts,
      λ h.
          let R = c.reach.ensures.walks h.anchors in
          let own = sym (c.is_inconsistent.ensures.waiting _ (reached_reaches h.sheet.shape R)) ∙ c.if-is_inconsistent.true in
          unweighed_11 _ _ _ _ _ _ _ h.sheet.shape R own (ap verdict_of u.0) c.requires.rows.no_maps u.1.none,
    )

pub returns : goal.returns
returns c = (
  c.put_in.ensures.0,
  λ h.
      let R = c.reach.ensures.walks h.anchors in
      let reaches = reached_reaches h.sheet.shape R in
      let consistent = sym (c.is_inconsistent.ensures.waiting _ reaches) ∙ c.if-is_inconsistent.false in
      let maps = c.wait_maps.ensures.definition _ (record { shape = h.sheet.shape; reaches = reaches; anchors = h.anchors }) in
      let some = c.requires.some in
      unweighed_rest _ _ _ _ _ _ _ h.sheet.shape R consistent (λ first.
      c.put_in.ensures.1 (record { well = passed_well _ _ some h.sheet.shape h.sheet.entered first consistent; acyclic = order_acyclic _ _ h.passes some h.sheet.shape; gains = h.sheet.gains; leasts = h.sheet.leasts; waits = maps })),
)

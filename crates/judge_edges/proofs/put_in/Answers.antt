-- `judge_edges::put_in` meets its contract: 28 where the waits clash, and else the verdict by their count.
use mathlib.Core.Path.{refl, sym, ap, ◌∙◌}
use Rattle.definitions.specs.Numbers.{verdict_of}
use Rattle.judge_edges.proofs.Judging.{serial_found, serial_refused}
use Rattle.judge_edges.proofs.put_in.Goals as goal

pub returns-then-waits_clash : goal.returns-then-waits_clash
returns-then-waits_clash c =
    let u = c.refused.ensures in (
      u.1.sorts,
      λ w.
          let count = c.count_waits-count.ensures.waits _ w.waits in
          serial_refused _ _ _ _ _ _ _ (sym (c.waits_clash.ensures w count) ∙ c.if-waits_clash.true) (ap verdict_of u.0) refl u.1.none,
    )

pub returns : goal.returns
returns c =
    let f = c.waits_counted.ensures in (
      f.sorts,
      λ w.
          let count = c.count_waits-count.ensures.waits _ w.waits in
          serial_found _ _ _ _ _ _ _ (sym (c.waits_clash.ensures w count) ∙ c.if-waits_clash.false) (f.judges _ _ count) w.waits (f.counts ∙ count),
    )

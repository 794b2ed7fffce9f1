-- Four pushes, each of the word of its link where its bit stands.
use Rattle.read_links.proofs.Records.{by_bit, link_pushed}
use Rattle.read_links.proofs.push_edges.Goals as goal

pub returns : goal.returns
returns c =
    link_pushed _ _ _ _ _ _ _ _ _ c.requires.gap
    (record {
      after = c.sequencing_word-after.ensures;
      least = c.minimum_word-least.ensures;
      most = c.maximum_word-most.ensures;
      latest = c.finish_word-latest.ensures;
    })
    (by_bit _ _ c.has.ensures c.push-first.ensures)
    (by_bit _ _ c.has-2.ensures c.push-second.ensures)
    (by_bit _ _ c.has-3.ensures c.push-third.ensures)
    (by_bit _ _ c.has-4.ensures c.push.ensures)

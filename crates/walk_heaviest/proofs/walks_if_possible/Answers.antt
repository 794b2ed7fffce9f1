-- `walk_heaviest::walks_if_possible` meets its contract: what the columns begin with, and all sweeps.
use native.Mathlib.Omega.{arith}
use Rattle.definitions.specs.Limits.{most_gain}
use Rattle.data_edges.specs.Serial.{leasts_in}
use Rattle.walk_cells.proofs.Tables.{square_own, square_then}
use Rattle.walk_heaviest.proofs.FirstSweep.{rest_stable}
use Rattle.walk_heaviest.proofs.Settled.{turned_within, walks_found}
use Rattle.walk_heaviest.proofs.walks_if_possible.Goals as goal

pub settle-requires : goal.settle-requires
settle-requires c =
    let p = c.requires in
    let S = c.seed-width.ensures.square in
    let within = turned_within c.args.maps.now c.transpose.new.out c.args.n c.transpose.ensures in
    record {
      some = p.some;
      few = p.few;
      inside = omega (arith, p.inside, S.rows);
      narrow = c.seed-width.ensures.few;
      network = record {
        linked = record { ends = λ k b. omega (arith, p.ends k b, S.rows); square = square_own S };
        waits = λ a b h. omega (arith, within a b h, p.inside, S.rows);
      };
      level = most_gain;
      held = c.seed-width.ensures.held;
      room = omega arith;
    }

pub returns : goal.returns
returns c =
    let a = c.args in
    record {
      square = square_then c.seed-width.ensures.square c.settle.ensures.square;
      cells = λ q within leasts well posed gains x inside support v b member.
          walks_found a.es.words.now (leasts_in a.leasts.now) a.maps.now c.transpose.new.out a.sets.now a.n c.requires.few within c.transpose.ensures well posed gains leasts
          c.seed-width.ensures (c.settle.ensures.settled q) x inside support v b member;
      told = λ shape rooted gains leasts sources.
          c.settle.ensures.told shape rooted
          (λ d₁ m opened. rest_stable a.es.words.now (leasts_in a.leasts.now) a.maps.now c.transpose.new.out a.sets.now a.n c.requires.some c.requires.few c.transpose.ensures shape gains leasts sources c.seed-width.ensures opened rooted);
      first = λ v b h. omega (arith, c.seed-width.ensures.low v 0 b (omega arith) h);
    }

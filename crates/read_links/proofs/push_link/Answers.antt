-- An after link, an at-least link or an at-most link alone, or the fields that were read, with the edges of the record that they make.
use mathlib.Core.Path.{sym}
use native.Mathlib.Omega.{arith}
use Rattle.std.proofs.lemmas.Result.{err_from_is_err_and}
use Rattle.read_pair.proofs.Parts.{no_fields, gap_none, ticks_none, fields_there, fields_refused}
use Rattle.read_links.proofs.Records.{link_alone, least_read, most_read}
use Rattle.read_links.proofs.push_link.Goals as goal

pub push_edges-requires : goal.push_edges-requires
push_edges-requires c =
    let a = c.args in
    let ready = c.requires in
    record { room = ready.room.room; ends = ready.room.ends; gap = gap_none a.m a.s.now a.at c.in_ok-fields-in_default.fields.next ready.begins c.in_ok-fields-in_default.ensures.same }

pub returns-in-1 : goal.returns-in-1
returns-in-1 c =
    let alone = c.in-1.is in
    record {
      fields = no_fields;
      same = fields_there _ _ _ _ (ticks_none _ _ alone);
      inside = c.requires.begins;
      pushed = link_alone _ _ _ _ _ alone c.sequencing_word-after.ensures c.push.ensures;
    }

pub returns-in-2 : goal.returns-in-2
returns-in-2 c =
    let a = c.args in
    let call = c.push_bound in
    least_read a.from a.to a.digits c.requires.room.ends (omega arith) a.s.now a.at a.words.now call.new.words a.count a.m c.in-2.is call.result call.ensures

pub returns-in-4 : goal.returns-in-4
returns-in-4 c =
    let a = c.args in
    let call = c.push_bound-in-4 in
    most_read a.from a.to a.digits c.requires.room.ends (omega arith) a.s.now a.at a.words.now call.new.words a.count a.m c.in-4.is call.result call.ensures

-- The fields are cut off, or there.
pub returns-in_err-fields-in_default : goal.returns-in_err-fields-in_default
returns-in_err-fields-in_default c =
    let p = err_from_is_err_and c.from_residual.result c.from_residual.ensures.1 in
    rw (p.1, p.2) (fields_refused _ _ _ _ (sym c.in_err-fields-in_default.ensures.same))

pub returns-in_ok-fields-in_default : goal.returns-in_ok-fields-in_default
returns-in_ok-fields-in_default c =
    let item = c.in_ok-fields-in_default.ensures in
    record {
      fields = c.in_ok-fields-in_default.fields.value;
      same = fields_there _ _ _ _ (sym item.same);
      inside = item.inside;
      pushed = c.push_edges.ensures;
    }

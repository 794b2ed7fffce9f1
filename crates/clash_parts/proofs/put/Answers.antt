use Rattle.clash_parts.proofs.Putting.{put_over}
use Rattle.clash_parts.proofs.put.Goals as goal

pub returns : goal.returns
returns c = put_over c.args.words.now c.args.at c.args.these.now c.copy_from_slice.new.self c.copy_from_slice.ensures.after

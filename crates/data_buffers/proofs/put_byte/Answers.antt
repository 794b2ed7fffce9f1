-- A store is a text of one byte.
use borrow.Author.Rules.{rules}
use Rattle.data_buffers.proofs.Writing.{put_one}
use Rattle.data_buffers.proofs.put_byte.Goals as goal

pub returns : goal.returns
returns c = put_one _ _ _ (search rules)

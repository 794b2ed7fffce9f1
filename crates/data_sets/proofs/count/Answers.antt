-- The digits that are 1 are the members.
use mathlib.Core.Path.{sym}
use borrow.Author.Rules.{rules}
use Rattle.laws.proofs.Maps.{count_members}
use Rattle.data_sets.proofs.count.Goals as goal

pub returns : goal.returns
returns c = sym (count_members 64 c.args.m (search rules))

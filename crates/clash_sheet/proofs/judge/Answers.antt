-- The words of a sheet can be listed, and the judgement of its edges is its own.
use mathlib.Core.Path.{◌∙◌}
use native.Mathlib.Omega.{arith}
use lib.ListN.{length-replicate}
use Rattle.data_lists.proofs.Linking.{zeros_empty}
use Rattle.clash_filter.proofs.Judging.{sheet_few, sheet_some, sheet_unlisted, words_entered, words_shape}
use Rattle.clash_sheet.specs.Reports.{most_listed}
use Rattle.clash_sheet.proofs.Laws.{judgeable}
use Rattle.clash_sheet.proofs.judge.Goals as goal

pub list-requires : goal.list-requires
list-requires c = sheet_unlisted _ _ _ (judgeable c.requires) _ (simp length-replicate (omega arith)) (zeros_empty most_listed (omega arith))

pub judge_possible-requires : goal.judge_possible-requires
judge_possible-requires c = record { some = sheet_some _ _ _ (judgeable c.requires); few = sheet_few _ _ _ (judgeable c.requires) }

pub returns : goal.returns
returns c q C = c.judge_possible.ensures (words_shape q _ _ C) (words_entered q _ _ C) ∙ rw (C.steps, C.same)

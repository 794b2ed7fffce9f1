-- The test over all entries is computed here.
use mathlib.Core.Path.{refl}
use Rattle.definitions.specs.Price.{power_from, printed_entry}
use Rattle.price_entries.proofs.Entries.{each_from, right, all_right}
use Rattle.price_entries.proofs.printed.Goals as goal

pub returns : goal.returns
unfolding power_from printed_entry each_from right
returns c = all_right _ refl refl

-- The front is what is lent; past it stand the zeros of the array.
use Rattle.std.proofs.Common.{◌++◌, ap₂}
use Rattle.definitions.specs.Dispatcher.{kept_leasts}
use Rattle.run_calls.proofs.LeastLaws.{drop_zeros}
use Rattle.run_calls.proofs.kept_leasts.Goals as goal

pub returns : goal.returns
unfolding kept_leasts
returns c = ap₂ ◌++◌ c.copy_from_slice.ensures.after (drop_zeros _ c.args.n)

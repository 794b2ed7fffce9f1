-- The map and the start ticks of `starting_now`, put into the state.
use Rattle.run_release.proofs.SweepLaws.{swept_now}
use Rattle.run_release.proofs.sweep.Goals as goal

pub returns : goal.returns
returns c = swept_now _ _ c.starting_now-map.ensures.0 c.starting_now-map.ensures.1

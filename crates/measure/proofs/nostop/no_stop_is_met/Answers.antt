use Rattle.measure.proofs.Sums.{no_stop}
use Rattle.measure.proofs.nostop.no_stop_is_met.Goals as goal

pub returns : goal.returns
returns c = no_stop

use Rattle.network.proofs.Shares.{shared_is_counted}
use Rattle.network.proofs.linkset.LinkSet.shared_is_counted.Goals as goal

pub returns : goal.returns
returns c = shared_is_counted

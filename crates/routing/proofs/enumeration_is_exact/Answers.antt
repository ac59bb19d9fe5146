use Rattle.routing.proofs.Exactness.{exact}
use Rattle.routing.proofs.enumeration_is_exact.Goals as goal

pub returns : goal.returns
returns c = exact

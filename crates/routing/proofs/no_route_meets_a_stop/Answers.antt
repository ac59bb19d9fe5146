use Rattle.routing.proofs.Lengths.{routes_unstopped}
use Rattle.routing.proofs.no_route_meets_a_stop.Goals as goal

pub returns : goal.returns
returns c = routes_unstopped

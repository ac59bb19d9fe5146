use Rattle.std.proofs.Common.{get_or}
use Rattle.network.specs.Marks.{marks}
use Rattle.routing.specs.Lent.{lent}
use Rattle.routing.proofs.Testing.{Walked}
use Rattle.routing.proofs.roads.Trip.is_route.Given as goal

abbrev pub invariant-loop-number : goal.invariant-loop-number
invariant-loop-number l =
    Walked (lent l.roads) l.self.to (get_or l.links 0 0) l.rest l.number-index l.before (marks l.seen)

use Rattle.routing.specs.Lent.{lent}
use Rattle.routing.specs.Book.{Finds}
use Rattle.unlisted.specs.Leaving.{Left}
use Rattle.unlisted.specs.Listed.{question}
use Rattle.unlisted.proofs.search.look_along_all.Given as goal

abbrev pub invariant-loop-number : goal.invariant-loop-number
invariant-loop-number g l =
    Finds g.M.Measure.rank (g.M.Measure.ranks l.measure) (lent l.routes.listing.trip.roads) (Left (question l.routes.listing) l.number) l.line l.best

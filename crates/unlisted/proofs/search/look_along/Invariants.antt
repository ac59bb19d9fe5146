use Rattle.std.proofs.Common.{◌+◌, take}
use Rattle.network.specs.Marks.{marks}
use Rattle.routing.specs.Lent.{lent}
use Rattle.routing.specs.Book.{Finds}
use Rattle.completion.specs.Completion.{Bans}
use Rattle.unlisted.specs.Leaving.{LeftLate}
use Rattle.unlisted.specs.Listed.{question}
use Rattle.unlisted.proofs.search.look_along.Given as goal

abbrev pub invariant-loop-count : goal.invariant-loop-count
invariant-loop-count g l =
    Bans (lent l.routes.listing.trip.roads) (take l.count l.along.links.now) (marks l.banned)
    × Finds g.M.Measure.rank (g.M.Measure.ranks l.measure) (lent l.routes.listing.trip.roads) (LeftLate (question l.routes.listing) l.along.number (l.count + 1)) l.line l.best
